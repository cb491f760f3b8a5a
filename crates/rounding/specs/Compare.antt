-- How two numbers compare, what it takes that two other numbers compare alike, and what the tests of a float comparison say. Assumes nothing.
use Rattle.std.specs.Prelude.{◌≡◌, refl, Bool, true, false, not, ◌&&◌, ◌||◌, T, ltb, eqb}
use Rattle.std.proofs.Common.{sym, ap, subst, le_of_eq, le_of_lt, mul-lt-mul_of_pos_right, arith, true≢false, leb→le, ltb→lt, nltb→le, eqb→eq}
use Prim.Native.Nat.{ℕ, ◌*◌, ◌≤◌, ◌<◌, compare, Ordering}
use Rattle.std.proofs.lemmas.Bool.{false≢true}
use Rattle.std.proofs.Math.Dec.{is_le, compare_is_eq, nleb→lt, eqb_refl}
use Rattle.std.proofs.Math.Arith.{lt_of_le-ne}
use Rattle.std.specs.Float.Ieee.Fits.{eq→eqb}

abbrev Cmp : Ordering → ℕ → ℕ → Type 0
Cmp Ordering.lt a b = a < b
Cmp Ordering.eq a b = a ≡ b
Cmp Ordering.gt a b = b < a

cmp : (a b : ℕ) → Cmp (compare a b) a b
cmp a b = go (compare a b) (leb→le a b) (nleb→lt a b) (eqb→eq a b) (λ (e : a ≡ b). subst (λ (x : ℕ). T (eqb a x)) e (eqb_refl a))
  where
    go : (o : Ordering) → (T (is_le o) → a ≤ b) → (T (not (is_le o)) → b < a) → (T (compare_is_eq o) → a ≡ b) → (a ≡ b → T (compare_is_eq o)) → Cmp o a b
    go Ordering.lt h k e n = lt_of_le-ne (h tt) n
    go Ordering.eq h k e n = e tt
    go Ordering.gt h k e n = k tt

no_both : (a b : ℕ) → a < b → b < a → ⊥
no_both a b h k = omega arith

no_same : (a b : ℕ) → a < b → a ≡ b → ⊥
no_same a b h k = omega arith

pub is_lt : (a b : ℕ) → a < b → compare a b ≡ Ordering.lt
is_lt a b h = go (compare a b) (cmp a b)
  where
    go : (o : Ordering) → Cmp o a b → o ≡ Ordering.lt
    go Ordering.lt x = refl
    go Ordering.eq x = absurd (no_same a b h x)
    go Ordering.gt x = absurd (no_both a b h x)

pub is_eq : (a b : ℕ) → a ≡ b → compare a b ≡ Ordering.eq
is_eq a b h = go (compare a b) (cmp a b)
  where
    go : (o : Ordering) → Cmp o a b → o ≡ Ordering.eq
    go Ordering.lt x = absurd (no_same a b x h)
    go Ordering.eq x = refl
    go Ordering.gt x = absurd (no_same b a x (sym h))

pub is_gt : (a b : ℕ) → b < a → compare a b ≡ Ordering.gt
is_gt a b h = go (compare a b) (cmp a b)
  where
    go : (o : Ordering) → Cmp o a b → o ≡ Ordering.gt
    go Ordering.lt x = absurd (no_both a b x h)
    go Ordering.eq x = absurd (no_same b a h (sym x))
    go Ordering.gt x = refl

-- what a comparison says
pub lt_of : (a b : ℕ) → compare a b ≡ Ordering.lt → a < b
lt_of a b e = subst (λ (o : Ordering). Cmp o a b) e (cmp a b)

pub ge_of : (a b : ℕ) → (compare a b ≡ Ordering.lt → ⊥) → b ≤ a
ge_of a b n = let m : a < b → ⊥ = λ (h : a < b). n (is_lt a b h) in omega arith

-- ---- numbers that compare alike

pub same_order : (a b c d : ℕ) → (a < b → c < d) → (a ≡ b → c ≡ d) → (b < a → d < c) → compare a b ≡ compare c d
same_order a b c d l e g = go (compare a b) (cmp a b)
  where
    go : (o : Ordering) → Cmp o a b → o ≡ compare c d
    go Ordering.lt x = sym (is_lt c d (l x))
    go Ordering.eq x = sym (is_eq c d (e x))
    go Ordering.gt x = sym (is_gt c d (g x))

pub double_order : (a b : ℕ) → compare (2 * a) (2 * b) ≡ compare a b
double_order a b = same_order (2 * a) (2 * b) a b (λ h. omega arith) (λ h. omega arith) (λ h. omega arith)

pub times_order : (a b c : ℕ) → 0 < c → compare a b ≡ compare (a * c) (b * c)
times_order a b c C = same_order a b (a * c) (b * c) (λ h. mul-lt-mul_of_pos_right h C) (λ h. ap (λ (x : ℕ). x * c) h) (λ h. mul-lt-mul_of_pos_right h C)

-- ---- tests

pub below : (a b : ℕ) → ltb a b ≡ true → a < b
below a b h = ltb→lt a b (subst T (sym h) tt)

pub not_below : (a b : ℕ) → ltb a b ≡ false → b ≤ a
not_below a b h = nltb→le a b (subst (λ (x : Bool). T (not x)) (sym h) tt)

pub at_most : (a b : ℕ) → (ltb a b || (eqb a b && true)) ≡ true → a ≤ b
at_most a b = go (ltb a b) (eqb a b) (ltb→lt a b) (eqb→eq a b)
  where
    go : (l e : Bool) → (T l → a < b) → (T e → a ≡ b) → (l || (e && true)) ≡ true → a ≤ b
    go true e f g h = le_of_lt (f tt)
    go false true f g h = le_of_eq (g tt)
    go false false f g h = absurd (false≢true h)

pub above : (a b : ℕ) → (ltb a b || (eqb a b && true)) ≡ false → b < a
above a b = go (ltb a b) (eqb a b) (nltb→le a b) (λ (e : a ≡ b). eq→eqb e)
  where
    strict : (a b : ℕ) → b ≤ a → (a ≡ b → ⊥) → b < a
    strict a b h n = omega arith

    go : (l e : Bool) → (T (not l) → b ≤ a) → (a ≡ b → T e) → (l || (e && true)) ≡ false → b < a
    go true e f g h = absurd (true≢false h)
    go false true f g h = absurd (true≢false h)
    go false false f g h = strict a b (f tt) g
