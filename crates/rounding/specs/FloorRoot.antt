-- The whole part of a square root, and how the root compares with whole numbers. Assumes nothing.
use Rattle.std.specs.Prelude.{◌≡◌, ◌⊎◌, Bool, true, false, not, T, leb}
use Rattle.std.proofs.Common.{sym, ap, ◌∙◌, subst, inl, inr, le_of_eq, lt_of_lt_of_le, lt_of_le_of_lt, lt_of_not-le, not-le_of_lt, le_of_lt, eq-or-lt_of_le, mul-le-mul, arith, leb→le, pow-add, pow_mono}
use Prim.Native.Nat.{ℕ, zero, suc, ◌+◌, ◌-◌, ◌*◌, ◌/◌, ◌^◌, ◌≤◌, ◌<◌, compare}
use Rattle.std.proofs.Math.Nat.{sub_self}
use Rattle.std.proofs.Math.Dec.{nleb→lt}
use Rattle.std.proofs.Math.Arith.{lt-one}
use Rattle.std.specs.Float.Ieee.{size}
use Rattle.std.specs.Float.Ieee.Digits.{size-lt}
use Rattle.rules.specs.Tools.{pick}
use Rattle.rules.specs.Distances.{root_by, floor_root}
use Rattle.rounding.specs.Compare.{same_order}
use Rattle.rounding.specs.StickyBit.{sticky_bit, bit_le, bit_zero, bit_pos}

abbrev pub IsRoot : ℕ → ℕ → Type 0
IsRoot n r = (r * r ≤ n) × (n < (r + 1) * (r + 1))

root_by_is : (d n : ℕ) → n < 2 ^ (2 * d) → IsRoot n (root_by d n)
unfolding root_by pick
root_by_is zero n h = let z : n ≡ 0 = lt-one h in omega arith
root_by_is (suc d) n h =
    let s = root_by d (n / 4) in
    let m = (2 * s + 1) * (2 * s + 1) in
    go (leb m n) s (root_by_is d (n / 4) (fewer d n h)) (leb→le m n) (nleb→lt m n)
  where
    two_more : (d : ℕ) → 2 * suc d ≡ 2 * d + 2
    two_more d = omega arith

    fewer : (d n : ℕ) → n < 2 ^ (2 * suc d) → n / 4 < 2 ^ (2 * d)
    fewer d n h = let e : 2 ^ (2 * suc d) ≡ 2 ^ (2 * d) * 4 = ap (λ (x : ℕ). 2 ^ x) (two_more d) ∙ pow-add 2 (2 * d) 2 in omega arith

    go : (b : Bool) (s : ℕ) → IsRoot (n / 4) s → (T b → (2 * s + 1) * (2 * s + 1) ≤ n) → (T (not b) → n < (2 * s + 1) * (2 * s + 1)) → IsRoot n (pick b (2 * s + 1) (2 * s))
    go true s i t f = (t tt, omega (arith, i.1))
    go false s i t f = (omega (arith, i.0), f tt)

pub floor_root_is : (n : ℕ) → IsRoot n (floor_root n)
unfolding floor_root
floor_root_is n = root_by_is (size n) n (lt_of_lt_of_le (size-lt n) (pow_mono (dbl (size n))))
  where
    dbl : (z : ℕ) → z ≤ 2 * z
    dbl z = omega arith

pub sq_lt_back : (a b : ℕ) → a * a < b * b → a < b
sq_lt_back a b h = lt_of_not-le (λ (g : b ≤ a). not-le_of_lt h (mul-le-mul g g))

pub root_ge : (n r m : ℕ) → IsRoot n r → m * m ≤ n → m ≤ r
root_ge n r m i h = let a : m < r + 1 = sq_lt_back m (r + 1) (lt_of_le_of_lt h i.1) in omega arith

pub root_lt : (n r m : ℕ) → IsRoot n r → n < m * m → r < m
root_lt n r m i h = sq_lt_back r m (lt_of_le_of_lt i.0 h)

root_unique : (n r m : ℕ) → IsRoot n r → IsRoot n m → r ≡ m
root_unique n r m i j = let a = root_ge n r m i j.0 in let b = root_ge n m r j i.0 in omega arith

-- ---- the root and its whole part with the sticky bit lie on the same side of every whole number m

-- in halves
abbrev pub root_with_sticky : ℕ → ℕ → ℕ
root_with_sticky n r = 2 * r + sticky_bit (n - r * r)

with_lt : (n r m : ℕ) → IsRoot n r → n < m * m → root_with_sticky n r < 2 * m
with_lt n r m i h = omega (arith, bit_le (n - r * r), root_lt n r m i h)

with_eq : (n r m : ℕ) → IsRoot n r → n ≡ m * m → root_with_sticky n r ≡ 2 * m
with_eq n r m i h =
    let e : r ≡ m = root_unique n r m i (le_of_eq (sym h), omega arith) in
    let z : n - r * r ≡ 0 = ap (λ (x : ℕ). x - r * r) h ∙ ap (λ (x : ℕ). m * m - x * x) e ∙ sub_self (m * m) in
    omega (arith, bit_zero (n - r * r) z)

with_gt : (n r m : ℕ) → IsRoot n r → m * m < n → 2 * m < root_with_sticky n r
with_gt n r m i h = go (eq-or-lt_of_le (root_ge n r m i (le_of_lt h)))
  where
    go : (m ≡ r) ⊎ (m < r) → 2 * m < root_with_sticky n r
    go (inr l) = omega arith
    go (inl e) =
        let g : r * r < n = subst (λ (x : ℕ). x * x < n) e h in
        omega (arith, bit_pos (n - r * r) (omega arith))

pub root_order : (n r m : ℕ) → IsRoot n r → compare n (m * m) ≡ compare (root_with_sticky n r) (2 * m)
root_order n r m i = same_order n (m * m) (root_with_sticky n r) (2 * m) (with_lt n r m i) (with_eq n r m i) (with_gt n r m i)
