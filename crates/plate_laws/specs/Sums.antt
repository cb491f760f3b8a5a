-- Laws on sums over lists and over runs of numbers. Assumes nothing.
use Rattle.std.specs.Prelude.{◌≡◌, refl, List, [], ◌∷◌, ◌++◌, map, ℕ, zero, suc, ◌+◌, ◌-◌, ◌≤◌, ◌<◌, eqb, length}
use Rattle.std.proofs.Common.{sym, ap, ◌∙◌, zero-add, add-zero, arith, eq-eqb, ne_eqb}
use Rattle.rules.specs.Tools.{pick, sum, up_from, down_to}
use Rattle.plate_laws.specs.Lists.{All, all_up_from}

-- ---- lists

pub sum_append : {A : Type 0} (f : A → ℕ) (xs ys : List A) → sum (map f (xs ++ ys)) ≡ sum (map f xs) + sum (map f ys)
unfolding sum
sum_append f [] ys = sym (zero-add _)
sum_append f (x ∷ xs) ys = omega (arith, sum_append f xs ys)

pub sum_same : {A : Type 0} (f g : A → ℕ) (xs : List A) → All (λ x. f x ≡ g x) xs → sum (map f xs) ≡ sum (map g xs)
unfolding sum
sum_same f g [] a = refl
sum_same f g (x ∷ xs) a = omega (arith, a.0, sum_same f g xs a.1)

-- each counts 1
pub sum_ones : {A : Type 0} (xs : List A) → sum (map (λ x. 1) xs) ≡ length xs
unfolding sum
sum_ones [] = refl
sum_ones (x ∷ xs) = omega (arith, sum_ones xs)

-- each counts 0
pub sum_zeros : {A : Type 0} (f : A → ℕ) (xs : List A) → All (λ x. f x ≡ 0) xs → sum (map f xs) ≡ 0
unfolding sum
sum_zeros f [] a = refl
sum_zeros f (x ∷ xs) a = omega (arith, a.0, sum_zeros f xs a.1)

-- ---- runs of numbers

-- a run in two parts
pub sum_up_from : (f : ℕ → ℕ) (a m n : ℕ) → sum (map f (up_from a (m + n))) ≡ sum (map f (up_from a m)) + sum (map f (up_from (a + m) n))
unfolding sum
sum_up_from f a zero n = rw (zero-add n, add-zero a) (sym (zero-add _))
sum_up_from f a (suc m) n =
    let e : suc m + n ≡ suc (m + n) = omega arith in
    let g : a + suc m ≡ suc a + m = omega arith in
    rw (e, g) (omega (arith, sum_up_from f (suc a) m n))

-- a run downward has the sum of the run upward
pub sum_down_to : (f : ℕ → ℕ) (a n : ℕ) → sum (map f (down_to a n)) ≡ sum (map f (up_from a n))
unfolding sum
sum_down_to f a zero = refl
sum_down_to f a (suc n) =
    let e : n + 1 ≡ suc n = omega arith in
    omega (arith, sum_down_to f a n, sum_up_from f a n 1, ap (λ (k : ℕ). sum (map f (up_from a k))) e)

-- 1 at the number v, and 0 at any other
abbrev pub indicator : ℕ → ℕ → ℕ
indicator v i = pick (eqb i v) 1 0

-- a run that does not hold v, and one that holds it
pub sum_absent : (v a n : ℕ) → ((i : ℕ) → a ≤ i → i < a + n → i ≡ v → ⊥) → sum (map (indicator v) (up_from a n)) ≡ 0
unfolding pick
sum_absent v a n h = sum_zeros (indicator v) (up_from a n) (all_up_from (λ i. indicator v i ≡ 0) a n (λ i x y. rw (ne_eqb i v (h i x y))))

pub sum_once : (a n i : ℕ) → i < n → sum (map (indicator (a + i)) (up_from a n)) ≡ 1
unfolding sum pick
sum_once a n i h =
    let v = a + i in
    let rest = n - i - 1 in
    let e : i + (1 + rest) ≡ n = omega arith in
    let one : indicator v v ≡ 1 = rw (eq-eqb v v refl) in
    rw (← e) (
    sum_up_from (indicator v) a i (1 + rest)
    ∙ omega (
      arith,
      sum_absent v a i (λ j x y z. omega arith),
      sum_up_from (indicator v) v 1 rest,
      sum_absent v (v + 1) rest (λ j x y z. omega arith),
    )
    )
