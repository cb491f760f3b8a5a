-- A number just above the root of n, in units of 2^7: one step of Newton's iteration from m, 16 more than the first root.
-- Assumes nothing.
use Rattle.std.specs.Prelude.{◌≡◌, ◌⊎◌, ℕ, suc, ◌+◌, ◌-◌, ◌*◌, ◌/◌, ◌^◌, ◌≤◌, ◌<◌}
use Rattle.std.proofs.Common.{ap, subst, inl, inr, le_of_lt, le_of_suc-le-suc, lt_of_not-le, lt_irrefl, mul-le-mul, mul-le-mul_right, mul-le-mul_left, arith}
use Rattle.std.proofs.lemmas.Bool.{cases_lt}
use Rattle.rounding.specs.FloorRoot.{sq_lt_back}
use Rattle.first_roots.specs.FirstRoots.{IsReciprocal}

pub unless : {a b : ℕ} → ((b < a) → ⊥) → a ≤ b
unless f = le_of_suc-le-suc (lt_of_not-le f)

-- the mean of two numbers is at least the root of their product
pub product_at_most : (a b : ℕ) → 4 * (a * b) ≤ (a + b) * (a + b)
product_at_most a b = elim (cases_lt a b) [ inl h ↦ up a b (le_of_lt h) | inr h ↦ let u = up b a h in omega arith ]
  where
    at : (a d : ℕ) → 4 * (a * (a + d)) ≤ (a + (a + d)) * (a + (a + d))
    at a d = omega arith

    up : (a b : ℕ) → a ≤ b → 4 * (a * b) ≤ (a + b) * (a + b)
    up a b h = let e : a + (b - a) ≡ b = omega arith in subst (λ (x : ℕ). 4 * (a * x) ≤ (a + x) * (a + x)) e (at a (b - a))

-- an inverse of a number that is not small is not large
pub inverse_fits : {a h : ℕ} → 2 ^ 23 ≤ a → a * h ≤ 2 ^ 45 → h ≤ 2 ^ 22
inverse_fits {a} {h} l m = let p : 2 ^ 23 * h ≤ a * h = mul-le-mul_right h l in omega (arith, m)

root_at_most : (a b : ℕ) → a * a ≤ b * b → a ≤ b
root_at_most a b h = le_of_suc-le-suc (sq_lt_back a (suc b) (omega arith))

-- in units of 2^16 the root of n lies around m
pub record AroundRoot (n m : ℕ) : Type 0 where
  pub low : (m - 16) * (m - 16) * 2 ^ 32 ≤ n
  pub high : n < (m + 17) * (m + 17) * 2 ^ 32
  pub least : 16400 ≤ m
  pub most : m < 32784

-- the number of m, a number near the root of n, and of c, the reciprocal of m
abbrev pub above_root : ℕ → ℕ → ℕ → ℕ
above_root n m c = 256 * m + n / 2 ^ 30 * c / 2 ^ 32 + 3

-- y is near 512 m
pub record Close (m y : ℕ) : Type 0 where
  pub begin : 16400 ≤ m
  pub end : m < 32784
  pub least : 512 * m ≤ y + 8192
  pub most : y ≤ 512 * m + 8712

-- c is the reciprocal of m; 512 m and y are in units of 2^7
module _ {n m c : ℕ} (N : n < 2 ^ 62) (B : AroundRoot n m) (R : IsReciprocal m c) where
  abbrev p : ℕ
  p = n / 2 ^ 30

  abbrev q : ℕ
  q = p * c / 2 ^ 32

  quotient_most : q * m * 2 ^ 24 ≤ n
  quotient_most =
      let a : q * 2 ^ 32 * m ≤ p * c * m = mul-le-mul_right m (omega arith) in
      let b : p * (c * m) ≤ p * 2 ^ 38 = mul-le-mul_left p R.product in
      omega arith

  quotient_least : n < (q + 3) * m * 2 ^ 24
  quotient_least =
      let a : (p * c + 1) * m ≤ (q + 1) * 2 ^ 32 * m = mul-le-mul_right m (omega arith) in
      let b : p * 2 ^ 38 ≤ p * ((c + 1) * m) = mul-le-mul_left p (le_of_lt R.next) in
      let d : p * m ≤ 2 ^ 32 * m = mul-le-mul_right m (omega arith) in
      omega (arith, B.least)

  abbrev y : ℕ
  y = above_root n m c

  pub root_upper : n < y * y * 2 ^ 14
  root_upper = let a = product_at_most (256 * m) (q + 3) in omega (arith, quotient_least)

  root_least : 512 * m ≤ y + 8192
  root_least = let a : 512 * (m - 16) ≤ y = root_at_most (512 * (m - 16)) y (omega (arith, B.low, root_upper)) in omega arith

  root_most : y ≤ 512 * m + 8712
  root_most = unless not
    where
      not : 512 * m + 8712 < y → ⊥
      not L =
          let a : (256 * m + 8710) * m ≤ q * m = mul-le-mul_right m (omega arith) in
          lt_irrefl 0 (omega (arith, quotient_most, B.high, B.least))

  pub close : Close m y
  close = record { begin = B.least; end = B.most; least = root_least; most = root_most }

  -- were the square of z more than n, z would be far from 512 m
  apart : (t z : ℕ) → z + 5 ≡ 256 * m + q → q * m * 1024 < z * z → (z ≡ 512 * m + t) ⊎ (z + t ≡ 512 * m) → 5120 * m < t * t
  apart t z e L (inl f) =
      let a : (z + 5) * m ≡ (256 * m + q) * m = ap (λ (x : ℕ). x * m) e in
      let b : z * m ≡ (512 * m + t) * m = ap (λ (x : ℕ). x * m) f in
      let d : z * z ≡ (512 * m + t) * (512 * m + t) = ap (λ (x : ℕ). x * x) f in
      omega arith
  apart t z e L (inr f) =
      let a : (z + 5) * m ≡ (256 * m + q) * m = ap (λ (x : ℕ). x * m) e in
      let b : z * (z + t) ≡ z * (512 * m) = ap (λ (x : ℕ). z * x) f in
      let d : (z + t) * (z + t) ≡ 512 * m * (512 * m) = ap (λ (x : ℕ). x * x) f in
      omega arith

  pub root_lower : (y - 8) * (y - 8) * 2 ^ 14 ≤ n
  root_lower = unless not
    where
      sum : y - 8 + 5 ≡ 256 * m + q
      sum = omega (arith, B.least)

      near : (t : ℕ) → t ≤ 8704 → 5120 * m < t * t → ⊥
      near t h L = let a : t * t ≤ 8704 * 8704 = mul-le-mul h h in lt_irrefl 0 (omega (arith, B.least))

      not : n < (y - 8) * (y - 8) * 2 ^ 14 → ⊥
      not L =
          let g : q * m * 1024 < (y - 8) * (y - 8) = omega (arith, quotient_most) in
          elim (cases_lt (y - 8) (512 * m)) [
            | inl h ↦ near (512 * m - (y - 8)) (omega (arith, root_least)) (apart (512 * m - (y - 8)) (y - 8) sum g (inr (omega arith)))
            | inr h ↦ near (y - 8 - 512 * m) (omega (arith, root_most)) (apart (y - 8 - 512 * m) (y - 8) sum g (inl (omega arith)))
          ]
