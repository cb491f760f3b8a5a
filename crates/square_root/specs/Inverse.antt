-- The inverse of y: one step of Newton's iteration from c, the reciprocal of m, gives at most 2^45 / y, and little below it. Assumes nothing.
use Rattle.std.specs.Prelude.{◌≡◌, ℕ, ◌+◌, ◌-◌, ◌*◌, ◌/◌, ◌^◌, ◌≤◌, ◌<◌}
use Rattle.std.proofs.Common.{ap, subst, inl, inr, le_of_lt, lt_irrefl, mul-le-mul, mul-le-mul_right, mul-le-mul_left, arith}
use Rattle.std.proofs.lemmas.Bool.{cases_lt}
use Rattle.first_roots.specs.FirstRoots.{IsReciprocal}
use Rattle.square_root.specs.Above.{Close, product_at_most, inverse_fits, unless}

-- how far y × c may be from 2^47, y × c / 2^47 being about 1
abbrev spread : ℕ
spread = 147000000000

-- what twice 2^47 has over y × c, in units of 2^16
abbrev pub rest_of : ℕ → ℕ → ℕ
rest_of y c = (2 ^ 48 - y * c) / 2 ^ 16

module _ {m c y : ℕ} (K : Close m y) (R : IsReciprocal m c) where
  pub product_most : y * c ≤ 2 ^ 47 + spread
  product_most = unless not
    where
      not : 2 ^ 47 + spread < y * c → ⊥
      not l =
          let a : y * (c * m) ≤ y * 2 ^ 38 = mul-le-mul_left y R.product in
          let b : (2 ^ 47 + spread) * m ≤ y * c * m = mul-le-mul_right m (le_of_lt l) in
          lt_irrefl 0 (omega (arith, K.begin, K.most))

  product_least : 2 ^ 47 ≤ y * c + spread
  product_least = unless not
    where
      not : y * c + spread < 2 ^ 47 → ⊥
      not l =
          let a : y * 2 ^ 38 ≤ y * ((c + 1) * m) = mul-le-mul_left y (le_of_lt R.next) in
          let b : (y * c + spread) * m ≤ 2 ^ 47 * m = mul-le-mul_right m (le_of_lt l) in
          let d : y * m ≤ 2 ^ 25 * m = mul-le-mul_right m (omega (arith, K.end, K.most)) in
          lt_irrefl 0 (omega (arith, K.begin, K.least))

  both : y * c + (2 ^ 48 - y * c) ≡ 2 ^ 48
  both = omega (arith, product_most)

  -- both factors are near 2^47
  product_of_both : 2 ^ 94 ≤ y * c * (2 ^ 48 - y * c) + spread * spread
  product_of_both =
      elim (cases_lt (y * c) (2 ^ 47)) [
        | inl l ↦ at (y * c) (2 ^ 48 - y * c) (2 ^ 47 - y * c) (omega arith) (omega (arith, both)) (omega (arith, product_least))
        | inr l ↦ let e = at (2 ^ 48 - y * c) (y * c) (y * c - 2 ^ 47) (omega (arith, both)) (omega arith) (omega (arith, product_most)) in omega arith
      ]
    where
      at : (a b t : ℕ) → a + t ≡ 2 ^ 47 → b ≡ 2 ^ 47 + t → t ≤ spread → 2 ^ 94 ≤ a * b + spread * spread
      at a b t e f h =
          let d : t * t ≤ spread * spread = mul-le-mul h h in
          let g : (a + t) * (2 ^ 47 + t) ≡ 2 ^ 47 * (2 ^ 47 + t) = ap (λ (x : ℕ). x * (2 ^ 47 + t)) e in
          let i : a * b ≡ a * (2 ^ 47 + t) = ap (λ (x : ℕ). a * x) f in
          omega arith

  abbrev r : ℕ
  r = rest_of y c

  abbrev h : ℕ
  h = c * r / 2 ^ 33

  pub inverse_most : y * h ≤ 2 ^ 45
  inverse_most =
      let a : y * (h * 2 ^ 33) ≤ y * (c * r) = mul-le-mul_left y (omega arith) in
      let b : y * c * (r * 2 ^ 16) ≤ y * c * (2 ^ 48 - y * c) = mul-le-mul_left (y * c) (omega arith) in
      let d : 4 * (y * c * (2 ^ 48 - y * c)) ≤ 2 ^ 48 * 2 ^ 48 = subst (λ (x : ℕ). 4 * (y * c * (2 ^ 48 - y * c)) ≤ x * x) both (product_at_most (y * c) (2 ^ 48 - y * c)) in
      omega arith

  pub inverse_least : 2 ^ 45 ≤ (y - 8) * h + 2 ^ 27
  inverse_least =
      let a : y * (c * r) ≤ y * ((h + 1) * 2 ^ 33) = mul-le-mul_left y (omega arith) in
      let b : y * c * (2 ^ 48 - y * c) ≤ y * c * ((r + 1) * 2 ^ 16) = mul-le-mul_left (y * c) (omega arith) in
      let d : (y - 8 + 8) * h ≡ y * h = ap (λ (x : ℕ). x * h) (omega (arith, K.least, K.begin)) in
      omega (arith, product_of_both, product_most, inverse_fits {a = y} {h = h} (omega (arith, K.least, K.begin)) inverse_most, K.end, K.most)
