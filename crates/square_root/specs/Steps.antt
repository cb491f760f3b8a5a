-- The two steps from the first estimate, a with its inverse h, to the root's 55 digits. Assumes nothing.
use Rattle.std.specs.Prelude.{◌≡◌, ℕ, ◌+◌, ◌-◌, ◌*◌, ◌/◌, ◌%◌, ◌^◌, ◌≤◌, ◌<◌}
use Rattle.std.proofs.Common.{ap, le_of_lt, mul-le-mul_right, arith}
use Rattle.rounding.specs.FloorRoot.{sq_lt_back}
use Rattle.square_root.specs.Above.{inverse_fits}
use Rattle.square_root.specs.Estimate.{Estimates}
use Rattle.square_root.specs.NewtonStep.{StepFrom, refined}

-- a difference that fits, from what its two numbers leave of 2^64
pub difference : (a b : ℕ) → b ≤ a → a < b + 2 ^ 64 → (a % 18446744073709551616 + (18446744073709551616 - b % 18446744073709551616)) % 18446744073709551616 ≡ a - b
difference a b h l = omega arith

module _ {n a h : ℕ} (E : Estimates n a h) where
  squared_back : (a - 8 + 8) * (a - 8 + 8) ≡ a * a
  squared_back = ap (λ (x : ℕ). x * x) (omega (arith, E.least))

  abbrev rest : ℕ
  rest = n - 16384 * (a - 8) * (a - 8)

  is_rest : 16384 * (a - 8) * (a - 8) + rest ≡ n
  is_rest = omega (arith, E.lower)

  pub rest_fits : rest * h < 2 ^ 64
  rest_fits =
      let r : rest ≤ a * 2 ^ 18 = omega (arith, squared_back, E.upper, E.least) in
      let p : rest * h ≤ a * 2 ^ 18 * h = mul-le-mul_right h r in
      omega (arith, E.inverse_most)

  abbrev first : ℕ
  first = 32768 * (a - 8) + rest * h / 2 ^ 45

  begun : StepFrom (32768 * (a - 8)) (rest * 2 ^ 16) (32768 * a) h (2 ^ 61) (2 ^ 43) (2 ^ 18)
  begun =
      record {
        positive = omega arith;
        most = omega (arith, squared_back, is_rest, E.upper);
        near = omega (arith, squared_back, is_rest, E.upper, E.least);
        inverse_most = omega (arith, E.inverse_most);
        inverse_least = omega (arith, E.inverse_least);
        little = omega arith;
      }

  pub first_below : first * first ≤ n * 2 ^ 16
  first_below = omega (arith, (refined begun (rest * h / 2 ^ 45) (omega arith) (omega arith)).below, is_rest)

  pub first_near : n * 2 ^ 16 < (first + 2) * (first + 2)
  first_near = omega (arith, (refined begun (rest * h / 2 ^ 45) (omega arith) (omega arith)).near, is_rest)

  -- x is the root's 39 digits, or one less
  module _ {x : ℕ} (below : x * x ≤ n * 2 ^ 16) (near : n * 2 ^ 16 < (x + 2) * (x + 2)) (least : (a - 8) * 2 ^ 15 ≤ x) where
    abbrev left : ℕ
    left = n * 2 ^ 16 - x * x

    x_most : x < a * 2 ^ 15
    x_most = sq_lt_back x (a * 2 ^ 15) (omega (arith, below, E.upper))

    pub left_is : (n * 65536 % 18446744073709551616 + (18446744073709551616 - x * x % 18446744073709551616)) % 18446744073709551616 ≡ left
    left_is = difference (n * 2 ^ 16) (x * x) below (omega (arith, near, x_most, E.most))

    pub left_fits : left * h < 2 ^ 64
    left_fits =
        let p : x * h ≤ a * 2 ^ 15 * h = mul-le-mul_right h (le_of_lt x_most) in
        let q : left * h ≤ (4 * x + 4) * h = mul-le-mul_right h (omega (arith, near)) in
        omega (arith, E.inverse_most, inverse_fits E.least E.inverse_most)

    abbrev second : ℕ
    second = 65536 * x + left * h / 2 ^ 45

    begun_again : StepFrom (65536 * x) (left * 2 ^ 32) (2 ^ 31 * a) h (2 ^ 77) (2 ^ 59) (2 ^ 17)
    begun_again =
        let p : (a - 8) * 2 ^ 15 * h ≤ x * h = mul-le-mul_right h least in
        record {
          positive = omega arith;
          most = omega (arith, below, E.upper);
          near = omega (arith, below, near);
          inverse_most = omega (arith, E.inverse_most);
          inverse_least = omega (arith, E.inverse_least);
          little = omega arith;
        }

    pub second_below : second * second ≤ n * 2 ^ 48
    second_below = omega (arith, (refined begun_again (left * h / 2 ^ 45) (omega arith) (omega arith)).below, below)

    pub second_near : n * 2 ^ 48 < (second + 2) * (second + 2)
    second_near = omega (arith, (refined begun_again (left * h / 2 ^ 45) (omega arith) (omega arith)).near, below)
