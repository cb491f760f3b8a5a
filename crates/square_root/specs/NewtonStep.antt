-- One step of Newton's iteration for a root, its division done by the inverse of a number above the root: it stays below the root, and comes near it. Assumes nothing.
use Rattle.std.specs.Prelude.{◌≡◌, ℕ, ◌+◌, ◌-◌, ◌*◌, ◌≤◌, ◌<◌}
use Rattle.std.proofs.Common.{le_trans, ap, subst, le_of_lt, lt_of_not-le, lt_of_le_of_lt, le_of_mul-le-mul_right, lt_irrefl, mul-le-mul, mul-le-mul_right, mul-le-mul_left, arith}
use Rattle.rounding.specs.FloorRoot.{sq_lt_back}
use Rattle.square_root.specs.Above.{unless}

-- What a step begins with. x is at most the root of x² + rest; v is at least the root, and g more than x above it. s / h is at least 2 v, so that rest × h / s is
-- at most what x lacks, and it is at most 2 x, but for little.
pub record StepFrom (x rest v h s lost g : ℕ) : Type 0 where
  pub positive : 0 < s
  pub most : x * x + rest ≤ v * v
  pub near : x * x + rest < (x + g) * (x + g)
  pub inverse_most : 2 * v * h ≤ s
  pub inverse_least : s ≤ 2 * x * h + lost
  pub little : g * lost ≤ s

stays_below : (x rest v h s d : ℕ) → 0 < s → x * x + rest ≤ v * v → 2 * v * h ≤ s → d * s ≤ rest * h → (x + d) * (x + d) ≤ x * x + rest
stays_below x rest v h s d S V H D = unless (λ L. none (few L) L)
  where
    zero_times : (s : ℕ) → rest * 0 ≤ 0 * s
    zero_times s = omega arith

    at_zero : x * x + rest < (x + 0) * (x + 0) → 0 < 0
    at_zero L = omega arith

    above_square : (v + 1) * (v + 1) ≤ x * x → ⊥
    above_square L = lt_irrefl 0 (omega arith)

    less : x ≤ v
    less = unless (λ (L : v < x). let a : v + 1 ≤ x = omega arith in above_square (mul-le-mul a a))

    lacks : (w : ℕ) → x + w ≡ v → rest ≤ w * (2 * v)
    lacks w e = let a : (x + w) * (x + w) ≡ v * v = ap (λ (y : ℕ). y * y) e in let b : w * (x + w) ≡ w * v = ap (λ (y : ℕ). w * y) e in omega arith

    few : x * x + rest < (x + d) * (x + d) → x + d ≤ v
    few L =
        let e : x + (v - x) ≡ v = omega (arith, less) in
        let a : rest * h ≤ (v - x) * (2 * v) * h = mul-le-mul_right h (lacks (v - x) e) in
        let b : (v - x) * (2 * v * h) ≤ (v - x) * s = mul-le-mul_left (v - x) H in
        let c : d * s ≤ (v - x) * s = omega arith in
        let l : d ≤ v - x = le_of_mul-le-mul_right c S in
        omega arith

    zero_step : d * s ≤ rest * 0 → x * x + rest < (x + d) * (x + d) → ⊥
    zero_step D0 L =
        let z : d ≤ 0 = le_of_mul-le-mul_right (le_trans D0 (zero_times s)) S in
        let e : d ≡ 0 = omega arith in
        lt_irrefl 0 (at_zero (subst (λ (y : ℕ). x * x + rest < (x + y) * (x + y)) e L))

    none : x + d ≤ v → x * x + rest < (x + d) * (x + d) → ⊥
    none W L =
        let a : 2 * x + d ≤ 2 * v = omega arith in
        let b : d * (2 * x + d) ≤ d * (2 * v) = mul-le-mul_left d a in
        let c : (rest + 1) * h ≤ d * (2 * v) * h = mul-le-mul_right h (omega arith) in
        let e : d * (2 * v * h) ≤ d * s = mul-le-mul_left d H in
        let z : h ≡ 0 = omega arith in
        zero_step (subst (λ (y : ℕ). d * s ≤ rest * y) z D) L

comes_near : (x rest h s lost g d : ℕ) → x * x + rest < (x + g) * (x + g) → s ≤ 2 * x * h + lost → g * lost ≤ s → rest * h < (d + 1) * s → x * x + rest < (x + (d + 2)) * (x + (d + 2))
comes_near x rest h s lost g d G H E D = lt_of_not-le (λ L. none (fewer L) L)
  where
    fewer : (x + (d + 2)) * (x + (d + 2)) ≤ x * x + rest → d + 2 < g
    fewer L = let a = sq_lt_back (x + (d + 2)) (x + g) (lt_of_le_of_lt L G) in omega arith

    none : d + 2 < g → (x + (d + 2)) * (x + (d + 2)) ≤ x * x + rest → ⊥
    none W L =
        let a : (d + 2) * s ≤ (d + 2) * (2 * x * h + lost) = mul-le-mul_left (d + 2) H in
        let b : (d + 2) * lost ≤ g * lost = mul-le-mul_right lost (le_of_lt W) in
        let c : (d + 2) * (2 * x) ≤ rest = omega arith in
        let e : (d + 2) * (2 * x) * h ≤ rest * h = mul-le-mul_right h c in
        lt_irrefl 0 (omega arith)

-- x + d is at most the root of n, and 2 more above it
pub record NearRoot (n x d : ℕ) : Type 0 where
  pub below : (x + d) * (x + d) ≤ n
  pub near : n < (x + (d + 2)) * (x + (d + 2))

-- so a step comes near the root, d being rest × h / s cut to a whole number
pub refined : {x rest v h s lost g : ℕ} → StepFrom x rest v h s lost g → (d : ℕ) → d * s ≤ rest * h → rest * h < (d + 1) * s
    → NearRoot (x * x + rest) x d
refined {x} {rest} {v} {h} {s} {lost} {g} B d D D1 =
    record { below = stays_below x rest v h s d B.positive B.most B.inverse_most D; near = comes_near x rest h s lost g d B.near B.inverse_least B.little D1 }
