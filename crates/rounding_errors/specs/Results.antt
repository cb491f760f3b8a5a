-- A rounded number of at most 2 ^ 100 is finite: in units of the format's smallest value, and how near it is to the number. Assumes nothing.
use Rattle.std.proofs.Common.{sym, ◌∙◌, subst, le_trans, le_of_eq, lt_of_le_of_lt, lt_of_lt_of_le, mul_comm, mul_right_comm, mul-pos, mul-one, mul-le-mul_left, mul-le-mul_right, le_of_mul-le-mul_right, lt_of_mul-lt-mul_right, arith, lit≤, pow-add, pow_pos, pow_mono}
use Rattle.std.specs.Prelude.{Bool, ℕ, suc, ◌+◌, ◌-◌, ◌*◌, ◌^◌, ◌≤◌, ◌<◌, Float}
use Rattle.std.specs.Float.{Format, binary32, binary64}
use Rattle.std.specs.Float.Ieee.{prec, emax, low, round}
use Rattle.std.specs.Float.Ieee.Exact.{HasValue, units_val}
use Rattle.std.specs.Float.Ieee.Fits.{round_is}
use Rattle.std.specs.Float.Ieee.Order.{drop, kept}
use Rattle.std.specs.Float.Ieee.Scale.{grid, overflow}
use Rattle.rounding_errors.specs.NearFraction.{Most, Near, grid_near, whole_near}
use Rattle.rounding_errors.specs.Units.{plus_part, minus_part, At, value_at}

-- ---- no overflow, in either format

room : (f : Format) → 102 ≤ suc (emax f)
room binary32 = lit≤ tt
room binary64 = lit≤ tt

-- w * c is near n
under_overflow : (f : Format) (w c n : ℕ) → 0 < c → Most (2 ^ prec f) 1 (w * c) n → n ≤ 2 ^ 100 * 2 ^ low f * c → w < overflow f
under_overflow f w c n C m h =
    lt_of_lt_of_le
    (lt_of_mul-lt-mul_right c (lt_of_le_of_lt (double (2 ^ prec f) (w * c) (pow_pos (prec f)) m) (lt_of_le_of_lt (mul-le-mul_right 2 h) less)))
    (le_trans (le_of_eq (mul_comm (2 ^ 102) (2 ^ low f) ∙ sym (pow-add 2 (low f) 102))) (pow_mono (shift (low f) 102 (suc (emax f)) (room f))))
  where
    shift : (l a b : ℕ) → a ≤ b → l + a ≤ l + b
    shift l a b h = omega arith

    double : (K w : ℕ) → 0 < K → w * K ≤ n * (K + 1) → w ≤ n * 2
    double K w k h = le_of_mul-le-mul_right (omega (arith, mul-le-mul_left n k)) k

    less : 2 ^ 100 * 2 ^ low f * c * 2 < 2 ^ 102 * 2 ^ low f * c
    less = omega (arith, mul-pos (pow_pos (low f)) C)

round_value : (f : Format) (s : Bool) (a c : ℕ) → grid f a c < overflow f → HasValue (round f s a c) s (grid f a c) (2 ^ low f)
round_value f s a c h =
    subst (λ (z : Float). HasValue z s (grid f a c) (2 ^ low f)) (sym (round_is f s a c))
    (units_val f s (kept (prec f) (a * 2 ^ low f) c) (drop (prec f) (a * 2 ^ low f) c) h)

-- ---- the results

-- of a whole number of units
pub whole_result : (f : Format) (s : Bool) (d : ℕ) → d ≤ 2 ^ 100 * 2 ^ low f →
    (w : ℕ) × At f (round f s d (2 ^ low f)) (plus_part s w) (minus_part s w) × Near f w d
whole_result f s d h =
    let L = 2 ^ low f in
    let b = whole_near f d in
    let w = grid f d L in
    let lt : w < overflow f = under_overflow f w 1 d (lit≤ tt) (rw (mul-one w) b.over) (rw (mul-one (2 ^ 100 * L)) h) in
    (w, value_at f (round f s d L) s w (round_value f s d L lt), b)

-- of a fraction in the normal range
pub fraction_result : (f : Format) (s : Bool) (a c : ℕ) → 0 < c → 2 ^ (prec f - 1) * c ≤ a * 2 ^ low f → a ≤ 2 ^ 100 * c →
    (w : ℕ) × At f (round f s a c) (plus_part s w) (minus_part s w) × Near f (w * c) (a * 2 ^ low f)
fraction_result f s a c C N h =
    let L = 2 ^ low f in
    let b = grid_near f a c C N in
    let w = grid f a c in
    let lt : w < overflow f = under_overflow f w c (a * L) C b.over (le_trans (mul-le-mul_right L h) (le_of_eq (mul_right_comm (2 ^ 100) c L))) in
    (w, value_at f (round f s a c) s w (round_value f s a c lt), b)
