-- The grid's origin along one axis, in units of 2 ^ -1074: the least coordinate less the cell size, rounded. Assumes nothing.
use Rattle.std.specs.Prelude.{◌≡◌, ℕ, ◌+◌, ◌-◌, ◌*◌, ◌^◌, ◌≤◌, ◌<◌, Float}
use Rattle.std.proofs.Math.Decide.{dec_lt}
use Rattle.std.proofs.Common.{arith}
use Rattle.std.specs.Float.{binary64}
use Rattle.std.specs.Float.Ieee.{sub}
use Rattle.rounding_errors.specs.Units.{At}
use Rattle.rounding_errors.specs.Sums.{sub_up, sub_down}
use Rattle.rounding_errors.specs.Coords.{Coord}

-- The least coordinate is p - n, the cell size S, and the origin a - b. It is within S / 2 ^ 26 of p - n - S.
pub record Origin (o : Float) (p n S a b : ℕ) : Type 0 where
  pub at : At binary64 o a b
  pub over : (a + n + S) * 2 ^ 26 ≤ (p + b) * 2 ^ 26 + S
  pub under : (p + b) * 2 ^ 26 ≤ (a + n + S) * 2 ^ 26 + S

-- ---- a rounded difference w and the exact one, d, which is at most 2 ^ 26 cells

step_over : (w d S : ℕ) → w * 2 ^ 53 ≤ d * (2 ^ 53 + 1) → d ≤ S * 2 ^ 26 → w * 2 ^ 26 ≤ d * 2 ^ 26 + S
step_over w d S h g = omega arith

step_under : (w d S : ℕ) → w * 2 ^ 53 ≤ d * (2 ^ 53 + 1) → d * 2 ^ 53 ≤ w * (2 ^ 53 + 1) → d ≤ S * 2 ^ 26 → d * 2 ^ 26 ≤ w * 2 ^ 26 + S
step_under w d S u h g = let b : w ≤ d * 2 = omega arith in let c : w ≤ S * 2 ^ 27 = omega arith in go c h
  where
    go : w ≤ S * 2 ^ 27 → d * 2 ^ 53 ≤ w * (2 ^ 53 + 1) → d * 2 ^ 26 ≤ w * 2 ^ 26 + S
    go c h = omega arith

-- ---- L is 2 ^ 1074: an origin that is not negative, and one that is not positive

origin_plus : (L p n S d w : ℕ) → n + S + d ≡ p + 0 → p ≤ 1000000 * L → L ≤ 51 * S →
    w * 2 ^ 53 ≤ d * (2 ^ 53 + 1) → d * 2 ^ 53 ≤ w * (2 ^ 53 + 1) →
    ((w + n + S) * 2 ^ 26 ≤ (p + 0) * 2 ^ 26 + S) × ((p + 0) * 2 ^ 26 ≤ (w + n + S) * 2 ^ 26 + S)
origin_plus L p n S d w e h g u v = let z = small L p n S d e h g in (over e (step_over w d S u z), under e (step_under w d S u v z))
  where
    small : (L p n S d : ℕ) → n + S + d ≡ p + 0 → p ≤ 1000000 * L → L ≤ 51 * S → d ≤ S * 2 ^ 26
    small L p n S d e h g = omega arith

    over : n + S + d ≡ p + 0 → w * 2 ^ 26 ≤ d * 2 ^ 26 + S → (w + n + S) * 2 ^ 26 ≤ (p + 0) * 2 ^ 26 + S
    over e h = omega arith

    under : n + S + d ≡ p + 0 → d * 2 ^ 26 ≤ w * 2 ^ 26 + S → (p + 0) * 2 ^ 26 ≤ (w + n + S) * 2 ^ 26 + S
    under e h = omega arith

origin_minus : (L p n S d w : ℕ) → p + 0 + d ≡ n + S → n ≤ 1000000 * L → S ≤ 40001 * L → L ≤ 51 * S →
    w * 2 ^ 53 ≤ d * (2 ^ 53 + 1) → d * 2 ^ 53 ≤ w * (2 ^ 53 + 1) →
    ((0 + n + S) * 2 ^ 26 ≤ (p + w) * 2 ^ 26 + S) × ((p + w) * 2 ^ 26 ≤ (0 + n + S) * 2 ^ 26 + S)
origin_minus L p n S d w e h k g u v = let z = small L p n S d e h k g in (over e (step_under w d S u v z), under e (step_over w d S u z))
  where
    small : (L p n S d : ℕ) → p + 0 + d ≡ n + S → n ≤ 1000000 * L → S ≤ 40001 * L → L ≤ 51 * S → d ≤ S * 2 ^ 26
    small L p n S d e h k g = omega arith

    over : p + 0 + d ≡ n + S → d * 2 ^ 26 ≤ w * 2 ^ 26 + S → (0 + n + S) * 2 ^ 26 ≤ (p + w) * 2 ^ 26 + S
    over e h = omega arith

    under : p + 0 + d ≡ n + S → w * 2 ^ 26 ≤ d * 2 ^ 26 + S → (p + w) * 2 ^ 26 ≤ (0 + n + S) * 2 ^ 26 + S
    under e h = omega arith

-- far below 2 ^ 100
small_plus : (L p q : ℕ) → p ≤ 1000000 * L → p - q ≤ 2 ^ 100 * L
small_plus L p q h = omega arith

small_minus : (L n S p : ℕ) → n ≤ 1000000 * L → S ≤ 40001 * L → n + S - p ≤ 2 ^ 100 * L
small_minus L n S p h g = omega arith

-- ---- of a least coordinate x and a cell size s

pub origin_at : (x s : Float) (p n S : ℕ) → Coord x p n → At binary64 s S 0 → 2 ^ 1074 ≤ 51 * S → S ≤ 40001 * 2 ^ 1074 →
    (a : ℕ) × (b : ℕ) × Origin (sub binary64 x s) p n S a b
origin_at x s p n S c hs lo hi = go (dec_lt p (n + S))
  where
    L : ℕ
    L = 2 ^ 1074

    up_exact : (p n S : ℕ) → (p < n + S → ⊥) → n + S + (p - (n + S)) ≡ p + 0
    up_exact p n S h = let g : n + S ≤ p = omega arith in omega arith

    down_exact : (p n S : ℕ) → p < n + S → p + 0 + (n + S - p) ≡ n + S
    down_exact p n S h = omega arith

    go : Dec (p < n + S) → (a : ℕ) × (b : ℕ) × Origin (sub binary64 x s) p n S a b
    go (no l) =
        let d = p - (n + S) in
        let e = up_exact p n S l in
        let r = sub_up binary64 x s p n S 0 d c.at hs e (small_plus L p (n + S) c.plus) in
        let z = origin_plus L p n S d r.0 e c.plus lo r.2.over r.2.under in
        (r.0, 0, record { at = r.1; over = z.0; under = z.1 })
    go (yes l) =
        let d = n + S - p in
        let e = down_exact p n S l in
        let r = sub_down binary64 x s p n S 0 d c.at hs e (small_minus L n S p c.minus hi) in
        let z = origin_minus L p n S d r.0 e c.minus hi lo r.2.over r.2.under in
        (0, r.0, record { at = r.1; over = z.0; under = z.1 })
