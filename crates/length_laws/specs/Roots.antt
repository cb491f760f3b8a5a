-- The distance of two accepted points in units of the format's smallest value: it has at most 53 digits before its closing zeros, and is below 2 ^ 22. Assumes nothing.
use Rattle.std.specs.Prelude.{◌≡◌, refl, ◌⊎◌, true, false, ℕ, zero, suc, ◌+◌, ◌-◌, ◌*◌, ◌/◌, ◌^◌, ◌≤◌, ◌<◌, Float}
use Prim.Native.Nat.{compare}
use Rattle.std.proofs.Common.{sym, ap, ◌∙◌, subst, inl, inr, le_trans, le_of_eq, lt_of_le_of_lt, lt_of_lt_of_le, eq-or-lt_of_le, zero-lt-suc, mul-pos, mul-le-mul_right, div-mul-le_self, div-lt_iff_lt-mul, arith, lit≤, pow-add, pow_pos, pow_mono}
use Rattle.std.specs.Float.{nan, inf, fin, binary64}
use Rattle.std.specs.Float.Ieee.{up, down, size, nearest, units}
use Rattle.std.specs.Float.Ieee.Exact.{HasValue, units_val}
use Rattle.std.specs.Float.Ieee.Fits.{down_pos, nearest-le}
use Rattle.rules.specs.Distances.{floor_root, round_root, sqrt, distance_squared, distance}
use Rattle.rules.specs.declared.Point.{Point}
use Rattle.rounding.specs.Significand.{size_under, size_over}
use Rattle.rounding.specs.FloorRoot.{floor_root_is, sq_lt_back}
use Rattle.plate_laws.specs.FloatOrder.{Plus}
use Rattle.plate_laws.specs.FiniteDistances.{AtMost, OnPlate, squared_most, distance_plus}

-- x is q * 2 ^ j units of 2 ^ -1074, q having at most 53 digits, and below 2 ^ 22
pub record Short (x : Float) : Type 0 where
  pub q : ℕ
  pub j : ℕ
  pub value : HasValue x false (q * 2 ^ j) (2 ^ 1074)
  pub few : q < 2 ^ 53
  pub below : q * 2 ^ j < 2 ^ 22 * 2 ^ 1074

-- ---- a number of units, whose significand may have been rounded up to 2 ^ 53

short_of : (x : Float) (q j : ℕ) → HasValue x false (q * 2 ^ j) (2 ^ 1074) → q ≤ 2 ^ 53 → q * 2 ^ j < 2 ^ 22 * 2 ^ 1074 → Short x
short_of x q j v h b = go (eq-or-lt_of_le h)
  where
    one : (a : ℕ) → a ≡ 1 * a
    one a = omega arith

    go : (q ≡ 2 ^ 53) ⊎ (q < 2 ^ 53) → Short x
    go (inr l) = record { q = q; j = j; value = v; few = l; below = b }
    go (inl e) =
        let same : q * 2 ^ j ≡ 1 * 2 ^ (53 + j) = ap (λ (i : ℕ). i * 2 ^ j) e ∙ sym (pow-add 2 53 j) ∙ one (2 ^ (53 + j)) in
        record {
          q = 1;
          j = 53 + j;
          value = subst (λ (i : ℕ). HasValue x false i (2 ^ 1074)) same v;
          few = lit≤ tt;
          below = subst (λ (i : ℕ). i < 2 ^ 22 * 2 ^ 1074) same b;
        }

-- ---- the root of what is at most 2 ^ 43

-- w is its whole part in units, of which 1 has L: the root of 2 ^ 43 is below 3,000,000
part_below : (L n w den num : ℕ) → 0 < L → 0 < den → n ≡ num * (L * L) → num ≤ 2 ^ 43 * den → w * w ≤ n / den → w < 3000000 * L
part_below L n w den num l D e h g = sq_lt_back w (3000000 * L) (lt_of_le_of_lt g ((div-lt_iff_lt-mul D).1 (subst (λ (i : ℕ). i < 3000000 * L * (3000000 * L) * den) (sym e) less)))
  where
    less : num * (L * L) < 3000000 * L * (3000000 * L) * den
    less = omega (arith, mul-le-mul_right (L * L) h, mul-pos (mul-pos l l) D)

-- rounded it is r * K, K being the power of two whose multiples the format has there
rounded_below : (L w r K : ℕ) → w < 3000000 * L → r * K ≤ w + K → (K ≡ 1) ⊎ (4 * K ≤ w) → r * K < 2 ^ 22 * L
rounded_below L w r K h g (inl e) = omega arith
rounded_below L w r K h g (inr f) = omega arith

module _ (w k : ℕ) (h : w < 3000000 * 2 ^ 1074) (most : w < 2 ^ (53 + k)) (least : (k ≡ 0) ⊎ (2 ^ (52 + k) ≤ w)) (r : ℕ) (next : r ≤ suc (w / 2 ^ k)) where
  significand : r ≤ 2 ^ 53
  significand = le_trans next ((div-lt_iff_lt-mul (pow_pos k)).1 (lt_of_lt_of_le most (le_of_eq (pow-add 2 53 k))))

  step : r * 2 ^ k ≤ w + 2 ^ k
  step = le_trans (mul-le-mul_right (2 ^ k) next) (omega (arith, div-mul-le_self w (2 ^ k)))

  last : (2 ^ k ≡ 1) ⊎ (4 * 2 ^ k ≤ w)
  last = go least
    where
      go : (k ≡ 0) ⊎ (2 ^ (52 + k) ≤ w) → (2 ^ k ≡ 1) ⊎ (4 * 2 ^ k ≤ w)
      go (inl e) = inl (ap (λ (i : ℕ). 2 ^ i) e)
      go (inr g) = inr (le_trans (le_trans (mul-le-mul_right (2 ^ k) (lit≤ {m = 4} {n = 2 ^ 52} tt)) (le_of_eq (sym (pow-add 2 52 k)))) g)

  short_units : Short (units binary64 false r k)
  short_units =
      let b = rounded_below (2 ^ 1074) w r (2 ^ k) h step last in
      short_of (units binary64 false r k) r k (units_val binary64 false r k (lt_of_lt_of_le b room)) significand b
    where
      room : 2 ^ 22 * 2 ^ 1074 ≤ 2 ^ 2098
      room = le_trans (le_of_eq (sym (pow-add 2 22 1074))) (pow_mono {i = 1096} {j = 2098} (lit≤ tt))

short_root : (num den : ℕ) → 0 < den → num ≤ 2 ^ 43 * den → Short (round_root binary64 num den)
unfolding round_root
short_root num den D h =
    let n = num * 2 ^ (2 * 1074) in
    let w = floor_root (n / den) in
    let k = size w - 53 in
    let q = w / 2 ^ k in
    let m = (2 * q + 1) * 2 ^ k in
    let square : n ≡ num * (2 ^ 1074 * 2 ^ 1074) = ap (λ (i : ℕ). num * i) (pow-add 2 1074 1074) in
    short_units w k (part_below (2 ^ 1074) n w den num (pow_pos 1074) D square h (floor_root_is (n / den)).0) (size_under 53 w) (size_over 53 w (zero-lt-suc 52))
    (nearest q (compare (4 * n) (m * m * den))) (nearest-le q (compare (4 * n) (m * m * den)))

-- ---- the distance

short_sqrt : (x : Float) → Plus x → AtMost (2 ^ 43) x → Short (sqrt binary64 x)
unfolding sqrt
short_sqrt nan p h = absurd h
short_sqrt (inf s) p h = absurd h
short_sqrt (fin true m e) p h = absurd p
short_sqrt (fin false zero e) p h = record { q = 0; j = 0; value = (refl, omega arith); few = lit≤ tt; below = mul-pos {m = 2 ^ 22} {n = 2 ^ 1074} (lit≤ tt) (pow_pos 1074) }
short_sqrt (fin false (suc m) e) p h = short_root (suc m * up e) (down e) (down_pos e) h

pub short_distance : (a b : Point) → OnPlate a.x → OnPlate a.y → OnPlate b.x → OnPlate b.y → Short (distance a b)
unfolding distance
short_distance a b ax ay bx by = short_sqrt (distance_squared a b) (distance_plus a b ax ay bx by) (squared_most a b ax ay bx by).0
