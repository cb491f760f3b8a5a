-- Sums and differences in units of the format's smallest value, with their errors. Assumes nothing.
use Rattle.std.specs.Prelude.{◌≡◌, refl, Bool, true, false, not, cond, ℕ, ◌+◌, ◌-◌, ◌*◌, ◌^◌, ◌≤◌, ◌<◌, T, ltb, Float}
use Rattle.std.proofs.Common.{sym, ap, ◌∙◌, subst, mul-pos, le_of_mul-le-mul_right, arith, ltb→lt, nltb→le, pow_pos}
use Rattle.std.specs.Float.{nan, inf, fin, Format}
use Rattle.std.specs.Float.Ieee.{prec, low, up, down, neg, round, sum, add, sub}
use Rattle.std.specs.Float.Ieee.Fits.{down_pos}
use Rattle.std.specs.Float.Ieee.Positive.{den}
use Rattle.std.specs.Float.Ieee.Scale.{round_same}
use Rattle.rounding_errors.specs.NearFraction.{Most, Near}
use Rattle.rounding_errors.specs.Units.{plus_part, minus_part, plus_times, minus_times, At, neg_at}
use Rattle.rounding_errors.specs.Results.{whole_result}

-- ---- before rounding

-- ±a + ±b is ±v, rounded over c
sum_is : (f : Format) (s : Bool) (a : ℕ) (t : Bool) (b c : ℕ) →
    (r : Bool) × (v : ℕ) × (sum f s a t b c ≡ round f r v c) × (plus_part s a + plus_part t b + minus_part r v ≡ minus_part s a + minus_part t b + plus_part r v)
unfolding sum
sum_is f false a false b c = (false, a + b, refl, omega arith)
sum_is f true a true b c = (true, a + b, refl, omega arith)
sum_is f false a true b c = go (ltb a b) (ltb→lt a b) (nltb→le a b)
  where
    go : (x : Bool) → (T x → a < b) → (T (not x) → b ≤ a) →
        (r : Bool) × (v : ℕ) × (cond x (round f true (b - a) c) (round f false (a - b) c) ≡ round f r v c) × (a + 0 + minus_part r v ≡ 0 + b + plus_part r v)
    go true h g = let l = h tt in (true, b - a, refl, omega arith)
    go false h g = let l = g tt in (false, a - b, refl, omega arith)
sum_is f true a false b c = go (ltb a b) (ltb b a) (ltb→lt a b) (nltb→le a b) (nltb→le b a)
  where
    go : (x y : Bool) → (T x → a < b) → (T (not x) → b ≤ a) → (T (not y) → a ≤ b) →
        (r : Bool) × (v : ℕ) × (cond x (round f false (b - a) c) (round f y (a - b) c) ≡ round f r v c) × (0 + b + minus_part r v ≡ a + 0 + plus_part r v)
    go true y h g k = let l = h tt in (false, b - a, refl, omega arith)
    go false true h g k = let l = g tt in (true, a - b, refl, omega arith)
    go false false h g k = let l = g tt in let l' = k tt in (false, a - b, refl, omega arith)

-- a float that is ±v / c rounded, that fraction being (p - n) units
record Sum (f : Format) (z : Float) (p n : ℕ) : Type 0 where
  pub sign : Bool
  pub value : ℕ
  pub unit : ℕ
  pub some : 0 < unit
  pub is : z ≡ round f sign value unit
  pub exact : plus_part sign value * 2 ^ low f + n * unit ≡ minus_part sign value * 2 ^ low f + p * unit

add_is : (f : Format) (x y : Float) (p n q k : ℕ) → At f x p n → At f y q k → Sum f (add f x y) (p + q) (n + k)
unfolding add
add_is f nan y p n q k hx hy = absurd hx.0
add_is f (inf s) y p n q k hx hy = absurd hx.0
add_is f (fin s m e) nan p n q k hx hy = absurd hy.0
add_is f (fin s m e) (inf t) p n q k hx hy = absurd hy.0
add_is f (fin s m e) (fin t o d) p n q k hx hy =
    let a = m * up e in
    let b = o * up d in
    let w = sum_is f s (a * down d) t (b * down e) (down e * down d) in
    let v = (rw (plus_times s a (down d), minus_times s a (down d), plus_times t b (down e), minus_times t b (down e)) at w).3 in
    record {
      sign = w.0;
      value = w.1;
      unit = down e * down d;
      some = mul-pos (down_pos e) (down_pos d);
      is = w.2;
      exact = go (plus_part s a) (minus_part s a) (plus_part t b) (minus_part t b) (plus_part w.0 w.1) (minus_part w.0 w.1) (down e) (down d) (2 ^ low f)
          (ap (λ (i : ℕ). i * down d) hx.1) (ap (λ (i : ℕ). i * down e) hy.1) (ap (λ (i : ℕ). i * 2 ^ low f) v);
    }
  where
    go : (a a' b b' c c' u v l : ℕ) → (a * l + n * u) * v ≡ (a' * l + p * u) * v → (b * l + k * v) * u ≡ (b' * l + q * v) * u →
        (a * v + b * u + c') * l ≡ (a' * v + b' * u + c) * l → c * l + (n + k) * (u * v) ≡ c' * l + (p + q) * (u * v)
    go a a' b b' c c' u v l x y z = omega arith

-- ---- after rounding. d is the exact result in units, and w the rounded one.

-- ±d units
settled : (f : Format) (z : Float) (r : Bool) (v c d : ℕ) → 0 < c → z ≡ round f r v c → v * 2 ^ low f ≡ d * c → d ≤ 2 ^ 100 * 2 ^ low f →
    (w : ℕ) × At f z (plus_part r w) (minus_part r w) × Near f w d
settled f z r v c d C i x h =
    let b = whole_result f r d h in
    (b.0, subst (λ (y : Float). At f y (plus_part r b.0) (minus_part r b.0)) (sym (i ∙ round_same f r v c d (2 ^ low f) C (pow_pos (low f)) x)) b.1, b.2)

-- a sum of nothing, with either sign
none_left : (d v l c : ℕ) → 0 < c → v * l + d * c ≡ 0 → d ≡ 0
none_left d v l c C h = let z : d ≤ 0 = le_of_mul-le-mul_right (omega arith) C in omega arith

none_near : (f : Format) (w d : ℕ) → d ≡ 0 → Near f w d → w ≡ 0
none_near f w d e h = let z : w ≤ 0 = le_of_mul-le-mul_right (go (2 ^ prec f) h.over) (pow_pos (prec f)) in omega arith
  where
    go : (K : ℕ) → Most K 1 w d → w * K ≤ 0 * K
    go K h = omega (arith, ap (λ (i : ℕ). i * (K + 1)) e)

swapped : (f : Format) (z : Float) (p n : ℕ) → p ≡ n → At f z p n → At f z n p
swapped f z p n e h = (h.0, omega (arith, h.1, ap (λ (i : ℕ). i * den z) e))

module _ (f : Format) (z : Float) (p n d : ℕ) (s : Sum f z p n) (h : d ≤ 2 ^ 100 * 2 ^ low f) where
  abbrev c : ℕ
  c = s.unit

  abbrev Balanced : Bool → Type 0
  Balanced r = plus_part r s.value * 2 ^ low f + n * c ≡ minus_part r s.value * 2 ^ low f + p * c

  -- nothing is left, with this sign
  none_settled : (r : Bool) → z ≡ round f r s.value c → s.value * 2 ^ low f + d * c ≡ 0 → (w : ℕ) × (w ≡ 0) × At f z (plus_part r w) (minus_part r w) × Near f w d
  none_settled r i o =
      let b = settled f z r s.value c d s.some i (omega arith) h in
      (b.0, none_near f b.0 d (none_left d s.value (2 ^ low f) c s.some o) b.2, b.1, b.2)

  -- not negative
  sum_up : n + d ≡ p → (w : ℕ) × At f z w 0 × Near f w d
  sum_up e = go s.sign s.is s.exact
    where
      go : (r : Bool) → z ≡ round f r s.value c → Balanced r → (w : ℕ) × At f z w 0 × Near f w d
      go false i x = settled f z false s.value c d s.some i (omega (arith, x, ap (λ (i : ℕ). i * c) e)) h
      go true i x =
          let (w, o, a, b) = none_settled true i (omega (arith, x, ap (λ (i : ℕ). i * c) e)) in
          (w, swapped f z 0 w (sym {a = w} o) a, b)

  -- not positive
  sum_down : p + d ≡ n → (w : ℕ) × At f z 0 w × Near f w d
  sum_down e = go s.sign s.is s.exact
    where
      go : (r : Bool) → z ≡ round f r s.value c → Balanced r → (w : ℕ) × At f z 0 w × Near f w d
      go true i x = settled f z true s.value c d s.some i (omega (arith, x, ap (λ (i : ℕ). i * c) e)) h
      go false i x =
          let (w, o, a, b) = none_settled false i (omega (arith, x, ap (λ (i : ℕ). i * c) e)) in
          (w, swapped f z w 0 o a, b)

-- ---- the operations

pub add_up : (f : Format) (x y : Float) (p n q k d : ℕ) → At f x p n → At f y q k → n + k + d ≡ p + q → d ≤ 2 ^ 100 * 2 ^ low f →
    (w : ℕ) × At f (add f x y) w 0 × Near f w d
add_up f x y p n q k d hx hy e h = sum_up f (add f x y) (p + q) (n + k) d (add_is f x y p n q k hx hy) h e

pub sub_up : (f : Format) (x y : Float) (p n q k d : ℕ) → At f x p n → At f y q k → n + q + d ≡ p + k → d ≤ 2 ^ 100 * 2 ^ low f →
    (w : ℕ) × At f (sub f x y) w 0 × Near f w d
unfolding sub
sub_up f x y p n q k d hx hy e h = add_up f x (neg y) p n k q d hx (neg_at f y q k hy) e h

pub sub_down : (f : Format) (x y : Float) (p n q k d : ℕ) → At f x p n → At f y q k → p + k + d ≡ n + q → d ≤ 2 ^ 100 * 2 ^ low f →
    (w : ℕ) × At f (sub f x y) 0 w × Near f w d
unfolding sub
sub_down f x y p n q k d hx hy e h = sum_down f (add f x (neg y)) (p + k) (n + q) d (add_is f x (neg y) p n k q hx (neg_at f y q k hy)) h e
