-- The squared distance to an accepted point, from where a strategy takes it, is finite, and its sign is plus. Assumes nothing.
use Rattle.std.specs.Prelude.{◌≡◌, refl, Bool, true, false, ℕ, suc, ◌*◌, ◌^◌, ◌≤◌, ◌<◌, T, pos, Float}
use Rattle.std.proofs.Common.{ap, true≢false, lt_of_lt_of_le, mul-pos, mul-lt-mul_of_pos_right, mul-le-mul_right, le_of_mul-le-mul_right, arith, lit<, lit≤, pow_pos}
use Rattle.std.specs.Float.{nan, inf, fin, binary64}
use Rattle.std.specs.Float.Ieee.{up, down, neg, round, of_int, sub, mul, div, le}
use Rattle.std.specs.Float.Ieee.Back.{round_whole}
use Rattle.std.specs.Float.Ieee.Exact.{HasValue, round_exact}
use Rattle.std.specs.Float.Ieee.Fits.{down_pos}
use Rattle.std.proofs.Math.Facts.{and_yes}
use Rattle.rules.specs.HandedOver.{in_range, plate_limit, parked_coordinates}
use Rattle.rules.specs.Distances.{mul_add, distance_squared}
use Rattle.rules.specs.Start.{half, centre, measured_from}
use Rattle.rules.specs.declared.Point.{Point}
use Rattle.rules.specs.declared.StartPointStrategy.{StartPointStrategy}
use Rattle.rules.specs.declared.StartPointStrategy.TheVariants.{Outside, Inside, Home}
use Rattle.rounding.specs.Magnitude.{non_negative}
use Rattle.rounding.specs.Range.{Upto, between, sub_upto, square_upto, square_plus_upto}
use Rattle.plate_laws.specs.FloatOrder.{Plus}
use Rattle.plate_laws.specs.FiniteDistances.{OnPlate, distance_plus}
use Rattle.plate_laws.specs.AcceptedInput.{ParkedOnPlate}

-- ---- half of a u32

value_upto : (B : ℕ) (x : Float) (s : Bool) (a c : ℕ) → 0 < c → HasValue x s a c → a ≤ 2 ^ B * c → Upto B x
value_upto B nan s a c C v h = absurd v
value_upto B (inf t) s a c C v h = absurd v
value_upto B (fin t m e) s a c C v h = le_of_mul-le-mul_right (go (m * up e) (down e) (2 ^ B) v.1 (mul-le-mul_right (down e) h)) C
  where
    go : (u d b : ℕ) → u * c ≡ a * d → a * d ≤ b * c * d → u * c ≤ b * d * c
    go u d b e h = omega arith

-- x is a whole number below 2 ^ 32: its half is a float
halved_upto : (x : Float) (n : ℕ) → n < 2 ^ 32 → HasValue x false n 1 → Upto 31 (div binary64 x (fin false 1 (pos 1)))
unfolding div
halved_upto nan n h v = absurd v
halved_upto (inf s) n h v = absurd v
halved_upto (fin true m e) n h v = absurd (true≢false v.0)
halved_upto (fin false m e) n h v =
    let a = m * up e * 1 in
    let c = 1 * 2 ^ 1 * down e in
    let C : 0 < c = mul-pos (lit< tt) (down_pos e) in
    let small : n * 2 ^ 1073 < 2 ^ 2098 = lt_of_lt_of_le (mul-lt-mul_of_pos_right h (pow_pos 1073)) (lit≤ tt) in
    let exact = round_exact binary64 false a c n 1073 C (omega arith) small (cross (m * up e) (down e) (2 ^ 1073) (2 ^ 1074) v.1 refl) in
    value_upto 31 (round binary64 false a c) false a c C exact (most (m * up e) (down e) v.1 (mul-le-mul_right (down e) h))
  where
    cross : (u d k l : ℕ) → u * 1 ≡ n * d → l ≡ 2 * k → u * 1 * l ≡ n * k * (1 * 2 * d)
    cross u d k l e f = omega (arith, ap (λ (i : ℕ). i * l) e, ap (λ (i : ℕ). i * (n * d)) f)

    most : (u d : ℕ) → u * 1 ≡ n * d → suc n * d ≤ 2 ^ 32 * d → u * 1 ≤ 2 ^ 31 * (1 * 2 * d)
    most u d e h = omega arith

half_upto : (n : ℕ) → n < 2 ^ 32 → Upto 31 (half n)
unfolding half of_int
half_upto n h = halved_upto (round binary64 false n 1) n h (round_whole binary64 false n (omega arith))

-- ---- the distance

on_plate_upto : (x : Float) → OnPlate x → Upto 31 x
unfolding plate_limit in_range neg
on_plate_upto x t = let w = and_yes (le (fin true 15625 (pos 6)) x) (le x (fin false 15625 (pos 6))) t in between 15625 6 31 x (lit≤ tt) w.0 w.1

plus_of : (x : Float) → T (non_negative x) → Plus x
plus_of nan h = h
plus_of (inf s) h = h
plus_of (fin true m e) h = h
plus_of (fin false m e) h = tt

centre_plus : (width height : ℕ) → width < 2 ^ 32 → height < 2 ^ 32 → (p : Point) → OnPlate p.x → OnPlate p.y →
    Plus (distance_squared (centre width height) p)
unfolding distance_squared centre
centre_plus width height w h p px py =
    let dx = sub binary64 (half width) p.x in
    let dy = sub binary64 (half height) p.y in
    let x = sub_upto 31 (half width) p.x (lit< tt) (half_upto width w) (on_plate_upto p.x px) in
    let y = square_upto 33 dy (lit< tt) (sub_upto 31 (half height) p.y (lit< tt) (half_upto height h) (on_plate_upto p.y py)) in
    plus_of (mul_add binary64 dx dx (mul binary64 dy dy)) (square_plus_upto 33 dx (mul binary64 dy dy) (lit< tt) x y.upto y.plus).plus

pub measured_plus : (s : StartPointStrategy) (width height : ℕ) → width < 2 ^ 32 → height < 2 ^ 32 → ParkedOnPlate s →
    (p : Point) → OnPlate p.x → OnPlate p.y → Plus (distance_squared (measured_from s width height) p)
unfolding measured_from ParkedOnPlate parked_coordinates
measured_plus Outside width height w h k p px py = centre_plus width height w h p px py
measured_plus Inside width height w h k p px py = centre_plus width height w h p px py
measured_plus (Home parked) width height w h k p px py = distance_plus parked p k.0 k.1.0 px py
