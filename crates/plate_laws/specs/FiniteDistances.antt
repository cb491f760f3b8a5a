-- The squared distance of two points with accepted coordinates is finite, and its sign is plus. Assumes nothing.
use Rattle.std.specs.Prelude.{◌≡◌, refl, Bool, true, false, not, ◌||◌, ◌&&◌, cond, ℕ, zero, suc, ◌+◌, ◌-◌, ◌*◌, ◌^◌, ◌≤◌, ◌<◌, T, ltb, eqb, pos, Float}
use Rattle.std.specs.Bool.{beq}
use Rattle.std.proofs.Common.{true≢false, inl, inr, mul-le-mul, mul-le-mul_right, mul-pos, arith, ltb→lt, eqb→eq}
use Rattle.std.specs.Float.{nan, inf, fin, Format, binary64}
use Rattle.std.specs.Float.Ieee.{prec, emax, low, up, down, size, odd, units, round, neg, sum, add, sub, mul, lt, eq, le, unlike}
use Rattle.std.specs.Float.Ieee.Fits.{down_pos, round_is}
use Rattle.std.specs.Float.Ieee.Order.{round_mono}
use Rattle.std.proofs.Math.Facts.{and_yes, or_yes}
use Rattle.rules.specs.HandedOver.{in_range, plate_limit}
use Rattle.rules.specs.Distances.{mul_add, distance_squared}
use Rattle.rules.specs.declared.Point.{Point}
use Rattle.plate_laws.specs.FloatOrder.{Plus, le_cross}

-- finite, and of magnitude at most k
abbrev pub AtMost : ℕ → Float → Type 0
AtMost k nan = ⊥
AtMost k (inf s) = ⊥
AtMost k (fin s m e) = m * up e ≤ k * down e

-- no NaN, and its sign is plus
abbrev pub SignPlus : Float → Type 0
SignPlus nan = ⊥
SignPlus (inf s) = s ≡ false
SignPlus (fin s m e) = s ≡ false

pub plus_of : (k : ℕ) (x : Float) → SignPlus x → AtMost k x → Plus x
plus_of k nan s h = absurd h
plus_of k (inf t) s h = absurd h
plus_of k (fin true m e) s h = absurd (true≢false s)
plus_of k (fin false m e) s h = tt

-- ---- rounding

odd_plus : (d q k l : ℕ) → SignPlus (odd d false q k l)
unfolding odd
odd_plus d zero k l = refl
odd_plus d (suc q) k l = refl

units_plus : (f : Format) (q k : ℕ) → SignPlus (units f false q k)
unfolding units
units_plus f q k = go (ltb (q * 2 ^ k) (2 ^ (low f + suc (emax f))))
  where
    go : (b : Bool) → SignPlus (cond b (odd (suc (prec f)) false q k (low f)) (inf false))
    go true = odd_plus (suc (prec f)) q k (low f)
    go false = refl

round_plus : (f : Format) (a b : ℕ) → SignPlus (round f false a b)
round_plus f a b = rw (round_is f false a b) (units_plus f _ _)

-- the magnitude does not depend on the sign
odd_sign : (n d : ℕ) (s : Bool) (q k l : ℕ) → AtMost n (odd d false q k l) → AtMost n (odd d s q k l)
unfolding odd
odd_sign n d s zero k l h = h
odd_sign n d s (suc q) k l h = h

units_sign : (n : ℕ) (f : Format) (s : Bool) (q k : ℕ) → AtMost n (units f false q k) → AtMost n (units f s q k)
unfolding units
units_sign n f s q k = go (ltb (q * 2 ^ k) (2 ^ (low f + suc (emax f))))
  where
    go : (b : Bool) → AtMost n (cond b (odd (suc (prec f)) false q k (low f)) (inf false)) →
        AtMost n (cond b (odd (suc (prec f)) s q k (low f)) (inf s))
    go true h = odd_sign n (suc (prec f)) s q k (low f) h
    go false h = absurd h

round_sign : (n : ℕ) (f : Format) (s : Bool) (a b : ℕ) → AtMost n (round f false a b) → AtMost n (round f s a b)
round_sign n f s a b h = rw (round_is f s a b) (units_sign n f s _ _ (rw (round_is f false a b) at h))

le_most : (x : Float) (j : ℕ) → SignPlus x → T (le x (fin false 1 (pos j))) → AtMost (2 ^ j) x
unfolding le lt eq
le_most nan j s t = absurd s
le_most (inf true) j s t = absurd (true≢false s)
le_most (inf false) j s t = absurd t
le_most (fin true m e) j s t = absurd (true≢false s)
le_most (fin false m e) j s t = omega (arith, le_cross (m * up e * 1) (1 * 2 ^ j * down e) t)

-- a power of two that rounding leaves alone
abbrev Exact : ℕ → Type 0
Exact j = round binary64 false (2 ^ j) 1 ≡ fin false 1 (pos j)

-- what is at most such a power is so after rounding
round_most : (j : ℕ) → Exact j → (s : Bool) (a b : ℕ) → 0 < b → a ≤ 2 ^ j * b → AtMost (2 ^ j) (round binary64 s a b)
round_most j w s a b hb h =
    round_sign (2 ^ j) binary64 s a b
    (le_most (round binary64 false a b) j (round_plus binary64 a b) (rw w at (round_mono binary64 a b (2 ^ j) 1 hb (omega arith) (omega arith))))

exact_21 : Exact 21
unfolding round size units odd
exact_21 = refl

exact_42 : Exact 42
unfolding round size units odd
exact_42 = refl

exact_43 : Exact 43
unfolding round size units odd
exact_43 = refl

-- ---- a difference of coordinates

sum_most : (s t : Bool) (a b c : ℕ) → 0 < c → a ≤ 1000000 * c → b ≤ 1000000 * c → AtMost (2 ^ 21) (sum binary64 s a t b c)
unfolding sum
sum_most s t a b c hc ha hb = go (beq s t) (ltb a b)
  where
    go : (x y : Bool) → AtMost (2 ^ 21)
        (cond x (round binary64 s (a + b) c) (cond y (round binary64 t (b - a) c) (round binary64 (s && ltb b a) (a - b) c)))
    go true y = round_most 21 exact_21 s (a + b) c hc (omega arith)
    go false true = round_most 21 exact_21 t (b - a) c hc (omega arith)
    go false false = round_most 21 exact_21 (s && ltb b a) (a - b) c hc (omega arith)

pub sub_most : (x y : Float) → AtMost 1000000 x → AtMost 1000000 y → AtMost (2 ^ 21) (sub binary64 x y)
unfolding sub add neg
sub_most nan y h k = absurd h
sub_most (inf s) y h k = absurd h
sub_most (fin s m e) nan h k = absurd k
sub_most (fin s m e) (inf t) h k = absurd k
sub_most (fin s m e) (fin t n d) h k =
    let a : m * up e * down d ≤ 1000000 * (down e * down d) = omega (arith, mul-le-mul_right (down d) h) in
    let b : n * up d * down e ≤ 1000000 * (down e * down d) = omega (arith, mul-le-mul_right (down e) k) in
    sum_most s (not t) (m * up e * down d) (n * up d * down e) (down e * down d) (mul-pos (down_pos e) (down_pos d)) a b

-- ---- a square

square_le : (a c : ℕ) → a ≤ 2 ^ 21 * c → a * a ≤ 2 ^ 42 * (c * c)
square_le a c h = omega (arith, mul-le-mul h h)

pub unlike_self : (s : Bool) → unlike s s ≡ false
unlike_self true = refl
unlike_self false = refl

pub square_most : (x : Float) → AtMost (2 ^ 21) x → AtMost (2 ^ 42) (mul binary64 x x) × SignPlus (mul binary64 x x)
unfolding mul
square_most nan h = absurd h
square_most (inf s) h = absurd h
square_most (fin s m e) h =
    let a = m * up e * (m * up e) in
    let b = down e * down e in
    rw (unlike_self s)
    (round_most 42 exact_42 false a b (mul-pos (down_pos e) (down_pos e)) (square_le (m * up e) (down e) h), round_plus binary64 a b)

-- ---- a square and a number that is not negative, rounded once

square_plus : (x y : Float) → AtMost (2 ^ 21) x → AtMost (2 ^ 42) y → SignPlus y → AtMost (2 ^ 43) (mul_add binary64 x x y) × SignPlus (mul_add binary64 x x y)
unfolding mul_add sum
square_plus nan y h k p = absurd h
square_plus (inf s) y h k p = absurd h
square_plus (fin s m e) nan h k p = absurd k
square_plus (fin s m e) (inf t) h k p = absurd k
square_plus (fin s m e) (fin true n d) h k p = absurd (true≢false p)
square_plus (fin s m e) (fin false n d) h k p =
    let c = down e * down e * down d in
    let a : m * up e * (m * up e) * down d ≤ 2 ^ 42 * c = omega (arith, mul-le-mul_right (down d) (square_le (m * up e) (down e) h)) in
    let b : n * up d * (down e * down e) ≤ 2 ^ 42 * c = omega (arith, mul-le-mul_right (down e * down e) k) in
    let v = m * up e * (m * up e) * down d + n * up d * (down e * down e) in
    rw (unlike_self s)
    (round_most 43 exact_43 false v c (mul-pos (mul-pos (down_pos e) (down_pos e)) (down_pos d)) (omega arith), round_plus binary64 v c)

-- ---- coordinates in range

-- the limit is l × 2^j
pub in_range_lem : (l j : ℕ) (x : Float) → T (in_range (fin false l (pos j)) x) → AtMost (l * 2 ^ j) x
unfolding in_range le lt eq neg
in_range_lem l j nan t = absurd t
in_range_lem l j (inf true) t = absurd t
in_range_lem l j (inf false) t = absurd t
in_range_lem l j (fin true m e) t =
    let a = l * 2 ^ j * down e in
    let b = m * up e * 1 in
    elim (or_yes (ltb b a) (eqb a b && true) (and_yes (ltb b a || (eqb a b && true)) _ t).0) [
      | inl h ↦ omega (arith, ltb→lt b a h)
      | inr h ↦ omega (arith, eqb→eq a b (and_yes (eqb a b) true h).0)
    ]
in_range_lem l j (fin false m e) t =
    let a = l * 2 ^ j * down e in
    let b = m * up e * 1 in
    omega (arith, le_cross b a (and_yes (le (neg (fin false l (pos j))) (fin false m e)) (ltb b a || (eqb b a && true)) t).1)

-- a coordinate that is accepted
abbrev pub OnPlate : Float → Type 0
OnPlate x = T (in_range plate_limit x)

pub on_plate_most : (x : Float) → OnPlate x → AtMost 1000000 x
unfolding plate_limit
on_plate_most x t = in_range_lem 15625 6 x t

pub squared_most : (a b : Point) → OnPlate a.x → OnPlate a.y → OnPlate b.x → OnPlate b.y →
    AtMost (2 ^ 43) (distance_squared a b) × SignPlus (distance_squared a b)
unfolding distance_squared
squared_most a b ax ay bx by =
    let dx = sub_most a.x b.x (on_plate_most a.x ax) (on_plate_most b.x bx) in
    let dy = square_most _ (sub_most a.y b.y (on_plate_most a.y ay) (on_plate_most b.y by)) in
    square_plus _ _ dx dy.0 dy.1

pub distance_plus : (a b : Point) → OnPlate a.x → OnPlate a.y → OnPlate b.x → OnPlate b.y → Plus (distance_squared a b)
distance_plus a b ax ay bx by = let most = squared_most a b ax ay bx by in plus_of (2 ^ 43) _ most.1 most.0
