-- The length of a touch is 0: between coordinates that are equal as numbers each difference is a zero or a NaN, and so is all that follows, up to the distance.
-- Assumes nothing.
use Rattle.std.specs.Prelude.{◌≡◌, refl, Bool, true, false, not, ◌||◌, ◌&&◌, cond, ℕ, zero, suc, ◌+◌, ◌-◌, ◌*◌, ◌/◌, ◌<◌, T, ltb, eqb, pos, Float}
use Rattle.std.specs.Bool.{beq}
use Rattle.std.proofs.Common.{ap, ◌∙◌, subst, sym, mul-pos, zero-lt-suc, arith, eqb→eq}
use Rattle.std.proofs.Math.Facts.{and_yes}
use Rattle.std.specs.Float.{nan, inf, fin, binary64}
use Rattle.std.specs.Float.Ieee.{up, down, unlike, size, odd, units, round, neg, sum, add, sub, mul, eq}
use Rattle.std.specs.Float.Ieee.Fits.{down_pos}
use Rattle.std.specs.Float.Ieee.Scale.{round_same}
use Rattle.rules.specs.Distances.{mul_add, sqrt, distance_squared, distance}
use Rattle.rules.specs.Lengths.{in_1024ths, pair_length}
use Rattle.rules.specs.Marks.{coincide}
use Rattle.rules.specs.declared.Point.{Point}

-- a zero or a NaN
abbrev Nothing : Float → Type 0
Nothing nan = Unit {0}
Nothing (inf s) = ⊥
Nothing (fin s m e) = m ≡ 0

-- ---- rounding

zero_rounds : (s : Bool) → round binary64 s 0 1 ≡ fin s 0 (pos 0)
unfolding round size units odd
zero_rounds s = refl

round_nothing : (s : Bool) (a c : ℕ) → 0 < c → a ≡ 0 → Nothing (round binary64 s a c)
round_nothing s a c C h =
    subst (λ (x : Float). Nothing x) (sym (round_same binary64 s a c 0 1 C (zero-lt-suc 0) (cross a c h) ∙ zero_rounds s)) refl
  where
    cross : (a c : ℕ) → a ≡ 0 → a * 1 ≡ 0 * c
    cross a c h = omega arith

-- the sum of two numbers that are equal but for their signs: the signs differ, or both are zeros
sum_nothing : (s t : Bool) (a b c : ℕ) → 0 < c → a ≡ b → (T (beq s t) → a ≡ 0) → Nothing (sum binary64 s a t b c)
unfolding sum
sum_nothing s t a b c C e z = go (beq s t) (ltb a b) z
  where
    go : (x y : Bool) → (T x → a ≡ 0) → Nothing (cond x (round binary64 s (a + b) c) (cond y (round binary64 t (b - a) c) (round binary64 (s && ltb b a) (a - b) c)))
    go true y z = let w = z tt in round_nothing s (a + b) c C (omega arith)
    go false true z = round_nothing t (b - a) c C (omega arith)
    go false false z = round_nothing (s && ltb b a) (a - b) c C (omega arith)

-- ---- the operations

signs : (s t : Bool) (a : ℕ) → T (beq s t || eqb a 0) → T (beq s (not t)) → a ≡ 0
signs true true a h k = absurd k
signs true false a h k = eqb→eq a 0 h
signs false true a h k = eqb→eq a 0 h
signs false false a h k = absurd k

sub_nothing : (x y : Float) → T (eq x y) → Nothing (sub binary64 x y)
unfolding eq sub add neg
sub_nothing nan y h = tt
sub_nothing (inf s) nan h = tt
sub_nothing (inf true) (inf true) h = tt
sub_nothing (inf true) (inf false) h = absurd h
sub_nothing (inf false) (inf true) h = absurd h
sub_nothing (inf false) (inf false) h = tt
sub_nothing (inf s) (fin t n d) h = absurd h
sub_nothing (fin s m e) nan h = tt
sub_nothing (fin s m e) (inf t) h = absurd h
sub_nothing (fin s m e) (fin t n d) h =
    let a = m * up e * down d in
    let b = n * up d * down e in
    let k = and_yes (eqb a b) (beq s t || eqb a 0) h in
    sum_nothing s (not t) a b (down e * down d) (mul-pos (down_pos e) (down_pos d)) (eqb→eq a b k.0) (signs s t a k.1)

zero_by : (m u c : ℕ) → m ≡ 0 → m * u * c ≡ 0
zero_by m u c h = ap (λ (i : ℕ). i * u * c) h ∙ omega arith

square_nothing : (x : Float) → Nothing x → Nothing (mul binary64 x x)
unfolding mul
square_nothing nan h = tt
square_nothing (inf s) h = absurd h
square_nothing (fin s m e) h =
    round_nothing (unlike s s) (m * up e * (m * up e)) (down e * down e) (mul-pos (down_pos e) (down_pos e)) (zero_by m (up e) (m * up e) h)

square_plus_nothing : (x y : Float) → Nothing x → Nothing y → Nothing (mul_add binary64 x x y)
unfolding mul_add
square_plus_nothing nan y h k = tt
square_plus_nothing (inf s) y h k = absurd h
square_plus_nothing (fin s m e) nan h k = tt
square_plus_nothing (fin s m e) (inf t) h k = absurd k
square_plus_nothing (fin s m e) (fin t n d) h k =
    let a : m * up e * (m * up e) * down d ≡ 0 = ap (λ (i : ℕ). i * down d) (zero_by m (up e) (m * up e) h) ∙ omega arith in
    let b = zero_by n (up d) (down e * down e) k in
    sum_nothing (unlike s s) t (m * up e * (m * up e) * down d) (n * up d * (down e * down e)) (down e * down e * down d)
    (mul-pos (mul-pos (down_pos e) (down_pos e)) (down_pos d)) (a ∙ sym b) (λ z. a)

root_nothing : (x : Float) → Nothing x → Nothing (sqrt binary64 x)
unfolding sqrt
root_nothing nan h = tt
root_nothing (inf s) h = absurd h
root_nothing (fin s zero e) h = h
root_nothing (fin s (suc m) e) h = absurd (omega arith)

-- ---- the length

no_length : (x : Float) → Nothing x → in_1024ths x ≡ 0
unfolding in_1024ths
no_length nan h = refl
no_length (inf s) h = absurd h
no_length (fin s m e) h = ap (λ (i : ℕ). i / down e) (zero_by m (up e) 1024 h) ∙ none (down e)
  where
    none : (d : ℕ) → 0 / d ≡ 0
    none d = omega arith

pub touch_adds_nothing : (a b : Point) → T (coincide a b) → pair_length a b ≡ 0
unfolding coincide pair_length distance distance_squared
touch_adds_nothing a b h =
    let e = and_yes (eq a.x b.x) (eq a.y b.y) h in
    no_length (distance a b)
    (root_nothing (distance_squared a b)
    (square_plus_nothing (sub binary64 a.x b.x) (mul binary64 (sub binary64 a.y b.y) (sub binary64 a.y b.y)) (sub_nothing a.x b.x e.0)
    (square_nothing (sub binary64 a.y b.y) (sub_nothing a.y b.y e.1))))
