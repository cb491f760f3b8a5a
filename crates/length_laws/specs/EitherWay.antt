-- A squared distance is the same float from either end. Assumes nothing.
use Rattle.std.specs.Prelude.{◌≡◌, refl, Bool, true, false, not, cond, ℕ, zero, suc, ◌+◌, ◌-◌, ◌*◌, ◌^◌, ◌≤◌, ◌<◌, T, ltb, Float}
use Rattle.std.proofs.Common.{sym, ap, ◌∙◌, mul_comm, add_comm, arith, ltb→lt, nltb→le}
use Rattle.std.specs.Float.{nan, inf, fin, Format, binary64}
use Rattle.std.specs.Float.Ieee.{prec, low, up, down, odd, units, round, neg, sum, add, sub, mul}
use Rattle.std.specs.Float.Ieee.Fits.{round_is}
use Rattle.std.specs.Float.Ieee.Order.{drop, kept}
use Rattle.std.specs.Float.Ieee.Scale.{overflow}
use Rattle.rules.specs.Distances.{mul_add, distance_squared}
use Rattle.rules.specs.declared.Point.{Point}

-- the magnitude
abbrev abs : Float → Float
abs nan = nan
abs (inf s) = inf false
abs (fin s m e) = fin false m e

abs_odd : (d : ℕ) (s : Bool) (q k l : ℕ) → abs (odd d s q k l) ≡ odd d false q k l
unfolding odd
abs_odd d s zero k l = refl
abs_odd d s (suc q) k l = refl

abs_units : (f : Format) (s : Bool) (q k : ℕ) → abs (units f s q k) ≡ units f false q k
unfolding units
abs_units f s q k = go (ltb (q * 2 ^ k) (overflow f))
  where
    go : (b : Bool) → abs (cond b (odd (suc (prec f)) s q k (low f)) (inf s)) ≡ cond b (odd (suc (prec f)) false q k (low f)) (inf false)
    go true = abs_odd (suc (prec f)) s q k (low f)
    go false = refl

abs_round : (f : Format) (s : Bool) (a c : ℕ) → abs (round f s a c) ≡ round f false a c
abs_round f s a c =
    ap (λ (z : Float). abs z) (round_is f s a c) ∙ abs_units f s (kept (prec f) (a * 2 ^ low f) c) (drop (prec f) (a * 2 ^ low f) c)
    ∙ sym (round_is f false a c)

same_round : (f : Format) (s t : Bool) (a b c : ℕ) → a ≡ b → abs (round f s a c) ≡ abs (round f t b c)
same_round f s t a b c e = abs_round f s a c ∙ ap (λ (i : ℕ). round f false i c) e ∙ sym (abs_round f t b c)

-- ±(a - b), with any signs
apart : (f : Format) (s t u v : Bool) (a b c : ℕ) →
    abs (cond (ltb a b) (round f s (b - a) c) (round f t (a - b) c)) ≡ abs (cond (ltb b a) (round f u (a - b) c) (round f v (b - a) c))
apart f s t u v a b c = go (ltb a b) (ltb b a) (ltb→lt a b) (nltb→le a b) (ltb→lt b a) (nltb→le b a)
  where
    go : (x y : Bool) → (T x → a < b) → (T (not x) → b ≤ a) → (T y → b < a) → (T (not y) → a ≤ b) →
        abs (cond x (round f s (b - a) c) (round f t (a - b) c)) ≡ abs (cond y (round f u (a - b) c) (round f v (b - a) c))
    go true true h1 h2 h3 h4 = absurd (no (h1 tt) (h3 tt))
      where
        no : a < b → b < a → ⊥
        no h g = omega arith
    go true false h1 h2 h3 h4 = same_round f s v (b - a) (b - a) c refl
    go false true h1 h2 h3 h4 = same_round f t u (a - b) (a - b) c refl
    go false false h1 h2 h3 h4 = same_round f t v (a - b) (b - a) c (both (h2 tt) (h4 tt))
      where
        both : b ≤ a → a ≤ b → a - b ≡ b - a
        both h g = omega arith

sum_swap : (f : Format) (s t : Bool) (a b c : ℕ) → abs (sum f s a (not t) b c) ≡ abs (sum f t b (not s) a c)
unfolding sum
sum_swap f true true a b c = apart f false (ltb b a) false (ltb a b) a b c
sum_swap f true false a b c = same_round f true false (a + b) (b + a) c (add_comm a b)
sum_swap f false true a b c = same_round f false true (a + b) (b + a) c (add_comm a b)
sum_swap f false false a b c = apart f true false true false a b c

sub_swap : (f : Format) (x y : Float) → abs (sub f x y) ≡ abs (sub f y x)
unfolding sub add neg
sub_swap f nan nan = refl
sub_swap f nan (inf t) = refl
sub_swap f nan (fin t n d) = refl
sub_swap f (inf s) nan = refl
sub_swap f (inf true) (inf true) = refl
sub_swap f (inf true) (inf false) = refl
sub_swap f (inf false) (inf true) = refl
sub_swap f (inf false) (inf false) = refl
sub_swap f (inf s) (fin t n d) = refl
sub_swap f (fin s m e) nan = refl
sub_swap f (fin s m e) (inf t) = refl
sub_swap f (fin s m e) (fin t n d) =
    sum_swap f s t (m * up e * down d) (n * up d * down e) (down e * down d)
    ∙ ap (λ (i : ℕ). abs (sum f t (n * up d * down e) (not s) (m * up e * down d) i)) (mul_comm (down e) (down d))

square_abs : (f : Format) (x : Float) → mul f x x ≡ mul f (abs x) (abs x)
unfolding mul
square_abs f nan = refl
square_abs f (inf true) = refl
square_abs f (inf false) = refl
square_abs f (fin true m e) = refl
square_abs f (fin false m e) = refl

plus_abs : (x y : Float) → mul_add binary64 x x y ≡ mul_add binary64 (abs x) (abs x) y
unfolding mul_add mul
plus_abs nan y = refl
plus_abs (inf true) y = refl
plus_abs (inf false) y = refl
plus_abs (fin s m e) nan = refl
plus_abs (fin s m e) (inf t) = refl
plus_abs (fin true m e) (fin t n d) = refl
plus_abs (fin false m e) (fin t n d) = refl

pub distance_swap : (a b : Point) → distance_squared a b ≡ distance_squared b a
unfolding distance_squared
distance_swap a b =
    let dx = sub binary64 a.x b.x in
    let dy = sub binary64 a.y b.y in
    let ex = sub binary64 b.x a.x in
    let ey = sub binary64 b.y a.y in
    plus_abs dx (mul binary64 dy dy)
    ∙ ap (λ (z : Float). mul_add binary64 z z (mul binary64 dy dy)) (sub_swap binary64 a.x b.x)
    ∙ sym (plus_abs ex (mul binary64 dy dy))
    ∙ ap (λ (z : Float). mul_add binary64 ex ex z)
    (square_abs binary64 dy ∙ ap (λ (z : Float). mul binary64 z z) (sub_swap binary64 a.y b.y) ∙ sym (square_abs binary64 ey))
