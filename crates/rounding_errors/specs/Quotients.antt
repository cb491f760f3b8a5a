-- A quotient of floats above 0, in units of the format's smallest value, with its error. Assumes nothing.
use Rattle.std.specs.Prelude.{◌≡◌, refl, Bool, true, false, cond, ℕ, ◌-◌, ◌*◌, ◌^◌, ◌≤◌, ◌<◌, T, eqb, Float}
use Rattle.std.proofs.Common.{sym, ap, ◌∙◌, subst, mul-pos, arith, eqb→eq, ltb→lt, pow_pos}
use Rattle.std.proofs.Math.Nat.{eq_of_mul-eq-mul_right}
use Rattle.std.specs.Float.{nan, inf, fin, Format}
use Rattle.std.specs.Float.Ieee.{prec, low, up, down, round, div}
use Rattle.std.specs.Float.Ieee.Positive.{num, den, den_pos, positive, first_pos}
use Rattle.std.specs.Float.Ieee.Scale.{round_same}
use Rattle.rounding_errors.specs.NearFraction.{Near}
use Rattle.rounding_errors.specs.Units.{At, positive_at}
use Rattle.rounding_errors.specs.Results.{fraction_result}

div_is : (f : Format) (x y : Float) → T (positive x) → T (positive y) → div f x y ≡ round f false (num x * den y) (num y * den x)
unfolding div
div_is f nan y hx hy = elim hx [ ]
div_is f (inf _) y hx hy = elim hx [ ]
div_is f (fin false m e) nan hx hy = elim hy [ ]
div_is f (fin false m e) (inf _) hx hy = elim hy [ ]
div_is f (fin false m e) (fin true n d) hx hy = elim hy [ ]
div_is f (fin true m e) y hx hy = elim hx [ ]
div_is f (fin false m e) (fin false n d) hx hy = go (eqb n 0) (eqb→eq n 0)
  where
    go : (b : Bool) → (T b → n ≡ 0) →
        cond b (cond (eqb m 0) nan (inf false)) (round f false (m * up e * down d) (n * up d * down e)) ≡ round f false (m * up e * down d) (n * up d * down e)
    go true h = let z = h tt in absurd (omega (arith, ltb→lt 0 n hy))
    go false h = refl

-- x is p units and y is q: their quotient is p / q
pub div_up : (f : Format) (x y : Float) (p q : ℕ) → At f x p 0 → At f y q 0 → 0 < p → 0 < q → 2 ^ (prec f - 1) * q ≤ p * 2 ^ low f → p ≤ 2 ^ 100 * q →
    (w : ℕ) × At f (div f x y) w 0 × Near f (w * q) (p * 2 ^ low f)
div_up f x y p q hx hy P Q N h =
    let L = 2 ^ low f in
    let l = pow_pos (low f) in
    let a = positive_at f x p hx P in
    let b = positive_at f y q hy Q in
    let some : 0 < num y = first_pos (num y) L (rw b.1 (mul-pos Q (den_pos y))) in
    let e = eq_of_mul-eq-mul_right L l _ _ (flat (num x) (num y) (den x) (den y) L a.1 b.1) in
    let same = round_same f false (num x * den y) (num y * den x) p q (mul-pos some (den_pos x)) Q e in
    let r = fraction_result f false p q Q N h in
    (r.0, subst (λ (z : Float). At f z r.0 0) (sym (div_is f x y a.0 b.0 ∙ same)) r.1, r.2)
  where
    flat : (X Y c d l : ℕ) → X * l ≡ p * c → Y * l ≡ q * d → X * d * q * l ≡ p * (Y * c) * l
    flat X Y c d l u v = omega (arith, ap (λ (i : ℕ). i * (d * q)) u, ap (λ (i : ℕ). i * (p * c)) v)
