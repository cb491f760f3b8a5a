-- What the comparison of floats and of points by their bits says: that they are the same. Assumes nothing.
use Rattle.std.specs.Prelude.{◌≡◌, refl, Bool, true, false, ◌&&◌, ℕ, T, eqb, ℤ, pos, negsuc, Float}
use Rattle.std.proofs.Common.{sym, ap, ◌∙◌, subst, eqb→eq}
use Rattle.std.specs.Bool.{beq}
use Rattle.std.proofs.Math.Dec.{eqb_refl}
use Rattle.std.specs.Float.{nan, inf, fin, Format}
use Rattle.std.specs.Float.Ieee.{fits, to_bits, of_bits}
use Rattle.std.specs.Float.Ieee.Bits.{of_bits-to_bits}
use Rattle.rules.specs.Bits.{same_exponent, same_float, same_point}
use Rattle.rules.specs.declared.Point.{Point}
use Rattle.division_laws.specs.Says.{Says, says_by, says_and, says_eqb, says_one}

beq_tells : (s t : Bool) → T (beq s t) → s ≡ t
beq_tells true true h = refl
beq_tells true false h = absurd h
beq_tells false true h = absurd h
beq_tells false false h = refl

beq_refl : (s : Bool) → T (beq s s)
beq_refl true = tt
beq_refl false = tt

says_beq : (s t : Bool) → Says (beq s t) (s ≡ t)
says_beq s t = record { tells = beq_tells s t; told = λ e. subst (λ (x : Bool). T (beq s x)) e (beq_refl s) }

exponent_tells : (e d : ℤ) → T (same_exponent e d) → e ≡ d
unfolding same_exponent
exponent_tells (pos a) (pos b) h = ap pos (eqb→eq a b h)
exponent_tells (pos a) (negsuc b) h = absurd h
exponent_tells (negsuc a) (pos b) h = absurd h
exponent_tells (negsuc a) (negsuc b) h = ap negsuc (eqb→eq a b h)

exponent_refl : (e : ℤ) → T (same_exponent e e)
unfolding same_exponent
exponent_refl (pos a) = eqb_refl a
exponent_refl (negsuc a) = eqb_refl a

says_exponent : (e d : ℤ) → Says (same_exponent e d) (e ≡ d)
says_exponent e d = record { tells = exponent_tells e d; told = λ h. subst (λ (x : ℤ). T (same_exponent e x)) h (exponent_refl e) }

says_finite : (s t : Bool) (m n : ℕ) (e d : ℤ) → Says (beq s t && eqb m n && same_exponent e d) (((s ≡ t) × (m ≡ n)) × (e ≡ d))
says_finite s t m n e d =
    says_and (beq s t && eqb m n) (same_exponent e d) ((s ≡ t) × (m ≡ n)) (e ≡ d)
    (says_and (beq s t) (eqb m n) (s ≡ t) (m ≡ n) (says_beq s t) (says_eqb m n)) (says_exponent e d)

float_tells : (a b : Float) → T (same_float a b) → a ≡ b
unfolding same_float
float_tells nan nan h = refl
float_tells nan (inf t) h = absurd h
float_tells nan (fin t n d) h = absurd h
float_tells (inf s) nan h = absurd h
float_tells (inf s) (inf t) h = ap inf (beq_tells s t h)
float_tells (inf s) (fin t n d) h = absurd h
float_tells (fin s m e) nan h = absurd h
float_tells (fin s m e) (inf t) h = absurd h
float_tells (fin s m e) (fin t n d) h = let q = (says_finite s t m n e d).tells h in rw (q.0.0, q.0.1, q.1)

float_refl : (a : Float) → T (same_float a a)
unfolding same_float
float_refl nan = tt
float_refl (inf s) = beq_refl s
float_refl (fin s m e) = (says_finite s s m m e e).told ((refl, refl), refl)

pub says_float : (a b : Float) → Says (same_float a b) (a ≡ b)
says_float a b = record { tells = float_tells a b; told = λ e. subst (λ (x : Float). T (same_float a x)) e (float_refl a) }

-- the bits of floats that fit a format, as those of an f64 do, are the same exactly if the floats are
pub says_bits : (f : Format) (a b : Float) → T (fits f a) → T (fits f b) → Says (eqb (to_bits f a) (to_bits f b)) (a ≡ b)
says_bits f a b x y =
    record {
      tells = λ t. sym (of_bits-to_bits f a x) ∙ ap (of_bits f) (eqb→eq (to_bits f a) (to_bits f b) t) ∙ of_bits-to_bits f b y;
      told = λ e. subst (λ (z : Float). T (eqb (to_bits f a) (to_bits f z))) e (eqb_refl (to_bits f a));
    }

pub same_bits : (f : Format) (a b : Float) → T (fits f a) → T (fits f b) → eqb (to_bits f a) (to_bits f b) ≡ same_float a b
same_bits f a b x y = says_one _ _ (a ≡ b) (says_bits f a b x y) (says_float a b)

abbrev point : Float → Float → Point
point a b = record { x = a; y = b }

point_same : (a b c d : Float) → a ≡ c → b ≡ d → point a b ≡ point c d
point_same a b c d e f = rw (e, f)

pub says_point : (a b : Point) → Says (same_point a b) (a ≡ b)
unfolding same_point
says_point a b =
    says_by (same_float a.x b.x && same_float a.y b.y) ((a.x ≡ b.x) × (a.y ≡ b.y)) (a ≡ b)
    (λ q. point_same a.x a.y b.x b.y q.0 q.1)
    (λ e. (ap (λ (z : Point). z.x) e, ap (λ (z : Point). z.y) e))
    (says_and (same_float a.x b.x) (same_float a.y b.y) (a.x ≡ b.x) (a.y ≡ b.y) (says_float a.x b.x) (says_float a.y b.y))
