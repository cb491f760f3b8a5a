-- Points compared by their bits. Definitions only.
use Rattle.std.specs.Prelude.{Bool, true, false, ◌&&◌, eqb, ℤ, pos, negsuc, Float}
use Rattle.std.specs.Bool.{beq}
use Rattle.std.specs.Float.{nan, inf, fin}
use Rattle.rules.specs.declared.Point.{Point}

unfoldable pub same_exponent : ℤ → ℤ → Bool
same_exponent (pos a) (pos b) = eqb a b
same_exponent (pos a) (negsuc b) = false
same_exponent (negsuc a) (pos b) = false
same_exponent (negsuc a) (negsuc b) = eqb a b

-- The same float, 0 and −0 being two. A number of an f64 is written in one way, so two of these are the same exactly if their bits are (`same_bits`,
-- division_laws/specs/SameBits.antt). All NaNs are one here. Which bits a NaN has cannot count: it is no vertex of an accepted plate, so the first path point that
-- has one breaks a rule.
unfoldable pub same_float : Float → Float → Bool
same_float nan nan = true
same_float nan (inf t) = false
same_float nan (fin t n f) = false
same_float (inf s) nan = false
same_float (inf s) (inf t) = beq s t
same_float (inf s) (fin t n f) = false
same_float (fin s m e) nan = false
same_float (fin s m e) (inf t) = false
same_float (fin s m e) (fin t n f) = beq s t && eqb m n && same_exponent e f

unfoldable pub same_point : Point → Point → Bool
same_point a b = same_float a.x b.x && same_float a.y b.y
