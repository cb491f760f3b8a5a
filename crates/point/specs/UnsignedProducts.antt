-- A product of floats with a clear sign has a clear sign, or is NaN. Over both formats. Assumes nothing.
use Rattle.std.specs.Prelude.{Bool, true, false, cond, T, eqb, Float}
use Rattle.std.specs.Float.{nan, inf, fin, Format}
use Rattle.std.specs.Float.Ieee.{mul}
use Rattle.point.specs.Squares.{unsigned, round_unsigned}

-- the infinity times a number, by whether this is 0
infinite_or_nan : (zero : Bool) → T (unsigned (cond zero nan (inf false)))
infinite_or_nan true = tt
infinite_or_nan false = tt

pub product_unsigned : (f : Format) (x y : Float) → T (unsigned x) → T (unsigned y) → T (unsigned (mul f x y))
unfolding mul
product_unsigned f nan y h k = tt
product_unsigned f (inf false) nan h k = tt
product_unsigned f (inf false) (inf true) h k = elim k [ ]
product_unsigned f (inf false) (fin true n d) h k = elim k [ ]
product_unsigned f (inf true) y h k = elim h [ ]
product_unsigned f (fin false m e) (inf true) h k = elim k [ ]
product_unsigned f (fin false m e) (fin true n d) h k = elim k [ ]
product_unsigned f (fin true m e) y h k = elim h [ ]
product_unsigned f (inf false) (inf false) h k = tt
product_unsigned f (inf false) (fin false n d) h k = infinite_or_nan (eqb n 0)
product_unsigned f (fin false m e) nan h k = tt
product_unsigned f (fin false m e) (inf false) h k = infinite_or_nan (eqb m 0)
product_unsigned f (fin false m e) (fin false n d) h k = round_unsigned f _ _
