-- Floats of which one is no number, compared as the same. Assumes nothing.
use mathlib.Core.Path.{◌≡◌, refl}
use mathlib.Core.Bool.{true, false}
use lib.Ieee.{Float, nan, inf, fin, is_nan}
use Rattle.rules.specs.Bits.{same_float}

pub nan_same : (a b : Float) → true ≡ is_nan a → is_nan b ≡ same_float a b
unfolding is_nan same_float
nan_same nan nan h = refl
nan_same nan (inf s) h = refl
nan_same nan (fin s m e) h = refl
nan_same (inf s) b h = cc
nan_same (fin s m e) b h = cc

pub one_nan : (a b : Float) → false ≡ is_nan a → true ≡ is_nan b → false ≡ same_float a b
unfolding is_nan same_float
one_nan nan b h k = cc
one_nan (inf s) nan h k = refl
one_nan (inf s) (inf t) h k = cc
one_nan (inf s) (fin t m e) h k = cc
one_nan (fin s m e) nan h k = refl
one_nan (fin s m e) (inf t) h k = cc
one_nan (fin s m e) (fin t n f) h k = cc
