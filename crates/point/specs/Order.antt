-- The order of floats, of both formats: what is below a float is neither above it nor equal to it. Assumes nothing.
use Rattle.std.specs.Prelude.{◌≡◌, refl, Bool, true, false, ◌&&◌, ℕ, ◌+◌, ◌*◌, T, eqb, Float}
use Rattle.std.proofs.Math.Bool.{and-false}
use Rattle.std.proofs.Common.{arith, le-ltb, ne_eqb, ltb→lt}
use Rattle.std.proofs.Math.Decide.{ℕ_discrete}
use Rattle.std.specs.Float.{nan, inf, fin}
use Rattle.std.specs.Float.Ieee.{up, down, below, level, lt, eq}

-- ---- nothing is above the infinity, and nothing is below NaN

pub infinity_top : (x : Float) → T (lt (inf false) x) → ⊥
unfolding lt
infinity_top (inf _) h = elim h [ ]
infinity_top (fin _ _ _) h = elim h [ ]
infinity_top nan h = h

pub not_below_nan : (x : Float) → T (lt x nan) → ⊥
unfolding lt
not_below_nan (inf _) h = elim h [ ]
not_below_nan (fin _ _ _) h = elim h [ ]
not_below_nan nan h = h

-- ---- what is below is not above, and not equal

below_turned : (s : Bool) (a : ℕ) (t : Bool) (b : ℕ) → T (below s a t b) → below t b s a ≡ false
below_turned false a true b h = elim h [ ]
below_turned false a false b h = le-ltb b a (omega (arith, ltb→lt a b h))
below_turned true a false b h = refl
below_turned true a true b h = le-ltb a b (omega (arith, ltb→lt b a h))

pub lt_turned : (x y : Float) → T (lt x y) → lt y x ≡ false
unfolding lt
lt_turned nan y h = elim h [ ]
lt_turned (inf true) nan h = elim h [ ]
lt_turned (inf true) (inf true) h = elim h [ ]
lt_turned (fin s m e) nan h = elim h [ ]
lt_turned (fin s m e) (inf true) h = elim h [ ]
lt_turned (inf true) (inf false) h = refl
lt_turned (inf true) (fin t n d) h = refl
lt_turned (inf false) y h = absurd (infinity_top y h)
lt_turned (fin s m e) (inf false) h = refl
lt_turned (fin s m e) (fin t n d) h = below_turned s (m * up e * down d) t (n * up d * down e) h

below_level : (s : Bool) (a : ℕ) (t : Bool) (b : ℕ) → T (below s a t b) → level t b s a ≡ false
below_level false a true b h = elim h [ ]
below_level false a false b h = rw (ne_eqb b a (λ e. omega (arith, e, ltb→lt a b h)))
below_level true a true b h = rw (ne_eqb b a (λ e. omega (arith, e, ltb→lt b a h)))
below_level true a false b h = go (ℕ_discrete b 0)
  where
    go : Dec (b ≡ 0) → (eqb b a && eqb b 0) ≡ false
    go (yes z) = rw (ne_eqb b a (λ e. omega (arith, e, z, ltb→lt 0 (a + b) h)))
    go (no z) = rw (ne_eqb b 0 z) (and-false (eqb b a))

pub lt_not_eq : (x y : Float) → T (lt x y) → eq y x ≡ false
unfolding lt eq
lt_not_eq nan y h = elim h [ ]
lt_not_eq (inf true) nan h = elim h [ ]
lt_not_eq (inf true) (inf true) h = elim h [ ]
lt_not_eq (fin s m e) nan h = elim h [ ]
lt_not_eq (fin s m e) (inf true) h = elim h [ ]
lt_not_eq (inf true) (inf false) h = refl
lt_not_eq (inf true) (fin t n d) h = refl
lt_not_eq (inf false) y h = absurd (infinity_top y h)
lt_not_eq (fin s m e) (inf false) h = refl
lt_not_eq (fin s m e) (fin t n d) h = below_level s (m * up e * down d) t (n * up d * down e) h
