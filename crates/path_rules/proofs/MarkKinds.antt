-- The kind and the reference of a mark, by the arm of a match. Assumes nothing.
use mathlib.Core.Path.{◌≡◌, refl, ap}
use mathlib.Core.Logic.{◌⊎◌, inl, inr}
use native.Mathlib.Omega.{arith}
use Rattle.rules.specs.Marks.{start_kind, cut_kind, back_step_kind, kind_of, reference_of}
use Rattle.rules.specs.declared.Vertex.{Vertex}
use Rattle.rules.specs.declared.Mark.{Mark}
use Rattle.rules.specs.declared.Mark.TheVariants.{Start, Cut, BackStep, Jump, Touch}

pub no_start_kind : (m : Mark) → ((v : Vertex) → m ≡ Start v → ⊥) → kind_of m ≡ start_kind → ⊥
no_start_kind (Start v) n e = n v refl
no_start_kind (Cut v) n e = omega (arith, e)
no_start_kind (BackStep k) n e = omega (arith, e)
no_start_kind (Jump v) n e = omega (arith, e)
no_start_kind (Touch v) n e = omega (arith, e)

-- a mark that names the vertex landed on
module _ (m : Mark) (v : Vertex) where
  abbrev pub IsLanding : Type 0
  IsLanding = (m ≡ Start v) ⊎ (m ≡ Jump v) ⊎ (m ≡ Touch v)

  pub landing_reference : IsLanding → reference_of m ≡ v.0
  landing_reference (inl e) = ap reference_of e
  landing_reference (inr (inl e)) = ap reference_of e
  landing_reference (inr (inr e)) = ap reference_of e

  pub landing_no_cut : IsLanding → kind_of m ≡ cut_kind → ⊥
  landing_no_cut (inl e) k = omega (arith, ap kind_of e, k)
  landing_no_cut (inr (inl e)) k = omega (arith, ap kind_of e, k)
  landing_no_cut (inr (inr e)) k = omega (arith, ap kind_of e, k)

  pub landing_no_back : IsLanding → kind_of m ≡ back_step_kind → ⊥
  landing_no_back (inl e) k = omega (arith, ap kind_of e, k)
  landing_no_back (inr (inl e)) k = omega (arith, ap kind_of e, k)
  landing_no_back (inr (inr e)) k = omega (arith, ap kind_of e, k)
