-- What the words of the work slice say of a landing. Assumes nothing.
use mathlib.Core.Path.{◌≡◌, subst}
use mathlib.Core.Bool.{true, false}
use mathlib.Core.List.{List}
use Prim.Native.Nat.{ℕ, ◌≤◌, ◌<◌}
use native.Mathlib.Omega.{arith}
use lib.Dec.{T, not_T, eqb}
use Rattle.std.proofs.lemmas.Float.{T_from_true}
use lib.Ieee.{Float}
use lib.Ieee.Bits.{is_false}
use Rattle.rules.specs.HandedOver.{Contour, at}
use Rattle.rules.specs.Bits.{same_point}
use Rattle.statement.specs.PathCheck.{lands_fresh}
use Rattle.division_laws.specs.Says.{says_by, says_one, says_eqb}
use Rattle.division_laws.specs.SameBits.{says_point}
use Rattle.division_laws.specs.Rules.{LandsFresh, says_lands}
use Rattle.path_rules.specs.PathWords.{Tallied}
use Rattle.path_rules.specs.Words.{contour_word, word_of}

module _ (cs : List Contour) (total : ℕ) (ms : List ℕ) (i : ℕ) (work : List ℕ) (t : Tallied cs total ms i work) (xs path : List Float)
    (v : ℕ) where
  refuted : (LandsFresh cs xs path ms i v → ⊥) → lands_fresh cs xs path ms i v ≡ false
  refuted f = is_false (lands_fresh cs xs path ms i v) (not_T (lands_fresh cs xs path ms i v) (λ q. f ((says_lands cs xs path ms i v).tells q)))

  -- no such vertex
  pub lands_off : total ≤ v → lands_fresh cs xs path ms i v ≡ false
  lands_off h = refuted (λ q. let f = q.1 in omega (arith, h, f.2.0, t.within f.0 f.1))

  -- another point
  pub lands_other : same_point (at path i) (at xs v) ≡ false → lands_fresh cs xs path ms i v ≡ false
  lands_other h = refuted (λ q. subst T h ((says_point (at path i) (at xs v)).told q.0))

  fresh_told : v < total → at path i ≡ at xs v → contour_word total work v ≡ 1 → LandsFresh cs xs path ms i v
  fresh_told h here z =
      let (c, m, o, e) = t.owner v h (omega (arith, z)) in
      (here, (c, m, (o, omega (arith, z, word_of cs total ms i work t c m v o))))

  fresh_tells : LandsFresh cs xs path ms i v → contour_word total work v ≡ 1
  fresh_tells q = let (c, m, (o, z)) = q.1 in omega (arith, z, word_of cs total ms i work t c m v o)

  -- at this point the word decides
  pub lands_here : v < total → same_point (at path i) (at xs v) ≡ true → eqb (contour_word total work v) 1 ≡ lands_fresh cs xs path ms i v
  lands_here h s =
      let here = (says_point (at path i) (at xs v)).tells (T_from_true _ s) in
      says_one (eqb (contour_word total work v) 1) (lands_fresh cs xs path ms i v) (contour_word total work v ≡ 1) (says_eqb (contour_word total work v) 1)
      (says_by (lands_fresh cs xs path ms i v) (LandsFresh cs xs path ms i v) (contour_word total work v ≡ 1) fresh_tells (fresh_told h here)
      (says_lands cs xs path ms i v))
