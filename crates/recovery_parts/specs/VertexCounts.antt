-- The count of vertices with one path point more, which lands or does not. Assumes nothing.
use Rattle.std.specs.Prelude.{◌≡◌, refl, Bool, true, false, List, ℕ, ◌+◌, max, get_or}
use Rattle.std.proofs.Common.{arith, add-one}
use Rattle.rules.specs.Tools.{pick}
use Rattle.contour_recovery.specs.ContourRecovery.{vertex_count}
use Rattle.recovery_laws.specs.LandedVertices.{lands, lands_on_it}

module _ (ms vs : List ℕ) (i : ℕ) where
  abbrev v : ℕ
  v = get_or vs i 0

  count_next : (b : Bool) → lands ms i ≡ b → vertex_count ms vs (i + 1) ≡ max (vertex_count ms vs i) (pick b (v + 1) 0)
  unfolding vertex_count
  count_next b e = rw (add-one i, vertex_count) (rw (lands_on_it ms vs i v refl, e, add-one v) refl)

  pub count_landing : lands ms i ≡ true → vertex_count ms vs (i + 1) ≡ max (vertex_count ms vs i) (v + 1)
  unfolding pick
  count_landing e = count_next true e

  pub count_passing : lands ms i ≡ false → vertex_count ms vs (i + 1) ≡ vertex_count ms vs i
  unfolding pick
  count_passing e = rw (count_next false e) (omega arith)
