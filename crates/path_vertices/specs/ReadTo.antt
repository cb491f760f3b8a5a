-- What is known of a path with marks while it is read. Assumes nothing.
use Rattle.std.specs.Prelude.{◌≡◌, true, List, [], ℕ, ◌<◌, get_or, Float}
use Rattle.rules.specs.Marks.{vertices_after}
use Rattle.contour_recovery.specs.ContourRecovery.{landed, consistent}
use Rattle.landings.specs.declared.words.Landings.{Landings}
use Rattle.landings.specs.LandedBefore.{LandedBefore}

-- The first i path points keep the rules of marks, and the words are those after them.
pub record ReadTo (w : Landings) (path : List Float) (ms : List ℕ) (i : ℕ) : Type 0 where
  pub kept : (j : ℕ) → j < i → consistent path ms (vertices_after [] ms) j ≡ true
  pub vertices : (j : ℕ) → j < i → get_or w.vertices.now j 0 ≡ get_or (vertices_after [] ms) j 0
  pub landings : LandedBefore w (landed ms (vertices_after [] ms) i) i
