-- What is known of a path before its lengths are added up. Definitions only.
use Rattle.std.specs.Prelude.{◌≡◌, List, ℕ, suc, ◌*◌, ◌<◌, Float, length}
use Rattle.rules.specs.HandedOver.{at}
use Rattle.rules.specs.Marks.{start_kind, back_step_kind, kind_at, reference_at}
use Rattle.statement.specs.Division.{BackStep}
use Rattle.rules.specs.declared.Point.{Point}
use Rattle.plate_laws.specs.FiniteDistances.{OnPlate}

-- an accepted point
abbrev pub PointOnPlate : Point → Type 0
PointOnPlate a = OnPlate a.x × OnPlate a.y

-- A path and its marks, of n points and no more: the points are accepted, the first mark is a start, and each back-step reverses an earlier pair.
pub record Walked (path : List Float) (ms : List ℕ) (n : ℕ) : Type 0 where
  pub whole : (length path ≡ 2 * n) × (length ms ≡ 2 * n)
  pub on_plate : (k : ℕ) → k < n → PointOnPlate (at path k)
  pub start : 0 < n → kind_at ms 0 ≡ start_kind
  pub back : (k : ℕ) → suc k < n → kind_at ms (suc k) ≡ back_step_kind → BackStep (at path) k (reference_at ms (suc k))
