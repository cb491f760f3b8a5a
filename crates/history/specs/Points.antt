-- The points of a slice that begins with the coordinates of some steps are those of the definitions' path. Assumes nothing.
use Rattle.std.specs.Prelude.{◌≡◌, refl, List, [], ◌∷◌, ◌++◌, map, ℕ, zero, suc, ◌+◌, ◌*◌, Float, length}
use Rattle.std.proofs.Common.{ap, ◌∙◌, arith}
use Rattle.rules.specs.Tools.{up_from}
use Rattle.rules.specs.HandedOver.{Plate, at}
use Rattle.rules.specs.Retrace.{path_points}
use Rattle.rules.specs.Marks.{Step, coordinates, vertices}
use Rattle.rules.specs.declared.Point.{Point}
use Rattle.history.specs.History.{points}

at_later : (x y : Float) (path : List Float) (i : ℕ) → at (x ∷ y ∷ path) (suc i) ≡ at path i
unfolding at
at_later x y path i =
    let e : 2 * suc i ≡ suc (suc (2 * i)) = omega arith in
    let f : 2 * suc i + 1 ≡ suc (suc (2 * i + 1)) = omega arith in
    rw (f, e)

points_later : (x y : Float) (path : List Float) (i n : ℕ) → map (at (x ∷ y ∷ path)) (up_from (suc i) n) ≡ map (at path) (up_from i n)
points_later x y path i zero = refl
points_later x y path i (suc n) = rw (at_later x y path i, points_later x y path (suc i) n)

pub points_are : (p : Plate) (steps : List Step) (rest : List Float) →
    points (coordinates p.points (vertices steps) ++ rest) (length steps) ≡ path_points p steps
unfolding points coordinates vertices path_points at
points_are p [] rest = refl
points_are p (s ∷ steps) rest =
    ap (λ (ps : List Point). at p.points s.vertex ∷ ps)
    (points_later _ _ (coordinates p.points (vertices steps) ++ rest) 0 (length steps) ∙ points_are p steps rest)
