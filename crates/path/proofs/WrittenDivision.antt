-- The corollary `written_statement : WrittenStatement` of the path statement, which is defined in specs/WrittenDivision.antt. Assumes nothing.
use Rattle.std.specs.Prelude.{◌≡◌, refl, List, ℕ, ◌*◌, ◌≤◌, ◌<◌, length, take}
use Rattle.std.proofs.Common.{sym, ◌∙◌, arith, length-take}
use Rattle.rules.specs.HandedOver.{at, contours}
use Rattle.rules.specs.GridAndNearest.{grid_of}
use Rattle.rules.specs.Marks.{vertex_in}
use Rattle.rules.specs.Calls.{retrace_call}
use Rattle.rules.specs.declared.Point.{Point}
use Rattle.statement.specs.Division.{itself, NotEntered}
use Rattle.statement.specs.PathStatement.{PathStatement}
use Rattle.division_laws.specs.Maps.{division_maps, cells_same}
use Rattle.path.specs.Theorem.{path_statement}
use Rattle.path.specs.WrittenDivision.{WrittenStatement, at_take}

room_taken : {A : Type 0} (n : ℕ) (xs : List A) → length (take n xs) ≡ n → n ≤ length xs
room_taken n xs e = omega (arith, length-take n xs)

pub written_statement : WrittenStatement
unfolding WrittenStatement PathStatement
written_statement p path ms w d c e h =
    let o = retrace_call p path ms w d in
    let n = c.points in
    let divides = (path_statement p path ms w d c e h).3 in
    let v = vertex_in (take (2 * n) o.marks) in
    let x : ℕ → Point = λ i. at p.points (v i) in
    let has : (i : ℕ) → i < n → at o.path i ≡ x i = λ i l. sym (at_take n o.path i l) ∙ divides.coordinates i l in
    record {
      room = (room_taken (2 * n) o.path divides.whole, room_taken (2 * n) o.marks divides.division.whole);
      coordinates = has;
      division =
          division_maps (at p.points) (contours p) itself v (at p.points) (at o.path) x (at o.path) n
          (record { vertex = λ r. refl; point = has; coordinates = has })
          (NotEntered v) (NotEntered v) (λ k l q free. free) (take (2 * n) o.marks) divides.division;
      nine_cells = cells_same (grid_of p.box) x (at o.path) n (take (2 * n) o.marks) has divides.nine_cells;
      kinds = divides.kinds;
    }
