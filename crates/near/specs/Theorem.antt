-- The theorems of this crate, `how_near_by_rules : HowNearByRules` and `how_near : HowNear` below: document 02's ticket 8. Both are defined, in words beside
-- their symbols, in crates/statement/specs/HowNear.antt. The first is of the path that the documents' rules give every accepted plate, the second of what a call
-- has written: the whole path, or the beginning of one that outgrows C.
--
-- The way to them. A coordinate's cell is the whole part of its difference from the origin times the reciprocal of the cell size (AlongAxis): three roundings of
-- at most 2 ^ -53 each, so that two points whose cells are r columns or rows apart are r - 1 cell sizes apart along that axis but for a few 2 ^ 40ths; the
-- bound of ring r and a squared distance are such roundings too (Products, RingBounds). So what a search that is left at ring r has not seen is at most
-- 17 / 2 ^ 40 nearer than the bound, and so than what was found; what it has seen is not nearer at all (Search). A contour enters the path from the place that
-- is found for its landing, and all path points before the landing have vertices of those that were searched (Landings, by the induction over the joining in
-- crates/path). Assumes nothing.
use Rattle.std.specs.Prelude.{◌≡◌, refl, Bool, true, false, List, ℕ, suc, ◌+◌, ◌*◌, ◌≤◌, ◌<◌, eqb, Float, take}
use Rattle.std.proofs.Math.Path.{sym, ap}
use Rattle.std.proofs.Common.{◌∙◌, subst, arith, take_all, eqb-true}
use Rattle.std.specs.Float.{binary64}
use Rattle.std.specs.Float.Ieee.{nan}
use Rattle.std.specs.Float.Ieee.Fits.{inf-fits}
use Rattle.std.proofs.Math.ListN.{length}
use Rattle.rules.specs.Tools.{pick, sum}
use Rattle.rules.specs.HandedOver.{IsF64, AllF64, Plate, at, Answer, gives, refuses, retrace_room}
use Rattle.rules.specs.Box.{box}
use Rattle.rules.specs.Retrace.{vertex_of, retrace}
use Rattle.rules.specs.Marks.{coordinates, marks, kind_at, vertices}
use Rattle.rules.specs.Calls.{retrace_call}
use Rattle.statement.specs.Division.{IsJumpOrTouch}
use Rattle.statement.specs.HowNear.{LandingsNear, written_points, IsAccepted, HowNearByRules, HowNear}
use Rattle.rules.specs.declared.Totals.{Totals}
use Rattle.plate_laws.specs.Lists.{All, all-at, all-places}
use Rattle.plate_laws.specs.AcceptedInput.{Accepted, input_gives, OfPlate, point_on}
use Rattle.plate_laws.specs.Start.{AllTakePart, layered_part}
use Rattle.plate_laws.specs.Nearest.{grid_for}
use Rattle.plate_laws.specs.Slices.{coordinates_length, marks_length, vertices_length, kind_at_lem, point_is}
use Rattle.path.specs.Theorem.{retrace_gives, retrace_full, slice_begun, retrace_leaves}
use Rattle.path.specs.WrittenDivision.{at_take, kind_take}
use Rattle.rounding_errors.specs.Boxes.{box_sides, accepted_sound}
use Rattle.rounding_errors.specs.BoxGrid.{SoundGrid, gridded}
use Rattle.near.specs.RingBounds.{OnAxes}
use Rattle.near.specs.BoxBounds.{box_holds}
use Rattle.length_laws.specs.EitherWay.{distance_swap}
use Rattle.near.specs.Landings.{retrace_landed}

-- ---- the path of the rules

f64_at : (xs : List Float) (v : ℕ) → All IsF64 xs → 2 * v + 1 < length xs → IsF64 (at xs v).x × IsF64 (at xs v).y
unfolding at
f64_at xs v a l = (all-at IsF64 nan xs a (2 * v) (omega arith), all-at IsF64 nan xs a (2 * v + 1) l)

-- a plate of f64 points that refusals 1 to 4 let pass, in their own box
module _ (p : Plate) (f64 : AllF64 p.points) (own : p.box ≡ box p.points) (accepted : Accepted p.points p.lengths) where
  all_f64 : All IsF64 p.points
  unfolding AllF64
  all_f64 = all-places IsF64 nan p.points f64

  inside_at : (v : ℕ) → OfPlate p v → OnAxes p.box (at p.points v)
  inside_at v h =
      let xs = p.points in
      let l : 2 * v + 1 < length xs = omega (arith, accepted.counted) in
      let on = point_on xs v accepted.on_plate l in
      let f = f64_at xs v all_f64 l in
      let b = box_holds xs accepted.on_plate v l in
      rw own
      (record {
        x = record { f64 = f.0; on_plate = on.0; least = b.x };
        y = record { f64 = f.1; on_plate = on.1; least = b.y };
      })

  grid_of : 0 < sum p.lengths → SoundGrid p.box (grid_for p)
  grid_of h =
      rw own
      (gridded (box p.points) (box_sides IsF64 p.points (inf-fits binary64) all_f64) (accepted_sound p.points p.lengths accepted h))

  landings_near : AllTakePart p → LandingsNear (coordinates p.points (vertices (retrace p))) (marks (retrace p)) (length (retrace p))
  unfolding LandingsNear
  landings_near part k l t i x =
      let r = retrace p in
      rw (
        point_is p.points r (suc k) l,
        point_is p.points r k (omega arith),
        point_is p.points r i (omega arith),
        distance_swap (at p.points (vertex_of r k)) (at p.points (vertex_of r (suc k))),
        distance_swap (at p.points (vertex_of r i)) (at p.points (vertex_of r (suc k))),
      )
      (retrace_landed p grid_of inside_at part k l (subst IsJumpOrTouch (kind_at_lem r (suc k) l) t) i x)

pub how_near_by_rules : HowNearByRules
unfolding HowNearByRules IsAccepted
how_near_by_rules p f64 own accepted =
    let (sound, layered, parked, same) = input_gives p.points p.lengths p.layers p.strategy _ tt accepted in
    landings_near p f64 own sound (layered_part p layered)

-- ---- what a call has written

-- slices that begin with the first n path points of others
near_begun : (path path' : List Float) (ms ms' : List ℕ) (n m : ℕ) → n ≤ m → take (2 * n) path ≡ take (2 * n) path' → take (2 * n) ms ≡ take (2 * n) ms' →
    LandingsNear path' ms' m → LandingsNear path ms n
unfolding LandingsNear
near_begun path path' ms ms' n m le points kinds h k l t i x =
    let point : (j : ℕ) → j < n → at path j ≡ at path' j =
    λ j y. sym (at_take n path j y) ∙ ap (λ (zs : List Float). at zs j) points ∙ at_take n path' j y in
    let kind : kind_at ms (suc k) ≡ kind_at ms' (suc k) =
    sym (kind_take n ms (suc k) l) ∙ ap (λ (zs : List ℕ). kind_at zs (suc k)) kinds ∙ kind_take n ms' (suc k) l in
    rw (point (suc k) l, point k (omega arith), point i (omega arith)) (h k (omega arith) (subst IsJumpOrTouch kind t) i x)

module _ (p : Plate) (path : List Float) (ms : List ℕ) (w d : ℕ) (f64 : AllF64 p.points) (own : p.box ≡ box p.points) where
  abbrev xs : List Float
  xs = coordinates p.points (vertices (retrace p))

  abbrev room : ℕ
  room = retrace_room (length path) (length ms)

  xs_length : length xs ≡ 2 * length (retrace p)
  xs_length = omega (arith, coordinates_length p.points (vertices (retrace p)), vertices_length (retrace p))

  near_result : (c : Totals) → (retrace_call p path ms w d).answer ≡ gives c →
      LandingsNear (retrace_call p path ms w d).path (retrace_call p path ms w d).marks c.points
  near_result c e =
      let (accepted, part, counted) = retrace_gives p path ms w d c e in
      let l = retrace_leaves p path ms w d c e in
      let r = retrace p in
      near_begun _ xs _ (marks r) c.points (length r) (omega (arith, l.points))
      (l.path_front ∙ sym (take_all (2 * c.points) xs (omega (arith, xs_length, l.points))))
      (l.marks_front ∙ sym (take_all (2 * c.points) (marks r) (omega (arith, marks_length r, l.points))))
      (landings_near p f64 own accepted part)

  near_full : (k : ℕ) → (retrace_call p path ms w d).answer ≡ refuses 6 k →
      LandingsNear (retrace_call p path ms w d).path (retrace_call p path ms w d).marks k
  unfolding retrace_call
  near_full k e =
      let (accepted, part, same, more) = retrace_full p path ms w d k e in
      let r = retrace p in
      near_begun _ xs _ (marks r) k (length r) (omega arith)
      (slice_begun _ k room xs path e same (omega (arith, xs_length))) (slice_begun _ k room (marks r) ms e same (omega (arith, marks_length r)))
      (landings_near p f64 own accepted part)

pub how_near : HowNear
unfolding HowNear written_points pick
how_near p path ms w d f64 own = go (retrace_call p path ms w d).answer refl
  where
    go : (a : Answer Totals) → (retrace_call p path ms w d).answer ≡ a →
        LandingsNear (retrace_call p path ms w d).path (retrace_call p path ms w d).marks (written_points a)
    go (gives c) e = near_result p path ms w d f64 own c e
    go (refuses number place) e = six (eqb number 6) refl
      where
        six : (t : Bool) → eqb number 6 ≡ t → LandingsNear (retrace_call p path ms w d).path (retrace_call p path ms w d).marks (pick t place 0)
        six true t = near_full p path ms w d f64 own place (rw (eqb-true number 6 t) at e)
        six false t = unfold LandingsNear in λ k l. absurd (omega arith)
