-- What each call answers, and what its output slices hold afterwards: the refusals in their order, then the result. Definitions only.
use Rattle.std.specs.Prelude.{ℕ, Bool, List, [], ◌∷◌, length, Float}
use Rattle.std.proofs.Math.Option.{Option, none, some}
use Rattle.rules.specs.HandedOver.{Plate, order_room, straight_room, retrace_room, Answer, gives, refuses, distance_limit, refused_by, out_of_range, plate_rows, order_rows, retrace_rows, after}
use Rattle.rules.specs.Distances.{distance_squared, distance}
use Rattle.rules.specs.Start.{Oriented, start}
use Rattle.rules.specs.Retrace.{retrace}
use Rattle.rules.specs.Marks.{cut_kind, back_step_kind, jump_kind, touch_kind, Step, coordinates, marks, marks_of, vertices}
use Rattle.rules.specs.Lengths.{is_cut, is_back_step, is_jump_or_touch, length_along}
use Rattle.rules.specs.OrderAndStraight.{order, entries, straight}
use Rattle.rules.specs.declared.Point.{Point}
use Rattle.rules.specs.declared.Totals.{Totals}

-- squared and plain distance
unfoldable pub distance_call : Point → Point → Answer (Float × Float)
distance_call a b = refused_by (out_of_range distance_limit (a.x ∷ a.y ∷ b.x ∷ b.y ∷ []) ∷ []) (gives (distance_squared a b, distance a b))

-- contour number, and whether it is reversed
unfoldable pub start_or : Option Oriented → Answer (ℕ × Bool)
start_or none = refuses 7 0
start_or (some s) = gives (s.contour.number, s.reversed)

unfoldable pub start_call : Plate → Answer (ℕ × Bool)
start_call p = refused_by (plate_rows p) (start_or (start p))

-- `slice` is the order slice, w the length of the work slice
pub record OrderOutcome : Type 0 where
  pub answer : Answer ℕ
  pub order : List ℕ

unfoldable pub order_call : Plate → List ℕ → ℕ → OrderOutcome
order_call p slice w =
    let c = order_room (length slice) in
    let r = order p in
    let a = refused_by (order_rows p w c (length r)) (gives (length r)) in
    record { answer = a; order = after a c (entries r) slice }

-- `path` is the path slice, w the length of the work slice
pub record StraightOutcome : Type 0 where
  pub answer : Answer ℕ
  pub path : List Float

unfoldable pub straight_call : Plate → List Float → ℕ → StraightOutcome
straight_call p path w =
    let c = straight_room (length path) in
    let r = straight (order p) in
    let a = refused_by (order_rows p w c (length r)) (gives (length r)) in
    record { answer = a; path = after a c (coordinates p.points r) path }

-- The totals of n path points: how many cuts, back-steps, jumps and touches there are, and how long the cuts, the back-steps, and the jumps and touches are. xs and
-- ms are the coordinates and the marks of these points, and hold nothing else.
unfoldable pub totals : ℕ → List Float → List ℕ → Totals
totals n xs ms =
    record {
      points = n;
      cuts = marks_of cut_kind ms;
      back_steps = marks_of back_step_kind ms;
      jumps = marks_of jump_kind ms;
      touches = marks_of touch_kind ms;
      cut_length = length_along is_cut n xs ms;
      back_step_length = length_along is_back_step n xs ms;
      jump_length = length_along is_jump_or_touch n xs ms;
    }

-- the totals of a plate's path
unfoldable pub path_totals : Plate → List Step → Totals
path_totals p path = totals (length path) (coordinates p.points (vertices path)) (marks path)

-- `path` and `ms` are the path and the marks slice, w and d the lengths of the u32 and the f64 work slice
pub record RetraceOutcome : Type 0 where
  pub answer : Answer Totals
  pub path : List Float
  pub marks : List ℕ

unfoldable pub retrace_call : Plate → List Float → List ℕ → ℕ → ℕ → RetraceOutcome
retrace_call p path ms w d =
    let c = retrace_room (length path) (length ms) in
    let r = retrace p in
    let a = refused_by (retrace_rows p w d c (length r)) (gives (path_totals p r)) in
    record { answer = a; path = after a c (coordinates p.points (vertices r)) path; marks = after a c (marks r) ms }
