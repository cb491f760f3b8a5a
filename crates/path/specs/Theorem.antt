-- The theorem of this crate: the path statement (demand 3), `path_statement : PathStatement` below. `PathStatement` is defined, with all that it names, in
-- crates/statement/specs/PathStatement.antt. It says of every plate p, every path slice `path` and marks slice `ms`, and all lengths w and d of the work slices:
-- where the retrace call answers with the counts c (o.answer ≡ gives c, o being what the call answers and leaves), and p has one contour or more that is
-- not empty (1 ≤ contour_count p), then, r being the path that the documents' rules give (retrace p),
--
--   c ≡ path_totals p r                    the counts, and the lengths, are those of that path: its points, and its marks of each kind;
--   o.path ≡ coordinates .. ++ drop ..     the path slice begins with the coordinates of that path, and holds beyond them what it held;
--   o.marks ≡ marks r ++ drop ..           the marks slice begins with the marks of that path, likewise;
--   Divides p c (take ..) (take ..)         what was written divides into cuts, back-steps, jumps and touches:
--     whole         there are two coordinates for each path point;
--     coordinates   each path point has the coordinates of the vertex that the marks give it;
--     division      by those vertices the marks divide the path (`Division`, in crates/statement/specs/Division.antt):
--       whole         there are two numbers of marks for each path point;
--       start         the first mark is a start, and names a vertex of a contour, which path point 0 has;
--       pairs         path points k and k + 1 are what the mark of path point k + 1 says, by its kind and its reference m:
--                       a cut, that is segment m of a contour in one of its two senses;
--                       a back-step, that is the pair of path points m and m + 1, which is earlier, reversed;
--                       or a jump or a touch, to vertex m of a contour that no earlier path point is of; a jump's two points differ numerically, and a
--                       touch's are numerically equal;
--       cuts, jumps   there are S cuts, S being the number of segments, and n − 1 jumps and touches, n being the number of contours;
--       points        there are S + B + n path points, B being the number of back-steps: so no pair is anything else;
--       once          each segment of each contour is cut exactly once;
--     nine_cells    no earlier path point in the nine cells around a landing is nearer, by squared distances as document 01 computes them, than the one left;
--     kinds         c counts the marks of each kind.
--
-- The pairs are proved in JumpsAndTouches (over Pairs, Runs and Emission; the nine cells in plate_laws/specs/Nearest.antt, over Squares and Rings), the numbers
-- in Totals (over Shares), both by the induction over the joining in Induction; the slices in MarkedVertices and in plate_laws/specs/Slices.antt; and what a
-- result says of the plate in plate_laws/specs/AcceptedInput.antt. Assumes nothing.
use Rattle.std.specs.Prelude.{◌≡◌, refl, List, [], ◌∷◌, ◌++◌, ℕ, suc, ◌*◌, ◌≤◌, ◌<◌, Float, length, take, drop}
use Rattle.std.proofs.Common.{sym, ap, ◌∙◌, arith, ltb→lt, length-take-le, take_at}
use Rattle.rules.specs.Tools.{pick, every}
use Rattle.rules.specs.HandedOver.{Plate, Answer, gives, refuses, retrace_room, refused_by, work_short, full, plate_rows, retrace_work, retrace_rows, over, after}
use Rattle.rules.specs.Retrace.{vertex_of, retrace}
use Rattle.rules.specs.Marks.{coordinates, marks, vertices, kind_at, reference_at, vertex_in}
use Rattle.rules.specs.Calls.{totals, path_totals, retrace_call}
use Rattle.statement.specs.PathStatement.{Divides, PathStatement}
use Rattle.rules.specs.Contours.{contour_count, segment_count, OfContour}
use Rattle.rules.specs.declared.Totals.{Totals}
use Rattle.plate_laws.specs.Rows.{rows_other, rows_give, rows_append, lacks_other, row_tells}
use Rattle.plate_laws.specs.AcceptedInput.{Accepted, input_other, input_gives, input_lacks, Measurable, accepted_measurable}
use Rattle.plate_laws.specs.Start.{AllTakePart, layered_part}
use Rattle.path.specs.Pairs.{PlatePair, pair_same, divided_some, divided_start, divided_pairs, divided_length}
use Rattle.path.specs.JumpsAndTouches.{retrace_divided}
use Rattle.path.specs.Totals.{retrace_cuts, retrace_jumps, retrace_once}
use Rattle.path.specs.MarkedVertices.{vertex_in_lem}
use Rattle.plate_laws.specs.Slices.{coordinates_length, marks_length, vertices_length, kind_at_lem, reference_at_lem, coordinates_at, vertices_at}

-- the path of the documents' rules, as slices
pub retrace_divides : (p : Plate) → Measurable p → AllTakePart p → 1 ≤ contour_count p →
    Divides p (path_totals p (retrace p)) (coordinates p.points (vertices (retrace p))) (marks (retrace p))
unfolding contour_count segment_count OfContour vertex_of totals path_totals
retrace_divides p m t h =
    let path = retrace p in
    let d = retrace_divided p m t h in
    let v = vertex_in_lem p path d in
    let some = divided_some p path d in
    let start = divided_start p path d in
    let n = vertices_length path in
    let pair : (k : ℕ) → suc k < length path → PlatePair p (vertex_in (marks path)) k (kind_at (marks path) (suc k)) (reference_at (marks path) (suc k)) =
    λ k l.
    rw (kind_at_lem path (suc k) l, reference_at_lem path (suc k) l)
    (pair_same p (vertex_in (marks path)) (vertex_of path) (length path) (λ i x. v i) k l _ _ (divided_pairs p path d k l)) in
    let cuts = retrace_cuts p t h in
    let jumps = retrace_jumps p t h in
    record {
      whole = omega (arith, coordinates_length p.points (vertices path));
      coordinates = λ k l. rw (v k, ← vertices_at path k) (coordinates_at p.points (vertices path) k (omega arith));
      division =
          record {
            whole = marks_length path;
            start =
                λ l. (
                  kind_at_lem path 0 some ∙ start.kind,
                  rw (reference_at_lem path 0 some) start.of,
                  rw (reference_at_lem path 0 some) (v 0 ∙ start.named),
                );
            pairs = λ k l. (pair k l).0;
            cuts = cuts;
            jumps = λ l. jumps;
            points = omega (arith, divided_length p path d);
            once = retrace_once p t h;
          };
      nine_cells = λ k l. (pair k l).1;
      kinds = (refl, refl, refl, refl);
    }

-- what it means that the call answers with counts
pub retrace_gives : (p : Plate) (path : List Float) (ms : List ℕ) (w d : ℕ) (c : Totals) → (retrace_call p path ms w d).answer ≡ gives c →
    Accepted p.points p.lengths × AllTakePart p × (c ≡ path_totals p (retrace p))
unfolding retrace_call retrace_rows
retrace_gives p path ms w d c e =
    let accepted = input_gives p.points p.lengths p.layers p.strategy _ c (sym (rows_append (plate_rows p) _ _) ∙ e) in
    let same = (rows_give _ _ c accepted.3).1 in
    (accepted.0, layered_part p accepted.1, cc same)

-- and with refusal 6
pub retrace_full : (p : Plate) (path : List Float) (ms : List ℕ) (w d k : ℕ) → (retrace_call p path ms w d).answer ≡ refuses 6 k →
    Accepted p.points p.lengths × AllTakePart p × (k ≡ retrace_room (length path) (length ms)) × (k < length (retrace p))
unfolding retrace_call retrace_rows refused_by every work_short full
retrace_full p path ms w d k e =
    let c = retrace_room (length path) (length ms) in
    let n = length (retrace p) in
    let works = work_short w (retrace_work p c) 0 ∷ work_short d (length p.lengths) 1 ∷ [] in
    let lacks = (input_lacks p.points p.lengths p.layers p.strategy).0 in
    let accepted = input_other p.points p.lengths p.layers p.strategy _ (refuses 6 k) (lacks_other Totals 6 k (plate_rows p) lacks) (sym (rows_append (plate_rows p) _ _) ∙ e) in
    let last = (rows_other works (refused_by (full c n ∷ []) _) (refuses 6 k) (lacks_other Totals 6 k works tt) accepted.3).1 in
    let (beyond, same) = row_tells (full c n) _ k tt last in
    (accepted.0, layered_part p accepted.1, sym same, omega (arith, ltb→lt c n beyond, same))

-- an output slice after a result of n numbers
slice_after : {A B : Type 0} (a : Answer A) (c : A) (room n : ℕ) (result slice : List B) → a ≡ gives c → length result ≡ n →
    (after a room result slice ≡ result ++ drop n slice) × (take n (after a room result slice) ≡ result)
unfolding after over
slice_after a c room n result slice e l = rw e (rw l, take_at result (drop (length result) slice) n l)

-- and after refusal 6, which leaves the first numbers of the result
pub slice_begun : {A B : Type 0} (a : Answer A) (k room : ℕ) (result slice : List B) → a ≡ refuses 6 k → k ≡ room → 2 * k ≤ length result →
    take (2 * k) (after a room result slice) ≡ take (2 * k) result
unfolding after over pick
slice_begun a k room result slice e s l = rw (e, ← s) (take_at (take (2 * k) result) _ (2 * k) (length-take-le (2 * k) result l))

-- of slices before and after a call: n path points are the whole result, and stand in front of what was there
pub record Leaves (p : Plate) (xs xs' : List Float) (ms ms' : List ℕ) (n : ℕ) : Type 0 where
  pub points : n ≡ length (retrace p)
  pub path : xs' ≡ coordinates p.points (vertices (retrace p)) ++ drop (2 * n) xs
  pub path_front : take (2 * n) xs' ≡ coordinates p.points (vertices (retrace p))
  pub path_marks : ms' ≡ marks (retrace p) ++ drop (2 * n) ms
  pub marks_front : take (2 * n) ms' ≡ marks (retrace p)

pub retrace_leaves : (p : Plate) (path : List Float) (ms : List ℕ) (w d : ℕ) (c : Totals) → (retrace_call p path ms w d).answer ≡ gives c →
    Leaves p path (retrace_call p path ms w d).path ms (retrace_call p path ms w d).marks c.points
unfolding retrace_call totals path_totals
retrace_leaves p path ms w d c e =
    let counted = (retrace_gives p path ms w d c e).2 in
    let r = retrace p in
    let a = (retrace_call p path ms w d).answer in
    let room = retrace_room (length path) (length ms) in
    let n : c.points ≡ length r = ap (λ (x : Totals). x.points) counted in
    let xs = coordinates p.points (vertices r) in
    let x = slice_after a c room (2 * c.points) xs path e (omega (arith, n, coordinates_length p.points (vertices r), vertices_length r)) in
    let y = slice_after a c room (2 * c.points) (marks r) ms e (omega (arith, n, marks_length r)) in
    record { points = n; path = x.0; path_front = x.1; path_marks = y.0; marks_front = y.1 }

pub path_statement : PathStatement
unfolding PathStatement
path_statement p path ms w d c e h =
    let (accepted, part, counted) = retrace_gives p path ms w d c e in
    let l = retrace_leaves p path ms w d c e in
    (counted, l.path, l.path_marks, rw (l.path_front, l.marks_front, counted) (retrace_divides p (accepted_measurable p accepted) part h))
