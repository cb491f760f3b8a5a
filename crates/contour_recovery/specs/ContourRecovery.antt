-- The contours of a path with marks (document 02, ticket 6): the vertices of its path points, the rules of marks in the words and the order of that document, the
-- contours, the refusals, and the call. The last part says what is to be proved: RoundTripByRules, RoundTrip, RecoveredDivides, RecoveredDividesByVertices,
-- RecoveredAccepted. Definitions only.
use Rattle.std.specs.Prelude.{◌≡◌, Bool, not, ◌&&◌, ◌||◌, List, [], ◌∷◌, map, ℕ, zero, suc, ◌+◌, ◌-◌, ◌*◌, ◌/◌, ◌≤◌, max, leb, ltb, eqb, length, take, get_or, Float, Result, Ok, Err}
use Rattle.std.specs.Bool.{beq}
use Rattle.rules.specs.Limits.{most_contours, highest_vertex}
use Rattle.rules.specs.Tools.{pick, sum, any, first_failing, up_from}
use Rattle.rules.specs.HandedOver.{Plate, at, contours_of, contours, Answer, gives, refuses, RefusalRow, row, refused_by, off_the_plate, work_short, no_room, over, written}
use Rattle.rules.specs.Bits.{same_point}
use Rattle.rules.specs.Retrace.{retrace}
use Rattle.rules.specs.Marks.{start_kind, cut_kind, back_step_kind, jump_kind, touch_kind, coincide, coordinates, marks, kind_at, reference_at, vertices, vertices_after, vertex_in, cuts_of, enters}
use Rattle.rules.specs.Calls.{retrace_call}
use Rattle.rules.specs.Contours.{contour_count}
use Rattle.statement.specs.Division.{itself, NotEntered, Division}
use Rattle.statement.specs.HowNear.{IsAccepted}
use Rattle.statement.specs.PathCheck.{DividesByPoints, miscounted_path, check_call}
use Rattle.rules.specs.declared.Recovered.{Recovered}
use Rattle.rules.specs.declared.RecoveryRefusal.{RecoveryRefusal}
use Rattle.rules.specs.declared.RecoveryRefusal.TheVariants.{PathMiscounted, PathOffThePlate, PathWorkShort, MarksInconsistent, VertexMissing, NoRoom}
use Rattle.rules.specs.declared.Totals.{Totals}

-- ---- vertices: ms are the marks of a path, and vs the vertices of its path points by them (`named` of Marks)

-- Path point j lands on vertex v: by a start, a jump, a touch or a cut.
unfoldable pub lands_on : List ℕ → List ℕ → ℕ → ℕ → Bool
lands_on ms vs v j = (enters (kind_at ms j) || eqb (kind_at ms j) cut_kind) && eqb (get_or vs j 0) v

-- one of the first i path points landed on vertex v
unfoldable pub landed : List ℕ → List ℕ → ℕ → ℕ → Bool
landed ms vs i v = any (lands_on ms vs v) (up_from 0 i)

-- ---- the rules of marks: whether path point i keeps each

-- a holds only where b does
unfoldable pub only_where : Bool → Bool → Bool
only_where a b = not a || b

-- path point i's mark is of this kind
abbrev pub has_kind : ℕ → List ℕ → ℕ → Bool
has_kind kind ms i = eqb (kind_at ms i) kind

-- the list of kinds
unfoldable pub known_kind : List ℕ → ℕ → Bool
known_kind ms i = leb (kind_at ms i) touch_kind

-- No vertex is above 65,535.
unfoldable pub vertex_in_range : List ℕ → ℕ → Bool
vertex_in_range vs i = leb (get_or vs i 0) highest_vertex

-- Before a cut stands a point with one end of its segment, ..
unfoldable pub cuts_from_an_end : List ℕ → List ℕ → ℕ → Bool
cuts_from_an_end ms vs i =
    let before = get_or vs (i - 1) 0 in
    let r = reference_at ms i in
    only_where (has_kind cut_kind ms i) (eqb before r || eqb before (suc r))

-- .. before a back-step one with the vertex of path point k + 1, an earlier point.
unfoldable pub returns_over_a_pair : List ℕ → List ℕ → ℕ → Bool
returns_over_a_pair ms vs i =
    let before = get_or vs (i - 1) 0 in
    let k = reference_at ms i in
    only_where (has_kind back_step_kind ms i) (ltb (suc k) i && eqb before (get_or vs (suc k) 0))

-- The first mark, and no other, is a start.
unfoldable pub starts_first : List ℕ → ℕ → Bool
starts_first ms i = beq (eqb i 0) (has_kind start_kind ms i)

-- Starts, jumps, touches and cuts land on a vertex not landed on before.
unfoldable pub lands_once : List ℕ → List ℕ → ℕ → Bool
lands_once ms vs i = let v = get_or vs i 0 in only_where (lands_on ms vs v i) (not (landed ms vs i v))

-- A back-step's point has path point k's bits.
unfoldable pub returns_to_bits : List Float → List ℕ → ℕ → Bool
returns_to_bits path ms i = only_where (has_kind back_step_kind ms i) (same_point (at path i) (at path (reference_at ms i)))

-- A jump's two points differ numerically and a touch's don't.
unfoldable pub jumps_apart : List Float → List ℕ → ℕ → Bool
jumps_apart path ms i =
    let equal = coincide (at path (i - 1)) (at path i) in
    only_where (has_kind jump_kind ms i) (not equal) && only_where (has_kind touch_kind ms i) equal

-- path point i keeps all of them
unfoldable pub consistent : List Float → List ℕ → List ℕ → ℕ → Bool
consistent path ms vs i =
    known_kind ms i
    && vertex_in_range vs i
    && cuts_from_an_end ms vs i
    && returns_over_a_pair ms vs i
    && starts_first ms i
    && lands_once ms vs i
    && returns_to_bits path ms i
    && jumps_apart path ms i

-- ---- the contours of n path points that keep the rules

-- one more than the highest vertex landed on, or 0
unfoldable pub vertex_count : List ℕ → List ℕ → ℕ → ℕ
vertex_count ms vs zero = 0
vertex_count ms vs (suc j) = let v = get_or vs j 0 in max (vertex_count ms vs j) (pick (lands_on ms vs v j) (suc v) 0)

-- the first path point that lands on vertex v
unfoldable pub landing_place : List ℕ → List ℕ → ℕ → ℕ → ℕ
landing_place ms vs n v = first_failing (λ j. not (lands_on ms vs v j)) 0 n

-- the points of the first m vertices
unfoldable pub recovered_points : List Float → List ℕ → List ℕ → ℕ → ℕ → List Float
recovered_points path ms vs n m = coordinates path (map (landing_place ms vs n) (up_from 0 m))

-- one vertex more in front of the first run, or a run of its own where there is none
unfoldable pub lengthen : List ℕ → List ℕ
lengthen [] = 1 ∷ []
lengthen (n ∷ ns) = suc n ∷ ns

-- The lengths of the runs of m vertices from v on: vertices u and u + 1 are of one run exactly if u is joined.
unfoldable pub runs : (ℕ → Bool) → ℕ → ℕ → List ℕ
runs joined v zero = []
runs joined v (suc m) = let rest = runs joined (suc v) m in pick (joined v) (lengthen rest) (1 ∷ rest)

-- segment v is cut
unfoldable pub is_segment_cut : List ℕ → ℕ → Bool
is_segment_cut ms v = ltb 0 (cuts_of v ms)

-- the lengths of the contours, which are the runs that cuts join
unfoldable pub recovered_lengths : List ℕ → ℕ → List ℕ
recovered_lengths ms m = runs (is_segment_cut ms) 0 m

-- ---- the refusals, and the call

-- the first of n path points that breaks a rule
unfoldable pub marks_inconsistent : List Float → List ℕ → List ℕ → ℕ → RefusalRow
marks_inconsistent path ms vs n = let place = first_failing (consistent path ms vs) 0 n in row (ltb place n) 10 place

-- the lowest absent number below the highest landed on
unfoldable pub vertex_missing : List ℕ → List ℕ → ℕ → RefusalRow
vertex_missing ms vs n =
    let m = vertex_count ms vs n in
    let place = first_failing (landed ms vs n) 0 m in
    row (ltb place m) 11 place

-- how many points and contours there are; the two output slices afterwards
pub record RecoveryOutcome : Type 0 where
  pub answer : Answer Recovered
  pub points : List Float
  pub lengths : List ℕ

-- `path` and `ms` are the path and its marks, `points` and `lengths` the output slices, w is the length of the work slice
unfoldable pub recovery_call : List Float → List ℕ → List Float → List ℕ → ℕ → RecoveryOutcome
recovery_call path ms points lengths w =
    let n = length path / 2 in
    let vs = vertices_after [] ms in
    let m = vertex_count ms vs n in
    let xs = recovered_points path ms vs n m in
    let ns = recovered_lengths ms m in
    let a =
    refused_by
    (miscounted_path path ms
    ∷ off_the_plate path
    ∷ work_short w (4 * n) 0
    ∷ marks_inconsistent path ms vs n
    ∷ vertex_missing ms vs n
    ∷ no_room (length points) (length xs)
    ∷ no_room (length lengths) (length ns)
    ∷ [])
    (gives (record { points = m; contours = length ns })) in
    record { answer = a; points = written a xs points; lengths = written a ns lengths }

-- the answer of the code's result
unfoldable pub recovery_answer : Result Recovered RecoveryRefusal → Answer Recovered
recovery_answer (Ok r) = gives r
recovery_answer (Err PathMiscounted) = refuses 3 0
recovery_answer (Err (PathOffThePlate place)) = refuses 4 place
recovery_answer (Err PathWorkShort) = refuses 5 0
recovery_answer (Err NoRoom) = refuses 6 0
recovery_answer (Err (MarksInconsistent place)) = refuses 10 place
recovery_answer (Err (VertexMissing place)) = refuses 11 place

-- ---- what is to be proved

-- n path points with their marks give back a plate's points and the lengths of its non-empty contours, whatever room and work there is, if it is enough.
unfoldable pub GivesBack : Plate → ℕ → List Float → List ℕ → Type 0
GivesBack p n path ms =
    (points : List Float) (lengths : List ℕ) (work : ℕ) →
    length p.points ≤ length points →
    contour_count p ≤ length lengths →
    4 * n ≤ work →
    let back = recovery_call path ms points lengths work in
    (back.answer ≡ gives (record { points = sum p.lengths; contours = contour_count p }))
    × (back.points ≡ over p.points points)
    × (back.lengths ≡ over (map (λ d. suc d.last) (contours p)) lengths)

-- The path that the rules give an accepted plate gives it back, however long it is.
unfoldable pub RoundTripByRules : Type 0
RoundTripByRules =
    (p : Plate) → IsAccepted p → let r = retrace p in GivesBack p (length r) (coordinates p.points (vertices r)) (marks r)

-- What the retrace call finishes gives back its plate.
unfoldable pub RoundTrip : Type 0
RoundTrip =
    (p : Plate) (path : List Float) (ms : List ℕ) (w d : ℕ) (c : Totals) →
    let o = retrace_call p path ms w d in
    o.answer ≡ gives c →
    GivesBack p c.points (take (2 * c.points) o.path) (take (2 * c.points) o.marks)

-- What this call reads divides, by points, over the contours that it gives.
unfoldable pub RecoveredDivides : Type 0
RecoveredDivides =
    (path : List Float) (ms : List ℕ) (points : List Float) (lengths : List ℕ) (w : ℕ) (r : Recovered) →
    let o = recovery_call path ms points lengths w in
    o.answer ≡ gives r →
    DividesByPoints (contours_of (take r.contours o.lengths)) (take (2 * r.points) o.points) (length path / 2) path ms

-- By its vertices it divides over them too, as the path statement says of a path that the retrace call finishes.
unfoldable pub RecoveredDividesByVertices : Type 0
RecoveredDividesByVertices =
    (path : List Float) (ms : List ℕ) (points : List Float) (lengths : List ℕ) (w : ℕ) (r : Recovered) →
    let o = recovery_call path ms points lengths w in
    o.answer ≡ gives r →
    let v = vertex_in ms in
    Division (contours_of (take r.contours o.lengths)) (at path) itself v (NotEntered v) (length path / 2) ms

-- So the check of a path accepts it, if there are not more contours than the check takes, and work for it.
unfoldable pub RecoveredAccepted : Type 0
RecoveredAccepted =
    (path : List Float) (ms : List ℕ) (points : List Float) (lengths : List ℕ) (w work : ℕ) (r : Recovered) →
    let o = recovery_call path ms points lengths w in
    o.answer ≡ gives r →
    r.contours ≤ most_contours →
    r.points + r.contours ≤ work →
    check_call (take (2 * r.points) o.points) (take r.contours o.lengths) path ms work ≡ gives tt
