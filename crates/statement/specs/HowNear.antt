-- "How near is the jump?" of document 02, ticket 8: what the ring search can cost. In words: take any path point that a jump or a touch lands on, and any path
-- point before it. Let d be the squared distance from the path point just before the landing, and f that from the other path point, both to the landing and
-- both as document 01 works them out. Then d × 1,073,741,824 ≤ f × 1,073,741,825, as exact whole numbers: a path point that the search has passed over is
-- nearer, if at all, by less than a thousand-millionth part of the squared distance. Definitions only; the last two are what is to be proved.
use Rattle.std.specs.Prelude.{◌≡◌, true, false, List, ℕ, suc, ◌*◌, ◌≤◌, ◌<◌, eqb, length, Float}
use Rattle.std.specs.Float.{nan, inf, fin}
use Rattle.std.specs.Float.Ieee.{up, down}
use Rattle.rules.specs.Tools.{pick}
use Rattle.rules.specs.HandedOver.{AllF64, Plate, at, Answer, gives, refuses, refused_by, plate_rows}
use Rattle.rules.specs.Distances.{distance_squared}
use Rattle.rules.specs.Box.{box}
use Rattle.rules.specs.Retrace.{retrace}
use Rattle.rules.specs.Marks.{coordinates, marks, kind_at, vertices}
use Rattle.rules.specs.Calls.{retrace_call}
use Rattle.statement.specs.Division.{IsJumpOrTouch}
use Rattle.rules.specs.declared.Totals.{Totals}

-- x is at most y, but for one part in 1,073,741,824
abbrev pub Slack : ℕ → ℕ → Type 0
Slack x y = x * 1073741824 ≤ y * 1073741825

-- The same of two floats, as whole numbers. A finite float is the fraction m × up e / down e, m being its significand and e its exponent: up e is 2^e, or 1
-- where e is below 0, and down e is 2^−e, or 1 where e is not below 0. Both sides are multiplied by both denominators; nothing is rounded. Only finite floats
-- whose sign is plus are so related: the statement says too that d and f are such.
unfoldable pub NearlyAtMost : Float → Float → Type 0
NearlyAtMost nan f = ⊥
NearlyAtMost (inf s) f = ⊥
NearlyAtMost (fin true m e) f = ⊥
NearlyAtMost (fin false m e) nan = ⊥
NearlyAtMost (fin false m e) (inf t) = ⊥
NearlyAtMost (fin false m e) (fin true n g) = ⊥
NearlyAtMost (fin false m e) (fin false n g) = Slack (m * up e * down g) (n * up g * down e)

-- Of the first n path points of a path slice, with their marks: path point k + 1 is landed on, path point k is left, and path point i is any before the
-- landing. (The program works squared distances out from the landing: they are the same floats, by `distance_swap` of crates/near.)
unfoldable pub LandingsNear : List Float → List ℕ → ℕ → Type 0
LandingsNear path ms n =
    (k : ℕ) → suc k < n → IsJumpOrTouch (kind_at ms (suc k)) →
    (i : ℕ) → i ≤ k →
    let q = at path (suc k) in
    let d = distance_squared (at path k) q in
    let f = distance_squared (at path i) q in
    NearlyAtMost d f

-- how many path points a call has written: all of a result's, the first C before refusal 6, which has C for its place, and none before another refusal
unfoldable pub written_points : Answer Totals → ℕ
written_points (gives c) = c.points
written_points (refuses number place) = pick (eqb number 6) place 0

-- no refusal of what is handed over: 1 to 4 and 13, the parked point's 4 too
unfoldable pub IsAccepted : Plate → Type 0
IsAccepted p = refused_by {A = Unit {0}} (plate_rows p) (gives tt) ≡ gives tt

-- of the path that the rules give an accepted plate, however long it is
unfoldable pub HowNearByRules : Type 0
HowNearByRules =
    (p : Plate) →
    AllF64 p.points →
    p.box ≡ box p.points →
    IsAccepted p →
    let r = retrace p in
    LandingsNear (coordinates p.points (vertices r)) (marks r) (length r)

-- of what the retrace call has written, for all slices, and all lengths w and d of the work slices
unfoldable pub HowNear : Type 0
HowNear =
    (p : Plate) (path : List Float) (ms : List ℕ) (w d : ℕ) →
    AllF64 p.points →
    p.box ≡ box p.points →
    let o = retrace_call p path ms w d in
    LandingsNear o.path o.marks (written_points o.answer)
