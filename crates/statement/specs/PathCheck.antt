-- "Paths bought elsewhere" of document 02, ticket 7. First the division that is asked for: the path statement's clauses, of the points themselves, without the
-- nine cells. Then the check, as a function, with its refusals and their places. Both are of a list of contours and of points, so that a path over some of the
-- contours can be checked too. The last part says what is to be proved: DividedByPoints, CheckDecides, CheckPlaces, RetraceAccepted, AcceptedCounts.
-- Definitions only.
use Rattle.std.specs.Prelude.{◌≡◌, ◌⊎◌, Bool, not, ◌&&◌, ◌||◌, List, [], ◌∷◌, ◌++◌, ℕ, zero, suc, ◌+◌, ◌*◌, ◌/◌, ◌≤◌, ◌<◌, ltb, eqb, length, take, Float}
use Rattle.rules.specs.Tools.{sum, any, every, first_failing, up_from}
use Rattle.rules.specs.HandedOver.{Plate, Contour, at, contours_of, contours, Answer, gives, refuses, RefusalRow, row, refused_by, work_short, contour_rows}
use Rattle.rules.specs.Bits.{same_point}
use Rattle.rules.specs.Marks.{start_kind, cut_kind, back_step_kind, jump_kind, touch_kind, landing_kind, marks_of, kind_at, reference_at, cuts_of, entries_of, marks_before}
use Rattle.rules.specs.Calls.{retrace_call}
use Rattle.statement.specs.Division.{StartOf, PairOf, Unentered, Division}
use Rattle.statement.specs.PathStatement.{Divides}
use Rattle.rules.specs.Contours.{segments_of, Among, Of, is_of}
use Rattle.rules.specs.declared.Point.{Point}
use Rattle.rules.specs.declared.Totals.{Totals}

-- ---- the division, of the contours cs, whose points are xs

-- of a cut, path point i having the reference r: its contour is entered before, and its segment is not cut before
abbrev pub FirstCut : List Contour → List ℕ → ℕ → ℕ → ℕ → Type 0
FirstCut cs ms i kind r =
    kind ≡ cut_kind →
    ((c : Contour) → Among c cs → Of c r → 1 ≤ entries_of c (marks_before i ms)) × (cuts_of r (marks_before i ms) ≡ 0)

-- n path points and their marks divide as the path statement says, by points
pub record DividesByPoints (cs : List Contour) (xs : List Float) (n : ℕ) (path : List Float) (ms : List ℕ) : Type 0 where
  pub whole : length path ≡ 2 * n
  pub division : Division cs (at path) (at xs) (at path) (Unentered ms) n ms
  -- By points a cut may start at a vertex of another contour, so that its contour is entered before is said apart. That its segment is not cut before follows
  -- from `once`; the check places a fault by it.
  pub first_cuts : (k : ℕ) → suc k < n → FirstCut cs ms (suc k) (kind_at ms (suc k)) (reference_at ms (suc k))
  pub entered : (c : Contour) → Among c cs → entries_of c ms ≡ 1

-- Path point i keeps the rules: the first is a start; any other makes a cut, a back-step, or a jump or touch with the one before it, and so is no start; and a
-- cut is its segment's first.
unfoldable pub RulesAt : List Contour → List Float → List Float → List ℕ → ℕ → Type 0
RulesAt cs xs path ms zero = StartOf cs (at xs) (at path) (kind_at ms 0) (reference_at ms 0)
RulesAt cs xs path ms (suc k) =
    let kind = kind_at ms (suc k) in
    let r = reference_at ms (suc k) in
    PairOf cs (at path) (at xs) (at path) (Unentered ms k) k kind r × FirstCut cs ms (suc k) kind r

-- ---- the check

-- path point i is vertex r, of a contour that is not entered before
unfoldable pub lands_fresh : List Contour → List Float → List Float → List ℕ → ℕ → ℕ → Bool
lands_fresh cs xs path ms i r =
    same_point (at path i) (at xs r) && any (λ c. is_of c r && eqb (entries_of c (marks_before i ms)) 0) cs

-- path points k and k + 1 are the points a and b
unfoldable pub goes : List Float → ℕ → Point → Point → Bool
goes path k a b = same_point (at path k) a && same_point (at path (suc k)) b

-- path points k and k + 1 are the ends of segment r, of a contour that is entered before; the segment is not cut before
unfoldable pub cuts_fresh : List Contour → List Float → List Float → List ℕ → ℕ → ℕ → Bool
cuts_fresh cs xs path ms k r =
    let lower = at xs r in
    let upper = at xs (suc r) in
    (goes path k lower upper || goes path k upper lower)
    && any (λ c. is_of c r && ltb r (c.first + c.last) && ltb 0 (entries_of c (marks_before (suc k) ms))) cs
    && eqb (cuts_of r (marks_before (suc k) ms)) 0

-- path points k and k + 1 are path points r + 1, an earlier one, and r
unfoldable pub reverses : List Float → ℕ → ℕ → Bool
reverses path k r = ltb r k && goes path k (at path (suc r)) (at path r)

-- path point k + 1 keeps the rules, its mark having this kind and the reference r
unfoldable pub keeps_after : List Contour → List Float → List Float → List ℕ → ℕ → ℕ → ℕ → Bool
keeps_after cs xs path ms k kind r =
    (eqb kind cut_kind && cuts_fresh cs xs path ms k r)
    || (eqb kind back_step_kind && reverses path k r)
    || (eqb kind (landing_kind (at path k) (at path (suc k))) && lands_fresh cs xs path ms (suc k) r)

-- path point i keeps the rules
unfoldable pub keeps_rules : List Contour → List Float → List Float → List ℕ → ℕ → Bool
keeps_rules cs xs path ms zero = eqb (kind_at ms 0) start_kind && lands_fresh cs xs path ms 0 (reference_at ms 0)
keeps_rules cs xs path ms (suc k) = keeps_after cs xs path ms k (kind_at ms (suc k)) (reference_at ms (suc k))

-- no contour is unentered, and no segment is uncut
unfoldable pub complete : List Contour → List ℕ → Bool
complete cs ms = every (λ c. ltb 0 (entries_of c ms) && every (λ v. ltb 0 (cuts_of v ms)) (up_from c.first c.last)) cs

-- ---- the refusals, and the call

-- a path slice that is odd, or marks that are not two for each point
unfoldable pub miscounted_path : List Float → List ℕ → RefusalRow
miscounted_path path ms = let n = length path / 2 in row (not (eqb (length path) (2 * n) && eqb (length ms) (2 * n))) 3 0

-- n path points: the first that breaks a rule, or n where none does and something is left out
unfoldable pub not_drawn : List Contour → List Float → ℕ → List Float → List ℕ → RefusalRow
not_drawn cs xs n path ms =
    let place = first_failing (keeps_rules cs xs path ms) 0 n in
    row (ltb place n || not (complete cs ms)) 12 place

-- 1 to 4 of the plate, then 3 of path and marks, then 5
unfoldable pub check_rows : List Float → List ℕ → List Float → List ℕ → ℕ → List RefusalRow
check_rows xs ns path ms w = contour_rows xs ns ++ (miscounted_path path ms ∷ work_short w (sum ns + length ns) 0 ∷ [])

-- xs and ns are the plate's points and lengths, `path` and `ms` the path and its marks, w is the length of the work slice
unfoldable pub check_call : List Float → List ℕ → List Float → List ℕ → ℕ → Answer (Unit {0})
check_call xs ns path ms w = refused_by (check_rows xs ns path ms w ++ (not_drawn (contours_of ns) xs (length path / 2) path ms ∷ [])) (gives tt)

-- ---- what is to be proved

-- What divides as the path statement says, divides by points. (The converse is false: bits may agree where vertices differ, and there are no nine cells here.)
unfoldable pub DividedByPoints : Type 0
DividedByPoints =
    (p : Plate) (c : Totals) (path : List Float) (ms : List ℕ) → Divides p c path ms → DividesByPoints (contours p) p.points c.points path ms

-- a call that refusals 1 to 5 let pass
abbrev pub Checkable : List Float → List ℕ → List Float → List ℕ → ℕ → Type 0
Checkable xs ns path ms w = refused_by {A = Unit {0}} (check_rows xs ns path ms w) (gives tt) ≡ gives tt

-- such a call accepts exactly where the division holds
unfoldable pub CheckDecides : Type 0
CheckDecides =
    (xs : List Float) (ns : List ℕ) (path : List Float) (ms : List ℕ) (w : ℕ) →
    let divides = DividesByPoints (contours_of ns) xs (length path / 2) path ms in
    (check_call xs ns path ms w ≡ gives tt → Checkable xs ns path ms w × divides)
    × (Checkable xs ns path ms w → divides → check_call xs ns path ms w ≡ gives tt)

-- a contour is not entered, or one of its segments is not cut
unfoldable pub LeftOut : List Contour → List ℕ → Type 0
LeftOut cs ms = (c : Contour) × Among c cs × ((entries_of c ms ≡ 0) ⊎ ((i : ℕ) × (i < c.last) × (cuts_of (c.first + i) ms ≡ 0)))

-- of n path points: those before i keep the rules; and path point i breaks one, or there is no path point i and something is left out
unfoldable pub FirstFault : List Contour → List Float → ℕ → List Float → List ℕ → ℕ → Type 0
FirstFault cs xs n path ms i =
    ((j : ℕ) → j < i → RulesAt cs xs path ms j)
    × (((i < n) × (RulesAt cs xs path ms i → ⊥)) ⊎ ((i ≡ n) × LeftOut cs ms))

-- and it gives 12 exactly at the first fault
unfoldable pub CheckPlaces : Type 0
CheckPlaces =
    (xs : List Float) (ns : List ℕ) (path : List Float) (ms : List ℕ) (w i : ℕ) →
    let fault = FirstFault (contours_of ns) xs (length path / 2) path ms i in
    (check_call xs ns path ms w ≡ refuses 12 i → Checkable xs ns path ms w × fault)
    × (Checkable xs ns path ms w → fault → check_call xs ns path ms w ≡ refuses 12 i)

-- every path that the retrace call finishes is accepted, with P + M u32 of work or more
unfoldable pub RetraceAccepted : Type 0
RetraceAccepted =
    (p : Plate) (path : List Float) (ms : List ℕ) (w d : ℕ) (c : Totals) →
    let o = retrace_call p path ms w d in
    o.answer ≡ gives c →
    (work : ℕ) →
    sum p.lengths + length p.lengths ≤ work →
    check_call p.points p.lengths (take (2 * c.points) o.path) (take (2 * c.points) o.marks) work ≡ gives tt

-- What is accepted has S cuts, n − 1 jumps and touches together, and S + B + n path points, n being the number of contours; with no contour it has no path
-- point.
unfoldable pub AcceptedCounts : Type 0
AcceptedCounts =
    (xs : List Float) (ns : List ℕ) (path : List Float) (ms : List ℕ) (w : ℕ) →
    check_call xs ns path ms w ≡ gives tt →
    let cs = contours_of ns in
    (marks_of cut_kind ms ≡ segments_of cs)
    × (1 ≤ length cs → marks_of jump_kind ms + marks_of touch_kind ms + 1 ≡ length cs)
    × (length path / 2 ≡ segments_of cs + marks_of back_step_kind ms + length cs)
    × (length cs ≡ 0 → path ≡ [])
