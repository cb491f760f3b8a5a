-- Wrong paths, as rows of one table that one theorem covers: none of them divides (`Divides` of PathStatement). There is a row or more for each
-- clause. A row's comment names the clause that excludes it; it keeps all others but those that the comment says it breaks too.
-- Two parts of `pairs` are not broken alone by any path, since a path point's vertex is found from its mark: that a jump's or touch's vertex is the one that
-- it names (`landing`), and that a back_step's is path point r's (`to`). A path that goes elsewhere breaks `coordinates`.
use Rattle.std.specs.Prelude.{◌≡◌, refl, List, [], ◌∷◌, ◌++◌, ℕ, suc, ◌≤◌, pos, Float}
use Rattle.std.proofs.Common.{ap, inl, inr, arith}
use Rattle.std.proofs.lemmas.Bool.{false≢true}
use Rattle.std.specs.Float.{nan, binary64}
use Rattle.std.specs.Float.Ieee.{of_int, add, sub, mul, div, lt, eq, to_unsigned}
use Rattle.rules.specs.Tools.{pick, sum, lesser, greater}
use Rattle.rules.specs.HandedOver.{Plate, plate, Contour, at, contours_from, contours}
use Rattle.rules.specs.Distances.{mul_add, distance_squared}
use Rattle.rules.specs.Box.{widen, box_from, box}
use Rattle.rules.specs.GridAndNearest.{cell_size, ceiling, cells_along, grid_of, index_along, cell_of, square, within}
use Rattle.rules.specs.Plates.{whole, along, pairs}
use Rattle.rules.specs.Marks.{cut_kind, back_step_kind, jump_kind, coincide, count_marks, marks_of, kind_at, reference_at, named, vertices_after, vertex_in, cuts_of}
use Rattle.rules.specs.Contours.{segments_of}
use Rattle.statement.specs.PathStatement.{Divides}
use Rattle.statement.specs.Division.{itself, Cut, BackStep, Landing, JumpOrTouch, PairOf, NotEntered}
use Rattle.rules.specs.declared.Point.{Point}
use Rattle.rules.specs.declared.Totals.{Totals}
use Rattle.rules.specs.declared.StartPointStrategy.TheVariants.{Inside}

-- ---- rows

-- what a call might have written: its counts, its path slice and its marks slice
pub record Outcome : Type 0 where
  pub plate : Plate
  pub counts : Totals
  pub path : List Float
  pub marks : List ℕ

-- path points, cuts, back-steps, jumps, touches; the path statement says nothing of lengths
counted_all : ℕ → ℕ → ℕ → ℕ → ℕ → Totals
counted_all n s b j t = record { points = n; cuts = s; back_steps = b; jumps = j; touches = t; cut_length = 0; back_step_length = 0; jump_length = 0 }

-- no touches
counted : ℕ → ℕ → ℕ → ℕ → Totals
counted n s b j = counted_all n s b j 0

outcome : Plate → Totals → List (ℕ × ℕ) → List (ℕ × ℕ) → Outcome
outcome p c path ms = record { plate = p; counts = c; path = along whole path; marks = pairs ms }

-- (0,0)(25,0)(50,0) | (0,1): plate E, but with cells of size 1. Vertices 0 to 2 are the first contour's, and vertex 3 is the second's; S is 2, n is 2.
wide : Plate
wide = plate (along whole ((0, 0) ∷ (25, 0) ∷ (50, 0) ∷ (0, 1) ∷ [])) (3 ∷ 1 ∷ []) (0 ∷ 0 ∷ []) 0 0 Inside

-- the path that the rules give, and its marks: 6 points, 2 cuts, 2 back-steps, 1 jump
rules_path : List (ℕ × ℕ)
rules_path = (0, 0) ∷ (25, 0) ∷ (50, 0) ∷ (25, 0) ∷ (0, 0) ∷ (0, 1) ∷ []

rules_marks : List (ℕ × ℕ)
rules_marks = (0, 0) ∷ (1, 0) ∷ (1, 1) ∷ (2, 1) ∷ (2, 0) ∷ (3, 3) ∷ []

-- one point
single : Plate
single = plate (along whole ((0, 0) ∷ [])) (1 ∷ []) (0 ∷ []) 0 0 Inside

-- (0,0) | (0,0)
twice : Plate
twice = plate (along whole ((0, 0) ∷ (0, 0) ∷ [])) (1 ∷ 1 ∷ []) (0 ∷ 0 ∷ []) 0 0 Inside

-- (0,0)(25,0)(0,0) | (0,1)
closed : Plate
closed = plate (along whole ((0, 0) ∷ (25, 0) ∷ (0, 0) ∷ (0, 1) ∷ [])) (3 ∷ 1 ∷ []) (0 ∷ 0 ∷ []) 0 0 Inside

-- (0,0)(25,0)(50,0) | (0,3) in a box of 500 by 0: its cells have the size 10, those over the points alone would have the size 1
boxed : Plate
boxed =
    record {
      points = along whole ((0, 0) ∷ (25, 0) ∷ (50, 0) ∷ (0, 3) ∷ []);
      lengths = 3 ∷ 1 ∷ [];
      layers = 0 ∷ 0 ∷ [];
      width = 0;
      height = 0;
      strategy = Inside;
      box = box (along whole ((0, 0) ∷ (500, 0) ∷ []));
    }

-- ---- the table

-- `whole`: a path point beyond those counted
pub longer_path : Outcome
longer_path = outcome wide (counted 6 2 2 1) ((0, 0) ∷ (25, 0) ∷ (50, 0) ∷ (25, 0) ∷ (0, 0) ∷ (0, 1) ∷ (0, 1) ∷ []) rules_marks

-- `whole`: a mark beyond those counted
pub longer_marks : Outcome
longer_marks = outcome wide (counted 6 2 2 1) rules_path ((0, 0) ∷ (1, 0) ∷ (1, 1) ∷ (2, 1) ∷ (2, 0) ∷ (3, 3) ∷ (0, 0) ∷ [])

-- `coordinates`: the jump goes elsewhere than to the vertex that it names
pub lands_elsewhere : Outcome
lands_elsewhere = outcome wide (counted 6 2 2 1) ((0, 0) ∷ (25, 0) ∷ (50, 0) ∷ (25, 0) ∷ (0, 0) ∷ (0, 2) ∷ []) rules_marks

-- `start`: the first mark is of no known kind
pub starts_unmarked : Outcome
starts_unmarked = outcome wide (counted 6 2 2 1) rules_path ((5, 0) ∷ (1, 0) ∷ (1, 1) ∷ (2, 1) ∷ (2, 0) ∷ (3, 3) ∷ [])

-- `start`: the first mark is a touch. Breaks `kinds` and `jumps` too.
pub starts_with_a_touch : Outcome
starts_with_a_touch = outcome wide (counted 6 2 2 1) rules_path ((4, 0) ∷ (1, 0) ∷ (1, 1) ∷ (2, 1) ∷ (2, 0) ∷ (3, 3) ∷ [])

-- `start`: the first mark names a vertex beyond the last, which has no coordinates
pub starts_beyond : Outcome
starts_beyond = record { plate = single; counts = counted 1 0 0 0; path = nan ∷ nan ∷ []; marks = pairs ((0, 1) ∷ []) }

-- `pairs`, a cut's `segment`: a cut between the two contours, from vertex 3 to vertex 2. Breaks `once` too: segment 0 is not cut.
pub cuts_between : Outcome
cuts_between =
    outcome wide (counted 4 2 0 1)
    ((0, 0) ∷ (0, 1) ∷ (50, 0) ∷ (25, 0) ∷ [])
    ((0, 0) ∷ (3, 3) ∷ (1, 2) ∷ (1, 1) ∷ [])

-- `pairs`, a cut's `sense`: segment 0 is cut there and back, the first time marked as segment 1
pub cuts_another : Outcome
cuts_another =
    outcome wide (counted 4 2 0 1)
    ((0, 0) ∷ (25, 0) ∷ (0, 0) ∷ (0, 1) ∷ [])
    ((0, 0) ∷ (1, 1) ∷ (1, 0) ∷ (3, 3) ∷ [])

-- `pairs`, a back_step's `earlier`: the back_step at place 5 reverses its own pair
pub reverses_itself : Outcome
reverses_itself =
    outcome wide (counted 7 2 3 1)
    ((0, 0) ∷ (25, 0) ∷ (50, 0) ∷ (25, 0) ∷ (0, 0) ∷ (0, 0) ∷ (0, 1) ∷ [])
    ((0, 0) ∷ (1, 0) ∷ (1, 1) ∷ (2, 1) ∷ (2, 0) ∷ (2, 4) ∷ (3, 3) ∷ [])

-- `pairs`, a back_step's `from`: one step from (50,0) to (0,0), marked as the step from (25,0) to (0,0)
pub steps_twice : Outcome
steps_twice =
    outcome wide (counted 5 2 1 1)
    ((0, 0) ∷ (25, 0) ∷ (50, 0) ∷ (0, 0) ∷ (0, 1) ∷ [])
    ((0, 0) ∷ (1, 0) ∷ (1, 1) ∷ (2, 0) ∷ (3, 3) ∷ [])

-- `pairs`, a jump's `fresh`: the jump enters the first contour a second time, and nothing enters the second contour
pub enters_again : Outcome
enters_again =
    outcome wide (counted 4 2 0 1)
    ((0, 0) ∷ (50, 0) ∷ (25, 0) ∷ (0, 0) ∷ [])
    ((0, 0) ∷ (3, 2) ∷ (1, 1) ∷ (1, 0) ∷ [])

-- `nine_cells`: straight joining with honest marks. The jump leaves (50,0), but (0,0) is in a cell next to that of (0,1), and nearer.
pub joins_straight : Outcome
joins_straight =
    outcome wide (counted 4 2 0 1)
    ((0, 0) ∷ (25, 0) ∷ (50, 0) ∷ (0, 1) ∷ [])
    ((0, 0) ∷ (1, 0) ∷ (1, 1) ∷ (3, 3) ∷ [])

-- `nine_cells` is of the plate's box: (0,0) is in the cell of (0,3), and three cells off in a grid over the points alone
pub joins_straight_in_its_box : Outcome
joins_straight_in_its_box =
    outcome boxed (counted 4 2 0 1)
    ((0, 0) ∷ (25, 0) ∷ (50, 0) ∷ (0, 3) ∷ [])
    ((0, 0) ∷ (1, 0) ∷ (1, 1) ∷ (3, 3) ∷ [])

-- `pairs`, a touch's points: (0,0) is left for (0,1), marked as a touch
pub touches_apart : Outcome
touches_apart = outcome wide (counted_all 6 2 2 0 1) rules_path ((0, 0) ∷ (1, 0) ∷ (1, 1) ∷ (2, 1) ∷ (2, 0) ∷ (4, 3) ∷ [])

-- `pairs`, a jump's points: (0,0) is left for (0,0), marked as a jump
pub jumps_in_place : Outcome
jumps_in_place = outcome twice (counted 2 0 0 1) ((0, 0) ∷ (0, 0) ∷ []) ((0, 0) ∷ (3, 1) ∷ [])

-- `pairs`, a touch's `fresh`: the touch goes to another vertex of the contour that it leaves, and nothing enters the second contour
pub touches_again : Outcome
touches_again =
    outcome closed (counted_all 4 2 0 0 1)
    ((0, 0) ∷ (0, 0) ∷ (25, 0) ∷ (0, 0) ∷ [])
    ((0, 0) ∷ (4, 2) ∷ (1, 1) ∷ (1, 0) ∷ [])

-- `nine_cells` of a touch: straight joining, its jump marked as a touch. Breaks the touch's points too: where they are equal, none is nearer.
pub touches_farther : Outcome
touches_farther =
    outcome wide (counted_all 4 2 0 0 1)
    ((0, 0) ∷ (25, 0) ∷ (50, 0) ∷ (0, 1) ∷ [])
    ((0, 0) ∷ (1, 0) ∷ (1, 1) ∷ (4, 3) ∷ [])

-- `pairs`: a pair that is no cut, no back_step, no jump and no touch: the jump's mark is of no known kind. Breaks `jumps` too.
pub marks_unknown : Outcome
marks_unknown = outcome wide (counted 6 2 2 0) rules_path ((0, 0) ∷ (1, 0) ∷ (1, 1) ∷ (2, 1) ∷ (2, 0) ∷ (5, 3) ∷ [])

-- the same of a touch
pub touches_unknown : Outcome
touches_unknown = outcome twice (counted 2 0 0 0) ((0, 0) ∷ (0, 0) ∷ []) ((0, 0) ∷ (5, 1) ∷ [])

-- `kinds`: B is made up
pub makes_up_b : Outcome
makes_up_b = outcome wide (counted 6 2 1 1) rules_path rules_marks

-- `kinds`: the jump is counted as a touch, and a touch as a jump
pub counts_as_touch : Outcome
counts_as_touch = outcome wide (counted_all 6 2 2 0 1) rules_path rules_marks

pub counts_as_jump : Outcome
counts_as_jump = outcome twice (counted 2 0 0 1) ((0, 0) ∷ (0, 0) ∷ []) ((0, 0) ∷ (4, 1) ∷ [])

-- `kinds`: S is made up
pub makes_up_s : Outcome
makes_up_s = outcome wide (counted 6 3 2 1) rules_path rules_marks

-- `cuts`: segment 1 is left out. Breaks `points` and `once` too.
pub leaves_a_segment : Outcome
leaves_a_segment =
    outcome wide (counted 4 1 1 1)
    ((0, 0) ∷ (25, 0) ∷ (0, 0) ∷ (0, 1) ∷ [])
    ((0, 0) ∷ (1, 0) ∷ (2, 0) ∷ (3, 3) ∷ [])

-- `pairs`, a jump's `fresh`: a vertex of no contour, which has no coordinates
pub jumps_beyond : Outcome
jumps_beyond =
    record {
      plate = wide;
      counts = counted 6 2 2 1;
      path = along whole ((0, 0) ∷ (25, 0) ∷ (50, 0) ∷ (25, 0) ∷ (0, 0) ∷ []) ++ (nan ∷ nan ∷ []);
      marks = pairs ((0, 0) ∷ (1, 0) ∷ (1, 1) ∷ (2, 1) ∷ (2, 0) ∷ (3, 4) ∷ []);
    }

-- `jumps`: the second contour is left out. Breaks `points` too.
pub leaves_a_contour : Outcome
leaves_a_contour =
    outcome wide (counted 3 2 0 0)
    ((0, 0) ∷ (25, 0) ∷ (50, 0) ∷ [])
    ((0, 0) ∷ (1, 0) ∷ (1, 1) ∷ [])

-- `points`: one pair more, of a kind that is not counted. Breaks `pairs` too.
pub goes_on : Outcome
goes_on =
    outcome wide (counted 7 2 2 1)
    ((0, 0) ∷ (25, 0) ∷ (50, 0) ∷ (25, 0) ∷ (0, 0) ∷ (0, 1) ∷ (0, 1) ∷ [])
    ((0, 0) ∷ (1, 0) ∷ (1, 1) ∷ (2, 1) ∷ (2, 0) ∷ (3, 3) ∷ (0, 3) ∷ [])

-- `once`: segment 0 is cut twice, and segment 1 not at all
pub cuts_twice : Outcome
cuts_twice =
    outcome wide (counted 4 2 0 1)
    ((0, 0) ∷ (25, 0) ∷ (0, 0) ∷ (0, 1) ∷ [])
    ((0, 0) ∷ (1, 0) ∷ (1, 0) ∷ (3, 3) ∷ [])

-- ---- the theorem

abbrev pub Undivided : Outcome → Type 0
Undivided o = Divides o.plate o.counts o.path o.marks → ⊥

-- a pair by its kind
module _ (p : Plate) (v : ℕ → ℕ) (k r : ℕ) where
  abbrev place : ℕ → Point
  place i = at p.points (v i)

  abbrev Pair : ℕ → Type 0
  Pair kind = PairOf (contours p) place itself v (NotEntered v k) k kind r

  cut : Pair cut_kind → Cut (contours p) itself v k r
  cut (inl c) = c.1
  cut (inr (inl b)) = absurd (omega (arith, b.0))
  cut (inr (inr (inl j, l))) = absurd (omega (arith, j.0))
  cut (inr (inr (inr t, l))) = absurd (omega (arith, t.0))

  back_step : Pair back_step_kind → BackStep v k r
  back_step (inl c) = absurd (omega (arith, c.0))
  back_step (inr (inl b)) = b.1
  back_step (inr (inr (inl j, l))) = absurd (omega (arith, j.0))
  back_step (inr (inr (inr t, l))) = absurd (omega (arith, t.0))

  -- a jump or a touch
  land : {kind : ℕ} → jump_kind ≤ kind → Pair kind → JumpOrTouch (place k) (place (suc k)) kind × Landing (contours p) itself v (NotEntered v k) k r
  land m (inl c) = absurd (omega (arith, c.0))
  land m (inr (inl b)) = absurd (omega (arith, b.0))
  land m (inr (inr l)) = l

first_of : {c d : Contour} → c ≡ d → c.first ≡ d.first
first_of e = ap (λ (x : Contour). x.first) e

last_of : {c d : Contour} → c ≡ d → c.last ≡ d.last
last_of e = ap (λ (x : Contour). x.last) e

pub none_divides :
    Undivided longer_path
    × Undivided longer_marks
    × Undivided lands_elsewhere
    × Undivided starts_unmarked
    × Undivided starts_with_a_touch
    × Undivided starts_beyond
    × Undivided cuts_between
    × Undivided cuts_another
    × Undivided reverses_itself
    × Undivided steps_twice
    × Undivided enters_again
    × Undivided joins_straight
    × Undivided joins_straight_in_its_box
    × Undivided touches_apart
    × Undivided jumps_in_place
    × Undivided touches_again
    × Undivided touches_farther
    × Undivided marks_unknown
    × Undivided touches_unknown
    × Undivided makes_up_b
    × Undivided counts_as_touch
    × Undivided counts_as_jump
    × Undivided makes_up_s
    × Undivided leaves_a_segment
    × Undivided jumps_beyond
    × Undivided leaves_a_contour
    × Undivided goes_on
    × Undivided cuts_twice
unfolding
    whole along pairs counted_all counted outcome wide rules_path rules_marks single twice closed boxed
    longer_path longer_marks lands_elsewhere starts_unmarked starts_with_a_touch starts_beyond cuts_between cuts_another reverses_itself steps_twice enters_again joins_straight joins_straight_in_its_box
    touches_apart jumps_in_place touches_again touches_farther marks_unknown touches_unknown makes_up_b counts_as_touch counts_as_jump makes_up_s leaves_a_segment jumps_beyond leaves_a_contour goes_on cuts_twice
    -- floats
    of_int add sub mul div lt eq to_unsigned
    -- Tools, HandedOver, Distances, GridAndNearest
    pick sum lesser greater plate at contours_from contours mul_add distance_squared
    widen box_from box cell_size ceiling cells_along grid_of index_along cell_of square within
    -- Marks, Contours
    coincide count_marks marks_of segments_of kind_at reference_at named vertices_after vertex_in cuts_of
none_divides = (
  λ d. omega (arith, d.whole),
  λ d. omega (arith, d.division.whole),
  λ d. false≢true (ap (λ (q : Point). lt q.y (of_int binary64 (pos 2))) (d.coordinates 5 (omega arith))),
  λ d. omega (arith, (d.division.start (omega arith)).0),
  λ d. omega (arith, (d.division.start (omega arith)).0),
  λ d.
      let s = (d.division.start (omega arith)).1 in
      elim s.1 [ inl e ↦ omega (arith, first_of e, last_of e, s.2.1) | inr e ↦ e ],
  λ d.
      let s = (cut wide _ 1 2 (d.division.pairs 1 (omega arith))).segment in
      elim s.1 [
        | inl e ↦ omega (arith, first_of e, last_of e, s.3)
        | inr (inl e) ↦ omega (arith, first_of e, s.2)
        | inr (inr e) ↦ e
      ],
  λ d. elim (cut wide _ 0 1 (d.division.pairs 0 (omega arith))).sense [ inl s ↦ omega (arith, s.0) | inr s ↦ omega (arith, s.0) ],
  λ d. omega (arith, (back_step wide _ 4 4 (d.division.pairs 4 (omega arith))).earlier),
  λ d. omega (arith, (back_step wide _ 2 0 (d.division.pairs 2 (omega arith))).from),
  λ d.
      let f = (land wide _ 0 2 (omega arith) (d.division.pairs 0 (omega arith))).1.fresh in
      elim f.1 [
        | inl e ↦ elim (f.3 0 (omega arith)) [ inl n ↦ omega (arith, first_of e, n) | inr n ↦ omega (arith, first_of e, last_of e, n) ]
        | inr (inl e) ↦ omega (arith, first_of e, f.2.0)
        | inr (inr e) ↦ e
      ],
  λ d. d.nine_cells 2 (omega arith) (inl refl) 0 (omega arith) tt,
  λ d. d.nine_cells 2 (omega arith) (inl refl) 0 (omega arith) tt,
  λ d. elim (land wide _ 4 3 (omega arith) (d.division.pairs 4 (omega arith))).0 [ inl j ↦ omega (arith, j.0) | inr t ↦ t.1 ],
  λ d. elim (land twice _ 0 1 (omega arith) (d.division.pairs 0 (omega arith))).0 [ inl j ↦ j.1 | inr t ↦ omega (arith, t.0) ],
  λ d.
      let f = (land closed _ 0 2 (omega arith) (d.division.pairs 0 (omega arith))).1.fresh in
      elim f.1 [
        | inl e ↦ elim (f.3 0 (omega arith)) [ inl n ↦ omega (arith, first_of e, n) | inr n ↦ omega (arith, first_of e, last_of e, n) ]
        | inr (inl e) ↦ omega (arith, first_of e, f.2.0)
        | inr (inr e) ↦ e
      ],
  λ d. d.nine_cells 2 (omega arith) (inr refl) 0 (omega arith) tt,
  λ d. elim (d.division.pairs 4 (omega arith)) [
    | inl c ↦ omega (arith, c.0)
    | inr (inl b) ↦ omega (arith, b.0)
    | inr (inr (inl j, l)) ↦ omega (arith, j.0)
    | inr (inr (inr t, l)) ↦ omega (arith, t.0)
  ],
  λ d. elim (d.division.pairs 0 (omega arith)) [
    | inl c ↦ omega (arith, c.0)
    | inr (inl b) ↦ omega (arith, b.0)
    | inr (inr (inl j, l)) ↦ omega (arith, j.0)
    | inr (inr (inr t, l)) ↦ omega (arith, t.0)
  ],
  λ d. omega (arith, d.kinds.1),
  λ d. omega (arith, d.kinds.2),
  λ d. omega (arith, d.kinds.3),
  λ d. omega (arith, d.kinds.0),
  λ d. omega (arith, d.division.cuts),
  λ d.
      let f = (land wide _ 4 4 (omega arith) (d.division.pairs 4 (omega arith))).1.fresh in
      elim f.1 [
        | inl e ↦ omega (arith, first_of e, last_of e, f.2.1)
        | inr (inl e) ↦ omega (arith, first_of e, last_of e, f.2.1)
        | inr (inr e) ↦ e
      ],
  λ d. omega (arith, d.division.jumps),
  λ d. omega (arith, d.division.points),
  λ d. omega (arith, d.division.once _ (inl refl) 1 (omega arith)),
)
