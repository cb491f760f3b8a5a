-- Marks, as "Retrace and marks" of document 01 has them, with the touches of document 02: kinds, the steps that a path is a list of, both as slices, and what a
-- slice of marks says. Definitions only.
use Rattle.std.specs.Prelude.{ℕ, suc, ◌+◌, ◌-◌, ◌*◌, Bool, ◌&&◌, ◌||◌, List, [], ◌∷◌, ◌++◌, map, eqb, length, get_or, take, Float}
use Rattle.std.specs.Float.Ieee.{eq}
use Rattle.rules.specs.Tools.{pick}
use Rattle.rules.specs.HandedOver.{Contour, at}
use Rattle.rules.specs.Contours.{is_of}
use Rattle.rules.specs.declared.Point.{Point}
use Rattle.rules.specs.declared.Mark.{Mark}
use Rattle.rules.specs.declared.Mark.TheVariants.{Start, Cut, BackStep, Jump, Touch}

-- ---- kinds

abbrev pub start_kind : ℕ
start_kind = 0

abbrev pub cut_kind : ℕ
cut_kind = 1

abbrev pub back_step_kind : ℕ
back_step_kind = 2

abbrev pub jump_kind : ℕ
jump_kind = 3

abbrev pub touch_kind : ℕ
touch_kind = 4

-- the points are numerically equal: 0 and −0 are
unfoldable pub coincide : Point → Point → Bool
coincide a b = eq a.x b.x && eq a.y b.y

-- from point a to the landing b: a touch is a jump between equal points
unfoldable pub landing_kind : Point → Point → ℕ
landing_kind a b = pick (coincide a b) touch_kind jump_kind

-- the kind of a mark of the code, and the reference beside it
abbrev pub kind_of : Mark → ℕ
kind_of (Start v) = start_kind
kind_of (Cut v) = cut_kind
kind_of (BackStep k) = back_step_kind
kind_of (Jump v) = jump_kind
kind_of (Touch v) = touch_kind

abbrev pub reference_of : Mark → ℕ
reference_of (Start v) = v.0
reference_of (Cut v) = v.0
reference_of (BackStep k) = k.0
reference_of (Jump v) = v.0
reference_of (Touch v) = v.0

-- ---- steps

-- a path point: the number of its vertex, and its mark
pub record Step : Type 0 where
  pub vertex : ℕ
  pub kind : ℕ
  pub reference : ℕ

-- a start, a jump or a touch: the vertex number landed on
unfoldable pub land : ℕ → ℕ → Step
land kind v = record { vertex = v; kind = kind; reference = v }

-- a cut: the lower vertex number of its segment, which goes from vertex v to vertex v + 1: cut upward, and downward
unfoldable pub cut_up : ℕ → Step
cut_up v = record { vertex = suc v; kind = cut_kind; reference = v }

unfoldable pub cut_down : ℕ → Step
cut_down v = record { vertex = v; kind = cut_kind; reference = v }

-- a back-step to vertex v: k, where the step goes from path point k + 1's coordinates to path point k's
unfoldable pub back_step : ℕ → ℕ → Step
back_step v k = record { vertex = v; kind = back_step_kind; reference = k }

-- ---- a path as slices

unfoldable pub coordinates : List Float → List ℕ → List Float
coordinates xs [] = []
coordinates xs (v ∷ vs) = (at xs v).x ∷ (at xs v).y ∷ coordinates xs vs

-- the vertices of a path's points
unfoldable pub vertices : List Step → List ℕ
vertices path = map (λ s. s.vertex) path

unfoldable pub marks : List Step → List ℕ
marks [] = []
marks (s ∷ path) = s.kind ∷ s.reference ∷ marks path

-- the kind and the reference of path point k, in a slice of marks
unfoldable pub kind_at : List ℕ → ℕ → ℕ
kind_at ms k = get_or ms (2 * k) 0

unfoldable pub reference_at : List ℕ → ℕ → ℕ
reference_at ms k = get_or ms (2 * k + 1) 0

-- how many marks of a slice pass a test of kind and reference
unfoldable pub count_marks : (ℕ → ℕ → Bool) → List ℕ → ℕ
count_marks test [] = 0
count_marks test (kind ∷ []) = 0
count_marks test (kind ∷ r ∷ ms) = pick (test kind r) 1 0 + count_marks test ms

-- how many are of a kind
unfoldable pub marks_of : ℕ → List ℕ → ℕ
marks_of kind ms = count_marks (λ k r. eqb k kind) ms

-- ---- what a slice of marks names

-- The vertex of the next path point, after those with the vertices vs, by its mark: a start's, jump's or touch's is the one named, a cut's the end of its segment
-- that the point before doesn't have, a back-step's that of path point r.
unfoldable pub named : List ℕ → ℕ → ℕ → ℕ
named vs kind r =
    pick (eqb kind cut_kind) (pick (eqb (get_or vs (length vs - 1) 0) r) (suc r) r) (pick (eqb kind back_step_kind) (get_or vs r 0) r)

-- the vertices of the path points, after those with the vertices vs
unfoldable pub vertices_after : List ℕ → List ℕ → List ℕ
vertices_after vs [] = vs
vertices_after vs (kind ∷ []) = vs
vertices_after vs (kind ∷ r ∷ ms) = vertices_after (vs ++ named vs kind r ∷ []) ms

-- the vertex of path point k
unfoldable pub vertex_in : List ℕ → ℕ → ℕ
vertex_in ms k = get_or (vertices_after [] ms) k 0

-- how often segment v is cut
unfoldable pub cuts_of : ℕ → List ℕ → ℕ
cuts_of v ms = count_marks (λ kind r. eqb kind cut_kind && eqb r v) ms

-- A start, a jump and a touch enter the contour whose vertex they name. A cut enters none.
unfoldable pub enters : ℕ → Bool
enters kind = eqb kind start_kind || eqb kind jump_kind || eqb kind touch_kind

-- how often c is entered
unfoldable pub entries_of : Contour → List ℕ → ℕ
entries_of c ms = count_marks (λ kind r. enters kind && is_of c r) ms

-- the marks before path point i's
abbrev pub marks_before : ℕ → List ℕ → List ℕ
marks_before i ms = take (2 * i) ms
