-- The division of a path (demand 3, with the touches of document 02): how the marks divide the pairs of neighbouring path points into cuts, back-steps, and jumps
-- and touches, over any list of contours; and, apart from it, what the nine cells around a landing hold, over any grid. The path statement, the check of a path
-- from elsewhere and the contours back all say this one division.
-- What compares path points with vertices is left open: v k stands for path point k, and u r for vertex r. By vertices both are vertex numbers, and u is
-- `itself`; by points both are points, and ≡ is equality of their bits. x gives each path point's coordinates.
-- Definitions only.
use Rattle.std.specs.Prelude.{◌≡◌, ◌⊎◌, not, List, ℕ, suc, ◌+◌, ◌*◌, ◌≤◌, ◌<◌, T, length}
use Rattle.std.specs.Float.Ieee.{lt}
use Rattle.rules.specs.HandedOver.{Contour}
use Rattle.rules.specs.Contours.{segments_of, Among, Of, OfOne, NotOf}
use Rattle.rules.specs.Distances.{distance_squared}
use Rattle.rules.specs.GridAndNearest.{cell_of, square, within}
use Rattle.rules.specs.Marks.{start_kind, cut_kind, back_step_kind, jump_kind, touch_kind, coincide, marks_of, kind_at, reference_at, cuts_of, entries_of, marks_before}
use Rattle.rules.specs.declared.Point.{Point}
use Rattle.rules.specs.declared.SpatialGrid.{SpatialGrid}

-- ---- the pair of path points k and k + 1, the mark of path point k + 1 having the reference r

abbrev pub itself : ℕ → ℕ
itself r = r

-- segment r of a contour, in one of its two senses
pub record Cut {A : Type 0} (cs : List Contour) (u v : ℕ → A) (k r : ℕ) : Type 0 where
  pub segment : (c : Contour) × Among c cs × (c.first ≤ r) × (r < c.first + c.last)
  pub sense : ((v k ≡ u r) × (v (suc k) ≡ u (suc r))) ⊎ ((v k ≡ u (suc r)) × (v (suc k) ≡ u r))

-- the pair of path points r and r + 1, which is earlier, reversed
pub record BackStep {A : Type 0} (v : ℕ → A) (k r : ℕ) : Type 0 where
  pub earlier : suc r ≤ k
  pub from : v k ≡ v (suc r)
  pub to : v (suc k) ≡ v r

-- what a jump or a touch lands on: vertex r, of a contour that is new
pub record Landing {A : Type 0} (cs : List Contour) (u v : ℕ → A) (New : Contour → Type 0) (k r : ℕ) : Type 0 where
  pub landing : v (suc k) ≡ u r
  pub fresh : (c : Contour) × Among c cs × Of c r × New c

-- From point a to the landing b: a jump's points differ numerically, and a touch's are equal. All else is said of both alike.
abbrev pub JumpOrTouch : Point → Point → ℕ → Type 0
JumpOrTouch a b kind = ((kind ≡ jump_kind) × T (not (coincide a b))) ⊎ ((kind ≡ touch_kind) × T (coincide a b))

-- a cut, a back-step, or a jump or touch, as the kind says
abbrev pub PairOf : {A : Type 0} → List Contour → (ℕ → Point) → (u v : ℕ → A) → (Contour → Type 0) → ℕ → ℕ → ℕ → Type 0
PairOf cs x u v New k kind r =
    ((kind ≡ cut_kind) × Cut cs u v k r)
    ⊎ ((kind ≡ back_step_kind) × BackStep v k r)
    ⊎ (JumpOrTouch (x k) (x (suc k)) kind × Landing cs u v New k r)

-- Contour c is new after path point k: by the path points' vertices v, none up to k is of c;
abbrev pub NotEntered : (ℕ → ℕ) → ℕ → Contour → Type 0
NotEntered v k c = (i : ℕ) → i ≤ k → NotOf c (v i)

-- by the marks, none up to path point k's enters c.
abbrev pub Unentered : List ℕ → ℕ → Contour → Type 0
Unentered ms k c = entries_of c (marks_before (suc k) ms) ≡ 0

-- the start, the first mark having this kind and the reference r: on a vertex of a contour
abbrev pub StartOf : {A : Type 0} → List Contour → (u v : ℕ → A) → ℕ → ℕ → Type 0
StartOf cs u v kind r = (kind ≡ start_kind) × OfOne cs r × (v 0 ≡ u r)

-- ---- the whole path

-- The marks of n path points divide their pairs, over the contours cs. New k c says that contour c is new after path point k.
pub record Division {A : Type 0} (cs : List Contour) (x : ℕ → Point) (u v : ℕ → A) (New : ℕ → Contour → Type 0) (n : ℕ) (ms : List ℕ) : Type 0 where
  -- a mark for each path point
  pub whole : length ms ≡ 2 * n
  -- the first, if there is one, is a start
  pub start : 1 ≤ n → StartOf cs u v (kind_at ms 0) (reference_at ms 0)
  -- each pair is a cut, a back-step, or a jump or touch, as the mark of its second point says
  pub pairs : (k : ℕ) → suc k < n → PairOf cs x u v (New k) k (kind_at ms (suc k)) (reference_at ms (suc k))
  -- as many cuts as segments; jumps and touches together one fewer than contours (with no contour there is no path point either, by `start`); and as many path
  -- points as segments, back-steps and contours together, so that no pair is anything else
  pub cuts : marks_of cut_kind ms ≡ segments_of cs
  pub jumps : 1 ≤ length cs → marks_of jump_kind ms + marks_of touch_kind ms + 1 ≡ length cs
  pub points : n ≡ segments_of cs + marks_of back_step_kind ms + length cs
  -- each segment of each contour is cut exactly once
  pub once : (c : Contour) → Among c cs → (i : ℕ) → i < c.last → cuts_of (c.first + i) ms ≡ 1

-- ---- the nine cells

abbrev pub IsJumpOrTouch : ℕ → Type 0
IsJumpOrTouch kind = (kind ≡ jump_kind) ⊎ (kind ≡ touch_kind)

-- of a jump or touch: no earlier path point in the nine cells around its landing (fewer at the grid's rim) is nearer than the one left, by squared distances as
-- document 01 rounds them
abbrev pub NoneNearer : SpatialGrid → (ℕ → Point) → ℕ → ℕ → Type 0
NoneNearer g x k kind =
    let q = x (suc k) in
    IsJumpOrTouch kind →
    (i : ℕ) → i ≤ k → T (within (square g (cell_of g q) 1) (cell_of g (x i))) → T (not (lt (distance_squared q (x i)) (distance_squared q (x k))))

-- so of each pair of n path points
abbrev pub NineCells : SpatialGrid → (ℕ → Point) → ℕ → List ℕ → Type 0
NineCells g x n ms = (k : ℕ) → suc k < n → NoneNearer g x k (kind_at ms (suc k))
