-- What is told of a path's lengths, as rows: what is right of plate E's path, and each part of `Quoted` broken. Assumes nothing.
use Rattle.std.specs.Prelude.{refl, List, [], ◌∷◌, ℕ, Float}
use Rattle.std.proofs.Common.{ap, arith}
use Rattle.std.specs.Float.Ieee.{neg, add, sub, mul, of_int}
use Rattle.rules.specs.Tools.{pick, sum, lesser, greater}
use Rattle.rules.specs.HandedOver.{Plate, plate, at, contours_from, contours}
use Rattle.rules.specs.Distances.{mul_add, root_by, floor_root, round_root, sqrt, distance_squared, distance}
use Rattle.rules.specs.Marks.{kind_at, count_marks, marks_of}
use Rattle.rules.specs.Lengths.{in_1024ths, pair_length, segment_length, contour_length, plate_length, counted_length, length_along}
use Rattle.rules.specs.Calls.{totals}
use Rattle.rules.specs.Plates.{whole, ◌∣◌, along, points_of, drawn, pairs}
use Rattle.rules.specs.declared.Totals.{Totals}
use Rattle.rules.specs.declared.StartPointStrategy.TheVariants.{Inside}
use Rattle.statement.specs.Quotation.{Quoted}

-- (0,0)(4,0)(x,0) | (0,1): plate E, with x = 8, and another
pub plate_to : ℕ → Plate
plate_to x = drawn whole ((0, 0) ∷ (4, 0) ∷ (x, 0) ∷ [] ∣ (0, 1) ∷ [] ∣ []) 0 0 Inside

-- plate E's path and marks, the last with a kind: 3, a jump
pub path : List Float
path = along whole ((0, 0) ∷ (4, 0) ∷ (8, 0) ∷ (4, 0) ∷ (0, 0) ∷ (0, 1) ∷ [])

pub marks_to : ℕ → List ℕ
marks_to kind = pairs ((0, 0) ∷ (1, 0) ∷ (1, 1) ∷ (2, 1) ∷ (2, 0) ∷ (kind, 3) ∷ [])

-- two cuts, two back-steps and one jump, or one touch, and how long they are
pub measuring : ℕ → ℕ → ℕ → Totals
measuring c b j = record { points = 6; cuts = 2; back_steps = 2; jumps = 1; touches = 0; cut_length = c; back_step_length = b; jump_length = j }

pub touching : Totals
touching = record { points = 6; cuts = 2; back_steps = 2; jumps = 0; touches = 1; cut_length = 8192; back_step_length = 8192; jump_length = 1024 }

abbrev pub Told : ℕ → ℕ → ℕ → ℕ → Type 0
Told x c b j = Quoted (plate_to x) (measuring c b j) path (marks_to 3)

pub right : Told 8 8192 8192 1024
unfolding
    plate_to path marks_to measuring whole ◌∣◌ along points_of drawn pairs neg add sub mul of_int pick sum lesser greater plate at contours_from contours
    mul_add root_by floor_root round_root sqrt distance_squared distance
    kind_at count_marks marks_of in_1024ths pair_length segment_length contour_length plate_length counted_length length_along totals
right = record { along = refl; by_contours = refl; touches = refl }

-- the cuts along the path are told too short; the back-steps are among the jumps; the jump is left out; the plate is another, whose
-- second segment is longer by 1; and a touch goes between points that differ
pub wrong :
    (Told 8 8191 8192 1024 → ⊥)
    × (Told 8 8192 0 9216 → ⊥)
    × (Told 8 8192 8192 0 → ⊥)
    × (Told 9 8192 8192 1024 → ⊥)
    × (Quoted (plate_to 8) touching path (marks_to 4) → ⊥)
unfolding
    plate_to path marks_to measuring touching whole ◌∣◌ along points_of drawn pairs neg add sub mul of_int pick sum lesser greater plate at contours_from contours
    mul_add root_by floor_root round_root sqrt distance_squared distance
    kind_at count_marks marks_of in_1024ths pair_length segment_length contour_length plate_length counted_length length_along totals
wrong = (
  λ q. omega (arith, ap (λ (t : Totals). t.cut_length) q.along),
  λ q. omega (arith, ap (λ (t : Totals). t.back_step_length) q.along),
  λ q. omega (arith, ap (λ (t : Totals). t.jump_length) q.along),
  λ q. omega (arith, q.by_contours),
  λ q. omega (arith, q.touches),
)
