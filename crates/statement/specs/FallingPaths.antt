-- Paths along which the layers fall: `NeverFall` of PathStatement holds of none of them.
use Rattle.std.proofs.Common.{inl, inr, arith}
use Rattle.std.specs.Prelude.{refl, List, [], ◌∷◌, ℕ}
use Rattle.rules.specs.HandedOver.{Plate, plate, Contour, contours_from, contours, layer_at}
use Rattle.rules.specs.Marks.{kind_at, reference_at}
use Rattle.statement.specs.PathStatement.{NeverFall}
use Rattle.rules.specs.declared.StartPointStrategy.TheVariants.{Inside}

-- three points and then two, of these layers; the points' places do not count here
pub three_and_two : ℕ → ℕ → Plate
three_and_two k l = plate [] (3 ∷ 2 ∷ []) (k ∷ l ∷ []) 0 0 Inside

first : Contour
first = record { number = 0; first = 0; last = 2 }

second : Contour
second = record { number = 1; first = 3; last = 1 }

-- start on vertex 0, cuts of segments 0 and 1, jump to vertex 3, cut of segment 3
pub one_by_one : List ℕ
one_by_one = 0 ∷ 0 ∷ 1 ∷ 0 ∷ 1 ∷ 1 ∷ 3 ∷ 3 ∷ 1 ∷ 3 ∷ []

-- the contour of layer 1 is drawn first
pub higher_first : NeverFall (three_and_two 1 0) 5 one_by_one → ⊥
unfolding NeverFall three_and_two first second one_by_one plate contours contours_from layer_at kind_at reference_at
higher_first h =
    omega (
      arith,
      h 2 4 (omega arith) (omega arith) first second
          (record { contour = inl refl; new = λ e. omega arith; of = (omega arith, omega arith) })
          (record { contour = inr (inl refl); new = λ e. omega arith; of = (omega arith, omega arith) }),
    )

-- start on vertex 0, cut of segment 0, jump to vertex 3, cut of segment 3, two back-steps, and only then the cut of segment 1
pub comes_back : List ℕ
comes_back = 0 ∷ 0 ∷ 1 ∷ 0 ∷ 3 ∷ 3 ∷ 1 ∷ 3 ∷ 2 ∷ 2 ∷ 2 ∷ 1 ∷ 1 ∷ 1 ∷ []

-- the contours are entered in the order of their layers, but a cut of layer 0 comes after one of layer 1
pub lower_cut_later : NeverFall (three_and_two 0 1) 7 comes_back → ⊥
unfolding NeverFall three_and_two first second comes_back plate contours contours_from layer_at kind_at reference_at
lower_cut_later h =
    omega (
      arith,
      h 3 6 (omega arith) (omega arith) second first
          (record { contour = inr (inl refl); new = λ e. omega arith; of = (omega arith, omega arith) })
          (record { contour = inl refl; new = λ e. omega arith; of = (omega arith, omega arith) }),
    )

-- two single points, the one of layer 1 first: nothing is cut
pub two_points : Plate
two_points = plate [] (1 ∷ 1 ∷ []) (1 ∷ 0 ∷ []) 0 0 Inside

-- start on vertex 0, jump to vertex 1
pub higher_entered : NeverFall two_points 2 (0 ∷ 0 ∷ 3 ∷ 1 ∷ []) → ⊥
unfolding NeverFall two_points plate contours contours_from layer_at kind_at reference_at
higher_entered h =
    omega (
      arith,
      h 0 1 (omega arith) (omega arith) (record { number = 0; first = 0; last = 0 }) (record { number = 1; first = 1; last = 0 })
          (record { contour = inl refl; new = λ e. omega arith; of = (omega arith, omega arith) })
          (record { contour = inr (inl refl); new = λ e. omega arith; of = (omega arith, omega arith) }),
    )

-- start on vertex 0, touch on vertex 1
pub higher_touched : NeverFall two_points 2 (0 ∷ 0 ∷ 4 ∷ 1 ∷ []) → ⊥
unfolding NeverFall two_points plate contours contours_from layer_at kind_at reference_at
higher_touched h =
    omega (
      arith,
      h 0 1 (omega arith) (omega arith) (record { number = 0; first = 0; last = 0 }) (record { number = 1; first = 1; last = 0 })
          (record { contour = inl refl; new = λ e. omega arith; of = (omega arith, omega arith) })
          (record { contour = inr (inl refl); new = λ e. omega arith; of = (omega arith, omega arith) }),
    )
