-- The packed contours of an order: they have its vertices, and their points are the plate's. Assumes nothing.
use mathlib.Core.Path.{◌≡◌, refl, ap₂}
use mathlib.Core.List.{List, [], ◌∷◌, ◌++◌, map}
use Prim.Native.Nat.{ℕ, suc, ◌+◌}
use native.Mathlib.Numerals.{add-one}
use native.Mathlib.Omega.{arith}
use lib.Ieee.{Float}
use lib.ListN.{get_or}
use Rattle.rules.specs.Tools.{pick, up_from, down_to}
use Rattle.rules.specs.HandedOver.{Plate}
use Rattle.rules.specs.Start.{Oriented}
use Rattle.rules.specs.OrderAndStraight.{order, straight}
use Rattle.plate_laws.specs.Lists.{All, all_give, all_map}
use Rattle.plate_laws.specs.AcceptedInput.{Accepted}
use Rattle.packed_contours.specs.PackedNumbers.{packed_sense, number_in, first_in}
use Rattle.packed_contours.specs.UnpackedNumbers.{sense_is, Unpacked, order_unpacked}
use Rattle.straight.specs.Runs.{run, run_of, runs, Readable}

run_packed : (ns : List ℕ) (s : Oriented) → Unpacked ns s →
    run_of ns (packed_sense s) ≡ pick s.reversed (down_to s.contour.first (suc s.contour.last)) (up_from s.contour.first (suc s.contour.last))
unfolding run_of run
run_packed ns s u = rw (u.sense, u.first, u.number, sense_is s.reversed, u.placed.long, add-one s.contour.last)

runs_packed : (ns : List ℕ) (ss : List Oriented) → All (Unpacked ns) ss → runs ns (map packed_sense ss) ≡ straight ss
unfolding runs straight
runs_packed ns [] a = refl
runs_packed ns (s ∷ ss) a = ap₂ (λ (xs ys : List ℕ). xs ++ ys) (run_packed ns s a.0) (runs_packed ns ss a.1)

readable : (xs : List Float) (ns : List ℕ) → Accepted xs ns → (s : Oriented) → Unpacked ns s → Readable xs ns (packed_sense s)
readable xs ns a s u =
    let h = u.placed in
    let e : first_in (packed_sense s) + get_or ns (number_in (packed_sense s)) 0 ≡ s.contour.first + (s.contour.last + 1) = rw (u.first, u.number, h.long) in
    record {
      number = rw u.number h.listed;
      few = omega (arith, h.small);
      inside = omega (arith, h.inside, a.counted);
    }

module _ (p : Plate) (accepted : Accepted p.points p.lengths) where
  pub order_runs : runs p.lengths (map packed_sense (order p)) ≡ straight (order p)
  order_runs = runs_packed p.lengths (order p) (order_unpacked p accepted)

  pub order_readable : All (Readable p.points p.lengths) (map packed_sense (order p))
  order_readable =
      all_map _ packed_sense (order p) (all_give _ _ (readable p.points p.lengths accepted) (order p) (order_unpacked p accepted))
