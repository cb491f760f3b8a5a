-- The contours of accepted points and lengths are placed within the limits. Assumes nothing.
use Rattle.std.specs.Prelude.{◌≡◌, ◌-◌}
use Rattle.std.proofs.Common.{arith}
use Rattle.std.proofs.Math.Option.{some}
use Rattle.rules.specs.HandedOver.{Plate, Contour, contours_from, contours}
use Rattle.rules.specs.Start.{Oriented, start}
use Rattle.plate_laws.specs.Lists.{All, all_give}
use Rattle.plate_laws.specs.AcceptedInput.{Accepted}
use Rattle.plate_laws.specs.Contours.{all_among, PlacedFrom, places_from}
use Rattle.plate_laws.specs.Start.{start_is}
use Rattle.packed_contours.specs.PackedNumbers.{InLengths}

pub all_placed : (p : Plate) → Accepted p.points p.lengths → All (InLengths p.lengths) (contours p)
unfolding contours
all_placed p a = all_give _ _ placed (contours_from 0 0 p.lengths) (places_from 0 0 p.lengths)
  where
    placed : (c : Contour) → PlacedFrom 0 0 p.lengths c → InLengths p.lengths c
    placed c h =
        let z : c.number - 0 ≡ c.number = omega arith in
        record {
          listed = omega (arith, h.most);
          few = omega (arith, h.most, a.contours);
          long = rw z at h.long;
          inside = omega (arith, h.inside);
          small = omega (arith, h.inside, a.points);
        }

-- so the contour that leads
pub start_placed : (p : Plate) (s : Oriented) → Accepted p.points p.lengths → start p ≡ some s → InLengths p.lengths s.contour
start_placed p s a e = all_among (InLengths p.lengths) (contours p) (all_placed p a) s.contour (start_is p s e)
