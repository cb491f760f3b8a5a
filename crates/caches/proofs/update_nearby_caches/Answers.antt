-- `caches::update_nearby_caches` meets its contract. Assumes nothing.
use Rattle.std.proofs.Common.{arith}
use Rattle.contours.specs.ContourOf.{contour_of}
use Rattle.neighbours.specs.CellList.{listing_few}
use Rattle.caches.proofs.Nearby.{listed_querying, scanned}
use Rattle.caches.proofs.update_nearby_caches.Goals as goal

pub overflow_cast-cells : goal.overflow_cast-cells
overflow_cast-cells c =
    omega (arith, listing_few _ _ _ _ c.list_cells-cells.ensures.listing, c.requires.querying.prepared.plated.laid)

pub scan_listed-requires : goal.scan_listed-requires
unfolding contour_of
scan_listed-requires c =
    let p = c.requires in
    let k = c.list_cells-cells in
    record {
      querying = listed_querying _ _ _ _ (contour_of c.args.c) _ _ _ p.querying.prepared.plated.laid k.ensures k.auto.work _ _ _ p.querying;
      few = listing_few _ _ _ _ k.ensures.listing;
      inside = k.ensures.listing.inside;
    }

pub returns : goal.returns
unfolding contour_of
returns c =
    let r = scanned _ _ _ _ (contour_of c.args.c) _ _ _ c.requires.querying.prepared.plated.laid c.list_cells-cells.ensures _ _ _ _ c.scan_listed.ensures in
    record { changed = r.0; kept = r.1; above = r.2; flags = r.3 }
