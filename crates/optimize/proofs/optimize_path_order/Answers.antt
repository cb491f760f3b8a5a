-- The contours are listed, and those listed are put in order.
use Rattle.std.proofs.Common.{map, length, take, sym, ap, ◌∙◌, take_at}
use Rattle.std.proofs.lemmas.List.{length-map}
use Rattle.rules.specs.HandedOver.{plate, plate_of, contours, over}
use Rattle.start.specs.OrientedContours.{lead_of}
use Rattle.packed_contours.specs.PackedNumbers.{packed, packed_sense}
use Rattle.optimize.proofs.Steps.{no_order}
use Rattle.optimize.proofs.optimize_path_order.Goals as goal

pub returns-in_default : goal.returns-in_default
unfolding lead_of
returns-in_default c =
    let e = no_order (plate_of c.args.checked.now.input) (sym c.in_default.ensures) in
    record { count = sym (ap length e); words = sym (ap (map packed_sense) e) }

pub put_in_order-requires : goal.put_in_order-requires
unfolding plate contours over lead_of
put_in_order-requires c =
    let l = c.list_contours-n.ensures in
    let ws = map packed (contours (plate_of c.args.checked.now.input)) in
    record {
      listed = ap (take c.list_contours-n.result) l.words ∙ take_at ws _ c.list_contours-n.result (length-map (contours (plate_of c.args.checked.now.input)) packed ∙ sym l.count);
      start = sym c.in-Some.ensures;
    }
