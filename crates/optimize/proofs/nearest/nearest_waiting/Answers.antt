-- A turn takes one contour from those that wait.
use Rattle.std.proofs.Common.{◌≡◌, List, map, get_or, refl, sym, ap, ap₂, ◌∙◌, min, arith}
use Rattle.rules.specs.Tools.{highest_layer}
use Rattle.rules.specs.HandedOver.{Contour, plate, plate_of, layer_at}
use Rattle.rules.specs.Start.{layer_of}
use Rattle.rules.specs.OrderAndStraight.{nearer_sense, nearer_end}
use Rattle.plate_laws.specs.Lists.{All}
use Rattle.plate_laws.specs.Layers.{leads_in}
use Rattle.plate_laws.proofs.Layers.{foremost_is}
use Rattle.contours.specs.ContourOf.{contour_of}
use Rattle.packed_contours.specs.PackedNumbers.{packed, InLengths}
use Rattle.optimize.specs.Choice.{choice_of, lowest_of, ChoiceStands}
use Rattle.optimize.proofs.Choices.{lowest_after}
use Rattle.optimize.proofs.Scan.{blank, word_in, word_is, word_placed, word_number, word_first, word_length, word_contour, scan_step}
use Rattle.optimize.proofs.nearest.nearest_waiting.Goals as goal

pub loop-i-init : goal.loop-i-init
unfolding ChoiceStands choice_of lowest_of highest_layer
loop-i-init c = record { place = tt; lowest = refl; choice = λ cs e a. sym (foremost_is (layer_of (plate_of c.args.checked.now.input)) nearer_end _) }

pub contour_at-contour-requires : goal.contour_at-contour-requires
contour_at-contour-requires c =
    let w = c.requires in
    let h = c.loop-i-test.true in
    record { listed = rw (word_number _ w.0 w.1 w.2 h) (word_placed _ w.0 w.1 w.2 h).listed; some = omega (arith, word_length _ w.0 w.1 w.2 h) }

pub invariant_of-c : goal.invariant_of-c
invariant_of-c c =
    let w = c.requires in
    let h = c.loop-i-test.true in
    let i = c.loop-i.i in
    let k = word_placed _ w.0 w.1 w.2 h in
    let r = c.contour_at-contour in
    let x : r.result.first.0 ≡ (get_or w.0 i blank).first = r.ensures.first ∙ word_first _ w.0 w.1 w.2 h in
    let y : r.result.last ≡ (get_or w.0 i blank).last = omega (arith, r.ensures.last, word_length _ w.0 w.1 w.2 h) in
    record { small = omega (arith, x, y, k.small); held = omega (arith, x, y, k.inside, c.args.checked.now.accepted.counted) }

pub loop-i-preserved : goal.loop-i-preserved
unfolding plate layer_at contour_of
loop-i-preserved c =
    let l = c.loop-i in
    let h = c.loop-i-test.true in
    let r = c.contour_at-contour in
    let n = c.choice_after-best.ensures in
    let p = plate_of c.args.checked.now.input in
    let m : get_or c.args.checked.now.input.layers.now r.result.number 0 ≡ layer_at p (contour_of r.result) = refl in
    let x = n.leads p refl l.invariant.lowest m in
    let word : (cs : List Contour) → _ ≡ map packed cs → All (InLengths _) cs → contour_of r.result ≡ get_or cs l.i blank =
    λ cs f g. word_contour _ cs f g h _ r.ensures.number r.ensures.first r.ensures.last in
    let w = c.requires in
    record {
      place = n.stands _ l.invariant.place h (word_is _ w.0 w.1 w.2 h ∙ ap packed (sym (word w.0 w.1 w.2)));
      lowest = c.min-lowest.ensures ∙ ap₂ min l.invariant.lowest m ∙ sym (lowest_after p c.args.q (contour_of r.result) (choice_of l.best)) ∙ ap (lowest_of p) (sym x);
      choice = λ cs f g.
          sym (scan_step p _ _ _ cs l.i (word_in _ cs f g h) (x ∙ ap (λ (d : Contour). leads_in (layer_of p) nearer_end (choice_of l.best) (nearer_sense p c.args.q d)) (word cs f g)))
          ∙ l.invariant.choice cs f g;
    }
