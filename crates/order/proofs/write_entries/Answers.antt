-- A turn writes one entry behind the last.
use Rattle.std.proofs.Common.{◌≡◌, ◌+◌, ◌*◌, Bool, true, false, List, ℕ, refl, sym, ap, ◌∙◌, get_or, slice_set, arith, length-set}
use Rattle.std.specs.Int.{from_bool}
use Rattle.slices.specs.Pairs.{pairs, pairs_store}
use Rattle.rules.specs.Tools.{pick}
use Rattle.rules.specs.HandedOver.{over}
use Rattle.packed_contours.specs.PackedNumbers.{number_in}
use Rattle.order.specs.Senses.{told_sense}
use Rattle.order.proofs.write_entries.Goals as goal

sense_told : (b : Bool) → from_bool b ≡ pick b 1 0
unfolding pick
sense_told true = refl
sense_told false = refl

pub loop-i-init : goal.loop-i-init
unfolding pairs over
loop-i-init c = (refl, refl)

pub loop-i-preserved : goal.loop-i-preserved
loop-i-preserved c =
    let l = c.loop-i in
    let a = c.args in
    let packed = c.from-packed.ensures in
    let sense = c.from.ensures ∙ sense_told c.from-packed.result.reversed ∙ ap (λ (b : Bool). pick b 1 0) packed.reversed in (
      simp length-set (omega arith),
      rw (packed.number, sense) (ap (λ (o : List ℕ). slice_set (slice_set o (2 * l.i) (number_in (get_or a.words.now l.i 0))) (2 * l.i + 1) (told_sense (get_or a.words.now l.i 0))) l.invariant.1)
          ∙ sym (pairs_store number_in told_sense 0 a.words.now a.order.now l.i (omega arith) (omega arith)),
    )
