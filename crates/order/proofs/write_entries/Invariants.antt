-- The entries of the words passed are written.
use Rattle.std.proofs.Common.{length, take, ◌≡◌}
use Rattle.rules.specs.HandedOver.{over}
use Rattle.slices.specs.Pairs.{pairs}
use Rattle.packed_contours.specs.PackedNumbers.{number_in}
use Rattle.order.specs.Senses.{told_sense}
use Rattle.order.proofs.write_entries.Given as goal

abbrev pub invariant-loop-i : goal.invariant-loop-i
invariant-loop-i l = (length l.order ≡ length l.fn.order) × (l.order ≡ over (pairs number_in told_sense (take l.i l.words)) l.fn.order)
