-- `packed_contours::move_down` meets its contract. Assumes nothing.
use Rattle.std.proofs.Common.{slice_set, List, ℕ, ap, ◌∙◌}
use Rattle.packed_contours.proofs.MovedDown.{moved}
use Rattle.packed_contours.proofs.move_down.Goals as goal

pub returns : goal.returns
returns c = ap (λ (xs : List ℕ). slice_set xs c.args.s c.args.word) c.copy_within.ensures.after ∙ moved c.args.work.now c.args.s c.args.k c.args.word c.requires.below c.requires.inside
