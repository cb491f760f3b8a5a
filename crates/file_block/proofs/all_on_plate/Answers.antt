-- All the patterns are those of numbers on the plate.
use Rattle.std.proofs.Common.{◌∙◌, ◌/◌, length, rules}
use Rattle.std.proofs.lemmas.Iterator.{YieldsList-from_slice}
use Rattle.std.proofs.lemmas.Iterator.Search.{all_from_yields_List}
use Rattle.file_block.specs.Parts.{pattern_on, all_on}
use Rattle.file_block.proofs.all_on_plate.Goals as goal

pub returns : goal.returns
returns c =
    let bs = c.args.places.now in
    all_from_yields_List pattern_on _ _ _ c.all.ensures.ran (YieldsList-from_slice _ cc) (λ x b q k. search rules)
    ∙ all_on (length bs / 8) bs
