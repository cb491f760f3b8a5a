-- `run_words::Place::read_into` writes each element.
use Rattle.std.proofs.Common.{◌∙◌, refl, arith}
use Rattle.run_words.proofs.Places.{capped, copied_none, copied_more}
use Rattle.run_words.proofs.Place.read_into.Goals as goal

pub loop-k-init : goal.loop-k-init
loop-k-init g c = copied_none g.T.Recorded.of_word _ _ _

pub loop-k-preserved : goal.loop-k-preserved
loop-k-preserved g c =
    let word = c.word_at.ensures ∙ capped c.args.self.text.now _ c.args.self.word c.loop-k.k _ (omega arith) refl c.saturating_add.ensures in
    copied_more g.T.Recorded.of_word _ _ _ c.index-xs-k.result _ _ _ _ c.loop-k.invariant c.loop-k-test.true word c.of_word.ensures
