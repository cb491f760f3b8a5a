-- `run_words::Place::unlike` counts the elements that are not their words.
use Rattle.std.proofs.Common.{refl, sym, ◌∙◌, arith}
use Rattle.run_words.proofs.Places.{capped, compared_same, compared_other, compared_all}
use Rattle.run_words.proofs.Place.unlike.Goals as goal
use Rattle.run_words.proofs.Place.unlike.Goals.{then-not-is_word, else-not-is_word}

pub loop-k-preserved : goal.loop-k-preserved
loop-k-preserved g c =
    let x = c.index-xs-k.result in
    let word = c.word_at.ensures ∙ capped c.args.self.text.now _ c.args.self.word c.loop-k.k _ (omega arith) refl c.saturating_add.ensures in
    elim c.if-not-is_word.branch [
      | then-not-is_word w ↦ rw w.differ-is
          (compared_other g.T.Recorded.is_word _ _ _ x _ _ _ c.loop-k.invariant c.loop-k-test.true word
          (rw (← c.index-xs-k.is) (sym c.is_word.ensures ∙ w.if-not-is_word.true)))
      | else-not-is_word w ↦ rw w.differ-is
          (compared_same g.T.Recorded.is_word _ _ _ x _ _ _ c.loop-k.invariant c.loop-k-test.true word
          (rw (← c.index-xs-k.is) (sym c.is_word.ensures ∙ w.if-not-is_word.false)))
    ]

pub returns : goal.returns
returns g c = compared_all g.T.Recorded.is_word _ _ _ _ _ c.loop-k.invariant c.loop-k-test.false
