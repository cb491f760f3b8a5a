-- Each turn passes a zero; a byte that is none decides, and so does the end.
use Rattle.std.proofs.Common.{◌∙◌, refl, sym, eqb, arith, take_all}
use borrow.Author.Tests.{ne_eqb}
use Rattle.std.proofs.lemmas.List.Folds.{list_all_at, list_all_more}
use Rattle.file_block.specs.Parts.{all_zero}
use Rattle.file_block.proofs.is_clear.Goals as goal

pub loop-b-init : goal.loop-b-init
loop-b-init c = refl

pub returns-then-b-ne0 : goal.returns-then-b-ne0
returns-then-b-ne0 c =
    let bytes = c.args.bytes.now in
    sym (list_all_at (λ b. eqb b 0) bytes c.loop-b.b-index 0 c.loop-b-test.true (ne_eqb _ 0 c.if-b-ne0.true)) ∙ all_zero bytes

pub loop-b-preserved : goal.loop-b-preserved
loop-b-preserved c =
    let l = c.loop-b in
    list_all_more (λ b. eqb b 0) c.args.bytes.now l.b-index 0 c.loop-b-test.true ∙ rw (l.invariant, c.if-b-ne0.false) refl

pub returns : goal.returns
returns c =
    let bytes = c.args.bytes.now in
    let l = c.loop-b in
    sym (rw (take_all l.b-index bytes (omega (arith, c.loop-b-test.false))) at l.invariant) ∙ all_zero bytes
