-- The place at the cursor decides, or the rest of the chain does.
use Rattle.std.proofs.Common.{◌-◌, sym, ◌∙◌, arith}
use Rattle.landings.specs.Chain.{on_end, on_found, on_other}
use Rattle.landings.proofs.words.Landings.is_chained.Goals as goal

pub returns-then-self-place : goal.returns-then-self-place
returns-then-self-place c =
    let w = c.args.self.now in
    let l = c.loop-cursor in
    sym (on_found w.vertices.now w.links.now w.falling.links_fall c.args.v.0 l.cursor c.loop-cursor-test.true c.if-self-place.true)
    ∙ l.invariant.rest

pub loop-cursor-preserved : goal.loop-cursor-preserved
loop-cursor-preserved c =
    let w = c.args.self.now in
    let l = c.loop-cursor in
    record {
      within = omega (arith, w.falling.links_fall (l.cursor - 1), l.invariant.within);
      rest = on_other w.vertices.now w.links.now w.falling.links_fall c.args.v.0 l.cursor c.loop-cursor-test.true c.if-self-place.false
          ∙ l.invariant.rest;
    }

pub returns : goal.returns
returns c =
    let w = c.args.self.now in
    let l = c.loop-cursor in
    let end = on_end w.vertices.now w.links.now w.falling.links_fall c.args.v.0 in
    sym end ∙ rw c.loop-cursor-test.false at l.invariant.rest
