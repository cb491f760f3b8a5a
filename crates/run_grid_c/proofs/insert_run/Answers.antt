-- `run_grid_c::insert_run`: one more place is inserted.
use Rattle.std.proofs.Common.{◌∙◌, arith}
use Rattle.history.specs.OneMorePoint.{inserted_kept}
use Rattle.run_grid_c.proofs.InsertStep.{ready_next}
use Rattle.run_grid_c.proofs.insert_run.Goals as goal

pub loop-k-preserved : goal.loop-k-preserved
loop-k-preserved c =
    let l = c.loop-k in
    let i = c.insert in (
      rw (i.ensures, c.path_point-p.ensures) (ready_next _ _ _ l.k c.args.g.sane c.requires.on_plate l.invariant.0 (omega arith) (omega arith)),
      omega arith,
      i.auto.work ∙ l.invariant.2,
      λ j m. rw i.ensures (inserted_kept _ _ l.k _ c.args.g.sane j (omega arith)) ∙ l.invariant.3 j m,
    )
