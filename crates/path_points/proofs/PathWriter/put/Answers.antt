-- `PathWriter::put`, with room for the point: the stores and the insertion are those of the definitions.
use Rattle.std.proofs.Common.{refl, ◌*◌, ◌+◌, arith, length-set}
use Rattle.path_points.proofs.PutPoint.{behind_pen, put_pen, put_grows, put_kept, inserted_length}
use Rattle.path_points.proofs.PathWriter.put.Goals as goal

pub invariant_of-self : goal.invariant_of-self
invariant_of-self c =
    let w = c.args.self.now in
    record { pen = behind_pen w.pen (2 * w.count) c.args.p.x (omega arith) }

pub invariant_of-self-2 : goal.invariant_of-self-2
invariant_of-self-2 c =
    let w = c.args.self.now in
    let half = behind_pen w.pen (2 * w.count) c.args.p.x (omega arith) in
    record { pen = behind_pen half (2 * w.count + 1) c.args.p.y (omega arith) }

pub invariant_of-self-5 : goal.invariant_of-self-5
invariant_of-self-5 c =
    record { pen = rw (c.insert.ensures) (put_pen c.args.self.now.pen c.if-self.false _ _ _ c.requires.x c.requires.y) }

pub returns-clause-written : goal.returns-clause-written
returns-clause-written c =
    let pen = c.args.self.now.pen in
    let l = c.if-self.false in
    let i = c.insert.ensures in
    record {
      pen = rw i (put_pen pen l _ _ _ c.requires.x c.requires.y);
      fits = omega arith;
      more = omega arith;
      kept = rw i (put_kept pen l _ 0 0);
      same_path = simp length-set refl;
      same_marks = simp length-set refl;
      same_work = rw i (inserted_length pen l _ 0 0);
    }

pub returns-clause-adds : goal.returns-clause-adds
returns-clause-adds c =
    rw (c.kind.ensures, c.reference.ensures) (put_grows c.args.self.now.pen c.if-self.false _ _ _)
