-- The mark of path point i cuts a segment that has a flag, or it doesn't.
use Rattle.std.proofs.Common.{◌≡◌, ◌*◌, ◌/◌, ◌≤◌, length, suc, arith}
use Rattle.rules.specs.Marks.{kind_at, reference_at}
use Rattle.recovery_parts.specs.CutFlags.{flags_none, flags_kept, flags_beyond, flags_cut, flags_all}
use Rattle.recovery_parts.proofs.flag_cuts.Goals as goal
use Rattle.recovery_parts.proofs.flag_cuts.Goals.{then-marks-i-eq-CUT+then-r-flags, else-marks-i-eq-CUT, else-marks-i-eq-CUT-via-then-marks-i-eq-CUT+else-r-flags, else-marks-i-eq-CUT-via-else-marks-i-eq-CUT}

pub loop-i-init : goal.loop-i-init
loop-i-init c =
    let e = c.fill.ensures.after (λ y z. z) in
    record { flags = rw e (flags_none c.args.marks.now (length c.args.flags.now)) }

pub loop-i-preserved : goal.loop-i-preserved
unfolding kind_at reference_at
loop-i-preserved c =
    let l = c.loop-i in
    let ms = c.args.marks.now in
    let f = l.invariant.flags in
    let h : 2 * suc l.i ≤ length ms = omega (arith, c.loop-i-test.true) in
    record {
      flags = elim c.if-marks-i-eq-CUT.branch [
        | then-marks-i-eq-CUT+then-r-flags w ↦ rw w.flags-is (flags_cut ms l.i h l.flags f w.if-marks-i-eq-CUT.true w.if-r-flags.true)
        | else-marks-i-eq-CUT w ↦ rw w.flags-is (elim w.else-marks-i-eq-CUT.branch [
          | else-marks-i-eq-CUT-via-then-marks-i-eq-CUT+else-r-flags x ↦ flags_beyond ms l.i h l.flags f x.if-r-flags.false
          | else-marks-i-eq-CUT-via-else-marks-i-eq-CUT x ↦ flags_kept ms l.i h l.flags f x.if-marks-i-eq-CUT.false
        ])
      ];
    }

pub returns-clause-flags : goal.returns-clause-flags
returns-clause-flags c =
    let l = c.loop-i in
    let end : l.i ≡ length c.args.marks.now / 2 = omega arith in
    flags_all c.args.marks.now l.i l.flags (omega (arith, c.requires, end)) l.invariant.flags
