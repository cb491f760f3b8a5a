-- A refusal writes nothing; else the coordinates have room, and all are copied.
use Rattle.std.proofs.Common.{◌≡◌, ◌*◌, ◌/◌, length, take, length-take-le, sym, arith}
use Rattle.std.proofs.lemmas.Result.{err_from_is_err_and}
use Rattle.rules.specs.HandedOver.{answer_of, number_of, place_of, refusal, over}
use Rattle.file_laws.specs.BlockCopies.{points_read}
use Rattle.file_laws.specs.Calls.{read_refused, read_full, read_whole}
use Rattle.plate_file.proofs.read_file.Goals as goal

pub returns-in_err-points : goal.returns-in_err-points
unfolding answer_of refusal
returns-in_err-points c =
    let p = err_from_is_err_and c.from_residual.result c.from_residual.ensures.1 in
    let o = read_refused c.args.file.now c.args.path.now _ _ (sym c.in_err-points.ensures) in
    rw (p.1, p.2) (record { answer = o.0; path = o.1 })

pub returns-then-path-numbers : goal.returns-then-path-numbers
unfolding answer_of refusal number_of place_of
returns-then-path-numbers c =
    let o = read_full c.args.file.now c.args.path.now _ (sym c.in_ok-points.ensures) c.if-path-numbers.true in
    record { answer = o.0; path = o.1 }

pub copy_blocks-requires-clause-reads : goal.copy_blocks-requires-clause-reads
unfolding answer_of
copy_blocks-requires-clause-reads c =
    let points = c.in_ok-points.points in
    let e : length (take (2 * points) c.args.path.now) / 2 ≡ points = omega (arith, length-take-le (2 * points) c.args.path.now c.if-path-numbers.false) in
    rw e (sym c.in_ok-points.ensures)

pub returns : goal.returns
unfolding answer_of over
returns c =
    let file = c.args.file.now in
    let path = c.args.path.now in
    let points = c.in_ok-points.points in
    let reads = sym c.in_ok-points.ensures in
    let o = read_whole file path points reads c.if-path-numbers.false in
    let n = points_read file points reads in
    record { answer = o.0; path = rw (c.copy_blocks.ensures, ← n) o.1 }
