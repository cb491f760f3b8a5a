-- `remainder::twos_taken` meets its contract.
use Rattle.remainder.proofs.BitPattern.{some_room, takes}
use Rattle.remainder.proofs.twos_taken.Goals as goal

pub overflow_sub-room : goal.overflow_sub-room
overflow_sub-room c = rw c.from-room.ensures (some_room c.args.r c.args.e c.requires.nonzero c.requires.fits)

pub returns-clause-most : goal.returns-clause-most
returns-clause-most c = rw (c.min.ensures, c.from-room.ensures) (takes c.args.r c.args.e c.requires.nonzero c.requires.fits).most

pub returns-clause-fits : goal.returns-clause-fits
returns-clause-fits c = rw (c.min.ensures, c.from-room.ensures) (takes c.args.r c.args.e c.requires.nonzero c.requires.fits).fits

pub returns-clause-filled : goal.returns-clause-filled
returns-clause-filled c = rw (c.min.ensures, c.from-room.ensures) (takes c.args.r c.args.e c.requires.nonzero c.requires.fits).filled
