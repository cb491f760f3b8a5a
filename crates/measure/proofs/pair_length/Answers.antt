-- The distance times 1,024 is exact, and cut to a whole number it is the length.
use Rattle.std.proofs.Common.{◌∙◌}
use Rattle.std.specs.Float.Ieee.{of_bits}
use Rattle.length_laws.specs.WholePart.{length_is}
use Rattle.measure.proofs.pair_length.Goals as goal

pub returns : goal.returns
unfolding of_bits
returns c =
    let a = c.requires.first in
    let b = c.requires.second in
    c.truncated.ensures ∙ rw c.distance.ensures (length_is c.args.a c.args.b a.0 a.1 b.0 b.1)
