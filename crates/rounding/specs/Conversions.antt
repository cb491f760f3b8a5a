-- A whole number of 32 bits as a float: `as` is exact there. Assumes nothing.
use Rattle.std.specs.Prelude.{ℕ, ◌^◌, ◌<◌, false, pos}
use Rattle.std.proofs.Common.{le_of_lt, lt_of_lt_of_le, lit≤}
use Rattle.std.specs.Float.{binary64}
use Rattle.std.specs.Float.Ieee.{of_int}
use Rattle.std.specs.Float.Ieee.Back.{round_whole}
use Rattle.std.specs.Float.Ieee.Exact.{HasValue}

pub u32_exact : (n : ℕ) → n < 2 ^ 32 → HasValue (of_int binary64 (pos n)) false n 1
unfolding of_int
u32_exact n h = round_whole binary64 false n (le_of_lt (lt_of_lt_of_le h (lit≤ {m = 2 ^ 32} {n = 2 ^ 53} tt)))
