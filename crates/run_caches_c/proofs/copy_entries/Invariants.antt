-- The invariant of `run_caches_c::copy_entries`: the entries before j are copied. Assumes nothing.
use Rattle.std.proofs.Common.{◌≡◌, ℕ, ◌<◌, get_or}
use Rattle.work_layout.specs.Parts.{from}
use Rattle.run_caches_c.proofs.copy_entries.Given as goal

abbrev pub invariant-loop-j : goal.invariant-loop-j
invariant-loop-j l = (i : ℕ) → i < l.j → get_or l.entries i 0 ≡ from l.work l.lay.entries i
