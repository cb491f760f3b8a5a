-- What a checked input answers. Definitions only.
use Rattle.std.specs.Prelude.{ℕ, Result, Ok, Err}
use Rattle.rules.specs.Tools.{sum}
use Rattle.rules.specs.declared.Refusal.{Refusal}
use Rattle.plate.specs.declared.checked_input.CheckedInput.{CheckedInput}

-- P, or the refusal
abbrev pub counted : Result CheckedInput Refusal → Result ℕ Refusal
counted (Ok c) = Ok (sum c.input.lengths.now)
counted (Err r) = Err r
