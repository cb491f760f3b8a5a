-- `wide::square` meets its contract.
use Rattle.std.proofs.Common.{ℕ, ◌*◌, ◌/◌, ◌%◌, ap, ◌∙◌, div-add-mod', arith}
use Rattle.rounding.specs.Wide.{square_is}
use Rattle.wide.proofs.square.Goals as goal

pub returns : goal.returns
returns c =
    let s = c.args.s in
    record { value = square_is (s / 4294967296) (s % 4294967296) ∙ ap (λ (x : ℕ). x * x) (div-add-mod' s 4294967296); low = omega arith }
