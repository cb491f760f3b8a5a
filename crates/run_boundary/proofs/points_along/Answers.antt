use Rattle.std.specs.Prelude.{◌≡◌, ◌+◌, ◌*◌, pos, Float, List, get_or, length, replicate}
use Rattle.std.proofs.Common.{ap, ◌∙◌, arith, take_at}
use Rattle.std.proofs.lemmas.List.{get_or-replicate}
use Rattle.std.specs.Float.{binary64}
use Rattle.std.specs.Float.Ieee.{of_int}
use lib.Ieee.{of_bits}
use Rattle.run_boundary.proofs.points_along.Goals as goal

-- src/lib.rt:52:1
pub returns-clause-seconds : goal.returns-clause-seconds
unfolding of_int of_bits
returns-clause-seconds g c k d h =
    let zeros : c.in_ok-points.points.items ≡ replicate (2 * c.args.n) (of_int binary64 (pos 0)) = c.in_ok-points.ensures.items_if_clones_equal (λ y e. e) in
    let same = c.as_mut_slice.ensures.value in
    let len : length c.along.new.xs ≡ c.in_ok-points.points.len = c.along.ensures.len ∙ c.as_mut_slice.ensures.len in
    ap (λ (xs : List Float). get_or xs (2 * k + 1) d) (take_at c.along.new.xs _ c.in_ok-points.points.len len)
    ∙ c.along.ensures.seconds k d
    ∙ rw (same, zeros) (get_or-replicate (2 * c.args.n) (2 * k + 1) _ d (omega (arith, h)))
