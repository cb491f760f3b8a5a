-- How near a first root is to the roots of the numbers that its k leads. Assumes nothing.
use Rattle.std.specs.Prelude.{ℕ, ◌+◌, ◌*◌, ◌/◌, ◌^◌, ◌≤◌, ◌<◌}
use Rattle.std.proofs.Common.{lt_of_le_of_lt, arith}
use Rattle.rounding.specs.FloorRoot.{IsRoot, sq_lt_back}
use Rattle.first_roots.specs.FirstRoots.{IsFirstRoot, WithinA256th, WithinA256thOfRoot}

pub first_root_is_near : (n e : ℕ) → 2 ^ 60 ≤ n → n < 2 ^ 62 → IsFirstRoot (n / 2 ^ 52) e → WithinA256thOfRoot (n * 2 ^ 48) (e * 2 ^ 40)
first_root_is_near n e L H h = go (n / 2 ^ 52) h (omega arith) (omega arith) (omega arith) (omega arith)
  where
    go : (k : ℕ) → IsFirstRoot k e → 256 ≤ k → k < 1024 → k * 2 ^ 52 ≤ n → n < (k + 1) * 2 ^ 52 → WithinA256thOfRoot (n * 2 ^ 48) (e * 2 ^ 40)
    go k h l u a b =
        let s : e < 32768 = sq_lt_back e 32768 (omega (arith, h.square)) in
        record { at_most = omega (arith, h.square); near = omega (arith, h.next) }

-- and so to their whole parts
pub whole_root_is_near : (n s r : ℕ) → WithinA256thOfRoot n s → IsRoot n r → WithinA256th r s
whole_root_is_near n s r w i =
    let l : s < r + 1 = sq_lt_back s (r + 1) (lt_of_le_of_lt w.at_most i.1) in
    let u : 255 * r < 256 * s = sq_lt_back (255 * r) (256 * s) (omega (arith, w.near, i.0)) in
    record { at_most = omega arith; near = omega arith }
