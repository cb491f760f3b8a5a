-- A list after a part of it was copied up by one place and a number stored below the copy. Assumes nothing.
use Rattle.std.proofs.Common.{◌≡◌, List, [], ◌∷◌, ◌++◌, append_assoc, ℕ, ◌+◌, ◌-◌, ◌≤◌, ◌<◌, add-one, arith, length, get_or, take, drop, set, length-take, take-suc}
use Rattle.std.proofs.lemmas.List.{set_at}
use Rattle.std.specs.List.{copy_within}

pub moved : (w : List ℕ) (s k x : ℕ) → s ≤ k → k < length w →
    set (copy_within w s k (s + 1)) s x ≡ take s w ++ (x ∷ (take (k - s) (drop s w) ++ drop (k + 1) w))
moved w s k x low high =
    let e : s + 1 + (k - s) ≡ k + 1 = omega arith in
    let n : length (take s w) ≡ s = omega (arith, length-take s w) in
    let front : take (s + 1) w ≡ take s w ++ (get_or w s 0 ∷ []) = rw add-one (take-suc w s 0 (omega arith)) in
    rw (e, front) (simp append_assoc (set_at (take s w) (get_or w s 0) (take (k - s) (drop s w) ++ drop (k + 1) w) x s n))
