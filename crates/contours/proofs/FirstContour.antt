-- The contours of a list of lengths, by the first of them. Assumes nothing.
use Rattle.std.specs.Prelude.{◌≡◌, List, ◌∷◌, ℕ, zero, suc, ◌+◌, ◌-◌}
use Rattle.std.proofs.Common.{arith, add-zero, add-one}
use Rattle.rules.specs.HandedOver.{contours_from}

pub listed_none : (j v n : ℕ) (ns : List ℕ) → n ≡ 0 → contours_from j v (n ∷ ns) ≡ contours_from (j + 1) (v + n) ns
unfolding contours_from
listed_none j v zero ns e = rw (add-zero, add-one)
listed_none j v (suc n) ns e = absurd (omega arith)

pub listed_some : (j v n : ℕ) (ns : List ℕ) → (n ≡ 0 → ⊥) →
    contours_from j v (n ∷ ns) ≡ record { number = j; first = v; last = n - 1 } ∷ contours_from (j + 1) (v + n) ns
unfolding contours_from
listed_some j v zero ns e = absurd (omega arith)
listed_some j v (suc n) ns e = let k : suc n - 1 ≡ n = omega arith in rw (add-one, k)
