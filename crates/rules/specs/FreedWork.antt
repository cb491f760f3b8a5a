-- After which refusals the work slices are free (document 02, tickets 6 and 7), as rows.
use Rattle.std.specs.Prelude.{◌≡◌, refl, ℕ, true, false, List, [], ◌∷◌, map, get_or}
use Rattle.std.proofs.Common.{ap, arith}
use Rattle.rules.specs.Tools.{up_from}
use Rattle.rules.specs.HandedOver.{refuses, frees_work, WorkKept}

-- of the refusals 1 to 13, work is free after 6, 10, 11 and 12 alone
pub freed : map frees_work (up_from 1 13) ≡ (false ∷ false ∷ false ∷ false ∷ false ∷ true ∷ false ∷ false ∷ false ∷ true ∷ true ∷ true ∷ false ∷ [])
unfolding frees_work
freed = refl

-- after another it is unaltered
pub kept : WorkKept {A = Unit {0}} {B = ℕ} (refuses 5 0) (0 ∷ []) (1 ∷ []) → ⊥
unfolding frees_work WorkKept
kept k = omega (arith, ap (λ (w : List ℕ). get_or w 0 0) (k tt))
