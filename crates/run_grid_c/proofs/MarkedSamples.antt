-- Samples that are marked in the first entries of a slice are marked in the slice. Assumes nothing.
use mathlib.Core.Path.{◌≡◌, sym, ap, ◌∙◌}
use mathlib.Core.List.{List, ◌++◌}
use Prim.Native.Nat.{ℕ, ◌+◌, ◌-◌, ◌≤◌, ◌<◌}
use native.Mathlib.Nat.{le_refl, add-sub_of_le}
use native.Mathlib.Omega.{arith}
use lib.Ieee.{Float}
use lib.ListN.{length, get_or, drop, get_or-append}
use lib.Seq.{get_or-append-add, get_or-drop}
use Rattle.rules.specs.Tools.{sum}
use Rattle.rules.specs.HandedOver.{Contour, contours_from}
use Rattle.plate_laws.specs.Lists.{all_give}
use Rattle.work_layout.specs.Parts.{KeptFrom}
use Rattle.samples.specs.Owners.{OwnedBy, MarkedAll}
use Rattle.samples.specs.OwnerLaws.{owned_more}

pub marked_longer : (xs : List Float) (s : Float) (ns part rest : List ℕ) → sum ns ≤ length part → MarkedAll xs s ns part →
    MarkedAll xs s ns (part ++ rest)
marked_longer xs s ns part rest h m =
    record { owned = all_give (Of part) (Of (part ++ rest)) longer (contours_from 0 0 ns) m.owned; most = λ v l. rw (same v l) (m.most v l) }
  where
    Of : List ℕ → Contour → Type 0
    Of owners = OwnedBy xs s (λ v. get_or owners v 0) (sum ns)

    same : (v : ℕ) → v < sum ns → get_or (part ++ rest) v 0 ≡ get_or part v 0
    same v l = get_or-append part rest 0 v (omega arith)

    longer : (c : Contour) → Of part c → Of (part ++ rest) c
    longer c o = owned_more _ _ (sum ns) (sum ns) _ _ _ o (le_refl (sum ns)) same (λ v l u e. absurd (omega arith))

pub behind_kept : (part owners : List ℕ) (n : ℕ) → length part ≡ n → KeptFrom n owners (part ++ drop n owners)
behind_kept part owners n e v l =
    let k = v - n in
    let here : length part + k ≡ v = omega arith in
    ap (λ (j : ℕ). get_or (part ++ drop n owners) j 0) (sym here)
    ∙ get_or-append-add part (drop n owners) k 0
    ∙ get_or-drop n owners k 0
    ∙ ap (λ (j : ℕ). get_or owners j 0) (add-sub_of_le l)
