-- Laws on `winner`: it has what all of the list have, and a list that is not empty has one. Assumes nothing.
use Rattle.std.specs.Prelude.{◌≡◌, refl, Bool, true, false, List, [], ◌∷◌, ◌≤◌, length}
use Rattle.std.proofs.Math.Option.{Option, none, some}
use Rattle.std.proofs.Common.{arith}
use Rattle.rules.specs.Tools.{pick, foldl, leads, winner}
use Rattle.plate_laws.specs.Lists.{All, foldl-keeps}

-- the one in the lead, if there is one, has P
abbrev Led : {A : Type 0} → (A → Type 0) → Option A → Type 0
Led P none = Unit {0}
Led P (some x) = P x

leads_keeps : {A : Type 0} (P : A → Type 0) (beats : A → A → Bool) (o : Option A) (x : A) → P x → Led P o → Led P (leads beats o x)
unfolding leads pick
leads_keeps P beats none x h l = h
leads_keeps P beats (some best) x h l = go (beats x best)
  where
    go : (b : Bool) → Led P (pick b (some x) (some best))
    go true = h
    go false = l

-- what all have the winner has
pub winner_has : {A : Type 0} (P : A → Type 0) (beats : A → A → Bool) (xs : List A) → All P xs → (w : A) → winner beats xs ≡ some w → P w
unfolding winner
winner_has P beats xs a w e = rw e at (foldl-keeps P (Led P) (leads beats) (leads_keeps P beats) xs a none tt)

-- once there is a lead there is one to the end
led_some : {A : Type 0} (beats : A → A → Bool) (xs : List A) (best : A) → (w : A) × (foldl (leads beats) (some best) xs ≡ some w)
unfolding leads pick
led_some beats [] best = (best, refl)
led_some {A} beats (x ∷ xs) best = go (beats x best) (led_some beats xs x) (led_some beats xs best)
  where
    go : (b : Bool) → (w : A) × (foldl (leads beats) (some x) xs ≡ some w) → (w : A) × (foldl (leads beats) (some best) xs ≡ some w) →
        (w : A) × (foldl (leads beats) (pick b (some x) (some best)) xs ≡ some w)
    go true new old = new
    go false new old = old

-- a list that is not empty has a winner
pub winner_some : {A : Type 0} (beats : A → A → Bool) (xs : List A) → 1 ≤ length xs → (w : A) × (winner beats xs ≡ some w)
unfolding winner leads
winner_some beats [] h = absurd (omega arith)
winner_some beats (x ∷ xs) h = led_some beats xs x
