-- Laws on `over`: one more entry, a part that is written by itself, and a slice's length. Assumes nothing.
use Rattle.std.specs.Prelude.{◌≡◌, refl, List, [], ◌∷◌, ◌++◌, ℕ, zero, suc, ◌+◌, ◌≤◌, ◌<◌, min, length, take, drop, set}
use Rattle.std.proofs.Common.{sym, ap, ap₂, ◌∙◌, append_assoc, not-suc-le-zero, le_of_suc-le-suc, arith, length-append, length-take, length-drop, take-append-drop, take_at, drop_at, drop-drop}
use Rattle.std.proofs.Math.Nat.{min-zero, zero-min, suc-min-suc}
use Rattle.std.proofs.lemmas.List.{drop-append-le}
use Rattle.rules.specs.HandedOver.{over}

-- as many as there are, of those that fit
pub take_min : {A : Type 0} (n : ℕ) (xs : List A) → take (min (length xs) n) xs ≡ take n xs
take_min zero xs = rw (min-zero)
take_min (suc n) [] = rw (zero-min)
take_min {A} (suc n) (x ∷ xs) = rw (suc-min-suc) (ap {B = List A} (λ r. x ∷ r) (take_min n xs))

pub over_length : {A : Type 0} (new slice : List A) → length new ≤ length slice → length (over new slice) ≡ length slice
unfolding over
over_length new slice h = simp (length-append, length-drop) (omega arith)

-- one more entry is a store behind the last
pub over_snoc : {A : Type 0} (new slice : List A) (x : A) → length new < length slice →
    over (new ++ (x ∷ [])) slice ≡ set (over new slice) (length new) x
unfolding over
over_snoc [] [] x h = absurd (not-suc-le-zero h)
over_snoc [] (y ∷ ys) x h = refl
over_snoc (a ∷ bs) [] x h = absurd (not-suc-le-zero h)
over_snoc {A} (a ∷ bs) (y ∷ ys) x h = ap {B = List A} (λ r. a ∷ r) (over_snoc bs ys x (le_of_suc-le-suc h))

-- a list over a part of n entries, and what comes after the part
pub over_rest : {A : Type 0} (new slice : List A) (n : ℕ) → length new ≤ n → n ≤ length slice → over new (take n slice) ++ drop n slice ≡ over new slice
unfolding over
over_rest {A} new slice n h l =
    append_assoc new (drop (length new) (take n slice)) (drop n slice)
    ∙ ap (λ (r : List A). new ++ r)
    (sym (drop-append-le (length new) (take n slice) (drop n slice) (omega (arith, length-take n slice)))
    ∙ ap (drop (length new)) (take-append-drop n slice))

-- a slice that starts with `old`, and of which the n entries behind that are lent: `new` is written there
pub over_part : {A : Type 0} (old new slice : List A) (k n : ℕ) → length old ≡ k → length new ≤ n → k + n ≤ length slice →
    take k (over old slice) ++ (over new (take n (drop k (over old slice))) ++ drop n (drop k (over old slice))) ≡ over (old ++ new) slice
unfolding over
over_part {A} old new slice k n e h l =
    ap₂ (λ (p r : List A). p ++ (over new (take n r) ++ drop n r)) (take_at old (drop (length old) slice) k e) (drop_at old (drop (length old) slice) k e)
    ∙ ap (λ (r : List A). old ++ r) (over_rest new (drop (length old) slice) n h (omega (arith, length-drop (length old) slice)))
    ∙ sym (append_assoc old new (drop (length new) (drop (length old) slice)))
    ∙ ap (λ (r : List A). (old ++ new) ++ r) (drop-drop (length new) (length old) slice ∙ ap (λ (j : ℕ). drop j slice) (sym (length-append old new)))
