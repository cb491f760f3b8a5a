-- Laws on `foremost`, the winner among those of the lowest layer: it has what all of the list have, there is one where all take part, none of the list is of a
-- lower layer, and where all are of one layer it is the winner as without layers. And the one in the lead, where a lower layer beats a higher one: one pass over
-- the list finds the same (proofs/Layers.antt). Assumes nothing.
use Rattle.std.specs.Prelude.{◌≡◌, Bool, ◌&&◌, ◌||◌, ℕ, zero, suc, ◌≤◌, ◌<◌, min, leb, ltb, eqb, length}
use Rattle.std.proofs.Math.Path.{refl, sym, ap}
use Rattle.std.proofs.Common.{subst}
use Rattle.std.proofs.Math.Bool.{true, false}
use mathlib.Core.List.{List, [], ◌∷◌, map}
use Rattle.std.proofs.Math.Option.{Option, none, some}
use native.Mathlib.Omega.{arith}
use Rattle.std.proofs.lemmas.Bool.{eqb-false}
use borrow.Author.Tests.{eqb-true, le-leb, lt-leb, eq-eqb}
use Rattle.rules.specs.Tools.{pick, foldl, having, least, leads, winner, highest_layer, lowest, foremost}
use Rattle.plate_laws.specs.Lists.{All, all_give, all_map, map-all, foldl-keeps}
use Rattle.plate_laws.specs.Winner.{winner_has, winner_some}

-- ---- the least of a list of numbers

least_from : (n : ℕ) (ns : List ℕ) → (foldl min n ns ≤ n) × All (λ k. foldl min n ns ≤ k) ns
least_from n [] = (omega arith, tt)
least_from n (k ∷ ks) = let h = least_from (min n k) ks in (omega arith, (omega arith, h.1))

pub least_low : (ns : List ℕ) → All (λ k. least ns ≤ k) ns
unfolding least
least_low [] = tt
least_low (n ∷ ns) = least_from n ns

-- what is below all is below the least
pub least_high : (k n : ℕ) (ns : List ℕ) → All (λ i. k ≤ i) (n ∷ ns) → k ≤ least (n ∷ ns)
unfolding least
least_high k n ns a = foldl-keeps (λ i. k ≤ i) (λ i. k ≤ i) min (λ b x h i. omega arith) ns a.1 n a.0

-- ---- a lower layer beats; of two of one layer the one that beats

unfoldable pub beats_in : {A : Type 0} → (A → ℕ) → (A → A → Bool) → A → A → Bool
beats_in layer beats new best = ltb (layer new) (layer best) || (eqb (layer new) (layer best) && beats new best)

-- the lead, if it takes part
unfoldable pub taking : {A : Type 0} → (A → ℕ) → Option A → Option A
taking layer none = none
taking layer (some x) = pick (leb (layer x) highest_layer) (some x) none

module _ {A : Type 0} (layer : A → ℕ) where
  pub taking_low : (x : A) → layer x ≤ highest_layer → taking layer (some x) ≡ some x
  unfolding taking pick
  taking_low x h = rw (le-leb (layer x) highest_layer h)

  pub taking_high : (x : A) → highest_layer < layer x → taking layer (some x) ≡ none
  unfolding taking pick
  taking_high x h = rw (lt-leb (layer x) highest_layer h)

-- the lead after one more
unfoldable pub leads_in : {A : Type 0} → (A → ℕ) → (A → A → Bool) → Option A → A → Option A
leads_in layer beats none x = taking layer (some x)
leads_in layer beats (some best) x = leads (beats_in layer beats) (some best) x

-- ---- what the foremost has

module _ {A : Type 0} (layer : A → ℕ) where
  having_keeps : (P : A → Type 0) (m : ℕ) (xs : List A) → All P xs → All P (having layer m xs)
  unfolding having pick
  having_keeps P m [] a = tt
  having_keeps P m (x ∷ xs) a = go (eqb (layer x) m) (having_keeps P m xs a.1)
    where
      go : (b : Bool) → All P (having layer m xs) → All P (pick b (x ∷ having layer m xs) (having layer m xs))
      go true r = (a.0, r)
      go false r = r

  having_of : (m : ℕ) (xs : List A) → All (λ x. layer x ≡ m) (having layer m xs)
  unfolding having pick
  having_of m [] = tt
  having_of m (x ∷ xs) = go (eqb (layer x) m) refl (having_of m xs)
    where
      go : (b : Bool) → eqb (layer x) m ≡ b → All (λ y. layer y ≡ m) (having layer m xs) → All (λ y. layer y ≡ m) (pick b (x ∷ having layer m xs) (having layer m xs))
      go true e r = (eqb-true (layer x) m e, r)
      go false e r = r

  -- where none is of layer m, and none below it, all are above it
  having_none : (m : ℕ) (xs : List A) → All (λ x. m ≤ layer x) xs → length (having layer m xs) ≡ 0 → All (λ x. suc m ≤ layer x) xs
  unfolding having pick
  having_none m [] a h = tt
  having_none m (x ∷ xs) a h = go (eqb (layer x) m) refl h (having_none m xs a.1)
    where
      above : (k : ℕ) → m ≤ k → (k ≡ m → ⊥) → suc m ≤ k
      above k l d = omega (arith, d)

      go : (b : Bool) → eqb (layer x) m ≡ b → length (pick b (x ∷ having layer m xs) (having layer m xs)) ≡ 0 →
          (length (having layer m xs) ≡ 0 → All (λ y. suc m ≤ layer y) xs) → All (λ y. suc m ≤ layer y) (x ∷ xs)
      go true e n rest = absurd (omega arith)
      go false e n rest = (above (layer x) a.0 (eqb-false (layer x) m e), rest n)

  lowest_keeps : (P : A → Type 0) (xs : List A) → All P xs → All P (lowest layer xs)
  unfolding lowest pick
  lowest_keeps P xs a = go (leb (least (map layer xs)) highest_layer)
    where
      go : (b : Bool) → All P (pick b (having layer (least (map layer xs)) xs) [])
      go true = having_keeps P (least (map layer xs)) xs a
      go false = tt

  lowest_of : (xs : List A) → All (λ x. layer x ≡ least (map layer xs)) (lowest layer xs)
  unfolding lowest pick
  lowest_of xs = go (leb (least (map layer xs)) highest_layer)
    where
      go : (b : Bool) → All (λ x. layer x ≡ least (map layer xs)) (pick b (having layer (least (map layer xs)) xs) [])
      go true = having_of (least (map layer xs)) xs
      go false = tt

  lowest_some : (xs : List A) → 1 ≤ length xs → All (λ x. layer x ≤ highest_layer) xs → 1 ≤ length (lowest layer xs)
  unfolding lowest pick
  lowest_some [] h a = absurd (omega arith)
  lowest_some (x ∷ xs) h a =
      let m = least (map layer (x ∷ xs)) in
      let low = map-all (λ k. m ≤ k) layer (x ∷ xs) (least_low (map layer (x ∷ xs))) in
      rw (le-leb m highest_layer (omega (arith, low.0, a.0))) (go (length (having layer m (x ∷ xs))) refl low)
    where
      go : (n : ℕ) → length (having layer (least (map layer (x ∷ xs))) (x ∷ xs)) ≡ n → All (λ y. least (map layer (x ∷ xs)) ≤ layer y) (x ∷ xs) →
          1 ≤ length (having layer (least (map layer (x ∷ xs))) (x ∷ xs))
      go (suc n) e low = omega (arith, e)
      go zero e low =
          let m = least (map layer (x ∷ xs)) in
          let over = least_high (suc m) (layer x) (map layer xs) (all_map (λ k. suc m ≤ k) layer (x ∷ xs) (having_none m (x ∷ xs) low e)) in
          absurd (omega (arith, over))

module _ {A : Type 0} (layer : A → ℕ) (beats : A → A → Bool) where
  pub foremost_has : (P : A → Type 0) (xs : List A) → All P xs → (w : A) → foremost layer beats xs ≡ some w → P w
  unfolding foremost
  foremost_has P xs a w e = winner_has P beats (lowest layer xs) (lowest_keeps layer P xs a) w e

  -- where all take part, there is one
  pub foremost_some : (xs : List A) → 1 ≤ length xs → All (λ x. layer x ≤ highest_layer) xs → (w : A) × (foremost layer beats xs ≡ some w)
  unfolding foremost
  foremost_some xs h a = winner_some beats (lowest layer xs) (lowest_some layer xs h a)

  -- no other is of a lower layer
  pub foremost_low : (xs : List A) (w : A) → foremost layer beats xs ≡ some w → All (λ x. layer w ≤ layer x) xs
  unfolding foremost
  foremost_low xs w e =
      let m = least (map layer xs) in
      let same = winner_has (λ x. layer x ≡ m) beats (lowest layer xs) (lowest_of layer xs) w e in
      all_give (λ x. m ≤ layer x) (λ x. layer w ≤ layer x) (λ x l. omega (arith, same)) xs (map-all (λ k. m ≤ k) layer xs (least_low (map layer xs)))

  pub foremost_empty : foremost layer beats [] ≡ none
  unfolding foremost lowest least highest_layer having winner pick
  foremost_empty = refl

  -- ---- one layer for all

  having_all : (m : ℕ) (xs : List A) → All (λ x. layer x ≡ m) xs → having layer m xs ≡ xs
  unfolding having pick
  having_all m [] a = refl
  having_all m (x ∷ xs) a = rw (eq-eqb (layer x) m a.0, having_all m xs a.1)

  lowest_all : (m : ℕ) (xs : List A) → m ≤ highest_layer → All (λ x. layer x ≡ m) xs → lowest layer xs ≡ xs
  unfolding lowest least highest_layer having pick
  lowest_all m [] h a = refl
  lowest_all m (x ∷ xs) h a =
      let low = least_low (map layer (x ∷ xs)) in
      let high = least_high m (layer x) (map layer xs) (all_map (λ k. m ≤ k) layer (x ∷ xs) (all_give _ _ (λ y e. omega arith) (x ∷ xs) a)) in
      let e : least (map layer (x ∷ xs)) ≡ m = omega (arith, low.0, high, a.0) in
      subst (λ n. pick (leb n highest_layer) (having layer n (x ∷ xs)) [] ≡ x ∷ xs) (sym e)
      (rw (le-leb m highest_layer h) (having_all m (x ∷ xs) a))

  pub foremost_all : (m : ℕ) (xs : List A) → m ≤ highest_layer → All (λ x. layer x ≡ m) xs → foremost layer beats xs ≡ winner beats xs
  unfolding foremost
  foremost_all m xs h a = ap (winner beats) (lowest_all m xs h a)
