-- The winner among those of the lowest layer is the winner of all where a lower layer beats a higher one, if that takes part: so one pass over the list finds
-- `foremost`. The definitions stand in specs/Layers.antt. Assumes nothing.
use Rattle.std.specs.Prelude.{◌≡◌, Bool, ◌⊎◌, ℕ, ◌≤◌, ◌<◌, leb, ltb, eqb}
use Rattle.std.proofs.Math.Path.{refl, sym, ap}
use Rattle.std.proofs.Common.{◌∙◌, inl, inr}
use Rattle.std.proofs.Math.Bool.{true, false}
use mathlib.Core.List.{List, [], ◌∷◌, map}
use Rattle.std.proofs.Math.Option.{Option, none, some, some-injective}
use native.Mathlib.Omega.{arith}
use Rattle.std.proofs.Math.Decide.{ℕ_discrete}
use borrow.Author.Tests.{leb-true, leb-false, ltb-true, ltb-false, lt-ltb, le-ltb, eq-eqb, ne_eqb}
use Rattle.rules.specs.Tools.{pick, foldl, having, least, leads, winner, highest_layer, lowest, foremost}
use Rattle.plate_laws.specs.Lists.{All, all_map, map-all}
use Rattle.plate_laws.specs.Winner.{winner_has, winner_some}
use Rattle.plate_laws.specs.Layers.{least_low, least_high, beats_in, taking, taking_low, taking_high, leads_in}

module _ {A : Type 0} (layer : A → ℕ) (beats : A → A → Bool) where
  pub beats_lower : (x best : A) → layer x < layer best → beats_in layer beats x best ≡ true
  unfolding beats_in
  beats_lower x best h = rw (lt-ltb (layer x) (layer best) h)

  pub beats_higher : (x best : A) → layer best < layer x → beats_in layer beats x best ≡ false
  unfolding beats_in
  beats_higher x best h = rw (le-ltb (layer x) (layer best) (omega arith), ne_eqb (layer x) (layer best) (λ e. omega arith))

  pub beats_alike : (x best : A) → layer x ≡ layer best → beats_in layer beats x best ≡ beats x best
  unfolding beats_in
  beats_alike x best h = rw (le-ltb (layer x) (layer best) (omega arith), eq-eqb (layer x) (layer best) h)

  -- how two layers compare
  compared : (a b : ℕ) → (a < b) ⊎ (b < a) ⊎ (a ≡ b)
  compared a b = go (ltb a b) refl (ltb b a) refl
    where
      go : (s : Bool) → ltb a b ≡ s → (t : Bool) → ltb b a ≡ t → (a < b) ⊎ (b < a) ⊎ (a ≡ b)
      go true x t y = inl (ltb-true a b x)
      go false x true y = inr (inl (ltb-true b a y))
      go false x false y = inr (inr (omega (arith, ltb-false a b x, ltb-false b a y)))

  -- ---- the one in the lead is of no higher layer than any so far

  -- the lead goes to one of two, and its layer is not above theirs
  lead_one : (best x : A) → (y : A) × (leads (beats_in layer beats) (some best) x ≡ some y) × (layer y ≤ layer best) × (layer y ≤ layer x)
  unfolding leads pick
  lead_one best x = go (compared (layer x) (layer best))
    where
      alike : (b : Bool) → layer x ≡ layer best → (y : A) × (pick b (some x) (some best) ≡ some y) × (layer y ≤ layer best) × (layer y ≤ layer x)
      alike true e = (x, refl, omega arith, omega arith)
      alike false e = (best, refl, omega arith, omega arith)

      go : (layer x < layer best) ⊎ (layer best < layer x) ⊎ (layer x ≡ layer best) →
          (y : A) × (leads (beats_in layer beats) (some best) x ≡ some y) × (layer y ≤ layer best) × (layer y ≤ layer x)
      go (inl h) = (x, rw (beats_lower x best h), omega arith, omega arith)
      go (inr (inl h)) = (best, rw (beats_higher x best h), omega arith, omega arith)
      go (inr (inr h)) = alike (beats_in layer beats x best) h

  lead_low : (xs : List A) (best w : A) → foldl (leads (beats_in layer beats)) (some best) xs ≡ some w →
      (layer w ≤ layer best) × All (λ x. layer w ≤ layer x) xs
  lead_low [] best w e = (omega (arith, ap layer (some-injective best w e)), tt)
  lead_low (x ∷ xs) best w e =
      let (y, f, l, r) = lead_one best x in
      let h = lead_low xs y w (rw f at e) in
      (omega arith, (omega arith, h.1))

  winner_low : (xs : List A) (w : A) → winner (beats_in layer beats) xs ≡ some w → All (λ x. layer w ≤ layer x) xs
  unfolding winner leads
  winner_low [] w e = tt
  winner_low (x ∷ xs) w e = lead_low xs x w e

  -- ---- the same by those of the lowest layer

  -- the one in the lead, where it is of layer m
  abbrev of_layer : ℕ → Option A → Option A
  of_layer m none = none
  of_layer m (some x) = pick (eqb (layer x) m) (some x) none

  of_layer_lem : (m : ℕ) (w : A) → layer w ≡ m → of_layer m (some w) ≡ some w
  unfolding pick
  of_layer_lem m w e = rw (eq-eqb (layer w) m e)

  -- no lead is of a layer below m
  abbrev Above : ℕ → Option A → Type 0
  Above m none = Unit {0}
  Above m (some x) = m ≤ layer x

  lead_of : (m : ℕ) (o : Option A) (x : A) → Above m o → m ≤ layer x →
      of_layer m (leads (beats_in layer beats) o x) ≡ pick (eqb (layer x) m) (leads beats (of_layer m o) x) (of_layer m o)
  unfolding leads pick
  lead_of m none x a h = refl
  lead_of m (some best) x a h = go (ℕ_discrete (layer x) m) (ℕ_discrete (layer best) m)
    where
      -- either leads: both are of layer m, or neither is
      both : (b : Bool) → layer x ≡ m → layer best ≡ m → of_layer m (pick b (some x) (some best)) ≡ pick b (some x) (some best)
      both true d e = rw (eq-eqb (layer x) m d)
      both false d e = rw (eq-eqb (layer best) m e)

      neither : (b : Bool) → (layer x ≡ m → ⊥) → (layer best ≡ m → ⊥) → of_layer m (pick b (some x) (some best)) ≡ none
      neither true d e = rw (ne_eqb (layer x) m d)
      neither false d e = rw (ne_eqb (layer best) m e)

      go : Dec (layer x ≡ m) → Dec (layer best ≡ m) →
          of_layer m (leads (beats_in layer beats) (some best) x) ≡ pick (eqb (layer x) m) (leads beats (of_layer m (some best)) x) (of_layer m (some best))
      go (yes d) (yes e) = rw (eq-eqb (layer x) m d, eq-eqb (layer best) m e, beats_alike x best (omega arith)) (both (beats x best) d e)
      go (yes d) (no e) = rw (eq-eqb (layer x) m d, ne_eqb (layer best) m e, beats_lower x best (omega arith)) (of_layer_lem m x d)
      go (no d) (yes e) = rw (ne_eqb (layer x) m d, eq-eqb (layer best) m e, beats_higher x best (omega arith)) (of_layer_lem m best e)
      go (no d) (no e) = rw (ne_eqb (layer x) m d, ne_eqb (layer best) m e) (neither (beats_in layer beats x best) d e)

  lead_above : (m : ℕ) (o : Option A) (x : A) → m ≤ layer x → Above m o → Above m (leads (beats_in layer beats) o x)
  unfolding leads pick
  lead_above m none x h a = h
  lead_above m (some best) x h a = go (beats_in layer beats x best)
    where
      go : (b : Bool) → Above m (pick b (some x) (some best))
      go true = h
      go false = a

  led_of : (m : ℕ) (xs : List A) (o : Option A) → All (λ x. m ≤ layer x) xs → Above m o →
      of_layer m (foldl (leads (beats_in layer beats)) o xs) ≡ foldl (leads beats) (of_layer m o) (having layer m xs)
  unfolding having pick
  led_of m [] o a h = refl
  led_of m (x ∷ xs) o a h =
      led_of m xs (leads (beats_in layer beats) o x) a.1 (lead_above m o x a.0 h)
      ∙ ap (λ (n : Option A). foldl (leads beats) n (having layer m xs)) (lead_of m o x h a.0)
      ∙ go (eqb (layer x) m) (having layer m xs)
    where
      go : (b : Bool) (rest : List A) →
          foldl (leads beats) (pick b (leads beats (of_layer m o) x) (of_layer m o)) rest ≡ foldl (leads beats) (of_layer m o) (pick b (x ∷ rest) rest)
      go true rest = refl
      go false rest = refl

  -- a list that is not empty, whose winner is w: it is of the lowest layer
  led_lowest : (x : A) (xs : List A) (w : A) → winner (beats_in layer beats) (x ∷ xs) ≡ some w → layer w ≡ least (map layer (x ∷ xs))
  led_lowest x xs w e =
      let m = least (map layer (x ∷ xs)) in
      let low = map-all (λ k. m ≤ k) layer (x ∷ xs) (least_low (map layer (x ∷ xs))) in
      let over = winner_has (λ y. m ≤ layer y) (beats_in layer beats) (x ∷ xs) low w e in
      let under = least_high (layer w) (layer x) (map layer xs) (all_map (λ k. layer w ≤ k) layer (x ∷ xs) (winner_low (x ∷ xs) w e)) in
      omega (arith, over, under)

  foremost_led : (m : ℕ) (xs : List A) → All (λ x. m ≤ layer x) xs → of_layer m (winner (beats_in layer beats) xs) ≡ winner beats (having layer m xs)
  unfolding winner
  foremost_led m xs a = led_of m xs none a tt

  -- ---- and what takes part

  foremost_none : foremost layer beats [] ≡ taking layer (winner (beats_in layer beats) [])
  unfolding foremost lowest least highest_layer having winner taking pick
  foremost_none = refl

  foremost_lowest : (x : A) (xs : List A) (w : A) → winner (beats_in layer beats) (x ∷ xs) ≡ some w → foremost layer beats (x ∷ xs) ≡ taking layer (some w)
  unfolding foremost lowest taking winner pick
  foremost_lowest x xs w e =
      let m = least (map layer (x ∷ xs)) in
      let low = map-all (λ k. m ≤ k) layer (x ∷ xs) (least_low (map layer (x ∷ xs))) in
      let d = led_lowest x xs w e in
      rw d (go (leb m highest_layer) (sym (foremost_led m (x ∷ xs) low) ∙ ap (of_layer m) e ∙ of_layer_lem m w d))
    where
      go : (b : Bool) → winner beats (having layer (least (map layer (x ∷ xs))) (x ∷ xs)) ≡ some w →
          winner beats (pick b (having layer (least (map layer (x ∷ xs))) (x ∷ xs)) []) ≡ pick b (some w) none
      go true f = f
      go false f = refl

  -- the winner among those of the lowest layer is the winner of all, where a lower layer beats, if that takes part
  foremost_winner : (xs : List A) → foremost layer beats xs ≡ taking layer (winner (beats_in layer beats) xs)
  foremost_winner [] = foremost_none
  foremost_winner (x ∷ xs) =
      let (w, e) = winner_some (beats_in layer beats) (x ∷ xs) (omega arith) in foremost_lowest x xs w e ∙ ap (taking layer) (sym e)

  -- ---- one pass over the list finds it

  -- the lead after one more, as far as it takes part
  leads_taking : (o : Option A) (x : A) → leads_in layer beats (taking layer o) x ≡ taking layer (leads (beats_in layer beats) o x)
  unfolding leads_in taking leads pick
  leads_taking none x = refl
  leads_taking (some best) x = go (leb (layer best) highest_layer) refl
    where
      -- neither takes part
      neither : highest_layer < layer x → highest_layer < layer best → (b : Bool) → taking layer (some x) ≡ taking layer (pick b (some x) (some best))
      neither h i true = refl
      neither h i false = taking_high layer x h ∙ sym (taking_high layer best i)

      alone : highest_layer < layer best → (layer x < layer best) ⊎ (layer best < layer x) ⊎ (layer x ≡ layer best) →
          taking layer (some x) ≡ taking layer (leads (beats_in layer beats) (some best) x)
      alone h (inl l) = rw (beats_lower x best l)
      alone h (inr (inl l)) = neither (omega arith) h (beats_in layer beats x best)
      alone h (inr (inr l)) = neither (omega arith) h (beats_in layer beats x best)

      go : (t : Bool) → leb (layer best) highest_layer ≡ t → leads_in layer beats (taking layer (some best)) x ≡ taking layer (leads (beats_in layer beats) (some best) x)
      go true e =
          let (y, f, l, r) = lead_one best x in
          let low = leb-true (layer best) highest_layer e in
          rw (taking_low layer best low) (f ∙ sym (taking_low layer y (omega arith)) ∙ ap (taking layer) (sym f))
      go false e =
          let high = leb-false (layer best) highest_layer e in
          rw (taking_high layer best high) (alone high (compared (layer x) (layer best)))

  led_taking : (xs : List A) (o : Option A) → foldl (leads_in layer beats) (taking layer o) xs ≡ taking layer (foldl (leads (beats_in layer beats)) o xs)
  led_taking [] o = refl
  led_taking (x ∷ xs) o = rw (leads_taking o x) (led_taking xs (leads (beats_in layer beats) o x))

  pub foremost_is : (xs : List A) → foremost layer beats xs ≡ foldl (leads_in layer beats) none xs
  unfolding winner taking
  foremost_is xs = foremost_winner xs ∙ sym (led_taking xs none)
