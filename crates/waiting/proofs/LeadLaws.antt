-- The lead among contours that are told by their numbers, one contour after another. Assumes nothing.
use mathlib.Core.Path.{◌≡◌, refl, sym, ap, ◌∙◌}
use mathlib.Core.Bool.{Bool, true, false, not}
use mathlib.Core.List.{List, ◌∷◌}
use mathlib.Core.Option.{Option, none}
use Prim.Native.Nat.{ℕ, suc, ◌+◌, ◌-◌, ◌≤◌, ◌<◌}
use native.Mathlib.Omega.{arith}
use native.Mathlib.Numerals.{add-one}
use lib.Dec.{eqb}
use lib.Ieee.{Float}
use lib.ListN.{length, get_or, take, drop, length-take, length-drop}
use lib.Seq.{get_or-take, get_or-drop}
use Rattle.rules.specs.Tools.{pick, foldl, foremost}
use Rattle.plate_laws.specs.Layers.{leads_in, taking_low, taking_high}
use Rattle.plate_laws.proofs.Layers.{beats_lower, beats_higher, beats_alike, foremost_is}
use Rattle.work_layout.specs.Parts.{from}
use Rattle.waiting.specs.Leader.{closer_by, layer_by}
use Rattle.waiting.specs.WaitingNumbers.{waiters_from}

-- who has the lead by layers
pub ruleset by_layers = (taking_low, taking_high, beats_lower, beats_higher, beats_alike)

-- the numbers that are gone over lie in the slice
pub scanned_length : (w : List ℕ) (a n : ℕ) → a + n ≤ length w → length (take (a + n - a) (drop a w)) ≡ n
scanned_length w a n h = simp (length-take, length-drop) (omega arith)

pub scanned_at : (w : List ℕ) (a n j : ℕ) → j < n → get_or (take (a + n - a) (drop a w)) j 0 ≡ from w a j
scanned_at w a n j h = get_or-take (a + n - a) (drop a w) j 0 (omega arith) ∙ get_or-drop a w j 0

module _ (ls : List ℕ) (ds : List Float) (waits : ℕ → ℕ) where
  -- the lead in the end, when the contours from j on come after one
  abbrev pub led_from : ℕ → ℕ → Option ℕ → Option ℕ
  led_from n j lead = foldl (leads_in (layer_by ls) (closer_by ds)) lead (waiters_from waits j (n - j))

  led_more : (n j : ℕ) (lead : Option ℕ) → j < n →
      led_from n j lead ≡ led_from n (j + 1) (pick (not (eqb (waits j) 0)) (leads_in (layer_by ls) (closer_by ds) lead j) lead)
  unfolding waiters_from pick
  led_more n j lead l = let e : n - j ≡ suc (n - (j + 1)) = omega arith in rw (e, add-one) (go (eqb (waits j) 0) (waiters_from waits (suc j) (n - suc j)))
    where
      go : (b : Bool) (rest : List ℕ) → foldl (leads_in (layer_by ls) (closer_by ds)) lead (pick b rest (j ∷ rest)) ≡ foldl (leads_in (layer_by ls) (closer_by ds)) (pick (not b) (leads_in (layer_by ls) (closer_by ds) lead j) lead) rest
      go true rest = refl
      go false rest = refl

  -- one contour more, after which another has the lead
  pub led_step : {n j w : ℕ} (lead : Option ℕ) {new won : Option ℕ} → j < n → w ≡ waits j → new ≡ pick (not (eqb w 0)) (leads_in (layer_by ls) (closer_by ds) lead j) lead →
      led_from n j lead ≡ won → led_from n (j + 1) new ≡ won
  led_step {n = n} {j = j} lead l s e h = ap (led_from n (j + 1)) (rw s at e) ∙ sym (led_more n j lead l) ∙ h

  pub led_end : (n j : ℕ) (lead : Option ℕ) → n ≤ j → led_from n j lead ≡ lead
  unfolding waiters_from
  led_end n j lead l = let e : n - j ≡ 0 = omega arith in rw e

  pub led_start : (n : ℕ) → led_from n 0 none ≡ foremost (layer_by ls) (closer_by ds) (waiters_from waits 0 n)
  led_start n = let e : n - 0 ≡ n = omega arith in rw e (sym (foremost_is (layer_by ls) (closer_by ds) (waiters_from waits 0 n)))
