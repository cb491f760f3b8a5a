-- The foremost among the numbers of the contours that wait is the number of the contour that the rules choose. Assumes nothing.
use mathlib.Core.Path.{◌≡◌, refl, sym, ap, ◌∙◌}
use mathlib.Core.Bool.{Bool, true, false}
use mathlib.Core.List.{List, [], ◌∷◌, map}
use mathlib.Core.Option
use mathlib.Core.Option.{Option, none, some, map-eq-none_iff, map-eq-some_iff}
use Prim.Native.Nat.{ℕ, zero, suc, ◌+◌}
use native.Mathlib.Omega.{arith}
use native.Mathlib.Decide.{ℕ_discrete}
use lib.ListN.{get_or}
use lib.Ieee.{Float, nan}
use lib.Dec.{leb}
use Rattle.std.specs.Prelude.{Some}
use Rattle.rules.specs.Tools.{pick, foldl, leads, highest_layer, foremost}
use Rattle.rules.specs.HandedOver.{Plate, Contour, layer_at}
use Rattle.rules.specs.SamplesAndCache.{Waiting}
use Rattle.rules.specs.Retrace.{closer, waiting_layer, choose, waiting_number}
use Rattle.rules.specs.declared.SpatialGrid.{SpatialGrid}
use Rattle.plate_laws.specs.Lists.{All, all_give}
use Rattle.plate_laws.specs.Layers.{beats_in, taking, leads_in, foremost_has}
use Rattle.plate_laws.proofs.Layers.{foremost_is}
use Rattle.contours.specs.ContourOf.{contour_of}
use Rattle.contours.specs.declared.ContourRange as code
use Rattle.work_layout.specs.Parts.{from}
use Rattle.work_layout.specs.declared.Layout.{Layout}
use Rattle.waiting.specs.Holds.{Holds}
use Rattle.waiting.specs.Leader.{closer_by, layer_by}
use Rattle.waiting.specs.WaitingNumbers.{waiters_from, Lined}
use Rattle.waiting.specs.NumberLaws.{waiters_skip, waiters_take}
use Rattle.waiting.specs.Picks.{Picks}
use Rattle.waiting.specs.declared.Candidate.{Candidate}

-- ---- it waits

waiters_wait : (waits : ℕ → ℕ) (j n : ℕ) → All (λ i. waits i ≡ 0 → ⊥) (waiters_from waits j n)
unfolding waiters_from
waiters_wait waits j zero = tt
waiters_wait waits j (suc n) = go (ℕ_discrete (waits j) 0) (waiters_wait waits (suc j) n)
  where
    go : Dec (waits j ≡ 0) → All (λ i. waits i ≡ 0 → ⊥) (waiters_from waits (suc j) n) → All (λ i. waits i ≡ 0 → ⊥) (waiters_from waits j (suc n))
    go (yes e) a = rw (waiters_skip waits j n e) a
    go (no d) a = rw (waiters_take waits j n d) (d, a)

-- ---- it is the one that the rules choose

-- the number of the one that has the lead
abbrev lead_number : Option Waiting → Option ℕ
lead_number o = Option.map waiting_number o

number_picked : (t : Bool) (w : Waiting) (o : Option Waiting) → lead_number (pick t (some w) o) ≡ pick t (some (waiting_number w)) (lead_number o)
unfolding pick
number_picked true w o = refl
number_picked false w o = refl

module _ (p : Plate) (ls : List ℕ) (same : p.layers ≡ ls) (ds : List Float) where
  -- its cached distance is in the slice
  abbrev CachedAs : Waiting → Type 0
  CachedAs w = get_or ds (waiting_number w) nan ≡ w.kept.squared

  abbrev LeadKept : Option Waiting → Type 0
  LeadKept none = Unit {0}
  LeadKept (some w) = CachedAs w

  -- the lead after one more, by the rules and by the numbers
  abbrev by_rules : Option Waiting → Waiting → Option Waiting
  by_rules = leads_in (waiting_layer p) closer

  abbrev by_numbers : Option ℕ → ℕ → Option ℕ
  by_numbers = leads_in (layer_by ls) (closer_by ds)

  same_layer : (w : Waiting) → layer_by ls (waiting_number w) ≡ waiting_layer p w
  unfolding layer_by waiting_layer layer_at waiting_number
  same_layer w = rw same

  same_test : (w best : Waiting) → CachedAs w → CachedAs best →
      beats_in (layer_by ls) (closer_by ds) (waiting_number w) (waiting_number best) ≡ beats_in (waiting_layer p) closer w best
  unfolding beats_in closer_by waiting_number closer
  same_test w best h b = rw (same_layer w, same_layer best, h, b)

  lead_number_lem : (o : Option Waiting) (w : Waiting) → LeadKept o → CachedAs w → lead_number (by_rules o w) ≡ by_numbers (lead_number o) (waiting_number w)
  unfolding leads_in taking leads
  lead_number_lem none w b h = rw (same_layer w) (number_picked (leb (waiting_layer p w) highest_layer) w none)
  lead_number_lem (some best) w b h = rw (same_test w best h b) (number_picked (beats_in (waiting_layer p) closer w best) w (some best))

  picked_kept : (t : Bool) (w : Waiting) (o : Option Waiting) → CachedAs w → LeadKept o → LeadKept (pick t (some w) o)
  unfolding pick
  picked_kept true w o h b = h
  picked_kept false w o h b = b

  lead_kept : (o : Option Waiting) (w : Waiting) → LeadKept o → CachedAs w → LeadKept (by_rules o w)
  unfolding leads_in taking leads
  lead_kept none w b h = picked_kept (leb (waiting_layer p w) highest_layer) w none h b
  lead_kept (some best) w b h = picked_kept (beats_in (waiting_layer p) closer w best) w (some best) h b

  -- the same leads after ws
  led_number : (ws : List Waiting) (o : Option Waiting) → All CachedAs ws → LeadKept o →
      lead_number (foldl by_rules o ws) ≡ foldl by_numbers (lead_number o) (map waiting_number ws)
  led_number [] o a b = refl
  led_number (w ∷ ws) o a b =
      led_number ws (by_rules o w) a.1 (lead_kept o w b a.0) ∙ ap (λ (i : Option ℕ). foldl by_numbers i (map waiting_number ws)) (lead_number_lem o w b a.0)

  choose_number : (ws : List Waiting) → All CachedAs ws → lead_number (choose p ws) ≡ foremost (layer_by ls) (closer_by ds) (map waiting_number ws)
  unfolding choose
  choose_number ws a =
      ap lead_number (foremost_is (waiting_layer p) closer ws) ∙ led_number ws none a tt ∙ sym (foremost_is (layer_by ls) (closer_by ds) (map waiting_number ws))

-- ---- as the slices have it

contour_is : (c : Contour) (k : code.ContourRange) → k.number ≡ c.number → k.first.0 ≡ c.first → k.last + 1 ≡ suc c.last → contour_of k ≡ c
unfolding contour_of
contour_is c k n f s = let l : k.last ≡ c.last = omega arith in rw (n, f, l)

module _ (lay : Layout) (ls : List ℕ) (ds : List Float) (w : List ℕ) where
  abbrev pub first_one : Option ℕ
  first_one = foremost (layer_by ls) (closer_by ds) (waiters_from (from w lay.waiting) 0 lay.contours)

  pub leader_waits : (r : ℕ) → some r ≡ first_one → from w lay.waiting r ≡ 0 → ⊥
  leader_waits r led =
      foremost_has (layer_by ls) (closer_by ds) (λ i. from w lay.waiting i ≡ 0 → ⊥) _ (waiters_wait (from w lay.waiting) 0 lay.contours) r (sym led)

  module _ (p : Plate) (xs : List Float) (g : SpatialGrid) (ws : List Waiting) (same : p.layers ≡ ls) (lined : Lined (from w lay.waiting) lay.contours ws)
      (held : All (Holds xs g lay ds w) ws) where
    leader_is : first_one ≡ lead_number (choose p ws)
    unfolding Lined waiting_number
    leader_is = ap (foremost (layer_by ls) (closer_by ds)) (sym lined) ∙ sym (choose_number p ls same ds ws (all_give _ _ (λ c h. h.squared) ws held))

    pub none_chosen : none ≡ first_one → choose p ws ≡ none
    none_chosen led = (map-eq-none_iff waiting_number (choose p ws)).0 (sym (led ∙ leader_is))

    pub candidate_chosen : (k : Candidate) (r : ℕ) → some r ≡ first_one → k.contour.number ≡ r → k.contour.first.0 ≡ from w lay.firsts r →
        k.contour.last + 1 ≡ from w lay.waiting r → k.entry.0 ≡ from w lay.entries r → Picks (Some k) (choose p ws)
    unfolding choose waiting_number
    candidate_chosen k r led n f l v =
        let o = (map-eq-some_iff waiting_number (choose p ws)).0 (sym (led ∙ leader_is)) in
        let c = o.0 in
        let h = foremost_has (waiting_layer p) closer (Holds xs g lay ds w) ws held c o.1 in
        let e : c.contour.number ≡ r = o.2 in (
          c,
          o.1,
          contour_is c.contour k.contour (n ∙ sym e) (f ∙ ap (from w lay.firsts) (sym e) ∙ h.first) (l ∙ ap (from w lay.waiting) (sym e) ∙ h.waits),
          v ∙ ap (from w lay.entries) (sym e) ∙ h.entry,
        )
