-- Waiting contours while the path grows: one is held as before where its own numbers stay; a whole list is changed together. Assumes nothing.
use Rattle.std.specs.Prelude.{◌≡◌, List, map, ℕ, ◌+◌, ◌<◌, Float, length}
use Rattle.std.proofs.Common.{◌∙◌, arith, length-set, get_or-set_other}
use Rattle.rules.specs.HandedOver.{Plate}
use Rattle.rules.specs.SamplesAndCache.{Waiting}
use Rattle.rules.specs.declared.SpatialGrid.{SpatialGrid}
use Rattle.plate_laws.specs.Lists.{All, all_give, all_map}
use Rattle.work_layout.specs.Laid.{Laid}
use Rattle.work_layout.specs.Parts.{from, KeptFrom}
use Rattle.work_layout.specs.declared.Layout.{Layout}
use Rattle.samples.specs.OwnerLaws.{owned_more}
use Rattle.waiting.specs.Holds.{Holds, Changed}
use Rattle.waiting.specs.Waits.{stopped}
use Rattle.prepare.specs.PreparedSlices.{Prepared, SamplesKept, owner_kept, prepared_kept}

module _ (xs : List Float) (g : SpatialGrid) (lay : Layout) (ds : List Float) (w w' : List ℕ) (laid : Laid lay (length w)) where
  holds_same : SamplesKept lay w w' → (c : Waiting) → (let j = c.contour.number in
      (from w' lay.waiting j ≡ from w lay.waiting j) × (from w' lay.firsts j ≡ from w lay.firsts j)
      × (from w' lay.entries j ≡ from w lay.entries j)) → Holds xs g lay ds w c → Holds xs g lay ds w' c
  holds_same kept c e h =
      record {
        number = h.number;
        owned =
            owned_more _ _ lay.points lay.points _ _ _ h.owned (omega arith) (owner_kept xs g lay w w' laid kept)
            (λ v a b q. absurd (omega arith));
        samples = h.samples;
        waits = e.0 ∙ h.waits;
        first = e.1 ∙ h.first;
        squared = h.squared;
        entry = e.2 ∙ h.entry;
      }

  -- where nothing from the entries on was altered
  pub holds_kept : KeptFrom lay.entries w w' → (c : Waiting) → Holds xs g lay ds w c → Holds xs g lay ds w' c
  holds_kept kept c h =
      let j = c.contour.number in
      holds_same (λ i l m. kept i (omega (arith, laid))) c
      (kept (lay.waiting + j) (omega (arith, laid)), kept (lay.firsts + j) (omega (arith, laid)), kept (lay.entries + j) (omega arith)) h

-- where contour j waits no more, and it is another
module _ (xs : List Float) (g : SpatialGrid) (lay : Layout) (ds : List Float) (w : List ℕ) (laid : Laid lay (length w)) (j : ℕ) where
  left_samples : SamplesKept lay w (stopped lay w j)
  left_samples i l m = get_or-set_other w (lay.waiting + j) i 0 0 (λ e. omega arith)

  pub prepared_left : Prepared xs g lay ds w → Prepared xs g lay ds (stopped lay w j)
  prepared_left p = prepared_kept xs g lay w (stopped lay w j) laid left_samples ds ds (omega arith) (length-set w (lay.waiting + j) 0) p

  pub holds_left : j < lay.contours → (c : Waiting) → (c.contour.number ≡ j → ⊥) → Holds xs g lay ds w c → Holds xs g lay ds (stopped lay w j) c
  holds_left l c d h =
      let i = c.contour.number in
      holds_same xs g lay ds w (stopped lay w j) laid left_samples c (
        get_or-set_other w (lay.waiting + j) (lay.waiting + i) 0 0 (λ e. d (omega arith)),
        get_or-set_other w (lay.waiting + j) (lay.firsts + i) 0 0 (λ e. omega (arith, laid, h.number)),
        get_or-set_other w (lay.waiting + j) (lay.entries + i) 0 0 (λ e. omega (arith, laid, h.number)),
      ) h

-- ---- all of a list

pub changed_all : (xs : List Float) (g : SpatialGrid) (lay : Layout) (ds : List Float) (w : List ℕ) (ds' : List Float) (w' : List ℕ)
    (f : Plate → Waiting → Waiting) → Changed xs g lay ds w ds' w' f → (p : Plate) → p.points ≡ xs → (cs : List Waiting) →
    All (Holds xs g lay ds w) cs → All (Holds xs g lay ds' w') (map (f p) cs)
changed_all xs g lay ds w ds' w' f h p e cs a =
    all_map (Holds xs g lay ds' w') (f p) cs (all_give (Holds xs g lay ds w) _ (h p e) cs a)
