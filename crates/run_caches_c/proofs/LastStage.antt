-- A contour waits no more, and the caches of the others are updated around it. Assumes nothing.
use mathlib.Core.Path.{◌≡◌, sym, ap, subst, ◌∙◌}
use mathlib.Core.List.{List}
use Prim.Native.Nat.{ℕ, ◌+◌, ◌<◌}
use native.Mathlib.Omega.{arith}
use lib.Ieee.{Float}
use lib.ListN.{get_or}
use Rattle.rules.specs.HandedOver.{Plate, Contour, contours, contours_from, vertex_at}
use Rattle.rules.specs.SamplesAndCache.{waiting, seed, update, cells_around}
use Rattle.rules.specs.declared.Point.{Point}
use Rattle.rules.specs.declared.SpatialGrid.{SpatialGrid}
use Rattle.plate_laws.specs.Lists.{All, all_give}
use Rattle.work_layout.specs.Parts.{from}
use Rattle.work_layout.specs.declared.Layout.{Layout}
use Rattle.waiting.specs.Holds.{Holds, Changed}
use Rattle.waiting.specs.Waits.{stopped}
use Rattle.prepare.specs.SlicesKept.{holds_left}
use Rattle.history.specs.History.{points}
use Rattle.caches.specs.QueryNeeds.{Querying}
use Rattle.contours.specs.declared.ContourRange as code
use Rattle.contours.specs.ContourOf.{contour_of}
use Rattle.run_caches_c.specs.Results.{after, Shows, Others}
use Rattle.run_caches_c.specs.Stages.{Stage, OthersUpdated}
use Rattle.run_caches_c.proofs.StageLaws.{told}

module _ {xs : List Float} {g : SpatialGrid} {lay : Layout} {ds : List Float} {w : List ℕ} {count number : ℕ}
    (q : Querying xs g lay ds w xs count) (l : number < lay.contours) where
  -- c is the contour as the code has read it
  pub settled : (c : code.ContourRange) {ds' : List Float} {w' : List ℕ} → c.number ≡ number → c.first.0 ≡ from w lay.firsts number →
      c.last + 1 ≡ from w lay.waiting number →
      Changed xs g lay ds (stopped lay w c.number) ds' w' (λ p d. update p g (points xs count) (cells_around (vertex_at p (contour_of c)) g c.last) d) →
      OthersUpdated xs g lay number count ds w ds' w'
  unfolding contour_of vertex_at
  settled c en ef el h p e d same a f z apart held =
      let first : c.first.0 ≡ e.first = ef ∙ f in
      let last : c.last ≡ e.last = omega (arith, el, z) in
      let is : contour_of c ≡ e = λ i. record { number = (en ∙ sym a) i; first = first i; last = last i } in
      rw (sym is) ((rw en at h) p same d (holds_left xs g lay ds w q.prepared.plated.laid number l d apart held))

-- ---- all contours but the one that was emitted

module _ {xs : List Float} {ns : List ℕ} {g : SpatialGrid} {lay : Layout} (number : ℕ) where
  -- by the stage before, in which the caches are seeded by a path
  pub others_held : (count : ℕ) (path : List Point) {room k : ℕ} {ds : List Float} {w : List ℕ} {ds' : List Float} {w' : List ℕ} →
      Stage xs ns g room lay ds w k (λ p c. seed p g path (waiting p g c)) → OthersUpdated xs g lay number count ds w ds' w' →
      (p : Plate) → p.points ≡ xs → p.lengths ≡ ns → Others p g number path (points xs count) (Holds xs g lay ds' w')
  unfolding contours after Others
  others_held count path {ds' = ds'} {w' = w'} s t p e f =
      let held = s.held p e in
      subst
      (λ (ms : List ℕ).
      All (λ a. a.number ≡ number → All (λ c. (c.number ≡ number → ⊥) → Holds xs g lay ds' w' (after p g path (points xs count) a c)) (contours_from 0 0 ms))
      (contours_from 0 0 ms))
      (sym f)
      (all_give _ _
      (λ a h n.
      let b = told s p a number n h in
      all_give _ _ (λ c q d. t p a _ e n b.0 b.1 (λ z. d (sym (ap (λ (x : Contour). x.number) (s.same p c)) ∙ z)) q) (contours_from 0 0 ns) held)
      (contours_from 0 0 ns) held)

-- with the entries copied; g is the plate's grid
pub others_shown : (xs : List Float) (g own : SpatialGrid) (lay : Layout) (number : ℕ) (p : Plate) (path longer : List Point) (ds : List Float)
    (w es : List ℕ) → g ≡ own → Others p g number path longer (Holds xs g lay ds w) →
    ((j : ℕ) → j < lay.contours → get_or es j 0 ≡ from w lay.entries j) → Others p own number path longer (Shows ds es)
unfolding Others
others_shown xs g own lay number p path longer ds w es is h copied =
    subst (λ (x : SpatialGrid). Others p x number path longer (Shows ds es)) is
    (all_give _ _
    (λ a m n.
    all_give _ _ (λ c k d. let q = k d in record { squared = q.squared; entry = copied _ q.number ∙ q.entry }) (contours p) (m n))
    (contours p) h)
