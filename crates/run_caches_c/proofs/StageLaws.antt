-- From one stage to the next: the path grows, the caches are seeded; and what is known of the contour that was emitted. Assumes nothing.
use mathlib.Core.Path.{◌≡◌, refl, ap, subst, ◌∙◌}
use mathlib.Core.Logic.{inl, inr}
use mathlib.Core.List.{List, [], ◌∷◌}
use Prim.Native.Nat.{ℕ, zero, suc, ◌+◌, ◌*◌, ◌/◌, ◌≤◌, ◌<◌}
use native.Mathlib.Nat.{le_refl}
use native.Mathlib.Omega.{arith}
use lib.Ieee.{Float}
use lib.ListN.{length, get_or}
use Rattle.rules.specs.Limits.{most_cells}
use Rattle.rules.specs.HandedOver.{Plate, Contour, plate, contours_from}
use Rattle.rules.specs.Contours.{Among}
use Rattle.rules.specs.SamplesAndCache.{Waiting}
use Rattle.rules.specs.declared.SpatialGrid.{SpatialGrid}
use Rattle.rules.specs.declared.StartPointStrategy.TheVariants.{Outside}
use Rattle.plate_laws.specs.Contours.{all_among}
use Rattle.plate_laws.specs.Lists.{all_give}
use Rattle.work_layout.specs.Laid.{Laid}
use Rattle.work_layout.specs.Parts.{from, KeptBelow, KeptFrom}
use Rattle.work_layout.specs.declared.Layout.{Layout}
use Rattle.samples.specs.OwnerLaws.{sampled_length}
use Rattle.samples.specs.Vertices.{vertex_from}
use Rattle.waiting.specs.Holds.{Holds, Changed}
use Rattle.prepare.specs.PreparedSlices.{prepared_kept}
use Rattle.prepare.specs.SlicesKept.{holds_kept}
use Rattle.history.specs.History.{Ready}
use Rattle.history.specs.OneMorePoint.{ready_kept}
use Rattle.history.specs.CutPath.{cut, count_cut, ready_uncut}
use Rattle.run_caches_c.specs.Stages.{Stage}

-- the contour with number j, where it is not empty
contour_among : (ns : List ℕ) (j a v : ℕ) → 0 < get_or ns j 0 → (e : Contour) × Among e (contours_from a v ns) × (e.number ≡ a + j)
unfolding contours_from
contour_among [] j a v l = absurd (omega arith)
contour_among (zero ∷ ns) zero a v l = absurd (omega arith)
contour_among (suc n ∷ ns) zero a v l = (_, inl refl, omega arith)
contour_among (zero ∷ ns) (suc j) a v l =
    let (e, m, h) = contour_among ns j (suc a) v l in (e, m, omega arith)
contour_among (suc n ∷ ns) (suc j) a v l =
    let (e, m, h) = contour_among ns j (suc a) (v + suc n) l in (e, inr m, omega arith)

module _ {xs : List Float} {ns : List ℕ} {g : SpatialGrid} {room : ℕ} {lay : Layout} {ds : List Float} {w : List ℕ} {k : ℕ}
    {f : Plate → Contour → Waiting} (s : Stage xs ns g room lay ds w k f) where
  laid : Laid lay (length w)
  laid = s.querying.prepared.plated.laid

  -- further points are on the path
  pub grown : {w' : List ℕ} (count : ℕ) → 2 * count ≤ length xs → Ready g (cut xs count) w' (length (cut xs count) / 2) →
      KeptFrom (most_cells + length (cut xs count) / 2) w w' → count ≤ room → length w' ≡ length w →
      Stage xs ns g room lay ds w' count f
  grown {w' = w'} count long h behind fits same =
      let n = count_cut xs count long in
      let ready = ready_uncut xs count long g w' count (le_refl count) (rw n at h) in
      let kept = rw n at behind in
      record {
        start = s.start;
        points = s.points;
        contours = s.contours;
        querying =
            record {
              prepared = prepared_kept xs g lay w w' laid (λ i l m. kept i (omega (arith, laid, s.start))) ds ds refl same s.querying.prepared;
              ready = ready;
              apart = omega (arith, s.start);
            };
        flags = λ i l. kept (lay.flags + i) (omega (arith, s.start)) ∙ s.flags i l;
        same = s.same;
        held = λ p e.
            all_give _ _ (λ c h. holds_kept xs g lay ds w w' laid (λ i l. kept i (omega (arith, laid, s.start))) (f p c) h) (contours_from 0 0 ns)
            (s.held p e);
      }

  -- every cache is changed
  pub changed : {ds' : List Float} {w' : List ℕ} (h : Plate → Waiting → Waiting) → ((p : Plate) (c : Waiting) → (h p c).contour ≡ c.contour) →
      Changed xs g lay ds w ds' w' h → KeptBelow lay.entries w w' → KeptFrom lay.heads w w' → length ds' ≡ length ds →
      length w' ≡ length w → Stage xs ns g room lay ds' w' k (λ p c. h p (f p c))
  changed {ds' = ds'} {w' = w'} h contour change below heads same_ds same =
      record {
        start = s.start;
        points = s.points;
        contours = s.contours;
        querying =
            record {
              prepared = prepared_kept xs g lay w w' laid (λ i l m. heads i l) ds ds' same_ds same s.querying.prepared;
              ready = ready_kept g xs w w' k lay.entries s.querying.ready below (omega (arith, laid, s.querying.apart)) same;
              apart = s.querying.apart;
            };
        flags = λ i l. below (lay.flags + i) (omega (arith, laid)) ∙ s.flags i l;
        same = λ p c. contour p (f p c) ∙ s.same p c;
        held = λ p e. all_give _ _ (λ c q. change p e (f p c) q) (contours_from 0 0 ns) (s.held p e);
      }

  -- the slices hold a contour's first vertex and its length
  pub told : (p : Plate) (e : Contour) (number : ℕ) → e.number ≡ number → Holds xs g lay ds w (f p e) →
      (from w lay.firsts number ≡ e.first) × (from w lay.waiting number ≡ suc e.last)
  told p e number n h =
      subst (λ (j : ℕ). (from w lay.firsts j ≡ e.first) × (from w lay.waiting j ≡ suc e.last)) n
      (subst (λ (c : Contour). (from w lay.firsts c.number ≡ c.first) × (from w lay.waiting c.number ≡ suc c.last)) (s.same p e)
      (h.first, h.waits))

  -- what settling asks for
  module _ (number : ℕ) (some : 0 < get_or ns number 0) where
    p : Plate
    p = plate xs ns [] 0 0 Outside

    pub emitted : (number < lay.contours) × (1 ≤ from w lay.waiting number)
        × (from w lay.firsts number + from w lay.waiting number ≤ lay.points)
    unfolding p plate
    emitted =
        let (e, m, n) = contour_among ns number 0 0 some in
        let h = all_among (λ c. Holds xs g lay ds w (f p c)) (contours_from 0 0 ns) (s.held p refl) e m in
        let c = (f p e).contour in
        let fits = h.owned.fits in
        let long = sampled_length (vertex_from xs c.first) g.cell_size c.last in
        let own : e.number ≡ number = omega (arith, n) in
        let is : c.number ≡ number = ap (λ (d : Contour). d.number) (s.same p e) ∙ own in
        subst (λ (j : ℕ). (j < lay.contours) × (1 ≤ from w lay.waiting j) × (from w lay.firsts j + from w lay.waiting j ≤ lay.points)) is
        (h.number, omega (arith, h.waits), omega (arith, h.waits, h.first, fits, long))
