-- A cell's chain is walked, and its samples are queried on the way. Assumes nothing.
use Prim.Native.Nat.{ℕ, zero, suc, ◌+◌, ◌-◌, ◌≤◌, ◌<◌}
use mathlib.Core.Path.{◌≡◌, refl, sym, subst, ◌∙◌}
use mathlib.Core.List.{List}
use native.Mathlib.Omega.{arith}
use lib.ListN.{length}
use lib.Ieee.{Float}
use Rattle.rules.specs.HandedOver.{at}
use Rattle.rules.specs.SamplesAndCache.{cell_at}
use Rattle.rules.specs.declared.Nearest.{Nearest}
use Rattle.rules.specs.declared.SpatialGrid.{SpatialGrid}
use Rattle.work_layout.specs.Laid.{Laid}
use Rattle.work_layout.specs.Parts.{from}
use Rattle.work_layout.specs.declared.Layout.{Layout}
use Rattle.samples.specs.Chains.{first_of, is_sample_in}
use Rattle.samples.specs.Walks.{fold_from, FoldStep, fold_none, fold_first}
use Rattle.prepare.specs.PreparedSlices.{Prepared}
use Rattle.caches.specs.HeldCache.{Held, held_at}
use Rattle.caches.specs.CacheMoves.{tried, tried_in, Moved}
use Rattle.caches.proofs.Reaches.{Reached, reached_step, reached_end, same_owners}

-- how far a cursor, 1 more than a vertex number or 0, is from the end of n vertices
unfoldable pub ahead : ℕ → ℕ → ℕ
ahead n zero = 0
ahead n (suc v) = n - v

ahead_less : (n a b : ℕ) → (a ≡ 0 → ⊥) → a - 1 < n → ((i : ℕ) → b ≡ suc i → a ≤ i) → ahead n b < ahead n a
unfolding ahead
ahead_less n zero b h l g = absurd (h refl)
ahead_less n (suc a) zero h l g = omega arith
ahead_less n (suc a) (suc b) h l g = omega (arith, g b refl)

module _ (xs : List Float) (g : SpatialGrid) (lay : Layout) (ask : ℕ → Nearest) (cell : ℕ) (ds₀ : List Float) (w₀ : List ℕ) where
  -- what is held of contour j after the cell's samples from vertex v on
  abbrev from_on : ℕ → ℕ → Held → Held
  from_on v j k =
      fold_from (is_sample_in (from w₀ lay.owners) (cell_at (at xs) g) cell) (tried (from w₀ lay.owners) ask j) (lay.points - v) v k

  -- the samples before vertex `next` are queried, and the cursor is at the next
  pub record Scan (ds : List Float) (w : List ℕ) (cursor : ℕ) : Type 0 where
    pub next : ℕ
    pub most : next ≤ lay.points
    pub at_next : cursor ≡ first_of (is_sample_in (from w₀ lay.owners) (cell_at (at xs) g) cell) (lay.points - next) next
    pub reached : Reached lay ds₀ w₀ ds w (from_on next) (from_on 0)

module _ {xs : List Float} {g : SpatialGrid} {lay : Layout} {cell : ℕ} {ds₀ : List Float} {w₀ : List ℕ} where
  module _ (prepared : Prepared xs g lay ds₀ w₀) (inside : cell < lay.cells) where
    laid : Laid lay (length w₀)
    laid = prepared.plated.laid

    module _ {ask : ℕ → Nearest} {ds : List Float} {w : List ℕ} {cursor : ℕ} (s : Scan xs g lay ask cell ds₀ w₀ ds w cursor) where
      module _ (some : cursor ≡ 0 → ⊥) where
        -- the cursor's vertex is the first that is left
        step : (j : ℕ) (k : Held) →
            FoldStep (is_sample_in (from w₀ lay.owners) (cell_at (at xs) g) cell) (tried (from w₀ lay.owners) ask j) (lay.points - s.next) s.next k (cursor - 1)
        step j k = let e : cursor ≡ suc (cursor - 1) = omega arith in fold_first _ _ _ _ _ (cursor - 1) (sym s.at_next ∙ e)

        abbrev held₀ : Held
        held₀ = held_at lay ds w 0

        pub scan_in : cursor - 1 < lay.points
        scan_in = let t = step 0 held₀ in omega (arith, t.below, s.most)

        link : from w₀ lay.next (cursor - 1)
            ≡ first_of (is_sample_in (from w₀ lay.owners) (cell_at (at xs) g) cell) (lay.points - suc (cursor - 1)) (suc (cursor - 1))
        link = prepared.chained.succ cell (cursor - 1) inside (omega arith) scan_in (step 0 held₀).passes

        module _ {ds' : List Float} {w' : List ℕ} (m : Moved lay ds w ds' w' (λ j. tried (from w lay.owners) ask j (cursor - 1))) where
          next_link : from w' lay.next (cursor - 1) ≡ from w₀ lay.next (cursor - 1)
          next_link =
              m.above (lay.next + (cursor - 1)) (omega (arith, laid)) ∙ s.reached.above (lay.next + (cursor - 1)) (omega (arith, laid))

          pub scan_step : length w' ≡ length w → length ds' ≡ length ds → Scan xs g lay ask cell ds₀ w₀ ds' w' (from w' lay.next (cursor - 1))
          scan_step ew ed =
              record {
                next = suc (cursor - 1);
                most = omega (arith, scan_in);
                at_next = next_link ∙ link;
                reached =
                    reached_step laid s.reached (λ j. tried (from w₀ lay.owners) ask j (cursor - 1))
                    (rw (same_owners laid s.reached) at m) ew ed
                    (λ j k.
                    let e : s.next + (lay.points - s.next) - suc (cursor - 1) ≡ lay.points - suc (cursor - 1) = omega (arith, s.most) in
                    rw e at (step j k).fold);
              }

          pub scan_less : ahead lay.points (from w' lay.next (cursor - 1)) < ahead lay.points cursor
          scan_less =
              ahead_less lay.points cursor _ some scan_in
              (λ i e. let u = fold_first _ (λ (x y : ℕ). y) _ _ 0 i (sym (next_link ∙ link) ∙ e) in omega (arith, u.from_k))

      pub scan_end : cursor ≡ 0 → Moved lay ds₀ w₀ ds w (λ j k. tried_in (from w₀ lay.owners) (cell_at (at xs) g) ask lay.points j k cell)
      unfolding tried_in
      scan_end z =
          let owner = from w₀ lay.owners in
          let e : lay.points - 0 ≡ lay.points = omega arith in
          subst (λ (n : ℕ). Moved lay ds₀ w₀ ds w (λ j k. fold_from (is_sample_in owner (cell_at (at xs) g) cell) (tried owner ask j) n 0 k)) e
          (reached_end laid s.reached (λ j k. fold_none _ _ _ _ k (sym s.at_next ∙ z)))
