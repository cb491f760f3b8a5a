-- The code goes over the vertices of all contours, the definitions go over each contour's samples. For one contour they agree, since only its own
-- samples touch its cache. Assumes nothing.
use Prim.Native.Nat.{ℕ, suc, ◌+◌, ◌-◌, ◌<◌}
use mathlib.Core.Path.{◌≡◌, refl, sym, ap, ◌∙◌}
use mathlib.Core.Bool.{Bool, true, false}
use mathlib.Core.List.{List, [], ◌∷◌}
use native.Mathlib.Nat.{add-suc, add-zero}
use native.Mathlib.Omega.{arith}
use lib.Dec.{eqb}
use lib.ListN.{length, get_or}
use lib.Ieee.{Float, lt}
use borrow.Author.Tests.{lt-ltb, le-ltb}
use Rattle.rules.specs.Tools.{pick, foldl}
use Rattle.rules.specs.HandedOver.{at}
use Rattle.rules.specs.SamplesAndCache.{Cache, cache, cached, Sample, sample_at, samples_from, cell_at, query_sample, seeded, query_in, updated_in, updated}
use Rattle.rules.specs.declared.Nearest.{Nearest}
use Rattle.rules.specs.declared.Nearest.TheVariants.{Found, Nothing}
use Rattle.rules.specs.declared.SpatialGrid.{SpatialGrid}
use Rattle.samples.specs.Chains.{is_sample_in}
use Rattle.samples.specs.Owners.{Owned}
use Rattle.samples.specs.Vertices.{vertex_from}
use Rattle.samples.specs.Walks.{fold_from, fold_split, fold_idle}
use Rattle.caches.specs.HeldCache.{Held, held, held_of, replaced}
use Rattle.caches.specs.CacheMoves.{tried, tried_in}
use Rattle.caches.proofs.Tries.{tried_other, tried_own}

-- every vertex
unfoldable pub every : ℕ → Bool
every v = true

-- ---- one answer

held_cached : (first : ℕ) (k : Cache) (i : ℕ) (n : Nearest) → replaced (held_of first k) (first + i) n ≡ held_of first (cached k i n)
unfolding replaced cached held_of held cache pick
held_cached first k i Nothing = refl
held_cached first k i (Found place d) = go (lt d k.squared)
  where
    go : (b : Bool) → pick b (held d (first + i)) (held_of first k) ≡ held_of first (pick b (cache d i place.0) k)
    go true = refl
    go false = refl

-- ---- contour j, whose vertex 0 has the vertex number `first`

module _ (xs : List Float) (g : SpatialGrid) (owner : ℕ → ℕ) (ask : ℕ → Nearest) (j first : ℕ) where
  -- what is answered for its vertices, and whether they are its samples, from vertex i on
  unfoldable pub asks : ℕ → Nearest
  asks i = ask (first + i)

  abbrev Marks : ℕ → List Bool → Type 0
  Marks i bs = (n : ℕ) → n < length bs → owner (first + (i + n)) ≡ pick (get_or bs n false) (suc j) 0

  marks_tail : (i : ℕ) (b : Bool) (bs : List Bool) → Marks i (b ∷ bs) → Marks (suc i) bs
  marks_tail i b bs h n l = let e : suc i + n ≡ i + suc n = omega arith in rw e (h (suc n) (omega arith))

  marks_head : (i : ℕ) (b : Bool) (bs : List Bool) → Marks i (b ∷ bs) → owner (first + i) ≡ pick b (suc j) 0
  marks_head i b bs h = let e : i + 0 ≡ i = omega arith in (rw e at (h 0 (omega arith)))

  -- what a test and a query do at one of its vertices
  abbrev One : (ℕ → Bool) → (Cache → Sample → Cache) → Type 0
  One P query =
      (i : ℕ) (b : Bool) (k : Cache) → owner (first + i) ≡ pick b (suc j) 0 →
      pick (P (first + i)) (tried owner ask j (first + i) (held_of first k)) (held_of first k)
      ≡ held_of first (pick b (query k (sample_at (vertex_from xs first) g i)) k)

  one_in : (c : ℕ) → One (is_sample_in owner (cell_at (at xs) g) c) (query_in asks c)
  unfolding is_sample_in pick query_in sample_at query_sample cell_at vertex_from asks
  one_in c i true k h =
      rw (lt-ltb 0 (owner (first + i)) (omega arith), tried_own owner ask j (first + i) (held_of first k) h, held_cached first k i (ask (first + i)))
      (go (eqb (cell_at (at xs) g (first + i)) c))
    where
      go : (b : Bool) → pick b (held_of first (cached k i (ask (first + i)))) (held_of first k) ≡ held_of first (pick b (cached k i (ask (first + i))) k)
      go true = refl
      go false = refl
  one_in c i false k h = rw (le-ltb 0 (owner (first + i)) (omega arith))

  one_every : One every (query_sample asks)
  unfolding every pick sample_at query_sample asks
  one_every i true k h = tried_own owner ask j (first + i) (held_of first k) h ∙ held_cached first k i (ask (first + i))
  one_every i false k h = tried_other owner ask j (first + i) (held_of first k) (λ e. omega arith)

  -- its vertices from i on
  module _ (P : ℕ → Bool) (query : Cache → Sample → Cache) (one : One P query) where
    fold_pick : (b : Bool) (k : Cache) (s : Sample) (rest : List Sample) → foldl query (pick b (query k s) k) rest ≡ foldl query k (pick b (s ∷ rest) rest)
    unfolding pick
    fold_pick true k s rest = refl
    fold_pick false k s rest = refl

    folded : (i : ℕ) (bs : List Bool) (k : Cache) → Marks i bs →
        fold_from P (tried owner ask j) (length bs) (first + i) (held_of first k) ≡ held_of first (foldl query k (samples_from (vertex_from xs first) g i bs))
    unfolding fold_from samples_from
    folded i [] k h = refl
    folded i (b ∷ bs) k h =
        let s = sample_at (vertex_from xs first) g i in
        ap (fold_from P (tried owner ask j) (length bs) (suc (first + i))) (one i b k (marks_head i b bs h))
        ∙ ap (λ (v : ℕ). fold_from P (tried owner ask j) (length bs) v (held_of first (pick b (query k s) k))) (sym (add-suc first i))
        ∙ folded (suc i) bs (pick b (query k s) k) (marks_tail i b bs h)
        ∙ ap (held_of first) (fold_pick b k s (samples_from (vertex_from xs first) g (suc i) bs))

    -- all vertices: those before and after it do not touch its cache
    all_folded : (n : ℕ) (bs : List Bool) (k : Cache) → Owned owner n (suc j) first bs →
        fold_from P (tried owner ask j) n 0 (held_of first k) ≡ held_of first (foldl query k (samples_from (vertex_from xs first) g 0 bs))
    all_folded n bs k own =
        let m = n - (first + length bs) in
        let step = tried owner ask j in
        let e : n ≡ first + (length bs + m) = omega (arith, own.fits) in
        let z : 0 + first ≡ first = omega arith in
        ap (λ (i : ℕ). fold_from P step i 0 (held_of first k)) e
        ∙ fold_split P step first (length bs + m) 0 (held_of first k)
        ∙ rw (z, fold_idle P step first 0 (held_of first k) (λ v x l h. tried_other owner ask j v x (own.before v (omega arith))))
        (fold_split P step (length bs) m first (held_of first k)
        ∙ fold_idle P step m (first + length bs) _ (λ v x l h. tried_other owner ask j v x (own.after v (omega arith) (omega (arith, own.fits))))
        ∙ ap (λ (v : ℕ). fold_from P step (length bs) v (held_of first k)) (sym (add-zero first))
        ∙ folded 0 bs k (λ i l. let q : 0 + i ≡ i = omega arith in rw q (own.inside i l)))

  module _ (n : ℕ) (bs : List Bool) (own : Owned owner n (suc j) first bs) where
    pub seeds : (k : Cache) →
        fold_from every (tried owner ask j) n 0 (held_of first k) ≡ held_of first (seeded asks (samples_from (vertex_from xs first) g 0 bs) k)
    unfolding seeded
    seeds k = all_folded every (query_sample asks) one_every n bs k own

    updates_in : (k : Cache) (c : ℕ) →
        tried_in owner (cell_at (at xs) g) ask n j (held_of first k) c ≡ held_of first (updated_in asks (samples_from (vertex_from xs first) g 0 bs) k c)
    unfolding tried_in updated_in
    updates_in k c = all_folded (is_sample_in owner (cell_at (at xs) g) c) (query_in asks c) (one_in c) n bs k own

    pub updates : (cells : List ℕ) (k : Cache) →
        foldl (tried_in owner (cell_at (at xs) g) ask n j) (held_of first k) cells
        ≡ held_of first (updated asks cells (samples_from (vertex_from xs first) g 0 bs) k)
    unfolding updated
    updates [] k = refl
    updates (c ∷ cells) k =
        ap (λ (x : Held). foldl (tried_in owner (cell_at (at xs) g) ask n j) x cells) (updates_in k c)
        ∙ updates cells (updated_in asks (samples_from (vertex_from xs first) g 0 bs) k c)
