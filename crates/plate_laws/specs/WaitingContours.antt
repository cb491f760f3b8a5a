-- A contour that waits: its samples and its entry stay vertices of it, whatever is queried. Assumes nothing.
use Rattle.std.specs.Prelude.{◌≡◌, refl, Bool, List, [], ◌∷◌, ℕ, zero, suc, ◌+◌, ◌≤◌, eqb, pos, Float, length}
use Rattle.std.proofs.Common.{ap, arith}
use Rattle.std.proofs.Math.Bool.{true, false}
use Rattle.std.specs.Float.{fin}
use Rattle.std.specs.Float.Ieee.{lt}
use mathlib.Core.List.{map}
use Rattle.rules.specs.Tools.{without, highest_layer, pick}
use Rattle.rules.specs.HandedOver.{layer_at, Plate, Contour, vertex_at}
use Rattle.rules.specs.Contours.{IsContour}
use Rattle.rules.specs.Retrace.{waiting_number}
use Rattle.rules.specs.OrderAndStraight.{contour_number}
use Rattle.plate_laws.specs.Lists.{map_without, all_map, all_give, all_without, All, all_of, foldl-keeps}
use Rattle.plate_laws.specs.Contours.{Rising, rising_without}
use Rattle.rules.specs.SamplesAndCache.{Sample, sampled_after, sampled, sample_at, samples_from, samples, Cache, cache, cached, query_sample, seeded, query_in, updated_in, updated, Waiting, waiting, ask_path, keep, seed, update}
use Rattle.rules.specs.declared.Point.{Point}
use Rattle.rules.specs.declared.SpatialGrid.{SpatialGrid}
use Rattle.rules.specs.declared.Nearest.{Nearest}
use Rattle.rules.specs.declared.Nearest.TheVariants.{Found, Nothing}

-- ---- samples

-- its vertex is one of 0 to m
abbrev pub SampleTo : ℕ → Sample → Type 0
SampleTo m s = s.vertex ≤ m

-- a flag for each vertex after vertex i
pub after_length : (vertex : ℕ → Point) (s : Float) (i : ℕ) (total : Float) (n : ℕ) → length (sampled_after vertex s i total n) ≡ n
unfolding sampled_after
after_length vertex s i total zero = refl
after_length vertex s i total (suc n) = ap suc (after_length vertex s (suc i) _ n)

samples_from_to : (vertex : ℕ → Point) (g : SpatialGrid) (m i : ℕ) (bs : List Bool) → i + length bs ≤ suc m →
    All (SampleTo m) (samples_from vertex g i bs)
unfolding samples_from sample_at pick
samples_from_to vertex g m i [] h = tt
samples_from_to vertex g m i (b ∷ bs) h = go b (samples_from vertex g (suc i) bs) (samples_from_to vertex g m (suc i) bs (omega arith))
  where
    go : (b : Bool) (rest : List Sample) → All (SampleTo m) rest → All (SampleTo m) (pick b (sample_at vertex g i ∷ rest) rest)
    go true rest a = (omega arith, a)
    go false rest a = a

pub samples_to : (vertex : ℕ → Point) (g : SpatialGrid) (last : ℕ) → All (SampleTo last) (samples vertex g last)
unfolding samples sampled
samples_to vertex g last =
    let s = g.cell_size in
    samples_from_to vertex g last 0 (sampled vertex s last) (omega (arith, after_length vertex s 0 (fin false 0 (pos 0)) last))

-- ---- entries

-- m is the last vertex; `ask` answers for a vertex. What is queried are samples up to m, so the entry stays at most m.
module _ (m : ℕ) (ask : ℕ → Nearest) where
  abbrev EntryTo : Cache → Type 0
  EntryTo k = k.entry ≤ m

  query_to : (k : Cache) (s : Sample) → SampleTo m s → EntryTo k → EntryTo (query_sample ask k s)
  unfolding query_sample cached cache pick
  query_to k s h e = go (ask s.vertex)
    where
      go : (n : Nearest) → EntryTo (cached k s.vertex n)
      go Nothing = e
      go (Found place d) = replaced (lt d k.squared)
        where
          replaced : (b : Bool) → EntryTo (pick b (cache d s.vertex place.0) k)
          replaced true = h
          replaced false = e

  query_in_to : (cell : ℕ) (k : Cache) (s : Sample) → SampleTo m s → EntryTo k → EntryTo (query_in ask cell k s)
  unfolding query_in pick
  query_in_to cell k s h e = go (eqb s.cell cell)
    where
      go : (b : Bool) → EntryTo (pick b (query_sample ask k s) k)
      go true = query_to k s h e
      go false = e

  module _ (ss : List Sample) (a : All (SampleTo m) ss) where
    pub seeded_to : (k : Cache) → k.entry ≤ m → (seeded ask ss k).entry ≤ m
    unfolding seeded
    seeded_to k e = foldl-keeps (SampleTo m) EntryTo (query_sample ask) query_to ss a k e

    updated_in_to : (k : Cache) (cell : ℕ) → EntryTo k → EntryTo (updated_in ask ss k cell)
    unfolding updated_in
    updated_in_to k cell e = foldl-keeps (SampleTo m) EntryTo (query_in ask cell) (query_in_to cell) ss a k e

    pub updated_to : (cells : List ℕ) (k : Cache) → k.entry ≤ m → (updated ask cells ss k).entry ≤ m
    unfolding updated
    updated_to cells k e =
        foldl-keeps (λ cell. Unit {0}) EntryTo (updated_in ask ss) (λ k cell u e. updated_in_to k cell e) cells (all_of _ (λ cell. tt) cells) k e

-- ---- waiting contours

-- its samples and its entry are vertices of it
pub record Sane (w : Waiting) : Type 0 where
  pub samples : All (SampleTo w.contour.last) w.samples
  pub entry : w.kept.entry ≤ w.contour.last

pub waiting_sane : (p : Plate) (g : SpatialGrid) (c : Contour) → Sane (waiting p g c)
unfolding waiting cache
waiting_sane p g c = record { samples = samples_to (vertex_at p c) g c.last; entry = omega arith }

-- a change of the cache alone, after which the entry is still a vertex of the contour
pub record Caching (f : Waiting → Waiting) : Type 0 where
  pub contour : (w : Waiting) → (f w).contour ≡ w.contour
  pub sane : (w : Waiting) → Sane w → Sane (f w)

pub seed_caching : (p : Plate) (g : SpatialGrid) (path : List Point) → Caching (seed p g path)
unfolding seed keep
seed_caching p g path =
    record {
      contour = λ w. refl;
      sane = λ w s.
          record {
            samples = s.samples;
            entry = seeded_to w.contour.last (ask_path (vertex_at p w.contour) g path) w.samples s.samples w.kept s.entry;
          };
    }

pub update_caching : (p : Plate) (g : SpatialGrid) (path : List Point) (cells : List ℕ) → Caching (update p g path cells)
unfolding update keep
update_caching p g path cells =
    record {
      contour = λ w. refl;
      sane = λ w s.
          record {
            samples = s.samples;
            entry = updated_to w.contour.last (ask_path (vertex_at p w.contour) g path) w.samples s.samples cells w.kept s.entry;
          };
    }

-- ---- the contours of those that wait

abbrev pub contour_waiting : Waiting → Contour
contour_waiting w = w.contour

pub contours_waiting : (p : Plate) (g : SpatialGrid) (cs : List Contour) → map contour_waiting (map (waiting p g) cs) ≡ cs
unfolding waiting
contours_waiting p g [] = refl
contours_waiting p g (c ∷ cs) = ap (λ (ds : List Contour). c ∷ ds) (contours_waiting p g cs)

pub contours_without : (n : ℕ) (ws : List Waiting) → map contour_waiting (without waiting_number n ws) ≡ without contour_number n (map contour_waiting ws)
unfolding waiting_number contour_number
contours_without n ws = map_without contour_waiting contour_number n ws

-- a change of the caches leaves the contours
module _ (f : Waiting → Waiting) (h : Caching f) where
  pub contours_cached : (ws : List Waiting) → map contour_waiting (map f ws) ≡ map contour_waiting ws
  contours_cached [] = refl
  contours_cached (w ∷ ws) = rw (h.contour w, contours_cached ws)

  pub part_cached : (p : Plate) (ws : List Waiting) → All (λ w. layer_at p w.contour ≤ highest_layer) ws → All (λ w. layer_at p w.contour ≤ highest_layer) (map f ws)
  part_cached p ws a =
      all_map (λ w. layer_at p w.contour ≤ highest_layer) f ws
      (all_give _ (λ w. layer_at p (f w).contour ≤ highest_layer) (λ w l. rw (h.contour w) l) ws a)

  pub sane_cached : (ws : List Waiting) → All Sane ws → All Sane (map f ws)
  sane_cached ws a = all_map Sane f ws (all_give Sane (λ w. Sane (f w)) h.sane ws a)

-- contours still to come: they are the plate's, and they rise
pub record Coming (p : Plate) (cs : List Contour) : Type 0 where
  pub all : All (IsContour p) cs
  pub rising : Rising cs

pub coming_without : (p : Plate) (n : ℕ) (cs : List Contour) → Coming p cs → Coming p (without contour_number n cs)
coming_without p n cs h = record { all = all_without (IsContour p) contour_number n cs h.all; rising = rising_without n cs h.rising }
