-- The samples of a plate in the lent slices, as preparing leaves them and as they stay: marked by their contours, and chained. Assumes nothing.
use Rattle.std.specs.Prelude.{◌≡◌, refl, Bool, List, ℕ, zero, suc, ◌+◌, ◌≤◌, ◌<◌, Float, length, get_or}
use Rattle.std.proofs.Common.{◌∙◌, arith}
use Rattle.rules.specs.HandedOver.{at}
use Rattle.rules.specs.SamplesAndCache.{cell_at}
use Rattle.rules.specs.declared.SpatialGrid.{SpatialGrid}
use Rattle.plate_laws.specs.FiniteDistances.{OnPlate}
use Rattle.plate_laws.specs.Lists.{All}
use Rattle.work_layout.specs.Laid.{Laid}
use Rattle.work_layout.specs.Parts.{from}
use Rattle.work_layout.specs.declared.Layout.{Layout}
use Rattle.samples.specs.Chains.{first_of, is_sample_in, ChainedSamples}
use Rattle.samples.specs.PlatedSlice.{Plated, plated_kept}

-- xs are the points, ds and w the f64 and the u32 slice: the first has room for a distance of each contour
pub record Prepared (xs : List Float) (g : SpatialGrid) (lay : Layout) (ds : List Float) (w : List ℕ) : Type 0 where
  pub plated : Plated xs g lay w
  pub on_plate : All OnPlate xs
  pub room : lay.contours ≤ length ds
  pub owners : (v : ℕ) → v < lay.points → from w lay.owners v ≤ lay.contours
  pub chained : ChainedSamples xs g lay (from w lay.owners) w 0

-- ---- they stay

-- heads, links and owners are not altered
abbrev pub SamplesKept : Layout → List ℕ → List ℕ → Type 0
SamplesKept lay w w' = (i : ℕ) → lay.heads ≤ i → i < lay.waiting → get_or w' i 0 ≡ get_or w i 0

first_same : (P Q : ℕ → Bool) (m k n : ℕ) → k + m ≤ n → ((i : ℕ) → i < n → P i ≡ Q i) → first_of P m k ≡ first_of Q m k
unfolding first_of
first_same P Q zero k n l h = refl
first_same P Q (suc m) k n l h = rw (h k (omega arith), first_same P Q m (suc k) n (omega arith) h)

module _ (xs : List Float) (g : SpatialGrid) (lay : Layout) (w w' : List ℕ) (laid : Laid lay (length w)) (kept : SamplesKept lay w w') where
  pub owner_kept : (v : ℕ) → v < lay.points → from w' lay.owners v ≡ from w lay.owners v
  owner_kept v l = kept (lay.owners + v) (omega (arith, laid)) (omega (arith, laid))

  test_kept : (c v : ℕ) → v < lay.points →
      is_sample_in (from w lay.owners) (cell_at (at xs) g) c v ≡ is_sample_in (from w' lay.owners) (cell_at (at xs) g) c v
  unfolding is_sample_in
  test_kept c v l = rw (owner_kept v l)

  chained_kept : ChainedSamples xs g lay (from w lay.owners) w 0 → ChainedSamples xs g lay (from w' lay.owners) w' 0
  chained_kept h =
      record {
        head =
            λ c l. kept (lay.heads + c) (omega arith) (omega (arith, laid)) ∙ h.head c l
            ∙ first_same _ _ _ _ lay.points (omega arith) (λ i m. test_kept c i m);
        succ =
            λ c k l z m t. kept (lay.next + k) (omega (arith, laid)) (omega (arith, laid)) ∙ h.succ c k l z m (test_kept c k m ∙ t)
            ∙ first_same _ _ _ _ lay.points (omega arith) (λ i m. test_kept c i m);
      }

  pub prepared_kept : (ds ds' : List Float) → length ds' ≡ length ds → length w' ≡ length w → Prepared xs g lay ds w → Prepared xs g lay ds' w'
  prepared_kept ds ds' e f p =
      record {
        plated = plated_kept xs g lay w w' f p.plated;
        on_plate = p.on_plate;
        room = omega (arith, p.room);
        owners = λ v l. omega (arith, owner_kept v l, p.owners v l);
        chained = chained_kept p.chained;
      }
