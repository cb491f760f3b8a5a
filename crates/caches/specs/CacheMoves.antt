-- What the queries of some samples leave in the slices. Definitions only.
use Rattle.std.specs.Prelude.{◌≡◌, List, ℕ, suc, ◌<◌, eqb, Float}
use Rattle.rules.specs.Tools.{pick}
use Rattle.rules.specs.declared.Nearest.{Nearest}
use Rattle.work_layout.specs.Parts.{from, KeptBelow, KeptFrom}
use Rattle.work_layout.specs.declared.Layout.{Layout}
use Rattle.samples.specs.Chains.{is_sample_in}
use Rattle.samples.specs.Walks.{fold_from}
use Rattle.caches.specs.HeldCache.{Held, held_at, replaced}

-- What is held of contour j after vertex v, which is queried if it is a sample of j. `ask` answers for a vertex.
unfoldable pub tried : (ℕ → ℕ) → (ℕ → Nearest) → ℕ → ℕ → Held → Held
tried owner ask j v k = pick (eqb (owner v) (suc j)) (replaced k v (ask v)) k

-- what is held of contour j after those of n vertices that are samples in a cell
unfoldable pub tried_in : (ℕ → ℕ) → (ℕ → ℕ) → (ℕ → Nearest) → ℕ → ℕ → Held → ℕ → Held
tried_in owner cell ask n j k c = fold_from (is_sample_in owner cell c) (tried owner ask j) n 0 k

-- What is held of each waiting contour is changed by f, and of the u32 slice nothing but entries is altered.
pub record Moved (lay : Layout) (ds : List Float) (w : List ℕ) (ds' : List Float) (w' : List ℕ) (f : ℕ → Held → Held) : Type 0 where
  pub held : (j : ℕ) → j < lay.contours → 0 < from w lay.waiting j → held_at lay ds' w' j ≡ f j (held_at lay ds w j)
  pub below : KeptBelow lay.entries w w'
  pub above : KeptFrom lay.heads w w'
