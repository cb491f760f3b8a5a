-- Whose sample a vertex is: 1 more than the number of its contour, or 0 where it is no sample. Definitions only.
use Rattle.std.specs.Prelude.{◌≡◌, Bool, false, List, ℕ, suc, ◌+◌, ◌≤◌, ◌<◌, Float, length, get_or}
use Rattle.rules.specs.Tools.{pick, sum}
use Rattle.rules.specs.HandedOver.{Contour, contours_from}
use Rattle.rules.specs.SamplesAndCache.{sampled}
use Rattle.plate_laws.specs.Lists.{All}
use Rattle.samples.specs.Vertices.{vertex_from}

-- ---- what is written

-- the owners after contour c was marked: its own vertices by whether they are samples; the others are as they were
pub record MarkedContour (xs : List Float) (s : Float) (c : Contour) (owners owners' : List ℕ) : Type 0 where
  pub inside : (i : ℕ) → i ≤ c.last →
      get_or owners' (c.first + i) 0 ≡ pick (get_or (sampled (vertex_from xs c.first) s c.last) i false) (suc c.number) 0
  pub before : (v : ℕ) → v < c.first → get_or owners' v 0 ≡ get_or owners v 0
  pub after : (v : ℕ) → c.first + c.last < v → get_or owners' v 0 ≡ get_or owners v 0

-- ---- what holds of all contours

-- Of n vertices those from `first` on are `mine` where bs says so, else nobody's; and no other one is mine.
pub record Owned (owner : ℕ → ℕ) (n mine first : ℕ) (bs : List Bool) : Type 0 where
  pub fits : first + length bs ≤ n
  pub inside : (i : ℕ) → i < length bs → owner (first + i) ≡ pick (get_or bs i false) mine 0
  pub before : (v : ℕ) → v < first → owner v ≡ mine → ⊥
  pub after : (v : ℕ) → first + length bs ≤ v → v < n → owner v ≡ mine → ⊥

-- of n vertices, a contour owns its samples
abbrev pub OwnedBy : List Float → Float → (ℕ → ℕ) → ℕ → Contour → Type 0
OwnedBy xs s owner n c = Owned owner n (suc c.number) c.first (sampled (vertex_from xs c.first) s c.last)

-- every contour owns its samples, and no other number is an owner
pub record MarkedAll (xs : List Float) (s : Float) (lengths owners : List ℕ) : Type 0 where
  pub owned : All (OwnedBy xs s (λ v. get_or owners v 0) (sum lengths)) (contours_from 0 0 lengths)
  pub most : (v : ℕ) → v < sum lengths → get_or owners v 0 ≤ length lengths
