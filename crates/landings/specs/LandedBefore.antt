-- What the words say while a path is read: the vertices that its first path points landed on. Assumes nothing.
use Rattle.std.specs.Prelude.{◌≡◌, Bool, ℕ, ◌%◌, ◌≤◌, ◌<◌, length, get_or}
use Rattle.std.proofs.Common.{◌∙◌}
use Rattle.rules.specs.Tools.{pick}
use Rattle.landings.specs.Chain.{on_chain}
use Rattle.landings.specs.declared.words.Landings.{Landings}

-- how many path points there are, and the head of the chain that vertex v is on
abbrev pub count_of : Landings → ℕ
count_of w = length w.vertices.now

abbrev pub head_of : Landings → ℕ → ℕ
head_of w v = get_or w.heads.now (v % count_of w) 0

-- the chains have none but the first i path places, so that later words of `vertices` do not count
abbrev pub HeadsWithin : Landings → ℕ → Type 0
HeadsWithin w i = (r : ℕ) → get_or w.heads.now r 0 ≤ i

-- S are the vertices that the first i path points landed on
pub record LandedBefore (w : Landings) (S : ℕ → Bool) (i : ℕ) : Type 0 where
  pub within : HeadsWithin w i
  pub near : (v : ℕ) → v < count_of w → get_or w.flags.now v 0 ≡ pick (S v) 1 0
  pub far : (v : ℕ) → count_of w ≤ v → on_chain w.vertices.now w.links.now v (head_of w v) ≡ S v

-- the parts stay those of the caller's slice
abbrev pub SameParts : Landings → Landings → Type 0
SameParts w w' =
    (w'.vertices.ghost_name ≡ w.vertices.ghost_name) × (w'.flags.ghost_name ≡ w.flags.ghost_name)
    × (w'.heads.ghost_name ≡ w.heads.ghost_name) × (w'.links.ghost_name ≡ w.links.ghost_name)

-- the same vertices may be told in another way
pub landed_same : (w : Landings) (S T : ℕ → Bool) (i : ℕ) → ((v : ℕ) → S v ≡ T v) → LandedBefore w S i → LandedBefore w T i
landed_same w S T i e h =
    record { within = h.within; near = λ v l. rw (← e v) (h.near v l); far = λ v l. h.far v l ∙ e v }
