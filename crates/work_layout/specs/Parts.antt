-- A part of a slice seen as a function, and what a function that writes leaves unaltered. Definitions only.
use Rattle.std.specs.Prelude.{ℕ, ◌+◌, ◌≤◌, ◌<◌, ◌≡◌, List, get_or}

-- what lies at place i of the part that begins at a
abbrev pub from : List ℕ → ℕ → ℕ → ℕ
from w a i = get_or w (a + i) 0

-- nothing before a, or from a on, was altered
abbrev pub KeptBelow : ℕ → List ℕ → List ℕ → Type 0
KeptBelow a w w' = (i : ℕ) → i < a → get_or w' i 0 ≡ get_or w i 0

abbrev pub KeptFrom : ℕ → List ℕ → List ℕ → Type 0
KeptFrom a w w' = (i : ℕ) → a ≤ i → get_or w' i 0 ≡ get_or w i 0

-- zeros from a up to b, and all else as it was
pub record Cleared (a b : ℕ) (w w' : List ℕ) : Type 0 where
  pub zeros : (i : ℕ) → a ≤ i → i < b → get_or w' i 0 ≡ 0
  pub below : KeptBelow a w w'
  pub above : KeptFrom b w w'
