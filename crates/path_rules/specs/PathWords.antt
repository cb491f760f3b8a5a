-- What the words of the work slice say while a path is checked: a word for each of `total` vertices, and behind these a word for each contour, by its number.
-- Definitions only.
use Rattle.std.specs.Prelude.{◌≡◌, ◌⊎◌, List, ℕ, ◌+◌, ◌*◌, ◌/◌, ◌≤◌, ◌<◌, length, get_or}
use Rattle.rules.specs.HandedOver.{Contour}
use Rattle.rules.specs.Marks.{back_step_kind, kind_at, reference_at, cuts_of, entries_of, marks_before}
use Rattle.rules.specs.Contours.{Among, Of}
use Rattle.plate_laws.specs.Contours.{Rising}

-- half of a vertex's word is the number of a contour that has a word
pub record Labelled (total : ℕ) (work : List ℕ) : Type 0 where
  pub vertices : total ≤ length work
  pub numbers : (v : ℕ) → v < total → total + get_or work v 0 / 2 < length work

-- by the marks before path point i; the contours cs take part
pub record Tallied (cs : List Contour) (total : ℕ) (ms : List ℕ) (i : ℕ) (work : List ℕ) : Type 0 where
  pub rising : Rising cs
  pub within : (c : Contour) → Among c cs → c.first + c.last < total
  -- a vertex's word: twice the number of its contour, and 1 more where segment v is cut
  pub cuts : (c : Contour) → Among c cs → (v : ℕ) → Of c v → get_or work v 0 ≡ 2 * c.number + cuts_of v (marks_before i ms)
  pub once : (v : ℕ) → cuts_of v (marks_before i ms) ≤ 1
  -- a contour's word: 1, and 1 more where it is entered; it is 0 for a contour that holds a point and takes no part, so that no vertex is owned there
  pub entries : (c : Contour) → Among c cs → get_or work (total + c.number) 0 ≡ 1 + entries_of c (marks_before i ms)
  pub owner :
      (v : ℕ) → v < total → 0 < get_or work (total + get_or work v 0 / 2) 0 →
      (c : Contour) × Among c cs × Of c v × (get_or work v 0 / 2 ≡ c.number)

-- what the mark of path point i names is one of `total` vertices, unless it is a back-step
abbrev pub NamesVertex : ℕ → List ℕ → ℕ → Type 0
NamesVertex total ms i = (kind_at ms i ≡ back_step_kind) ⊎ (reference_at ms i < total)
