-- What the words of the work slice say of a vertex of a contour that takes part. Assumes nothing.
use Rattle.std.specs.Prelude.{◌≡◌, List, ℕ, ◌+◌, ◌/◌, ◌%◌, ◌≤◌, ◌<◌, get_or}
use Rattle.std.proofs.Common.{arith}
use Rattle.rules.specs.HandedOver.{Contour}
use Rattle.rules.specs.Contours.{Among, Of}
use Rattle.rules.specs.Marks.{entries_of, marks_before}
use Rattle.path_rules.specs.PathWords.{Tallied}

-- the number that vertex v's word names, and the word of the contour with this number
abbrev pub number_at : List ℕ → ℕ → ℕ
number_at work v = get_or work v 0 / 2

abbrev pub contour_word : ℕ → List ℕ → ℕ → ℕ
contour_word total work v = get_or work (total + number_at work v) 0

-- there is a segment from vertex v, which is uncut, of a contour that is entered
abbrev pub Open : ℕ → List ℕ → ℕ → Type 0
Open total work v =
    (v + 1 < total) × (get_or work v 0 % 2 ≡ 0) × (number_at work v ≡ number_at work (v + 1)) × (2 ≤ contour_word total work v)

module _ (cs : List Contour) (total : ℕ) (ms : List ℕ) (i : ℕ) (work : List ℕ) (t : Tallied cs total ms i work) (c : Contour) (m : Among c cs) (v : ℕ)
    (o : Of c v) where
  pub number_of : number_at work v ≡ c.number
  number_of = omega (arith, t.cuts c m v o, t.once v)

  pub word_of : contour_word total work v ≡ 1 + entries_of c (marks_before i ms)
  word_of = rw number_of (t.entries c m)
