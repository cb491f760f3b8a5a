-- The words in two parts of the work slice: those of the vertices, and behind these those of the contours. Definitions only.
use Rattle.std.specs.Prelude.{◌≡◌, List, ◌++◌, ℕ, length}
use Rattle.rules.specs.HandedOver.{Contour}
use Rattle.path_rules.specs.PathWords.{Tallied}
use Rattle.path_rules.specs.declared.work.Words.{Words}

abbrev pub words_of : Words → List ℕ
words_of w = w.vertices.now ++ w.contours.now

-- by the marks before path point i; the contours cs take part
abbrev pub TalliedBy : List Contour → Words → List ℕ → ℕ → Type 0
TalliedBy cs w ms i = Tallied cs (length w.vertices.now) ms i (words_of w)

-- the parts stay those of the caller's slice, and as long as they were
abbrev pub SameWords : Words → Words → Type 0
SameWords w w' =
    (w'.vertices.ghost_name ≡ w.vertices.ghost_name) × (length w'.vertices.now ≡ length w.vertices.now)
    × (w'.contours.ghost_name ≡ w.contours.ghost_name) × (length w'.contours.now ≡ length w.contours.now)
