-- What was chosen by the slices, and what the rules choose. Definitions only.
use Rattle.std.specs.Prelude.{◌≡◌, ◌+◌, Some, None}
use Rattle.std.specs.Prelude as prelude
use Rattle.std.proofs.Math.Option.{Option, none, some}
use Rattle.rules.specs.SamplesAndCache.{Waiting}
use Rattle.contours.specs.ContourOf.{contour_of}
use Rattle.waiting.specs.declared.Candidate.{Candidate}

-- both nobody, or the same contour and entry
abbrev pub Picks : prelude.Option Candidate → Option Waiting → Type 0
Picks None o = o ≡ none
Picks (Some k) o =
    (w : Waiting) × (o ≡ some w) × (contour_of k.contour ≡ w.contour) × (k.entry.0 ≡ w.contour.first + w.kept.entry)
