-- A path as slices: its coordinates and its marks. Assumes nothing.
use Rattle.std.specs.Prelude.{◌≡◌, refl, List, [], ◌∷◌, ℕ, zero, suc, ◌+◌, ◌-◌, ◌*◌, ◌<◌, Float, length, get_or}
use Rattle.std.proofs.Common.{ap, ◌∙◌, arith}
use Rattle.std.proofs.lemmas.List.{length-map}
use Rattle.std.proofs.Math.ListN.{get_or-map}
use Rattle.rules.specs.HandedOver.{at}
use Rattle.rules.specs.Retrace.{step_at, vertex_of}
use Rattle.rules.specs.Marks.{start_kind, Step, land, coordinates, marks, kind_at, reference_at, vertices}

-- ---- the slices' lengths

pub coordinates_length : (xs : List Float) (vs : List ℕ) → length (coordinates xs vs) ≡ 2 * length vs
unfolding coordinates
coordinates_length xs [] = refl
coordinates_length xs (v ∷ vs) = omega (arith, coordinates_length xs vs)

pub marks_length : (path : List Step) → length (marks path) ≡ 2 * length path
unfolding marks
marks_length [] = refl
marks_length (s ∷ path) = omega (arith, marks_length path)

pub vertices_length : (path : List Step) → length (vertices path) ≡ length path
unfolding vertices
vertices_length path = length-map path (λ (s : Step). s.vertex)

-- ---- counting by ones and twos

pub suc_minus_one : (k : ℕ) → suc k - 1 ≡ k
suc_minus_one k = omega arith

pub twice : (k : ℕ) → 2 * suc k ≡ suc (suc (2 * k))
twice k = omega arith

pub twice_one : (k : ℕ) → 2 * suc k + 1 ≡ suc (suc (2 * k + 1))
twice_one k = omega arith

-- ---- the marks at path point k

pub kind_at_lem : (path : List Step) (k : ℕ) → k < length path → kind_at (marks path) k ≡ (step_at path k).kind
unfolding kind_at marks step_at
kind_at_lem [] k h = absurd (omega arith)
kind_at_lem (s ∷ path) zero h = refl
kind_at_lem (s ∷ path) (suc k) h = rw (twice k) (kind_at_lem path k (omega arith))

pub reference_at_lem : (path : List Step) (k : ℕ) → k < length path → reference_at (marks path) k ≡ (step_at path k).reference
unfolding reference_at marks step_at
reference_at_lem [] k h = absurd (omega arith)
reference_at_lem (s ∷ path) zero h = refl
reference_at_lem (s ∷ path) (suc k) h = rw (twice_one k) (reference_at_lem path k (omega arith))

pub coordinates_at : (xs : List Float) (vs : List ℕ) (k : ℕ) → k < length vs → at (coordinates xs vs) k ≡ at xs (get_or vs k 0)
unfolding at coordinates
coordinates_at xs [] k h = absurd (omega arith)
coordinates_at xs (v ∷ vs) zero h = refl
coordinates_at xs (v ∷ vs) (suc k) h = rw (twice_one k, twice k) (coordinates_at xs vs k (omega arith))

pub vertices_at : (path : List Step) (k : ℕ) → get_or (vertices path) k 0 ≡ vertex_of path k
unfolding vertices vertex_of step_at land
vertices_at path k = get_or-map (λ (s : Step). s.vertex) path k (land start_kind 0)

-- path point k has the point of its vertex
pub point_is : (xs : List Float) (path : List Step) (k : ℕ) → k < length path → at (coordinates xs (vertices path)) k ≡ at xs (vertex_of path k)
point_is xs path k h = coordinates_at xs (vertices path) k (omega (arith, vertices_length path)) ∙ ap (at xs) (vertices_at path k)
