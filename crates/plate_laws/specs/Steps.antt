-- A path as a list of steps: what stands at its places after it has grown, its last point, and a run upward. Assumes nothing.
use Rattle.std.specs.Prelude.{◌≡◌, List, [], ◌∷◌, ◌++◌, map, ℕ, zero, suc, ◌+◌, ◌-◌, ◌≤◌, ◌<◌, length}
use Rattle.std.proofs.Common.{ap, ◌∙◌, add-zero, arith, length-append}
use Rattle.std.proofs.Math.Bool.{Bool, true, false}
use Rattle.std.proofs.lemmas.List.{length-map}
use Rattle.std.proofs.Math.ListN.{get_or-append}
use Rattle.std.proofs.Math.Seq.{get_or-append_seam, append_snoc}
use Rattle.rules.specs.Tools.{pick, up_from}
use Rattle.rules.specs.Start.{Oriented}
use Rattle.rules.specs.Marks.{start_kind, Step, land, cut_up}
use Rattle.rules.specs.Retrace.{step_at, vertex_of, entry_of}
use Rattle.plate_laws.specs.Lists.{length_up_from}

-- ---- the places of a path that has grown

pub step_old : (path more : List Step) (i : ℕ) → i < length path → step_at (path ++ more) i ≡ step_at path i
unfolding step_at
step_old path more i h = get_or-append path more (land start_kind 0) i h

pub step_new : (path : List Step) (s : Step) (more : List Step) → step_at (path ++ s ∷ more) (length path) ≡ s
unfolding step_at
step_new path s more = get_or-append_seam path s more (land start_kind 0)

pub vertex_old : (path more : List Step) (i : ℕ) → i < length path → vertex_of (path ++ more) i ≡ vertex_of path i
unfolding vertex_of
vertex_old path more i h = ap (λ (s : Step). s.vertex) (step_old path more i h)

pub vertex_new : (path : List Step) (s : Step) (more : List Step) → vertex_of (path ++ s ∷ more) (length path) ≡ s.vertex
unfolding vertex_of
vertex_new path s more = ap (λ (s : Step). s.vertex) (step_new path s more)

pub length_snoc : (path : List Step) (s : Step) → length (path ++ s ∷ []) ≡ suc (length path)
length_snoc path s = omega (arith, length-append path (s ∷ []))

-- ---- its last point

-- the path has a last point, whose vertex is v
pub record Ends (path : List Step) (v : ℕ) : Type 0 where
  pub some : 1 ≤ length path
  pub last : vertex_of path (length path - 1) ≡ v

pub ends_snoc : (path : List Step) (s : Step) → Ends (path ++ s ∷ []) s.vertex
ends_snoc path s =
    let e : length (path ++ s ∷ []) - 1 ≡ length path = omega (arith, length_snoc path s) in
    record { some = omega (arith, length_snoc path s); last = rw e (vertex_new path s []) }

-- ---- a run upward

-- where the vertices of a run upward stand
pub ups_at : (path : List Step) (a n i : ℕ) → Ends path a → i ≤ n → vertex_of (path ++ map cut_up (up_from a n)) (length path - 1 + i) ≡ a + i
unfolding cut_up
ups_at path a n zero e h =
    let s = e.some in
    rw (add-zero (length path - 1), add-zero a) (vertex_old path (map cut_up (up_from a n)) (length path - 1) (omega arith) ∙ e.last)
ups_at path a zero (suc i) e h = absurd (omega arith)
ups_at path a (suc n) (suc i) e h =
    let s = e.some in
    let k : length (path ++ cut_up a ∷ []) - 1 + i ≡ length path - 1 + suc i = omega (arith, length_snoc path (cut_up a)) in
    let later = ups_at (path ++ cut_up a ∷ []) (suc a) n i (ends_snoc path (cut_up a)) (omega arith) in
    rw (← append_snoc path (cut_up a) (map cut_up (up_from (suc a) n)), ← k) (later ∙ omega arith)

pub run_length : (a n : ℕ) → length (map cut_up (up_from a n)) ≡ n
run_length a n = omega (arith, length-map (up_from a n) cut_up, length_up_from a n)

pub ups_length : (path : List Step) (a n : ℕ) → length (path ++ map cut_up (up_from a n)) ≡ length path + n
ups_length path a n = omega (arith, length-append path (map cut_up (up_from a n)), run_length a n)

pub ups_end : (path : List Step) (a n : ℕ) → Ends path a → Ends (path ++ map cut_up (up_from a n)) (a + n)
ups_end path a n e =
    let s = e.some in
    let l = ups_length path a n in
    let k : length (path ++ map cut_up (up_from a n)) - 1 ≡ length path - 1 + n = omega arith in
    record { some = omega arith; last = rw k (ups_at path a n n e (omega arith)) }

-- ---- the entry of a start

pub entry_in : (s : Oriented) → entry_of s ≤ s.contour.last
unfolding entry_of pick
entry_in s = go s.reversed
  where
    go : (b : Bool) → pick b s.contour.last 0 ≤ s.contour.last
    go true = omega arith
    go false = omega arith
