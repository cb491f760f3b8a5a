-- A path that grows by steps, each of which makes a pair with the path's last point: a cut, a back-step, a jump or a touch. Assumes nothing.
use Rattle.std.specs.Prelude.{◌≡◌, refl, false, List, [], ◌∷◌, ◌++◌, ℕ, suc, ◌+◌, ◌-◌, ◌≤◌, ◌<◌, eqb, length}
use Rattle.std.proofs.Common.{sym, ap, subst, append-nil, inl, inr, zero-add, arith, length-append}
use Rattle.std.proofs.Math.Decide.{dec_le}
use Rattle.std.proofs.Math.Seq.{append_snoc}
use Rattle.rules.specs.Tools.{pick}
use Rattle.rules.specs.HandedOver.{Plate, at, contours}
use Rattle.rules.specs.Contours.{OfContour}
use Rattle.rules.specs.GridAndNearest.{grid_of}
use Rattle.rules.specs.Marks.{start_kind, cut_kind, back_step_kind, jump_kind, touch_kind, Step, marks, count_marks, marks_of}
use Rattle.rules.specs.Retrace.{step_at, vertex_of}
use Rattle.statement.specs.Division.{itself, PairOf, NotEntered, NoneNearer}
use Rattle.rules.specs.declared.Point.{Point}
use Rattle.plate_laws.specs.Steps.{step_new, vertex_old, length_snoc}
use Rattle.division_laws.specs.Maps.{pair_maps}

-- a pair of a plate's path, in its grid; v gives each path point's vertex
abbrev pub PlatePair : Plate → (ℕ → ℕ) → ℕ → ℕ → ℕ → Type 0
PlatePair p v k kind r =
    let x : ℕ → Point = λ i. at p.points (v i) in
    PairOf (contours p) x itself v (NotEntered v k) k kind r × NoneNearer (grid_of p.box) x k kind

-- ---- a pair is still one where the vertices are the same

-- v and u give the first n path points the same vertices
module _ (p : Plate) (v u : ℕ → ℕ) (n : ℕ) (same : (i : ℕ) → i < n → v i ≡ u i) (k : ℕ) (h : suc k < n) where
  pub pair_same : (kind r : ℕ) → PlatePair p u k kind r → PlatePair p v k kind r
  pair_same kind r (of, near) = (
    pair_maps (λ i. i) (contours p) itself u itself v (λ i. at p.points (u i)) (λ i. at p.points (v i)) n
        (record { vertex = λ r. refl; point = same; coordinates = λ i l. ap (at p.points) (same i l) })
        (NotEntered u k) (NotEntered v k) (λ c free i l. rw (same i (omega arith)) (free i l)) k kind r h of,
    λ lands i l. rw (same i (omega arith), same k (omega arith), same (suc k) h) (near lands i l),
  )

-- ---- steps that follow a path

-- the step s makes a pair with the last point of the path
abbrev pub Follows : Plate → List Step → Step → Type 0
Follows p path s = PlatePair p (vertex_of (path ++ s ∷ [])) (length path - 1) s.kind s.reference

-- so do these steps, one after another
abbrev pub Chain : Plate → List Step → List Step → Type 0
Chain p path [] = Unit {0}
Chain p path (s ∷ ss) = Follows p path s × Chain p (path ++ s ∷ []) ss

pub chain_append : (p : Plate) (path xs ys : List Step) → Chain p path xs → Chain p (path ++ xs) ys → Chain p path (xs ++ ys)
chain_append p path [] ys a b = subst (λ (l : List Step). Chain p l ys) (append-nil path) b
chain_append p path (x ∷ xs) ys a b =
    (a.0, chain_append p (path ++ x ∷ []) xs ys a.1 (subst (λ (l : List Step). Chain p l ys) (sym (append_snoc path x xs)) b))

-- path points k and k + 1 are a pair
abbrev pub PlatePairAt : Plate → List Step → ℕ → Type 0
PlatePairAt p path k = PlatePair p (vertex_of path) k (step_at path (suc k)).kind (step_at path (suc k)).reference

-- a step's pair stays, whatever follows
pair_kept : (p : Plate) (path : List Step) (s : Step) (more : List Step) (k : ℕ) → suc k ≡ length path → Follows p path s →
    PlatePairAt p (path ++ s ∷ more) k
pair_kept p path s more k e f =
    let here : step_at (path ++ s ∷ more) (suc k) ≡ s = rw e (step_new path s more) in
    let last : length path - 1 ≡ k = omega arith in
    let v = vertex_of (path ++ s ∷ more) in
    let u = vertex_of (path ++ s ∷ []) in
    let same : (i : ℕ) → i < suc (length path) → v i ≡ u i =
    λ i h. rw (← append_snoc path s more) (vertex_old (path ++ s ∷ []) more i (omega (arith, length_snoc path s))) in
    rw here (pair_same p v u (suc (length path)) same k (omega arith) s.kind s.reference (rw last at f))

-- every later point of a chain is in a pair with the point before
chain_pairs : (p : Plate) (path ss : List Step) → Chain p path ss → (k : ℕ) → length path ≤ suc k → suc k < length (path ++ ss) →
    PlatePairAt p (path ++ ss) k
chain_pairs p path [] c k h l = absurd (omega (arith, length-append path []))
chain_pairs p path (s ∷ ss) c k h l = go (dec_le (suc k) (length path)) (chain_pairs p (path ++ s ∷ []) ss c.1 k)
  where
    go : Dec (suc k ≤ length path) →
        (length (path ++ s ∷ []) ≤ suc k → suc k < length ((path ++ s ∷ []) ++ ss) → PlatePairAt p ((path ++ s ∷ []) ++ ss) k) →
        PlatePairAt p (path ++ s ∷ ss) k
    go (yes x) later = pair_kept p path s ss k (omega arith) c.0
    go (no x) later = rw append_snoc at (later (omega (arith, length_snoc path s)) (rw append_snoc l))

-- ---- a path from its start

-- a start: its mark names its vertex, which is one of a contour's
pub record Starts (p : Plate) (s : Step) : Type 0 where
  pub kind : s.kind ≡ start_kind
  pub named : s.vertex ≡ s.reference
  pub of : OfContour p s.reference

-- a start, and steps that follow it
abbrev pub Divided : Plate → List Step → Type 0
Divided p [] = ⊥
Divided p (s ∷ ss) = Starts p s × Chain p (s ∷ []) ss

pub divided_append : (p : Plate) (path more : List Step) → Divided p path → Chain p path more → Divided p (path ++ more)
divided_append p [] more d c = absurd d
divided_append p (s ∷ ss) more d c = (d.0, chain_append p (s ∷ []) ss more d.1 c)

pub divided_some : (p : Plate) (path : List Step) → Divided p path → 1 ≤ length path
divided_some p [] d = absurd d
divided_some p (s ∷ ss) d = omega arith

pub divided_start : (p : Plate) (path : List Step) → Divided p path → Starts p (step_at path 0)
unfolding step_at
divided_start p [] d = absurd d
divided_start p (s ∷ ss) d = d.0

pub divided_pairs : (p : Plate) (path : List Step) → Divided p path → (k : ℕ) → suc k < length path → PlatePairAt p path k
divided_pairs p [] d k h = absurd d
divided_pairs p (s ∷ ss) d k h = chain_pairs p (s ∷ []) ss d.1 k (omega arith) h

-- ---- how many there are

one_kind : (p : Plate) (v : ℕ → ℕ) (k kind r : ℕ) → PlatePair p v k kind r →
    pick (eqb kind cut_kind) 1 0 + pick (eqb kind back_step_kind) 1 0 + pick (eqb kind jump_kind) 1 0 + pick (eqb kind touch_kind) 1 0 ≡ 1
unfolding pick
one_kind p v k kind r (inl (e, c), n) = rw e
one_kind p v k kind r (inr (inl (e, c)), n) = rw e
one_kind p v k kind r (inr (inr (inl (e, t), c)), n) = rw e
one_kind p v k kind r (inr (inr (inr (e, t), c)), n) = rw e

chain_length : (p : Plate) (path ss : List Step) → Chain p path ss →
    length ss ≡ marks_of cut_kind (marks ss) + marks_of back_step_kind (marks ss) + marks_of jump_kind (marks ss) + marks_of touch_kind (marks ss)
unfolding marks_of count_marks marks
chain_length p path [] c = refl
chain_length p path (s ∷ ss) c =
    omega (arith, chain_length p (path ++ s ∷ []) ss c.1, one_kind p (vertex_of (path ++ s ∷ [])) (length path - 1) s.kind s.reference c.0)

not_start : (kind : ℕ) (s : Step) (ss : List Step) → s.kind ≡ start_kind → eqb start_kind kind ≡ false →
    marks_of kind (marks (s ∷ ss)) ≡ marks_of kind (marks ss)
unfolding marks_of count_marks marks pick
not_start kind s ss e f = rw (e, f) (zero-add _)

-- a start, and as many steps as there are cuts, back-steps, jumps and touches
pub divided_length : (p : Plate) (path : List Step) → Divided p path →
    length path
    ≡ 1 + marks_of cut_kind (marks path) + marks_of back_step_kind (marks path) + marks_of jump_kind (marks path) + marks_of touch_kind (marks path)
divided_length p [] d = absurd d
divided_length p (s ∷ ss) d =
    let e = d.0.kind in
    let after = chain_length p (s ∷ []) ss d.1 in
    omega (
      arith,
      after,
      not_start cut_kind s ss e refl,
      not_start back_step_kind s ss e refl,
      not_start jump_kind s ss e refl,
      not_start touch_kind s ss e refl,
    )
