-- The vertices of the path points by their marks: how many there are, and each by the kind of its mark. Assumes nothing.
use Rattle.std.specs.Prelude.{◌≡◌, List, [], ◌∷◌, ◌++◌, ℕ, zero, suc, ◌+◌, ◌-◌, ◌*◌, ◌<◌, eqb, length, get_or, take}
use Rattle.std.proofs.Common.{sym, ne_eqb, ◌∙◌, arith, length-append}
use Rattle.std.proofs.lemmas.List.{get_or-take, append_assoc, append-nil}
use Rattle.std.proofs.Math.Seq.{take-append_seam, get_or-append_seam, length-take-le}
use Rattle.rules.specs.Tools.{pick}
use Rattle.rules.specs.Marks.{cut_kind, back_step_kind, kind_at, reference_at, named, vertices_after}
use Rattle.plate_laws.specs.Slices.{twice, twice_one}

-- ---- how many

length_after : (vs ms : List ℕ) (n : ℕ) → length ms ≡ 2 * n → length (vertices_after vs ms) ≡ length vs + n
unfolding vertices_after
length_after vs [] n e = omega arith
length_after vs (kind ∷ []) n e = absurd (omega arith)
length_after vs (kind ∷ r ∷ ms) zero e = absurd (omega arith)
length_after vs (kind ∷ r ∷ ms) (suc n) e =
    omega (arith, length_after (vs ++ named vs kind r ∷ []) ms n (omega arith), length-append vs (named vs kind r ∷ []))

pub vertices_length : (ms : List ℕ) (n : ℕ) → length ms ≡ 2 * n → length (vertices_after [] ms) ≡ n
vertices_length ms n e = omega (arith, length_after [] ms n e)

-- ---- each by its mark

-- the vertices before stay in front
in_front : (vs ms : List ℕ) → (rest : List ℕ) × (vertices_after vs ms ≡ vs ++ rest)
unfolding vertices_after
in_front vs [] = ([], sym (append-nil vs))
in_front vs (kind ∷ []) = ([], sym (append-nil vs))
in_front vs (kind ∷ r ∷ ms) =
    let v = named vs kind r in
    let (rest, e) = in_front (vs ++ v ∷ []) ms in
    (v ∷ rest, e ∙ append_assoc vs (v ∷ []) rest)

before_after : (vs ms : List ℕ) → take (length vs) (vertices_after vs ms) ≡ vs
before_after vs ms = let (rest, e) = in_front vs ms in rw e (take-append_seam vs rest)

-- path point i, counted from those with the vertices vs
named_after : (vs ms : List ℕ) (i : ℕ) → 2 * i + 1 < length ms →
    get_or (vertices_after vs ms) (length vs + i) 0 ≡ named (take (length vs + i) (vertices_after vs ms)) (kind_at ms i) (reference_at ms i)
unfolding vertices_after kind_at reference_at
named_after vs [] i h = absurd (omega arith)
named_after vs (kind ∷ []) i h = absurd (omega arith)
named_after vs (kind ∷ r ∷ ms) zero h =
    let v = named vs kind r in
    let (rest, e) = in_front (vs ++ v ∷ []) ms in
    let z : length vs + 0 ≡ length vs = omega arith in
    rw (z, before_after vs (kind ∷ r ∷ ms), e, append_assoc vs (v ∷ []) rest) (get_or-append_seam vs v rest 0)
named_after vs (kind ∷ r ∷ ms) (suc i) h =
    let l : length (vs ++ named vs kind r ∷ []) + i ≡ length vs + suc i = omega (arith, length-append vs (named vs kind r ∷ [])) in
    rw (twice_one i, twice i, ← l) (named_after (vs ++ named vs kind r ∷ []) ms i (omega arith))

-- ---- by the kind

module _ (ms : List ℕ) (n i : ℕ) (whole : length ms ≡ 2 * n) (inside : i < n) where
  abbrev vs : List ℕ
  vs = vertices_after [] ms

  abbrev r : ℕ
  r = reference_at ms i

  pub vertex_named : get_or vs i 0 ≡ named (take i vs) (kind_at ms i) r
  vertex_named = let z : 0 + i ≡ i = omega arith in rw z at (named_after [] ms i (omega arith))

  -- a start, a jump or a touch
  pub vertex_landed : (kind_at ms i ≡ cut_kind → ⊥) → (kind_at ms i ≡ back_step_kind → ⊥) → get_or vs i 0 ≡ r
  unfolding named pick
  vertex_landed a b = vertex_named ∙ rw (ne_eqb (kind_at ms i) cut_kind a, ne_eqb (kind_at ms i) back_step_kind b)

  -- a cut
  pub vertex_cut : kind_at ms i ≡ cut_kind → 0 < i → get_or vs i 0 ≡ pick (eqb (get_or vs (i - 1) 0) r) (suc r) r
  unfolding named pick
  vertex_cut e h =
      let l = length-take-le i vs (omega (arith, vertices_length ms n whole)) in
      vertex_named ∙ rw (e, l, get_or-take i vs (i - 1) 0 (omega arith))

  -- a back-step
  pub vertex_back : kind_at ms i ≡ back_step_kind → r < i → get_or vs i 0 ≡ get_or vs r 0
  unfolding named pick
  vertex_back e h = vertex_named ∙ rw (e, get_or-take i vs r 0 h)
