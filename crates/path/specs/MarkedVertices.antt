-- The vertices of a path are those that its marks name. Assumes nothing.
use Rattle.std.specs.Prelude.{◌≡◌, refl, List, [], ◌∷◌, ◌++◌, ◌⊎◌, ℕ, suc, ◌-◌, ◌≤◌, ◌<◌, length, get_or}
use Rattle.std.proofs.Common.{sym, ap, ◌∙◌, append-nil, inl, inr, arith, eq-eqb, ne_eqb}
use Rattle.std.proofs.Math.Seq.{append_snoc}
use Rattle.rules.specs.Tools.{pick}
use Rattle.rules.specs.HandedOver.{Plate, contours}
use Rattle.rules.specs.Retrace.{vertex_of}
use Rattle.rules.specs.Marks.{start_kind, cut_kind, Step, marks, vertices, named, vertices_after, vertex_in}
use Rattle.statement.specs.Division.{itself, Cut}
use Rattle.plate_laws.specs.Slices.{vertices_length, vertices_at}
use Rattle.path.specs.Pairs.{PlatePair, Follows, Chain, Divided}
use Rattle.plate_laws.specs.Steps.{vertex_old, vertex_new, length_snoc}

-- ---- the vertices are those that the marks name

vertices_snoc : (path : List Step) (s : Step) → vertices (path ++ s ∷ []) ≡ vertices path ++ s.vertex ∷ []
unfolding vertices
vertices_snoc [] s = refl
vertices_snoc (x ∷ path) s = ap (λ (l : List ℕ). x.vertex ∷ l) (vertices_snoc path s)

-- v gives the vertices vs, of which there is a last one, and then u
record Next (vs : List ℕ) (v : ℕ → ℕ) (u : ℕ) : Type 0 where
  some : 1 ≤ length vs
  old : (i : ℕ) → i < length vs → v i ≡ get_or vs i 0
  new : v (suc (length vs - 1)) ≡ u

cut_names : (p : Plate) (vs : List ℕ) (v : ℕ → ℕ) (u r : ℕ) → Next vs v u → Cut (contours p) itself v (length vs - 1) r → named vs cut_kind r ≡ u
unfolding named pick
cut_names p vs v u r n c = go c.sense
  where
    before : v (length vs - 1) ≡ get_or vs (length vs - 1) 0
    before = let h = n.some in n.old (length vs - 1) (omega arith)

    go : ((v (length vs - 1) ≡ r) × (v (suc (length vs - 1)) ≡ suc r)) ⊎ ((v (length vs - 1) ≡ suc r) × (v (suc (length vs - 1)) ≡ r)) →
        named vs cut_kind r ≡ u
    go (inl x) = rw (eq-eqb (get_or vs (length vs - 1) 0) r (sym before ∙ x.0)) (sym x.1 ∙ n.new)
    go (inr x) = rw (ne_eqb (get_or vs (length vs - 1) 0) r (λ e. omega (arith, before, x.0, e))) (sym x.1 ∙ n.new)

pair_names : (p : Plate) (vs : List ℕ) (v : ℕ → ℕ) (u kind r : ℕ) → Next vs v u → PlatePair p v (length vs - 1) kind r → named vs kind r ≡ u
unfolding named pick
pair_names p vs v u kind r n (inl (e, c), x) = rw e (cut_names p vs v u r n c)
pair_names p vs v u kind r n (inr (inl (e, b)), x) =
    let l = b.earlier in
    let h = n.some in
    rw e (sym (n.old r (omega arith)) ∙ sym b.to ∙ n.new)
pair_names p vs v u kind r n (inr (inr (inl (e, t), j)), x) = rw e (sym j.landing ∙ n.new)
pair_names p vs v u kind r n (inr (inr (inr (e, t), j)), x) = rw e (sym j.landing ∙ n.new)

follows_names : (p : Plate) (path : List Step) (s : Step) → 1 ≤ length path → Follows p path s →
    named (vertices path) s.kind s.reference ≡ s.vertex
follows_names p path s h f =
    pair_names p (vertices path) (vertex_of (path ++ s ∷ [])) s.vertex s.kind s.reference next (rw (vertices_length path) f)
  where
    last : suc (length (vertices path) - 1) ≡ length path
    last = omega (arith, vertices_length path)

    next : Next (vertices path) (vertex_of (path ++ s ∷ [])) s.vertex
    next =
        record {
          some = omega (arith, vertices_length path);
          old = λ i x. vertex_old path (s ∷ []) i (omega (arith, vertices_length path)) ∙ sym (vertices_at path i);
          new = rw last (vertex_new path s []);
        }

chain_vertices : (p : Plate) (path ss : List Step) → 1 ≤ length path → Chain p path ss →
    vertices_after (vertices path) (marks ss) ≡ vertices (path ++ ss)
unfolding vertices_after marks
chain_vertices p path [] h c = ap vertices (sym (append-nil path))
chain_vertices p path (s ∷ ss) h c =
    rw (follows_names p path s h c.0, ← vertices_snoc path s, ← append_snoc path s ss)
    (chain_vertices p (path ++ s ∷ []) ss (omega (arith, length_snoc path s)) c.1)

start_names : (kind r : ℕ) → kind ≡ start_kind → named [] kind r ≡ r
unfolding named pick
start_names kind r e = rw e

divided_vertices : (p : Plate) (path : List Step) → Divided p path → vertices_after [] (marks path) ≡ vertices path
unfolding vertices_after marks vertices
divided_vertices p [] d = absurd d
divided_vertices p (s ∷ ss) d =
    rw (start_names s.kind s.reference d.0.kind, ← d.0.named) (chain_vertices p (s ∷ []) ss (omega arith) d.1)

pub vertex_in_lem : (p : Plate) (path : List Step) → Divided p path → (k : ℕ) → vertex_in (marks path) k ≡ vertex_of path k
unfolding vertex_in
vertex_in_lem p path d k = rw (divided_vertices p path d) (vertices_at path k)
