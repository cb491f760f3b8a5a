-- The words after one path point more. Assumes nothing.
use Rattle.std.specs.Prelude.{◌≡◌, refl, Bool, true, false, ◌||◌, List, ℕ, suc, ◌+◌, ◌%◌, ◌≤◌, ◌<◌, eqb, length, get_or, set}
use Rattle.std.proofs.Common.{sym, ap, ◌∙◌, arith, add-one, length-set, get_or-set_same, get_or-set_other}
use mathlib.Core.Bool.{or-false}
use Rattle.std.proofs.Math.Bool.{or_comm}
use Rattle.std.proofs.Math.Decide.{ℕ_discrete}
use Rattle.std.proofs.Math.Nat.{mod-lt}
use borrow.Author.Tests.{eq-eqb, ne_eqb}
use Rattle.rules.specs.Tools.{pick}
use Rattle.landings.specs.Chain.{on_chain, on_end, on_step, on_same}
use Rattle.landings.specs.LandedBefore.{count_of, head_of, LandedBefore}
use Rattle.landings.specs.declared.words.Landings.{Landings}

-- the vertices vs of the path points before i, and of path point i
pub read_more : (vertices vs : List ℕ) (i v : ℕ) → i < length vertices → v ≡ get_or vs i 0 →
    ((j : ℕ) → j < i → get_or vertices j 0 ≡ get_or vs j 0) → (j : ℕ) → j < suc i → get_or (set vertices i v) j 0 ≡ get_or vs j 0
read_more vertices vs i v h e before j l = go (ℕ_discrete j i)
  where
    go : Dec (j ≡ i) → get_or (set vertices i v) j 0 ≡ get_or vs j 0
    go (yes q) = rw q (get_or-set_same vertices i v 0 h ∙ e)
    go (no q) = get_or-set_other vertices i j v 0 q ∙ before j (omega (arith, q, l))

-- every flag and head is 0
pub read_none : (w : Landings) → ((k : ℕ) → get_or w.flags.now k 0 ≡ 0) → ((k : ℕ) → get_or w.heads.now k 0 ≡ 0) → LandedBefore w (λ v. false) 0
unfolding pick
read_none w flags heads =
    record {
      within = λ r. omega (arith, heads r);
      near = λ v l. flags v;
      far = λ v l.
          ap (on_chain w.vertices.now w.links.now v) (heads (v % count_of w)) ∙ on_end w.vertices.now w.links.now w.falling.links_fall v;
    }

-- w' has vertex v at path point i
module _ (w w' : Landings) (S : ℕ → Bool) (i v : ℕ) (here : i < count_of w) (holds : LandedBefore w S i)
    (vertices : w'.vertices.now ≡ set w.vertices.now i v) where
  same_count : count_of w' ≡ count_of w
  same_count = rw vertices (length-set w.vertices.now i v)

  same_vertex : (k : ℕ) → k < i → get_or w'.vertices.now k 0 ≡ get_or w.vertices.now k 0
  same_vertex k l = rw vertices (get_or-set_other w.vertices.now i k v 0 (omega arith))

  -- a chain as before
  old_chain : ((k : ℕ) → k < i → get_or w'.links.now k 0 ≡ get_or w.links.now k 0) → (u : ℕ) → head_of w' u ≡ head_of w u →
      count_of w ≤ u → on_chain w'.vertices.now w'.links.now u (head_of w' u) ≡ S u
  old_chain links u e l =
      ap (on_chain w'.vertices.now w'.links.now u) e
      ∙ on_same w.vertices.now w.links.now w.falling.links_fall u w'.vertices.now w'.links.now i same_vertex links (head_of w u)
      (holds.within (u % count_of w))
      ∙ holds.far u l

  -- chains as before
  module _ (heads : w'.heads.now ≡ w.heads.now) (links : w'.links.now ≡ w.links.now) where
    same_head : (u : ℕ) → head_of w' u ≡ head_of w u
    same_head u = rw (heads, same_count) refl

    far_as_before : (u : ℕ) → count_of w ≤ u → on_chain w'.vertices.now w'.links.now u (head_of w' u) ≡ S u
    far_as_before u l = old_chain (λ k x. rw links refl) u (same_head u) l

    within_as_before : (r : ℕ) → get_or w'.heads.now r 0 ≤ suc i
    within_as_before r = rw heads (omega (arith, holds.within r))

    pub read_step_back : w'.flags.now ≡ w.flags.now → LandedBefore w' S (suc i)
    read_step_back flags =
        record {
          within = within_as_before;
          near = λ u l. rw flags (holds.near u (omega (arith, l, same_count)));
          far = λ u l. far_as_before u (omega (arith, l, same_count));
        }

    -- the vertex that is landed on has a flag
    pub read_near : v < count_of w → w'.flags.now ≡ set w.flags.now v 1 → LandedBefore w' (λ u. S u || eqb v u) (suc i)
    unfolding pick
    read_near low flags =
        record {
          within = within_as_before;
          near = λ u l. near u (ℕ_discrete u v) (omega (arith, l, same_count));
          far = λ u l.
              far_as_before u (omega (arith, l, same_count))
              ∙ rw (ne_eqb v u (λ e. omega (arith, e, l, low, same_count))) (sym (or-false (S u)));
        }
      where
        near : (u : ℕ) → Dec (u ≡ v) → u < count_of w → get_or w'.flags.now u 0 ≡ pick (S u || eqb v u) 1 0
        near u (yes e) l =
            rw (flags, e, eq-eqb v v refl, or_comm (S v) true) (get_or-set_same w.flags.now v 1 0 (omega (arith, low, w.falling.flags_long)))
        near u (no e) l =
            rw (flags, ne_eqb v u (λ x. e (sym x)), or-false (S u)) (get_or-set_other w.flags.now v u 1 0 e ∙ holds.near u l)

  -- the vertex that is landed on has a chain, and path place i becomes its head
  module _ (high : count_of w ≤ v) (flags : w'.flags.now ≡ w.flags.now) (heads : w'.heads.now ≡ set w.heads.now (v % count_of w) (i + 1))
      (links : w'.links.now ≡ set w.links.now i (head_of w v)) where
    chain_low : v % count_of w < count_of w
    chain_low = mod-lt v (omega (arith, here))

    pub read_far : LandedBefore w' (λ u. S u || eqb v u) (suc i)
    read_far = record {
      within = λ r. within r (ℕ_discrete r (v % count_of w));
      near = λ u l.
          rw (flags, ne_eqb v u (λ e. omega (arith, e, l, high, same_count)), or-false (S u))
          (holds.near u (omega (arith, l, same_count)));
      far = λ u l. far u (ℕ_discrete (u % count_of w) (v % count_of w)) (omega (arith, l, same_count));
    }
      where
        new_head : get_or w'.heads.now (v % count_of w) 0 ≡ suc i
        new_head = rw heads (get_or-set_same w.heads.now (v % count_of w) (i + 1) 0 (omega (arith, chain_low, w.falling.heads_long)) ∙ add-one i)

        old_head : (r : ℕ) → (r ≡ v % count_of w → ⊥) → get_or w'.heads.now r 0 ≡ get_or w.heads.now r 0
        old_head r n = rw heads (get_or-set_other w.heads.now (v % count_of w) r (i + 1) 0 n)

        old_link : (k : ℕ) → k < i → get_or w'.links.now k 0 ≡ get_or w.links.now k 0
        old_link k l = rw links (get_or-set_other w.links.now i k (head_of w v) 0 (omega arith))

        within : (r : ℕ) → Dec (r ≡ v % count_of w) → get_or w'.heads.now r 0 ≤ suc i
        within r (yes e) = rw e (omega (arith, new_head))
        within r (no n) = omega (arith, old_head r n, holds.within r)

        -- the same chain: the new place, and behind it the places of before
        longer : (u : ℕ) → u % count_of w ≡ v % count_of w → count_of w ≤ u →
            on_chain w'.vertices.now w'.links.now u (head_of w' u) ≡ (S u || eqb v u)
        longer u e l =
            let head : head_of w' u ≡ suc i = rw (same_count, e) new_head in
            let vertex : get_or w'.vertices.now i 0 ≡ v = rw vertices (get_or-set_same w.vertices.now i v 0 here) in
            let link : get_or w'.links.now i 0 ≡ head_of w u =
            rw (links, e) (get_or-set_same w.links.now i (head_of w v) 0 (omega (arith, here, w.falling.links_long)))
            in
            let rest : on_chain w'.vertices.now w'.links.now u (head_of w u) ≡ S u =
            on_same w.vertices.now w.links.now w.falling.links_fall u w'.vertices.now w'.links.now i same_vertex old_link (head_of w u)
            (holds.within (u % count_of w))
            ∙ holds.far u l
            in
            rw (head, on_step w'.vertices.now w'.links.now w'.falling.links_fall u i, vertex, link, rest) (or_comm (eqb v u) (S u))

        far : (u : ℕ) → Dec (u % count_of w ≡ v % count_of w) → count_of w ≤ u →
            on_chain w'.vertices.now w'.links.now u (head_of w' u) ≡ (S u || eqb v u)
        far u (yes e) l = longer u e l
        far u (no n) l =
            let apart : (S u || eqb v u) ≡ S u = rw (ne_eqb v u (λ e. n (rw e refl))) (or-false (S u)) in
            old_chain old_link u (rw same_count (old_head (u % count_of w) n)) l ∙ sym apart
