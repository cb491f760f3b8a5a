-- Chains of path places that fall: whether one has a place of a vertex. Assumes nothing.
use Rattle.std.specs.Prelude.{◌≡◌, refl, Bool, true, false, ◌||◌, List, ℕ, zero, suc, ◌-◌, ◌≤◌, ◌<◌, eqb, get_or}
use Rattle.std.proofs.Common.{sym, ap, ◌∙◌, arith}
use borrow.Author.Tests.{eq-eqb, ne_eqb}

-- One of the first `steps` places has vertex v. The chain goes on at a cursor, which is 0 at its end or one more than a place.
unfoldable pub within_steps : List ℕ → List ℕ → ℕ → ℕ → ℕ → Bool
within_steps vertices links v zero cursor = false
within_steps vertices links v (suc steps) zero = false
within_steps vertices links v (suc steps) (suc place) = eqb (get_or vertices place 0) v || within_steps vertices links v steps (get_or links place 0)

-- A chain falls, so that from a cursor on there are no more places than its number.
unfoldable pub on_chain : List ℕ → List ℕ → ℕ → ℕ → Bool
on_chain vertices links v cursor = within_steps vertices links v cursor cursor

-- links name earlier places than their own
abbrev pub Fall : List ℕ → Type 0
Fall links = (k : ℕ) → get_or links k 0 ≤ k

module _ (vertices links : List ℕ) (fall : Fall links) (v : ℕ) where
  enough_steps : (m n cursor : ℕ) → cursor ≤ m → cursor ≤ n → within_steps vertices links v m cursor ≡ within_steps vertices links v n cursor
  unfolding within_steps
  enough_steps zero zero zero h k = refl
  enough_steps zero (suc n) zero h k = refl
  enough_steps (suc m) zero zero h k = refl
  enough_steps (suc m) (suc n) zero h k = refl
  enough_steps zero n (suc place) h k = absurd (omega arith)
  enough_steps (suc m) zero (suc place) h k = absurd (omega arith)
  enough_steps (suc m) (suc n) (suc place) h k =
      ap (λ (b : Bool). eqb (get_or vertices place 0) v || b)
      (enough_steps m n (get_or links place 0) (omega (arith, fall place)) (omega (arith, fall place)))

  pub on_end : on_chain vertices links v 0 ≡ false
  unfolding on_chain within_steps
  on_end = refl

  pub on_step : (place : ℕ) →
      on_chain vertices links v (suc place) ≡ (eqb (get_or vertices place 0) v || on_chain vertices links v (get_or links place 0))
  unfolding on_chain within_steps
  on_step place =
      ap (λ (b : Bool). eqb (get_or vertices place 0) v || b)
      (enough_steps place (get_or links place 0) (get_or links place 0) (fall place) (omega arith))

  -- at a place
  module _ (cursor : ℕ) (some : cursor ≡ 0 → ⊥) where
    step_here : on_chain vertices links v cursor
        ≡ (eqb (get_or vertices (cursor - 1) 0) v || on_chain vertices links v (get_or links (cursor - 1) 0))
    step_here = let e : suc (cursor - 1) ≡ cursor = omega arith in rw e at (on_step (cursor - 1))

    pub on_found : get_or vertices (cursor - 1) 0 ≡ v → on_chain vertices links v cursor ≡ true
    on_found e = step_here ∙ rw (eq-eqb (get_or vertices (cursor - 1) 0) v e) refl

    pub on_other : (get_or vertices (cursor - 1) 0 ≡ v → ⊥) → on_chain vertices links v (get_or links (cursor - 1) 0) ≡ on_chain vertices links v cursor
    on_other n = sym (step_here ∙ rw (ne_eqb (get_or vertices (cursor - 1) 0) v n) refl)

  -- words at place i and later ones do not count for a chain of places before i
  module _ (vertices' links' : List ℕ) (i : ℕ) (same_vertex : (k : ℕ) → k < i → get_or vertices' k 0 ≡ get_or vertices k 0)
      (same_link : (k : ℕ) → k < i → get_or links' k 0 ≡ get_or links k 0) where
    same_steps : (n cursor : ℕ) → cursor ≤ i → within_steps vertices' links' v n cursor ≡ within_steps vertices links v n cursor
    unfolding within_steps
    same_steps zero cursor h = refl
    same_steps (suc n) zero h = refl
    same_steps (suc n) (suc place) h =
        rw (same_vertex place (omega arith), same_link place (omega arith))
        (ap (λ (b : Bool). eqb (get_or vertices place 0) v || b) (same_steps n (get_or links place 0) (omega (arith, fall place))))

    pub on_same : (cursor : ℕ) → cursor ≤ i → on_chain vertices' links' v cursor ≡ on_chain vertices links v cursor
    unfolding on_chain
    on_same cursor h = same_steps cursor cursor h
