-- Chains into which places were pushed in rising order: what every head and link is. Assumes nothing.
use Rattle.std.specs.Prelude.{◌≡◌, ℕ, suc, ◌+◌, ◌≤◌, ◌<◌, eqb}
use Rattle.std.proofs.Common.{sym, ap, ◌∙◌, add-one, arith}
use Rattle.std.proofs.Math.Decide.{ℕ_discrete}
use Rattle.chains.specs.Last.{last_of, last_in, last_out, last_same}
use Rattle.chains.specs.Cells.{is_in_cell, in_cell, not_in_cell}

-- The chains of the places below `count`. A cell's head is one more than the last place in it, a place's link one more than the last place before it
-- in its cell; both are 0 where there is none.
pub record Chained (head link : ℕ → ℕ) (cells : ℕ) (cell : ℕ → ℕ) (count : ℕ) : Type 0 where
  pub heads : (c : ℕ) → c < cells → head c ≡ last_of (is_in_cell cell c) count
  pub links : (k : ℕ) → k < count → link k ≡ last_of (is_in_cell cell (cell k)) k

-- no place yet
pub chained_none : (head link : ℕ → ℕ) (cells : ℕ) (cell : ℕ → ℕ) → ((c : ℕ) → c < cells → head c ≡ 0) → Chained head link cells cell 0
unfolding last_of
chained_none head link cells cell h = record { heads = h; links = λ k l. absurd (omega arith) }

-- only the cells of the chained places count
pub chained_same : (head link : ℕ → ℕ) (cells : ℕ) (f g : ℕ → ℕ) (n : ℕ) → ((k : ℕ) → k < n → f k ≡ g k) →
    Chained head link cells f n → Chained head link cells g n
unfolding is_in_cell
chained_same head link cells f g n e h =
    record {
      heads = λ c l. h.heads c l ∙ last_same (is_in_cell f c) (is_in_cell g c) n (λ k m. ap (λ (i : ℕ). eqb i c) (e k m));
      links =
          λ k l. h.links k l
          ∙ last_same (is_in_cell f (f k)) (is_in_cell g (g k)) k
          (λ j m. ap (λ (i : ℕ). eqb i (f k)) (e j (omega arith)) ∙ ap (λ (i : ℕ). eqb (g j) i) (e k l));
    }

-- place n is pushed on the chain of its cell c: it links to what was the head, and becomes the head
module _ (head link head' link' : ℕ → ℕ) (cells : ℕ) (cell : ℕ → ℕ) (n c : ℕ) (is : cell n ≡ c) (h : Chained head link cells cell n)
    (new-head : head' c ≡ n + 1) (old-heads : (b : ℕ) → b < cells → (b ≡ c → ⊥) → head' b ≡ head b)
    (new-link : link' n ≡ head c) (old-links : (k : ℕ) → k < n → link' k ≡ link k) where
  heads_after : (b : ℕ) → Dec (b ≡ c) → b < cells → head' b ≡ last_of (is_in_cell cell b) (suc n)
  heads_after b (yes e) l = rw e (new-head ∙ add-one n ∙ sym (last_in (is_in_cell cell c) n (in_cell cell c n is)))
  heads_after b (no e) l = old-heads b l e ∙ h.heads b l ∙ sym (last_out (is_in_cell cell b) n (not_in_cell cell b n (λ f. e (sym f ∙ is))))

  links_after : c < cells → (k : ℕ) → Dec (k ≡ n) → k ≤ n → link' k ≡ last_of (is_in_cell cell (cell k)) k
  links_after m k (yes e) l = rw (e, is) (new-link ∙ h.heads c m)
  links_after m k (no e) l = old-links k (omega arith) ∙ h.links k (omega arith)

  pub chained_push : c < cells → Chained head' link' cells cell (n + 1)
  chained_push m =
      rw (add-one n)
      record { heads = λ b l. heads_after b (ℕ_discrete b c) l; links = λ k l. links_after m k (ℕ_discrete k n) (omega arith) }
