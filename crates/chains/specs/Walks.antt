-- Walking a cell's chain from its head, by links, meets every place of the cell. Assumes nothing.
use Rattle.std.specs.Prelude.{◌≡◌, refl, Bool, true, false, cond, ℕ, zero, suc, ◌-◌, ◌≤◌, ◌<◌}
use Rattle.std.proofs.Common.{sym, ap, ◌∙◌, arith}
use Rattle.chains.specs.Hits.{Hit, hit, better, better_miss, better_assoc}
use Rattle.chains.specs.Best.{best_of, best_in, best_out}
use Rattle.chains.specs.Last.{last_of, last_le, last_last, last_passes}
use Rattle.chains.specs.Cells.{is_in_cell, in_cell_is}
use Rattle.chains.specs.Chains.{Chained}

-- At a cursor, which is 0 or one more than a place that passes: the best so far and the best of the places below the cursor make up the total.
pub record ChainWalk (P : ℕ → Bool) (key : ℕ → ℕ) (count : ℕ) (total best : Hit) (cursor : ℕ) : Type 0 where
  pub within : cursor ≤ count
  pub last : last_of P cursor ≡ cursor
  pub rest : better best (best_of P key cursor) ≡ total

-- from the last place that passes on, none does
best_last : (key : ℕ → ℕ) (P : ℕ → Bool) (n : ℕ) → best_of P key n ≡ best_of P key (last_of P n)
unfolding last_of
best_last key P zero = refl
best_last key P (suc n) = go (P n) refl (best_last key P n)
  where
    go : (b : Bool) → P n ≡ b → best_of P key n ≡ best_of P key (last_of P n) → best_of P key (suc n) ≡ best_of P key (cond b (suc n) (last_of P n))
    go true w h = refl
    go false w h = best_out key P n w ∙ h

walking_at : (P : ℕ → Bool) (key : ℕ → ℕ) (count : ℕ) (total best : Hit) (n cursor : ℕ) → n ≤ count → cursor ≡ last_of P n →
    better best (best_of P key n) ≡ total → ChainWalk P key count total best cursor
walking_at P key count total best n cursor h e t =
    rw e record { within = omega (arith, last_le P n); last = last_last P n; rest = ap (better best) (sym (best_last key P n)) ∙ t }

module _ (head link : ℕ → ℕ) (cells : ℕ) (cell : ℕ → ℕ) (count c : ℕ) (h : Chained head link cells cell count) (hc : c < cells) where
  pub walk_start : (key : ℕ → ℕ) (best : Hit) → ChainWalk (is_in_cell cell c) key count (better best (best_of (is_in_cell cell c) key count)) best (head c)
  walk_start key best = walking_at (is_in_cell cell c) key count _ best count (head c) (omega arith) (h.heads c hc) refl

  module _ (key : ℕ → ℕ) (total best : Hit) (cursor : ℕ) (w : ChainWalk (is_in_cell cell c) key count total best cursor) (some : cursor ≡ 0 → ⊥) where
    before : suc (cursor - 1) ≡ cursor
    before = omega arith

    passes : is_in_cell cell c (cursor - 1) ≡ true
    passes = last_passes (is_in_cell cell c) (cursor - 1) (rw before w.last)

    linked : link (cursor - 1) ≡ last_of (is_in_cell cell c) (cursor - 1)
    linked =
        h.links (cursor - 1) (omega (arith, w.within))
        ∙ ap (λ (b : ℕ). last_of (is_in_cell cell b) (cursor - 1)) (in_cell_is cell c (cursor - 1) passes)

    pub walk_falls : link (cursor - 1) < cursor
    walk_falls = rw linked (omega (arith, last_le (is_in_cell cell c) (cursor - 1)))

    pub walk_next : (r : Hit) → r ≡ better best (hit (cursor - 1) (key (cursor - 1))) → ChainWalk (is_in_cell cell c) key count total r (link (cursor - 1))
    walk_next r e =
        walking_at (is_in_cell cell c) key count total r (cursor - 1) (link (cursor - 1)) (omega (arith, w.within)) linked
        (rw (e, better_assoc, ← best_in key (is_in_cell cell c) (cursor - 1) passes, before) w.rest)

pub walk_done : (P : ℕ → Bool) (key : ℕ → ℕ) (count : ℕ) (total best : Hit) (cursor : ℕ) → ChainWalk P key count total best cursor → cursor ≡ 0 →
    best ≡ total
unfolding best_of
walk_done P key count total best cursor w z = sym (better_miss best) ∙ (rw z at w.rest)
