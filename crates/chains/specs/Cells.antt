-- The places of a cell; `cell k` is the cell of place k. Assumes nothing.
use Rattle.std.specs.Prelude.{◌≡◌, Bool, true, false, ℕ, eqb}
use borrow.Author.Tests.{eqb-true, eq-eqb, ne_eqb}

unfoldable pub is_in_cell : (ℕ → ℕ) → ℕ → ℕ → Bool
is_in_cell cell c k = eqb (cell k) c

module _ (cell : ℕ → ℕ) (c k : ℕ) where
  pub in_cell : cell k ≡ c → is_in_cell cell c k ≡ true
  unfolding is_in_cell
  in_cell h = eq-eqb (cell k) c h

  pub not_in_cell : (cell k ≡ c → ⊥) → is_in_cell cell c k ≡ false
  unfolding is_in_cell
  not_in_cell h = ne_eqb (cell k) c h

  pub in_cell_is : is_in_cell cell c k ≡ true → cell k ≡ c
  unfolding is_in_cell
  in_cell_is h = eqb-true (cell k) c h
