-- The places of a square's border, row by row and cell by cell. Assumes nothing.
use mathlib.Core.Path.{◌≡◌, ap, subst}
use mathlib.Core.Bool.{Bool}
use mathlib.Core.List.{List}
use mathlib.Core.Logic.{◌⊎◌, inl, inr}
use Prim.Native.Nat.{ℕ, ◌+◌, ◌-◌, ◌*◌, ◌≤◌, ◌<◌, max}
use native.Mathlib.Nat.{suc-mul, mul-le-mul_right}
use native.Mathlib.Decide.{dec_lt, ℕ_discrete}
use native.Mathlib.Omega.{arith}
use borrow.Author.Tests.{eq-eqb, ne_eqb}
use lib.Dec.{T}
use lib.Ieee.{Float}
use lib.Ieee.Bits.{is_true}
use Rattle.rules.specs.Tools.{pick}
use Rattle.rules.specs.HandedOver.{at}
use Rattle.rules.specs.GridAndNearest.{Cell, cell_of, Square, on_border}
use Rattle.rules.specs.SamplesAndCache.{cell_number, cell_at}
use Rattle.rules.specs.declared.SpatialGrid.{SpatialGrid}
use Rattle.plate_laws.specs.Squares.{InSquare, OnSide, border_is, is_border}
use Rattle.chains.specs.Best.{best_of, same_test, best_same}
use Rattle.chains.specs.Cells.{is_in_cell, in_cell, in_cell_is}
use Rattle.chains.specs.Sweeps.{level, level_is, is_level}
use Rattle.grid.specs.SaneGrid.{SaneGrid}
use Rattle.grid.specs.Numbers.{cell_inside}
use Rattle.rings.specs.Squares.{column_step}

-- ---- tests of path places

unfoldable pub col_at : SpatialGrid → List Float → ℕ → ℕ
col_at g path k = (cell_of g (at path k)).col

unfoldable pub row_at : SpatialGrid → List Float → ℕ → ℕ
row_at g path k = (cell_of g (at path k)).row

-- on a square's border, and there in a row
unfoldable pub on_ring : SpatialGrid → List Float → Square → ℕ → Bool
on_ring g path s k = on_border s (cell_of g (at path k))

abbrev pub on_row : SpatialGrid → List Float → Square → ℕ → ℕ → Bool
on_row g path s row = level (on_ring g path s) (row_at g path) row

-- ---- a cell's number tells its column and row

row_step : (cols y z : ℕ) → y < z → y * cols + cols ≤ z * cols
row_step cols y z h = rw (← suc-mul y cols) (mul-le-mul_right cols h)

one_cell : (cols x y x' y' : ℕ) → x < cols → x' < cols → y * cols + x ≡ y' * cols + x' → (x ≡ x') × (y ≡ y')
one_cell cols x y x' y' hx hx' e = go (dec_lt y y') (dec_lt y' y)
  where
    go : Dec (y < y') → Dec (y' < y) → (x ≡ x') × (y ≡ y')
    go (yes h) d = absurd (omega (arith, row_step cols y y' h))
    go (no h) (yes k) = absurd (omega (arith, row_step cols y' y k))
    go (no h) (no k) = let w : y ≡ y' = omega arith in let v : y * cols ≡ y' * cols = ap (λ (z : ℕ). z * cols) w in (omega arith, w)

-- ---- along a row, by `column_step`

module _ (s : Square) where
  -- the first or the last row, and another one
  abbrev Edge : ℕ → Type 0
  Edge row = ((row ≡ s.first_row) ⊎ (row ≡ s.last_row)) × (column_step s row ≡ 1)

  abbrev Inner : ℕ → Type 0
  Inner row = (row ≡ s.first_row → ⊥) × (row ≡ s.last_row → ⊥) × (column_step s row ≡ max (s.last_col - s.first_col) 1)

  edge_or_inner : (row : ℕ) → Edge row ⊎ Inner row
  unfolding column_step pick
  edge_or_inner row = go (ℕ_discrete row s.first_row) (ℕ_discrete row s.last_row)
    where
      go : Dec (row ≡ s.first_row) → Dec (row ≡ s.last_row) → Edge row ⊎ Inner row
      go (yes e) d = inl (inl e, rw (eq-eqb row s.first_row e))
      go (no n) (yes e) = inl (inr e, rw (eq-eqb row s.last_row e, ne_eqb row s.first_row n))
      go (no n) (no o) = inr (n, o, rw (ne_eqb row s.first_row n, ne_eqb row s.last_row o))

  pub step_pos : (row : ℕ) → 1 ≤ column_step s row
  step_pos row = elim (edge_or_inner row) [ inl h ↦ omega (arith, h.1) | inr h ↦ omega (arith, h.2) ]

  pub step_most : (row : ℕ) → column_step s row ≤ s.last_col + 1
  step_most row = elim (edge_or_inner row) [ inl h ↦ omega (arith, h.1) | inr h ↦ omega (arith, h.2) ]

  -- where the code looks: at an end of the row, or anywhere in the first or the last row
  abbrev pub LooksAt : ℕ → ℕ → Type 0
  LooksAt row col = (col ≡ s.first_col) ⊎ (s.last_col ≤ col) ⊎ (row ≡ s.first_row) ⊎ (row ≡ s.last_row)

  pub stands_on_side : (row col : ℕ) → col ≤ s.last_col → LooksAt row col → OnSide s (record { col = col; row = row })
  stands_on_side row col l (inl e) = inl e
  stands_on_side row col l (inr (inl h)) = inr (inl (omega arith))
  stands_on_side row col l (inr (inr h)) = inr (inr h)

  pub stands_next : (row col : ℕ) → s.first_col ≤ col → LooksAt row (col + column_step s row)
  stands_next row col from =
      elim (edge_or_inner row) [ inl h ↦ inr (inr h.0) | inr h ↦ inr (inl (omega (arith, h.2))) ]

module _ (g : SpatialGrid) (sane : SaneGrid g) (path : List Float) (s : Square) where
  -- ---- a ring's places lie in the square's rows, and a row's in its columns

  pub ring_rows : (k : ℕ) → T (on_ring g path s k) → (s.first_row ≤ row_at g path k) × (row_at g path k ≤ s.last_row)
  unfolding on_ring row_at
  ring_rows k t = let h = (border_is s (cell_of g (at path k)) t).0 in (h.first_row, h.last_row)

  row_is : (row k : ℕ) → T (on_row g path s row k) →
      (s.first_col ≤ col_at g path k) × (col_at g path k ≤ s.last_col) × OnSide s (record { col = col_at g path k; row = row })
  unfolding on_ring col_at row_at
  row_is row k t =
      let a = level_is (on_ring g path s) (row_at g path) row k t in
      let b = border_is s (cell_of g (at path k)) a.0 in
      (b.0.first_col, b.0.last_col, subst (λ (y : ℕ). OnSide s (record { col = (cell_of g (at path k)).col; row = y })) a.1 b.1)

  pub row_cols : (row k : ℕ) → T (on_row g path s row k) → (s.first_col ≤ col_at g path k) × (col_at g path k ≤ s.last_col)
  row_cols row k t = let a = row_is row k t in (a.0, a.1)

  -- ---- a row's places in one column are those of a cell

  pub row_cell : (key : ℕ → ℕ) (n : ℕ) (c : Cell) → InSquare s c → OnSide s c → c.col < g.cols →
      best_of (level (on_row g path s c.row) (col_at g path) c.col) key n ≡ best_of (is_in_cell (cell_at (at path) g) (cell_number g c)) key n
  unfolding on_ring col_at row_at cell_at cell_number
  row_cell key n c inside side hc = best_same key _ _ n (λ k l. same_test _ _ (to k) (from k))
    where
      to : (k : ℕ) → T (level (on_row g path s c.row) (col_at g path) c.col k) → T (is_in_cell (cell_at (at path) g) (cell_number g c) k)
      to k t =
          let a = level_is (on_row g path s c.row) (col_at g path) c.col k t in
          let b = level_is (on_ring g path s) (row_at g path) c.row k a.0 in
          rw (in_cell (cell_at (at path) g) (cell_number g c) k (rw (a.1, b.1))) tt

      from : (k : ℕ) → T (is_in_cell (cell_at (at path) g) (cell_number g c) k) → T (level (on_row g path s c.row) (col_at g path) c.col k)
      from k t =
          let h = in_cell_is (cell_at (at path) g) (cell_number g c) k (is_true _ t) in
          let e = one_cell g.cols (col_at g path k) (row_at g path k) c.col c.row (cell_inside g sane (at path k)).0 hc h in
          is_level (on_row g path s c.row) (col_at g path) c.col k
          (is_level (on_ring g path s) (row_at g path) c.row k (rw (e.0, e.1) (is_border s c inside side)) e.1) e.0

  -- no border place of the row is passed over
  pub step_gap : (row col : ℕ) → s.first_col ≤ col → LooksAt s row col → (k : ℕ) → T (on_row g path s row k) → col < col_at g path k → col + column_step s row ≤ col_at g path k
  step_gap row col from st k t l = elim (edge_or_inner s row) [ inl h ↦ omega (arith, h.1) | inr h ↦ inner h st (row_is row k t).2 ]
    where
      inner : Inner s row → LooksAt s row col → OnSide s (record { col = col_at g path k; row = row }) → col + column_step s row ≤ col_at g path k
      inner h st (inl e) = absurd (omega arith)
      inner h (inl f) (inr (inl e)) = omega (arith, h.2)
      inner h (inr (inl f)) (inr (inl e)) = absurd (omega arith)
      inner h (inr (inr (inl f))) (inr (inl e)) = absurd (h.0 f)
      inner h (inr (inr (inr f))) (inr (inl e)) = absurd (h.1 f)
      inner h st (inr (inr (inl e))) = absurd (h.0 e)
      inner h st (inr (inr (inr e))) = absurd (h.1 e)
