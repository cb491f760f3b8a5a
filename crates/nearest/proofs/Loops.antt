-- The four loops of `nearest`: what holds at each of them, and what a turn does to it. Assumes nothing.
use mathlib.Core.Path.{◌≡◌, refl, sym, ap, ◌∙◌}
use mathlib.Core.Bool.{Bool, true, false}
use mathlib.Core.List.{List}
use mathlib.Core.Logic.{inl}
use Prim.Native.Nat.{ℕ, ◌+◌, ◌-◌, ◌≤◌, ◌<◌, max}
use native.Mathlib.Omega.{arith}
use lib.Ieee.{Float}
use Rattle.rules.specs.Limits.{most_cells}
use Rattle.rules.specs.HandedOver.{at}
use Rattle.rules.specs.GridAndNearest.{Cell, cell_of, Square, square, seen_from, nearer, beyond, scan_from, nearest}
use Rattle.rules.specs.SamplesAndCache.{cell_number, cell_at}
use Rattle.rules.specs.declared.Point.{Point}
use Rattle.rules.specs.declared.SpatialGrid.{SpatialGrid}
use Rattle.rules.specs.declared.Nearest.{Nearest}
use Rattle.rules.specs.declared.Nearest.TheVariants.{Nothing}
use Rattle.plate_laws.specs.FiniteDistances.{OnPlate}
use Rattle.plate_laws.specs.Nearest.{seen}
use Rattle.plate_laws.specs.Squares.{InSquare}
use Rattle.chains.specs.Hits.{Hit, better}
use Rattle.chains.specs.Best.{best_of}
use Rattle.chains.specs.Cells.{is_in_cell}
use Rattle.chains.specs.Walks.{ChainWalk, walk_start, walk_falls, walk_next, walk_done}
use Rattle.chains.specs.Sweeps.{Sweeping, sweep_start, sweep_turn, sweep_done}
use Rattle.grid.specs.SaneGrid.{SaneGrid}
use Rattle.grid.specs.Numbers.{number_below}
use Rattle.history.specs.History.{points, head_in, link_in, Ready}
use Rattle.rings.specs.Squares.{column_step}
use Rattle.nearest.proofs.Answers.{SquaredBest, ranked, nearer_ranked}
use Rattle.nearest.proofs.Border.{col_at, row_at, on_ring, on_row, ring_rows, row_cols, row_cell, step_pos, LooksAt, stands_on_side, stands_next, step_gap}
use Rattle.nearest.proofs.Rings.{key_at, place_squared, ring_is, rings_turn, rings_stop, rings_done}

-- ---- what holds; `before` is the answer with which the loop was begun

module _ (g : SpatialGrid) (path : List Float) (count : ℕ) (q : Point) where
  -- the better of an answer and the best of the places that pass a test
  abbrev with_best : (ℕ → Bool) → Nearest → Hit
  with_best P before = better (ranked before) (best_of P (key_at path q) count)

  -- at a cursor in the chain of cell c
  abbrev of_cell : Cell → ℕ → Bool
  of_cell c = is_in_cell (cell_at (at path) g) (cell_number g c)

  pub record InCell (c : Cell) (before best : Nearest) (cursor : ℕ) : Type 0 where
    pub squared : SquaredBest best
    pub walking : ChainWalk (of_cell c) (key_at path q) count (with_best (of_cell c) before) (ranked best) cursor

  -- before a column, in a row of the square s
  pub record InRow (s : Square) (row : ℕ) (before best : Nearest) (col : ℕ) : Type 0 where
    pub squared : SquaredBest best
    pub first : s.first_col ≤ col
    pub stands : LooksAt s row col
    pub sweeping : Sweeping (on_row g path s row) (col_at g path) (key_at path q) count (with_best (on_row g path s row) before) (ranked best) col

  -- before a row of the square s
  pub record InRing (s : Square) (before best : Nearest) (row : ℕ) : Type 0 where
    pub squared : SquaredBest best
    pub first : s.first_row ≤ row
    pub sweeping : Sweeping (on_ring g path s) (row_at g path) (key_at path q) count (with_best (on_ring g path s) before) (ranked best) row

  -- before a ring
  pub record InSearch (rings : ℕ) (best : Nearest) (ring : ℕ) : Type 0 where
    pub squared : SquaredBest best
    pub rest : scan_from g (cell_of g q) (seen_from g q 0 (points path count)) (rings - ring) ring best ≡ nearest g (points path count) q

-- ---- what a turn does

pub same_square : (g : SpatialGrid) (a b : Cell) (ring : ℕ) → a.col ≡ b.col → a.row ≡ b.row → square g a ring ≡ square g b ring
unfolding square
same_square g a b ring e f = rw (e, f)

-- what a query asks for
abbrev Asked : SpatialGrid → List Float → List ℕ → ℕ → Point → Type 0
Asked g path work count q = Ready g path work count × SaneGrid g × (OnPlate q.x × OnPlate q.y)

module _ {g : SpatialGrid} {path : List Float} {work : List ℕ} {count : ℕ} (q : Point) (asked : Asked g path work count q) where
  -- the chain of a cell of the grid
  module _ (c : Cell) (hc : c.col < g.cols) (hr : c.row < g.rows) where
    number_in : cell_number g c < most_cells
    unfolding cell_number
    number_in = (number_below g asked.1 c.col c.row hc hr).1

    pub cell_start : (best : Nearest) → SquaredBest best → InCell g path count q c best best (head_in work (cell_number g c))
    cell_start best h =
        record {
          squared = h;
          walking = walk_start (head_in work) (link_in work) most_cells (cell_at (at path) g) count (cell_number g c) asked.0.chains number_in (key_at path q) (ranked best);
        }

    module _ (before best : Nearest) (cursor : ℕ) (i : InCell g path count q c before best cursor) (some : cursor ≡ 0 → ⊥) where
      pub cell_falls : link_in work (cursor - 1) < cursor
      cell_falls =
          walk_falls (head_in work) (link_in work) most_cells (cell_at (at path) g) count (cell_number g c) asked.0.chains number_in (key_at path q) _ (ranked best) cursor
          i.walking some

      pub cell_next : (r : Nearest) → r ≡ nearer best (seen g q (cursor - 1) (at path (cursor - 1))) →
          InCell g path count q c before r (link_in work (cursor - 1))
      unfolding key_at
      cell_next r e =
          let l : cursor - 1 < count = omega (arith, i.walking.within) in
          let squared = place_squared g path work count q asked.0 asked.2 (cursor - 1) l in
          let n = nearer_ranked best (seen g q (cursor - 1) (at path (cursor - 1))) i.squared squared in
          rw e
          record {
            squared = n.1;
            walking =
                walk_next (head_in work) (link_in work) most_cells (cell_at (at path) g) count (cell_number g c) asked.0.chains number_in (key_at path q) _ (ranked best) cursor
                i.walking some _ n.0;
          }

  module _ (s : Square) where
    pub row_start : (row : ℕ) (best : Nearest) → SquaredBest best → InRow g path count q s row best best s.first_col
    row_start row best h =
        record {
          squared = h;
          first = omega arith;
          stands = inl refl;
          sweeping =
              sweep_start (on_row g path s row) (col_at g path) (key_at path q) count (ranked best) s.first_col
              (λ k l t. (row_cols g asked.1 path s row k t).0);
        }

    -- the chain of the cell is done
    pub row_next : {row : ℕ} {before best r : Nearest} {col cursor : ℕ} → InRow g path count q s row before best col →
        InCell g path count q (record { col = col; row = row }) best r cursor → cursor ≡ 0 →
        InSquare s (record { col = col; row = row }) → col < g.cols → InRow g path count q s row before r (col + column_step s row)
    row_next {row = row} {best = best} {r = r} {col = col} {cursor = cursor} i c z inside hc =
        let cell : Cell = record { col = col; row = row } in
        record {
          squared = c.squared;
          first = omega (arith, i.first);
          stands = stands_next s row col i.first;
          sweeping =
              sweep_turn (on_row g path s row) (col_at g path) (key_at path q) count _ (ranked best) (ranked r) col (col + column_step s row) i.sweeping
              (walk_done (of_cell g path count q cell) (key_at path q) count _ (ranked r) cursor c.walking z
              ∙ ap (better (ranked best))
              (sym (row_cell g asked.1 path s (key_at path q) count cell inside (stands_on_side s row col inside.last_col i.stands) hc)))
              (omega (arith, step_pos s row)) (λ k l t. step_gap g asked.1 path s row col i.first i.stands k t);
        }

    pub ring_start : (best : Nearest) → SquaredBest best → InRing g path count q s best best s.first_row
    ring_start best h =
        record {
          squared = h;
          first = omega arith;
          sweeping =
              sweep_start (on_ring g path s) (row_at g path) (key_at path q) count (ranked best) s.first_row (λ k l t. (ring_rows g asked.1 path s k t).0);
        }

    -- the columns of the row are done
    pub ring_next : {before best r : Nearest} {row col : ℕ} → InRing g path count q s before best row →
        InRow g path count q s row best r col → s.last_col < col → InRing g path count q s before r (row + 1)
    ring_next {best = best} {r = r} {row = row} {col = col} i w h =
        record {
          squared = w.squared;
          first = omega (arith, i.first);
          sweeping =
              sweep_turn (on_ring g path s) (row_at g path) (key_at path q) count _ (ranked best) (ranked r) row (row + 1) i.sweeping
              (sweep_done (on_row g path s row) (col_at g path) (key_at path q) count _ (ranked r) col w.sweeping
              (λ k l t. omega (arith, (row_cols g asked.1 path s row k t).1)))
              (omega arith) (λ k l t m. omega arith);
        }

  pub search_start : (rings : ℕ) → rings ≡ max g.cols g.rows → InSearch g path count q rings Nothing 0
  unfolding nearest
  search_start rings e = let w : rings - 0 ≡ max g.cols g.rows = omega arith in record { squared = tt; rest = rw w }

  module _ (rings ring : ℕ) (best : Nearest) (i : InSearch g path count q rings best ring) where
    -- the rows of the ring are done
    pub search_next : (s : Square) (r : Nearest) (row : ℕ) → s ≡ square g (cell_of g q) ring → ring < rings → beyond g ring best ≡ false →
        InRing g path count q s best r row → s.last_row < row → InSearch g path count q rings r (ring + 1)
    search_next s r row e l b w h =
        record {
          squared = w.squared;
          rest =
              rings_turn g (cell_of g q) (seen_from g q 0 (points path count)) rings ring best _ i.rest r l b
              (ring_is g path q count (place_squared g path work count q asked.0 asked.2) (cell_of g q) ring best r i.squared w.squared
              (sweep_done (on_ring g path s) (row_at g path) (key_at path q) count _ (ranked r) row w.sweeping
              (λ k l t. omega (arith, (ring_rows g asked.1 path s k t).1))
              ∙ ap (λ (s : Square). with_best g path count q (on_ring g path s) best) e));
        }

    pub search_stop : ring < rings → beyond g ring best ≡ true → best ≡ nearest g (points path count) q
    search_stop l b = rings_stop g (cell_of g q) (seen_from g q 0 (points path count)) rings ring best _ i.rest l b

    pub search_done : rings ≤ ring → best ≡ nearest g (points path count) q
    search_done l = rings_done g (cell_of g q) (seen_from g q 0 (points path count)) rings ring best _ i.rest l
