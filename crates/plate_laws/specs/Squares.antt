-- Squares of cells and their borders, in numbers; and the nine cells around a cell as rings 0 and 1. Assumes nothing.
use Rattle.std.specs.Prelude.{◌≡◌, Bool, true, false, ◌||◌, ◌&&◌, ◌⊎◌, ℕ, ◌+◌, ◌-◌, ◌≤◌, ◌<◌, min, max, leb, eqb}
use Rattle.std.proofs.Math.Logic.{inl, inr}
use Rattle.std.proofs.Math.Decide.{dec_le}
use Rattle.std.proofs.Common.{arith, le-leb}
use Rattle.std.proofs.Math.Dec.{T}
use Rattle.std.proofs.Math.Facts.{and_yes, yes_and, leb_yes, eqb_yes, yes_eqb}
use Rattle.rules.specs.GridAndNearest.{Cell, Square, square, within, on_border}
use Rattle.rules.specs.declared.SpatialGrid.{SpatialGrid}

-- ---- squares and borders

-- a cell of a square
pub record InSquare (s : Square) (c : Cell) : Type 0 where
  pub first_col : s.first_col ≤ c.col
  pub last_col : c.col ≤ s.last_col
  pub first_row : s.first_row ≤ c.row
  pub last_row : c.row ≤ s.last_row

pub within_is : (s : Square) (c : Cell) → T (within s c) → InSquare s c
unfolding within
within_is s c t =
    let left = leb s.first_col c.col in
    let right = leb c.col s.last_col in
    let top = leb s.first_row c.row in
    let all = and_yes (left && right && top) (leb c.row s.last_row) t in
    let three = and_yes (left && right) top all.0 in
    let two = and_yes left right three.0 in
    record { first_col = leb_yes two.0; last_col = leb_yes two.1; first_row = leb_yes three.1; last_row = leb_yes all.1 }

pub is_within : (s : Square) (c : Cell) → InSquare s c → T (within s c)
unfolding within
is_within s c h =
    rw (le-leb _ _ h.first_col, le-leb _ _ h.last_col, le-leb _ _ h.first_row, le-leb _ _ h.last_row) tt

-- a cell on one of the four sides
abbrev pub OnSide : Square → Cell → Type 0
OnSide s c = (c.col ≡ s.first_col) ⊎ (c.col ≡ s.last_col) ⊎ (c.row ≡ s.first_row) ⊎ (c.row ≡ s.last_row)

or_intro : (a b c d : Bool) → T a ⊎ T b ⊎ T c ⊎ T d → T (a || b || c || d)
or_intro true b c d t = tt
or_intro false true c d t = tt
or_intro false false true d t = tt
or_intro false false false true t = tt
or_intro false false false false (inl t) = t
or_intro false false false false (inr (inl t)) = t
or_intro false false false false (inr (inr (inl t))) = t
or_intro false false false false (inr (inr (inr t))) = t

or_cases : (a b c d : Bool) → T (a || b || c || d) → T a ⊎ T b ⊎ T c ⊎ T d
or_cases true b c d t = inl tt
or_cases false true c d t = inr (inl tt)
or_cases false false true d t = inr (inr (inl tt))
or_cases false false false d t = inr (inr (inr t))

-- the border: the cells of the square that are on a side
module _ (s : Square) (c : Cell) where
  abbrev left : Bool
  left = eqb c.col s.first_col

  abbrev right : Bool
  right = eqb c.col s.last_col

  abbrev top : Bool
  top = eqb c.row s.first_row

  abbrev bottom : Bool
  bottom = eqb c.row s.last_row

  pub is_border : InSquare s c → OnSide s c → T (on_border s c)
  unfolding on_border
  is_border h o = yes_and (within s c) (left || right || top || bottom) (is_within s c h) (or_intro left right top bottom (go o))
    where
      go : OnSide s c → T left ⊎ T right ⊎ T top ⊎ T bottom
      go (inl e) = inl (yes_eqb e)
      go (inr (inl e)) = inr (inl (yes_eqb e))
      go (inr (inr (inl e))) = inr (inr (inl (yes_eqb e)))
      go (inr (inr (inr e))) = inr (inr (inr (yes_eqb e)))

  pub border_is : T (on_border s c) → InSquare s c × OnSide s c
  unfolding on_border
  border_is t =
      let h = and_yes (within s c) (left || right || top || bottom) t in
      (within_is s c h.0, go (or_cases left right top bottom h.1))
    where
      go : T left ⊎ T right ⊎ T top ⊎ T bottom → OnSide s c
      go (inl e) = inl (eqb_yes e)
      go (inr (inl e)) = inr (inl (eqb_yes e))
      go (inr (inr (inl e))) = inr (inr (inl (eqb_yes e)))
      go (inr (inr (inr e))) = inr (inr (inr (eqb_yes e)))

-- ---- the nine cells

-- x is one of the two ends of the three cells around q, in a row of n cells
abbrev AtEnd : ℕ → ℕ → ℕ → Type 0
AtEnd n q x = (x ≡ q - 1) ⊎ (x ≡ min (q + 1) (n - 1))

-- x within 1 of q, in a row of n cells: it is q, or one of those ends, and then n is above 1
beside : (n q x : ℕ) → q ≤ n - 1 → q - 1 ≤ x → x ≤ min (q + 1) (n - 1) → (x ≡ q) ⊎ (AtEnd n q x × (1 < n))
beside n q x h a b = go (dec_le q x) (dec_le x q)
  where
    go : Dec (q ≤ x) → Dec (x ≤ q) → (x ≡ q) ⊎ (AtEnd n q x × (1 < n))
    go (yes y) (yes z) = inl (omega arith)
    go (yes y) (no z) = inr (inr (omega arith), omega arith)
    go (no y) z = inr (inl (omega arith), omega arith)

-- a cell within 1 of a cell q of the grid is on ring 0, or it is on ring 1 and a search of the grid has a ring 1
pub nine_cells : (g : SpatialGrid) (q c : Cell) → q.col ≤ g.cols - 1 → q.row ≤ g.rows - 1 → T (within (square g q 1) c) →
    T (on_border (square g q 0) c) ⊎ (T (on_border (square g q 1) c) × (1 < max g.cols g.rows))
unfolding square
nine_cells g q c hc hr t =
    go (beside g.cols q.col c.col hc h.first_col h.last_col) (beside g.rows q.row c.row hr h.first_row h.last_row)
  where
    h : InSquare (square g q 1) c
    h = within_is (square g q 1) c t

    ring : OnSide (square g q 1) c → T (on_border (square g q 1) c)
    ring = is_border (square g q 1) c h

    same : c.col ≡ q.col → c.row ≡ q.row → InSquare (square g q 0) c
    same e f = record { first_col = omega arith; last_col = omega arith; first_row = omega arith; last_row = omega arith }

    go : (c.col ≡ q.col) ⊎ (AtEnd g.cols q.col c.col × (1 < g.cols)) →
        (c.row ≡ q.row) ⊎ (AtEnd g.rows q.row c.row × (1 < g.rows)) →
        T (on_border (square g q 0) c) ⊎ (T (on_border (square g q 1) c) × (1 < max g.cols g.rows))
    go (inl e) (inl f) = inl (is_border (square g q 0) c (same e f) (inl (omega arith)))
    go (inl e) (inr f) = inr (ring (elim f.0 [ inl x ↦ inr (inr (inl x)) | inr x ↦ inr (inr (inr x)) ]), omega arith)
    go (inr e) f = inr (ring (elim e.0 [ inl x ↦ inl x | inr x ↦ inr (inl x) ]), omega arith)
