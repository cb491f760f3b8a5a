-- A history from nothing: it is ready for queries when empty, and with one place more after a point is appended to the path and its place inserted.
-- Assumes nothing.
use Rattle.std.specs.Prelude.{◌≡◌, List, ℕ, ◌+◌, ◌*◌, ◌≤◌, ◌<◌, Float, length, get_or, set}
use Rattle.std.proofs.Common.{ap, ◌∙◌, arith, length-set, get_or-set_same, get_or-set_other}
use Rattle.std.proofs.Math.Decide.{ℕ_discrete}
use Rattle.std.specs.Float.{nan}
use Rattle.rules.specs.Limits.{most_cells}
use Rattle.rules.specs.HandedOver.{at}
use Rattle.rules.specs.GridAndNearest.{cell_of}
use Rattle.rules.specs.SamplesAndCache.{cell_number, cell_at}
use Rattle.rules.specs.declared.Point.{Point}
use Rattle.rules.specs.declared.SpatialGrid.{SpatialGrid}
use Rattle.plate_laws.specs.FiniteDistances.{OnPlate}
use Rattle.chains.specs.Chains.{chained_push, chained_same}
use Rattle.work_layout.specs.Parts.{KeptBelow, KeptFrom}
use Rattle.grid.specs.SaneGrid.{SaneGrid}
use Rattle.grid.specs.Numbers.{cell_number_below}
use Rattle.history.specs.History.{appended, head_in, link_in, ChainedPlaces, inserted, Ready}

-- ---- the path slice with a point written at place k

module _ (path : List Float) (k : ℕ) (p : Point) (h : 2 * k + 1 < length path) where
  at_x : get_or (appended path k p) (2 * k) nan ≡ p.x
  at_x =
      get_or-set_other (set path (2 * k) p.x) (2 * k + 1) (2 * k) p.y nan (omega arith)
      ∙ get_or-set_same path (2 * k) p.x nan (omega arith)

  at_y : get_or (appended path k p) (2 * k + 1) nan ≡ p.y
  at_y = get_or-set_same (set path (2 * k) p.x) (2 * k + 1) p.y nan (simp length-set h)

  elsewhere : (j : ℕ) → (j ≡ 2 * k → ⊥) → (j ≡ 2 * k + 1 → ⊥) → get_or (appended path k p) j nan ≡ get_or path j nan
  elsewhere j a b = get_or-set_other (set path (2 * k) p.x) (2 * k + 1) j p.y nan b ∙ get_or-set_other path (2 * k) j p.x nan a

  new_point : at (appended path k p) k ≡ p
  unfolding at
  new_point = rw (at_x, at_y)

  old_point : (j : ℕ) → j < k → at path j ≡ at (appended path k p) j
  unfolding at
  old_point j l = rw (elsewhere (2 * j) (omega arith) (omega arith), elsewhere (2 * j + 1) (omega arith) (omega arith))

  on_plate : OnPlate p.x → OnPlate p.y → ((j : ℕ) → j < 2 * k → OnPlate (get_or path j nan)) →
      (j : ℕ) → j < 2 * (k + 1) → OnPlate (get_or (appended path k p) j nan)
  on_plate px py old j l = go (ℕ_discrete j (2 * k)) (ℕ_discrete j (2 * k + 1))
    where
      go : Dec (j ≡ 2 * k) → Dec (j ≡ 2 * k + 1) → OnPlate (get_or (appended path k p) j nan)
      go (yes e) d = rw (e, at_x) px
      go (no e) (yes f) = rw (f, at_y) py
      go (no e) (no f) = rw (elsewhere j e f) (old j (omega arith))

-- ---- the work slice with place k in front of cell c's chain

module _ (work : List ℕ) (k c : ℕ) (hc : c < most_cells) where
  abbrev pushed : List ℕ
  pushed = set (set work (most_cells + k) (head_in work c)) c (k + 1)

  other_number : (j : ℕ) → (j ≡ most_cells + k → ⊥) → (j ≡ c → ⊥) → get_or pushed j 0 ≡ get_or work j 0
  other_number j a b = get_or-set_other (set work (most_cells + k) (head_in work c)) c j (k + 1) 0 b ∙ get_or-set_other work (most_cells + k) j (head_in work c) 0 a

  push_chained : (cell : ℕ → ℕ) → most_cells + k < length work → cell k ≡ c → ChainedPlaces work cell k → ChainedPlaces pushed cell (k + 1)
  push_chained cell h e chained =
      chained_push (head_in work) (link_in work) (head_in pushed) (link_in pushed) most_cells cell k c e chained
      (get_or-set_same (set work (most_cells + k) (head_in work c)) c (k + 1) 0 (simp length-set (omega arith)))
      (λ b l n. other_number b (omega arith) n)
      (get_or-set_other (set work (most_cells + k) (head_in work c)) c (most_cells + k) (k + 1) 0 (omega arith)
      ∙ get_or-set_same work (most_cells + k) (head_in work c) 0 h)
      (λ j l. other_number (most_cells + j) (omega arith) (omega arith))
      hc

-- ---- for callers

-- a history of which every chain is empty
pub ready_none : (g : SpatialGrid) (path : List Float) (work : List ℕ) → most_cells ≤ length work → ((cell : ℕ → ℕ) → ChainedPlaces work cell 0) →
    Ready g path work 0
ready_none g path work h none =
    record { path_long = omega arith; work_long = omega arith; coords = λ k l. absurd (omega arith); chains = none (cell_at (at path) g) }

-- the path slice gets the point at the next place, and the place is inserted
pub ready_append : (g : SpatialGrid) (path : List Float) (work : List ℕ) (k : ℕ) (p : Point) → Ready g path work k → SaneGrid g →
    OnPlate p.x → OnPlate p.y → 2 * k + 1 < length path → most_cells + k < length work →
    Ready g (appended path k p) (inserted g work k p) (k + 1)
unfolding inserted cell_at
ready_append g path work k p r s px py hp hw =
    let number : Point → ℕ = λ (v : Point). cell_number g (cell_of g v) in
    record {
      path_long = simp length-set (omega arith);
      work_long = simp length-set (omega arith);
      coords = on_plate path k p hp px py r.coords;
      chains =
          push_chained work k (number p) (cell_number_below g s p).1 (cell_at (at (appended path k p)) g) hw (ap number (new_point path k p hp))
          (chained_same (head_in work) (link_in work) most_cells (cell_at (at path) g) (cell_at (at (appended path k p)) g) k
          (λ j l. ap number (old_point path k p hp j l)) r.chains);
    }

-- an insertion alters nothing behind its link
pub inserted_kept : (g : SpatialGrid) (work : List ℕ) (k : ℕ) (p : Point) → SaneGrid g → KeptFrom (most_cells + k + 1) work (inserted g work k p)
unfolding inserted
inserted_kept g work k p s j l =
    let b = (cell_number_below g s p).1 in other_number work k (cell_number g (cell_of g p)) b j (omega arith) (omega arith)

-- what lies behind the links is free
pub ready_kept : (g : SpatialGrid) (path : List Float) (work work' : List ℕ) (count a : ℕ) → Ready g path work count →
    KeptBelow a work work' → most_cells + count ≤ a → length work' ≡ length work → Ready g path work' count
ready_kept g path work work' count a r same h e =
    record {
      path_long = r.path_long;
      work_long = omega (arith, r.work_long);
      coords = r.coords;
      chains =
          record {
            heads = λ c l. same c (omega arith) ∙ r.chains.heads c l;
            links = λ k l. same (most_cells + k) (omega arith) ∙ r.chains.links k l;
          };
    }
