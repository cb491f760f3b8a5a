-- The list of cells in the lent u32 slice: a cell is listed in a turn where its flag is the turn's number. Assumes nothing.
use Rattle.std.specs.Prelude.{◌≡◌, Bool, List, ℕ, ◌≤◌, ◌<◌, eqb, length, take, drop}
use Rattle.std.proofs.Common.{sym, subst}
use Rattle.rules.specs.SamplesAndCache.{met}
use Rattle.work_layout.specs.Laid.{Laid}
use Rattle.work_layout.specs.Parts.{from, KeptBelow, KeptFrom}
use Rattle.work_layout.specs.declared.Layout.{Layout}
use Rattle.neighbours.specs.Tally.{tally, tally_most}

-- the n cells listed
unfoldable pub list_of : Layout → List ℕ → ℕ → List ℕ
list_of lay w n = take n (drop lay.list w)

-- whether a cell carries this turn's flag
unfoldable pub flagged : Layout → List ℕ → ℕ → ℕ → Bool
flagged lay w turn c = eqb (from w lay.flags c) turn

-- n cells are listed in this turn, once each: those that carry its flag
pub record Listing (lay : Layout) (w : List ℕ) (turn n : ℕ) : Type 0 where
  pub laid : Laid lay (length w)
  pub met_is : (c : ℕ) → c < lay.cells → flagged lay w turn c ≡ met (list_of lay w n) c
  pub counted : n ≡ tally (flagged lay w turn) lay.cells
  pub inside : (i : ℕ) → i < n → from w lay.list i < lay.cells
  pub most : (c : ℕ) → c < lay.cells → from w lay.flags c ≤ turn

pub listing_few : (lay : Layout) (w : List ℕ) (turn n : ℕ) → Listing lay w turn n → n ≤ lay.cells
listing_few lay w turn n h = subst (λ (k : ℕ). k ≤ lay.cells) (sym h.counted) (tally_most (flagged lay w turn) lay.cells)

-- the list of n cells becomes one of n' as f says, and nothing is altered but flags and list
pub record Lists (lay : Layout) (turn : ℕ) (w : List ℕ) (n : ℕ) (w' : List ℕ) (n' : ℕ) (f : List ℕ → List ℕ) : Type 0 where
  pub listing : Listing lay w' turn n'
  pub list : list_of lay w' n' ≡ f (list_of lay w n)
  pub below : KeptBelow lay.flags w w'
  pub above : KeptFrom lay.entries w w'
