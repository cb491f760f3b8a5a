-- The loops over cells, rows and points: each lists what a fold over a run of numbers says. Assumes nothing.
use mathlib.Core.Path.{◌≡◌, refl, sym, ◌∙◌}
use mathlib.Core.List.{List}
use Prim.Native.Nat.{ℕ, suc, ◌+◌, ◌-◌, ◌≤◌, ◌<◌}
use native.Mathlib.Numerals.{add-one}
use native.Mathlib.Omega.{arith}
use lib.ListN.{length}
use Rattle.rules.specs.Tools.{foldl, up_from}
use Rattle.work_layout.specs.Parts.{KeptBelow, KeptFrom}
use Rattle.work_layout.specs.declared.Layout.{Layout}
use Rattle.neighbours.specs.CellList.{list_of, Listing, Lists}

-- i is the next number: what is listed, and then the rest, is the whole fold
pub record Folding (lay : Layout) (turn : ℕ) (f : List ℕ → ℕ → List ℕ) (w₀ : List ℕ) (n₀ start end : ℕ) (w : List ℕ) (n i : ℕ) : Type 0 where
  pub i_le : i ≤ end
  pub listing : Listing lay w turn n
  pub rest : foldl f (list_of lay w n) (up_from i (end - i)) ≡ foldl f (list_of lay w₀ n₀) (up_from start (end - start))
  pub below : KeptBelow lay.flags w₀ w
  pub above : KeptFrom lay.entries w₀ w
  pub same : length w ≡ length w₀

up_more : (f : List ℕ → ℕ → List ℕ) (cs : List ℕ) (i end : ℕ) → i < end →
    foldl f cs (up_from i (end - i)) ≡ foldl f (f cs i) (up_from (i + 1) (end - (i + 1)))
up_more f cs i end l = let e : end - i ≡ suc (end - (i + 1)) = omega arith in rw (e, add-one)

up_end : (f : List ℕ → ℕ → List ℕ) (cs : List ℕ) (i end : ℕ) → end ≤ i → foldl f cs (up_from i (end - i)) ≡ cs
up_end f cs i end l = let e : end - i ≡ 0 = omega arith in rw e

module _ {lay : Layout} {turn : ℕ} {f : List ℕ → ℕ → List ℕ} {w₀ : List ℕ} {n₀ start end : ℕ} where
  pub folding_start : Listing lay w₀ turn n₀ → start ≤ end → Folding lay turn f w₀ n₀ start end w₀ n₀ start
  folding_start h l = record { i_le = l; listing = h; rest = refl; below = λ i g. refl; above = λ i g. refl; same = refl }

  pub folding_step : {w : List ℕ} {n i : ℕ} → Folding lay turn f w₀ n₀ start end w n i → i < end → {w' : List ℕ} {n' : ℕ} →
      Lists lay turn w n w' n' (λ cs. f cs i) → length w' ≡ length w → Folding lay turn f w₀ n₀ start end w' n' (i + 1)
  folding_step {w = w} {n = n} {i = i} h l m e =
      record {
        i_le = omega arith;
        listing = m.listing;
        rest = rw m.list (sym (up_more f (list_of lay w n) i end l) ∙ h.rest);
        below = λ i g. m.below i g ∙ h.below i g;
        above = λ i g. m.above i g ∙ h.above i g;
        same = e ∙ h.same;
      }

  pub folding_done : {w : List ℕ} {n i : ℕ} → Folding lay turn f w₀ n₀ start end w n i → end ≤ i →
      Lists lay turn w₀ n₀ w n (λ cs. foldl f cs (up_from start (end - start)))
  folding_done {w = w} {n = n} {i = i} h l =
      record { listing = h.listing; list = sym (up_end f (list_of lay w n) i end l) ∙ h.rest; below = h.below; above = h.above }
