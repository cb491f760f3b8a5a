-- The contours begin to wait, one after the other. Assumes nothing.
use Prim.Native.Nat.{ℕ, ◌+◌, ◌≤◌, ◌<◌}
use mathlib.Core.Path.{◌≡◌, refl, ◌∙◌}
use mathlib.Core.List.{List}
use native.Mathlib.Omega.{arith}
use native.Mathlib.Decide.{ℕ_discrete}
use lib.ListN.{length, get_or, set, length-set}
use lib.Seq.{get_or-set_same, get_or-set_other}
use Rattle.work_layout.specs.Laid.{Laid}
use Rattle.work_layout.specs.Parts.{KeptBelow, KeptFrom}
use Rattle.work_layout.specs.declared.Layout.{Layout}

-- contours 0 to j − 1 wait, and nothing else is altered
pub record BegunTo (lengths : List ℕ) (lay : Layout) (w₀ w : List ℕ) (j : ℕ) : Type 0 where
  pub waits : (i : ℕ) → i < j → get_or w (lay.waiting + i) 0 ≡ get_or lengths i 0
  pub below : KeptBelow lay.waiting w₀ w
  pub above : KeptFrom lay.firsts w₀ w
  pub same : length w ≡ length w₀

pub begun_none : (lengths : List ℕ) (lay : Layout) (w : List ℕ) → BegunTo lengths lay w w 0
begun_none lengths lay w = record { waits = λ i l. absurd (omega arith); below = λ i l. refl; above = λ i l. refl; same = refl }

pub begun_next : {lengths : List ℕ} {lay : Layout} {w₀ w : List ℕ} {j : ℕ} → Laid lay (length w₀) → lay.contours ≡ length lengths →
    BegunTo lengths lay w₀ w j → j < length lengths → BegunTo lengths lay w₀ (set w (lay.waiting + j) (get_or lengths j 0)) (j + 1)
begun_next {lengths} {lay} {w₀} {w} {j} laid few b l =
    record {
      waits = λ i h. waits i h (ℕ_discrete i j);
      below = λ i h. other i (λ e. omega arith) ∙ b.below i h;
      above = λ i h. other i (λ e. omega (arith, laid, few)) ∙ b.above i h;
      same = length-set w (lay.waiting + j) _ ∙ b.same;
    }
  where
    other : (i : ℕ) → (i ≡ lay.waiting + j → ⊥) → get_or (set w (lay.waiting + j) (get_or lengths j 0)) i 0 ≡ get_or w i 0
    other i d = get_or-set_other w (lay.waiting + j) i (get_or lengths j 0) 0 d

    waits : (i : ℕ) → i < j + 1 → Dec (i ≡ j) → get_or (set w (lay.waiting + j) (get_or lengths j 0)) (lay.waiting + i) 0 ≡ get_or lengths i 0
    waits i h (yes e) = rw e (get_or-set_same w (lay.waiting + j) (get_or lengths j 0) 0 (omega (arith, laid, few, b.same)))
    waits i h (no d) = other (lay.waiting + i) (λ e. d (omega arith)) ∙ b.waits i (omega arith)
