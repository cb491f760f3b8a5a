-- Resetting the caches, contour by contour. Assumes nothing.
use Prim.Native.Nat.{ℕ, zero, suc, ◌+◌, ◌≤◌, ◌<◌}
use mathlib.Core.Path.{◌≡◌, refl, ◌∙◌}
use mathlib.Core.Bool.{false}
use mathlib.Core.List.{List, [], ◌∷◌}
use native.Mathlib.Omega.{arith}
use native.Mathlib.Numerals.{add-one}
use native.Mathlib.Decide.{ℕ_discrete}
use lib.ListN.{length, get_or, set, length-set}
use lib.Seq.{get_or-set_same, get_or-set_other}
use lib.Ieee.{Float, nan, inf}
use Rattle.rules.specs.Tools.{sum}
use Rattle.work_layout.specs.Laid.{Laid}
use Rattle.work_layout.specs.declared.Layout.{Layout}
use Rattle.prepare.specs.Reset.{first_vertex, Reset}

first_next : (lengths : List ℕ) (j : ℕ) → j < length lengths → first_vertex lengths (suc j) ≡ first_vertex lengths j + get_or lengths j 0
unfolding first_vertex sum
first_next [] j l = absurd (omega arith)
first_next (n ∷ ns) zero l = omega arith
first_next (n ∷ ns) (suc j) l = omega (arith, first_next ns j (omega arith))

first_step : (lengths : List ℕ) (j : ℕ) → j < length lengths → first_vertex lengths (j + 1) ≡ first_vertex lengths j + get_or lengths j 0
first_step lengths j l = rw add-one (first_next lengths j l)

first_most : (lengths : List ℕ) (j : ℕ) → first_vertex lengths j ≤ sum lengths
unfolding first_vertex sum
first_most [] zero = omega arith
first_most [] (suc j) = omega arith
first_most (n ∷ ns) zero = omega arith
first_most (n ∷ ns) (suc j) = omega (arith, first_most ns j)

-- contours 0 to j − 1 are reset, and `first` is contour j's first vertex
pub record Resetting (lengths : List ℕ) (lay : Layout) (ds₀ : List Float) (w₀ : List ℕ) (ds : List Float) (w : List ℕ) (first j : ℕ) : Type 0 where
  pub most : j ≤ lay.contours
  pub first_is : first ≡ first_vertex lengths j
  pub reset : Reset lengths lay j w₀ ds w
  pub same_ds : length ds ≡ length ds₀
  pub same_w : length w ≡ length w₀

pub resetting_start : (lengths : List ℕ) (lay : Layout) (ds : List Float) (w : List ℕ) → Resetting lengths lay ds w ds w 0 0
unfolding first_vertex sum
resetting_start lengths lay ds w =
    record {
      most = omega arith;
      first_is = refl;
      reset = record {
        squared = λ i l. absurd (omega arith);
        entry = λ i l. absurd (omega arith);
        first = λ i l. absurd (omega arith);
        below = λ i l. refl;
        kept = λ i l m. refl;
      };
      same_ds = refl;
      same_w = refl;
    }

module _ {lengths : List ℕ} {lay : Layout} {ds₀ : List Float} {w₀ : List ℕ}
    (laid : Laid lay (length w₀)) (few : lay.contours ≡ length lengths) (long : lay.contours ≤ length ds₀)
    {ds : List Float} {w : List ℕ} {first j : ℕ} (r : Resetting lengths lay ds₀ w₀ ds w first j) (l : j < length lengths) where
  pub resetting_room : first + get_or lengths j 0 ≤ sum lengths
  resetting_room = omega (arith, r.first_is, first_step lengths j l, first_most lengths (j + 1))

  abbrev w₁ : List ℕ
  w₁ = set w (lay.entries + j) first

  abbrev w₂ : List ℕ
  w₂ = set w₁ (lay.firsts + j) first

  -- a place that is not written, and the two that are
  other : (i : ℕ) → (i ≡ lay.entries + j → ⊥) → (i ≡ lay.firsts + j → ⊥) → get_or w₂ i 0 ≡ get_or w i 0
  other i a b = get_or-set_other w₁ (lay.firsts + j) i first 0 b ∙ get_or-set_other w (lay.entries + j) i first 0 a

  new_entry : get_or w₂ (lay.entries + j) 0 ≡ first
  new_entry =
      get_or-set_other w₁ (lay.firsts + j) (lay.entries + j) first 0 (λ e. omega (arith, laid, few))
      ∙ get_or-set_same w (lay.entries + j) first 0 (omega (arith, laid, few, r.same_w))

  new_first : get_or w₂ (lay.firsts + j) 0 ≡ first
  new_first = get_or-set_same w₁ (lay.firsts + j) first 0 (simp length-set (omega (arith, laid, few, r.same_w)))

  pub resetting_step : Resetting lengths lay ds₀ w₀ (set ds j (inf false)) w₂ (first + get_or lengths j 0) (j + 1)
  resetting_step =
      record {
        most = omega arith;
        first_is = omega (arith, r.first_is, first_step lengths j l);
        reset = record {
          squared = λ i h. squared i h (ℕ_discrete i j);
          entry = λ i h. entry i h (ℕ_discrete i j);
          first = λ i h. firsts i h (ℕ_discrete i j);
          below = λ i h. other i (λ e. omega arith) (λ e. omega (arith, laid)) ∙ r.reset.below i h;
          kept = λ i g h. other i (λ e. omega (arith, laid, few)) (λ e. omega arith) ∙ r.reset.kept i g h;
        };
        same_ds = length-set ds j (inf false) ∙ r.same_ds;
        same_w = length-set w₁ (lay.firsts + j) _ ∙ length-set w (lay.entries + j) _ ∙ r.same_w;
      }
    where
      squared : (i : ℕ) → i < j + 1 → Dec (i ≡ j) → get_or (set ds j (inf false)) i nan ≡ inf false
      squared i h (yes e) = rw e (get_or-set_same ds j (inf false) nan (omega (arith, few, r.same_ds)))
      squared i h (no d) = get_or-set_other ds j i (inf false) nan d ∙ r.reset.squared i (omega arith)

      entry : (i : ℕ) → i < j + 1 → Dec (i ≡ j) → get_or w₂ (lay.entries + i) 0 ≡ first_vertex lengths i
      entry i h (yes e) = rw e (new_entry ∙ r.first_is)
      entry i h (no d) =
          other (lay.entries + i) (λ e. d (omega arith)) (λ e. omega (arith, laid, few)) ∙ r.reset.entry i (omega arith)

      firsts : (i : ℕ) → i < j + 1 → Dec (i ≡ j) → get_or w₂ (lay.firsts + i) 0 ≡ first_vertex lengths i
      firsts i h (yes e) = rw e (new_first ∙ r.first_is)
      firsts i h (no d) =
          other (lay.firsts + i) (λ e. omega (arith, laid, few)) (λ e. d (omega arith)) ∙ r.reset.first i (omega arith)
