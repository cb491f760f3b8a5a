-- What the kind of a mark says: whether it enters a contour, and what its pair is. Assumes nothing.
use Rattle.std.specs.Prelude.{◌≡◌, ◌⊎◌, List, ℕ, T}
use Rattle.std.proofs.Common.{subst, inl, inr, arith}
use Rattle.rules.specs.HandedOver.{Contour}
use Rattle.rules.specs.Contours.{Of, is_of}
use Rattle.rules.specs.Marks.{start_kind, cut_kind, back_step_kind, enters}
use Rattle.rules.specs.declared.Point.{Point}
use Rattle.statement.specs.Division.{Cut, Landing, JumpOrTouch, PairOf}
use Rattle.division_laws.specs.Says.{Says, says_and, says_eqb}
use Rattle.division_laws.specs.MarkCounts.{cutting, entering}
use Rattle.division_laws.specs.Rules.{says_of}

-- ---- what the marks are counted by

pub says_cut : (v kind r : ℕ) → Says (cutting v kind r) ((kind ≡ cut_kind) × (r ≡ v))
says_cut v kind r = says_and _ _ _ _ (says_eqb kind cut_kind) (says_eqb r v)

pub says_entry : (c : Contour) (kind r : ℕ) → Says (entering c kind r) (T (enters kind) × Of c r)
says_entry c kind r = says_and (enters kind) (is_of c r) _ _ (record { tells = λ t. t; told = λ t. t }) (says_of c r)

-- ---- kinds that enter, and kinds that do not

pub start_enters : {kind : ℕ} → kind ≡ start_kind → T (enters kind)
unfolding enters
start_enters e = rw e tt

pub landing_enters : (a b : Point) {kind : ℕ} → JumpOrTouch a b kind → T (enters kind)
unfolding enters
landing_enters a b (inl e) = rw e.0 tt
landing_enters a b (inr e) = rw e.0 tt

-- a cut and a back-step enter no contour
pub no_entry : {kind : ℕ} → (kind ≡ cut_kind) ⊎ (kind ≡ back_step_kind) → T (enters kind) → ⊥
unfolding enters
no_entry (inl e) t = subst (λ (x : ℕ). T (enters x)) e t
no_entry (inr e) t = subst (λ (x : ℕ). T (enters x)) e t

-- ---- the pair of a mark

module _ {A : Type 0} {cs : List Contour} (x : ℕ → Point) {u v : ℕ → A} {New : Contour → Type 0} {k kind r : ℕ} where
  -- one that enters a contour lands
  pub entry_lands : PairOf cs x u v New k kind r → T (enters kind) → Landing cs u v New k r
  entry_lands (inl (e, y)) t = absurd (no_entry (inl e) t)
  entry_lands (inr (inl (e, y))) t = absurd (no_entry (inr e) t)
  entry_lands (inr (inr (j, y))) t = y

  -- one that is a cut's is a cut
  pub cut_pair : PairOf cs x u v New k kind r → kind ≡ cut_kind → Cut cs u v k r
  cut_pair (inl (e, y)) f = y
  cut_pair (inr (inl (e, y))) f = absurd (omega (arith, e, f))
  cut_pair (inr (inr (inl e, y))) f = absurd (omega (arith, e.0, f))
  cut_pair (inr (inr (inr e, y))) f = absurd (omega (arith, e.0, f))
