-- The rule that a path point keeps, by the kind of its mark. Assumes nothing.
use mathlib.Core.Path.{◌≡◌, refl, sym, ◌∙◌}
use mathlib.Core.Bool.{Bool, true, false, ◌||◌, or-false}
use mathlib.Core.List.{List}
use Prim.Native.Nat.{ℕ, zero, suc, ◌-◌, ◌≤◌, ◌<◌}
use native.Mathlib.Omega.{arith}
use lib.Ieee.{Float}
use borrow.Author.Tests.{eq-eqb, ne_eqb}
use Rattle.rules.specs.Tools.{pick}
use Rattle.rules.specs.HandedOver.{Contour, at}
use Rattle.rules.specs.Marks.{start_kind, cut_kind, back_step_kind, jump_kind, touch_kind, coincide, landing_kind, kind_at, reference_at}
use Rattle.statement.specs.PathCheck.{lands_fresh, cuts_fresh, reverses, keeps_after, keeps_rules}
use Rattle.rules.specs.declared.Point.{Point}
use Rattle.plate_laws.specs.Slices.{suc_minus_one}

-- a landing is neither a cut nor a back-step
landing_above : (a b : Point) → (2 < landing_kind a b) × (landing_kind a b ≤ 4)
unfolding landing_kind pick
landing_above a b = go (coincide a b)
  where
    go : (t : Bool) → (2 < pick t touch_kind jump_kind) × (pick t touch_kind jump_kind ≤ 4)
    go true = (omega arith, omega arith)
    go false = (omega arith, omega arith)

module _ (cs : List Contour) (xs path : List Float) (ms : List ℕ) where
  module _ (k kind r : ℕ) where
    abbrev landing : ℕ
    landing = landing_kind (at path k) (at path (suc k))

    by_cut : kind ≡ cut_kind → keeps_after cs xs path ms k kind r ≡ cuts_fresh cs xs path ms k r
    unfolding keeps_after
    by_cut e =
        rw (
          eq-eqb kind cut_kind e,
          ne_eqb kind back_step_kind (λ x. omega (arith, e, x)),
          ne_eqb kind landing (λ x. omega (arith, e, x, landing_above (at path k) (at path (suc k)))),
        )
        (or-false (cuts_fresh cs xs path ms k r || false) ∙ or-false (cuts_fresh cs xs path ms k r))

    by_back : kind ≡ back_step_kind → keeps_after cs xs path ms k kind r ≡ reverses path k r
    unfolding keeps_after
    by_back e =
        rw (
          ne_eqb kind cut_kind (λ x. omega (arith, e, x)),
          eq-eqb kind back_step_kind e,
          ne_eqb kind landing (λ x. omega (arith, e, x, landing_above (at path k) (at path (suc k)))),
        )
        (or-false (reverses path k r))

    module _ (c : kind ≡ cut_kind → ⊥) (b : kind ≡ back_step_kind → ⊥) where
      by_landing : kind ≡ landing → keeps_after cs xs path ms k kind r ≡ lands_fresh cs xs path ms (suc k) r
      unfolding keeps_after
      by_landing e = rw (ne_eqb kind cut_kind c, ne_eqb kind back_step_kind b, eq-eqb kind landing e) refl

      by_none : (kind ≡ landing → ⊥) → keeps_after cs xs path ms k kind r ≡ false
      unfolding keeps_after
      by_none e = rw (ne_eqb kind cut_kind c, ne_eqb kind back_step_kind b, ne_eqb kind landing e) refl

  -- by the kind, and by the reference r
  pub keeps_start : (i r : ℕ) → i ≡ 0 → kind_at ms i ≡ start_kind → r ≡ reference_at ms i → lands_fresh cs xs path ms i r ≡ keeps_rules cs xs path ms i
  unfolding keeps_rules
  keeps_start zero r z k e = rw (e, eq-eqb (kind_at ms 0) start_kind k) refl
  keeps_start (suc i) r z k e = absurd (omega arith)

  pub no_start : (i : ℕ) → i ≡ 0 → (kind_at ms i ≡ start_kind → ⊥) → false ≡ keeps_rules cs xs path ms i
  unfolding keeps_rules
  no_start zero z k = rw (ne_eqb (kind_at ms 0) start_kind k) refl
  no_start (suc i) z k = absurd (omega arith)

  pub keeps_cut : (i r : ℕ) → (i ≡ 0 → ⊥) → kind_at ms i ≡ cut_kind → r ≡ reference_at ms i → cuts_fresh cs xs path ms (i - 1) r ≡ keeps_rules cs xs path ms i
  unfolding keeps_rules
  keeps_cut zero r n k e = absurd (n refl)
  keeps_cut (suc i) r n k e = rw (suc_minus_one i, e) (sym (by_cut i (kind_at ms (suc i)) (reference_at ms (suc i)) k))

  pub keeps_back : (i r : ℕ) → (i ≡ 0 → ⊥) → kind_at ms i ≡ back_step_kind → r ≡ reference_at ms i → reverses path (i - 1) r ≡ keeps_rules cs xs path ms i
  unfolding keeps_rules
  keeps_back zero r n k e = absurd (n refl)
  keeps_back (suc i) r n k e = rw (suc_minus_one i, e) (sym (by_back i (kind_at ms (suc i)) (reference_at ms (suc i)) k))

  pub keeps_landing : (i r : ℕ) → (i ≡ 0 → ⊥) → (kind_at ms i ≡ cut_kind → ⊥) → (kind_at ms i ≡ back_step_kind → ⊥) →
      kind_at ms i ≡ landing_kind (at path (i - 1)) (at path i) → r ≡ reference_at ms i → lands_fresh cs xs path ms i r ≡ keeps_rules cs xs path ms i
  unfolding keeps_rules
  keeps_landing zero r n c b k e = absurd (n refl)
  keeps_landing (suc i) r n c b k e = rw e (sym (by_landing i (kind_at ms (suc i)) (reference_at ms (suc i)) c b (rw (suc_minus_one i) at k)))

  pub no_landing : (i : ℕ) → (i ≡ 0 → ⊥) → (kind_at ms i ≡ cut_kind → ⊥) → (kind_at ms i ≡ back_step_kind → ⊥) →
      (kind_at ms i ≡ landing_kind (at path (i - 1)) (at path i) → ⊥) → false ≡ keeps_rules cs xs path ms i
  unfolding keeps_rules
  no_landing zero n c b l = absurd (n refl)
  no_landing (suc i) n c b l = sym (by_none i (kind_at ms (suc i)) (reference_at ms (suc i)) c b (λ x. l (rw (suc_minus_one i) x)))

  -- a start that is not the first
  pub late_start : (i : ℕ) → (i ≡ 0 → ⊥) → kind_at ms i ≡ start_kind → false ≡ keeps_rules cs xs path ms i
  late_start i n k =
      no_landing i n (λ x. omega (arith, k, x)) (λ x. omega (arith, k, x)) (λ x. omega (arith, k, x, landing_above (at path (i - 1)) (at path i)))

  -- there is no such kind
  pub no_kind : (i : ℕ) → (kind_at ms i ≤ 4 → ⊥) → false ≡ keeps_rules cs xs path ms i
  unfolding keeps_rules
  no_kind zero n = no_start 0 refl (λ x. n (omega (arith, x)))
  no_kind (suc i) n =
      sym (by_none i (kind_at ms (suc i)) (reference_at ms (suc i)) (λ x. n (omega (arith, x))) (λ x. n (omega (arith, x)))
      (λ x. n (omega (arith, x, landing_above (at path i) (at path (suc i))))))
