-- What each test of the check of a path says (statement/specs/PathCheck.antt). Assumes nothing.
use Rattle.std.specs.Prelude.{◌≡◌, refl, ◌⊎◌, Bool, true, false, not, List, ℕ, zero, suc, ◌+◌, ◌≤◌, ◌<◌, T, leb, ltb, eqb, Float}
use Rattle.std.proofs.Common.{sym, subst, inl, inr, arith}
use Rattle.std.proofs.Math.Decide.{dec_le}
use Rattle.rules.specs.Tools.{pick, first_failing, up_from}
use Rattle.rules.specs.HandedOver.{Contour, at}
use Rattle.rules.specs.Bits.{same_point}
use Rattle.rules.specs.Marks.{start_kind, cut_kind, back_step_kind, jump_kind, touch_kind, coincide, landing_kind, kind_at, reference_at, cuts_of, entries_of, marks_before}
use Rattle.statement.specs.Division.{JumpOrTouch}
use Rattle.rules.specs.Contours.{Of, is_of}
use Rattle.statement.specs.PathCheck.{lands_fresh, goes, cuts_fresh, reverses, keeps_after, keeps_rules, complete}
use Rattle.rules.specs.declared.Point.{Point}
use Rattle.plate_laws.specs.Lists.{All}
use Rattle.division_laws.specs.Maps.{kind_tells}
use Rattle.division_laws.specs.Says.{Says, says_by, says_and, says_or, says_leb, says_ltb, says_eqb, says_every, SomeOf, says_any}
use Rattle.division_laws.specs.SameBits.{says_point}

-- ---- the first that fails

-- i is the first of the n numbers from k on that fails the test, or the number after them
pub record First (test : ℕ → Bool) (k n i : ℕ) : Type 0 where
  pub from : k ≤ i
  pub within : i ≤ k + n
  pub before : (j : ℕ) → k ≤ j → j < i → T (test j)
  pub fails : i < k + n → T (test i) → ⊥

pub first_failing_lem : (test : ℕ → Bool) (k n : ℕ) → First test k n (first_failing test k n)
unfolding first_failing pick
first_failing_lem test k zero =
    record { from = omega arith; within = omega arith; before = λ j l h. absurd (omega arith); fails = λ l. absurd (omega arith) }
first_failing_lem test k (suc n) = go (test k) refl (first_failing_lem test (suc k) n)
  where
    go : (b : Bool) → test k ≡ b → First test (suc k) n (first_failing test (suc k) n) → First test k (suc n) (pick b (first_failing test (suc k) n) k)
    go false e f =
        record { from = omega arith; within = omega arith; before = λ j l h. absurd (omega arith); fails = λ l t. subst (λ (b : Bool). T b) e t }
    go true e f =
        let h = f.from in
        let w = f.within in
        record { from = omega arith; within = omega arith; before = passes; fails = λ l. f.fails (omega arith) }
      where
        passes : (j : ℕ) → k ≤ j → j < first_failing test (suc k) n → T (test j)
        passes j l h = here (dec_le (suc k) j)
          where
            here : Dec (suc k ≤ j) → T (test j)
            here (yes y) = f.before j y h
            here (no y) =
                let same : j ≡ k = omega (arith, y) in
                rw (same, e) tt

-- there is one such number
pub first_only : (test : ℕ → Bool) (k n i j : ℕ) → First test k n i → First test k n j → i ≡ j
first_only test k n i j f g = go (dec_le j i) (dec_le i j)
  where
    go : Dec (j ≤ i) → Dec (i ≤ j) → i ≡ j
    go (yes x) (yes y) = omega arith
    go (yes x) (no y) = absurd (g.fails (omega (arith, y, f.within)) (f.before j g.from (omega (arith, y))))
    go (no x) (yes y) = absurd (f.fails (omega (arith, x, g.within)) (g.before i f.from (omega (arith, x))))
    go (no x) (no y) = absurd (omega (arith, x, y))

-- where none fails
pub none_failing : (test : ℕ → Bool) (k n : ℕ) → ((i : ℕ) → k ≤ i → i < k + n → T (test i)) → first_failing test k n ≡ k + n
none_failing test k n h =
    first_only test k n (first_failing test k n) (k + n) (first_failing_lem test k n)
    (record { from = omega arith; within = omega arith; before = h; fails = λ l. absurd (omega arith) })

-- ---- the kind of a landing

pub kind_is : (a b : Point) (kind : ℕ) → JumpOrTouch a b kind → kind ≡ landing_kind a b
unfolding landing_kind pick
kind_is a b kind j = go (coincide a b) j
  where
    go : (t : Bool) → ((kind ≡ jump_kind) × T (not t)) ⊎ ((kind ≡ touch_kind) × T t) → kind ≡ pick t touch_kind jump_kind
    go true (inl x) = absurd x.1
    go true (inr x) = x.0
    go false (inl x) = x.0
    go false (inr x) = absurd x.1

says_kind : (a b : Point) (kind : ℕ) → Says (eqb kind (landing_kind a b)) (JumpOrTouch a b kind)
says_kind a b kind =
    says_by (eqb kind (landing_kind a b)) (kind ≡ landing_kind a b) (JumpOrTouch a b kind)
    (λ e. subst (JumpOrTouch a b) (sym e) (kind_tells a b)) (kind_is a b kind) (says_eqb kind (landing_kind a b))

-- ---- the tests

pub says_of : (c : Contour) (v : ℕ) → Says (is_of c v) (Of c v)
unfolding is_of
says_of c v = says_and (leb c.first v) (leb v (c.first + c.last)) _ _ (says_leb c.first v) (says_leb v (c.first + c.last))

module _ (cs : List Contour) (xs path : List Float) (ms : List ℕ) where
  -- vertex r is one of a contour that was not entered before path point i
  abbrev pub FreshAt : ℕ → ℕ → Type 0
  FreshAt i r = SomeOf (λ c. Of c r × (entries_of c (marks_before i ms) ≡ 0)) cs

  abbrev pub LandsFresh : ℕ → ℕ → Type 0
  LandsFresh i r = (at path i ≡ at xs r) × FreshAt i r

  pub says_lands : (i r : ℕ) → Says (lands_fresh cs xs path ms i r) (LandsFresh i r)
  unfolding lands_fresh
  says_lands i r =
      says_and (same_point (at path i) (at xs r)) _ (at path i ≡ at xs r) (FreshAt i r) (says_point (at path i) (at xs r))
      (says_any _ (λ c. Of c r × (entries_of c (marks_before i ms) ≡ 0))
      (λ c. says_and (is_of c r) _ (Of c r) _ (says_of c r) (says_eqb (entries_of c (marks_before i ms)) 0)) cs)

  abbrev pub Goes : ℕ → Point → Point → Type 0
  Goes k a b = (at path k ≡ a) × (at path (suc k) ≡ b)

  pub says_goes : (k : ℕ) (a b : Point) → Says (goes path k a b) (Goes k a b)
  unfolding goes
  says_goes k a b = says_and (same_point (at path k) a) (same_point (at path (suc k)) b) _ _ (says_point (at path k) a) (says_point (at path (suc k)) b)

  -- segment r is one of a contour that was entered before path point k + 1
  abbrev pub OpenAt : ℕ → ℕ → Type 0
  OpenAt k r = SomeOf (λ c. (Of c r × (r < c.first + c.last)) × (0 < entries_of c (marks_before (suc k) ms))) cs

  abbrev pub CutsFresh : ℕ → ℕ → Type 0
  CutsFresh k r =
      ((Goes k (at xs r) (at xs (suc r)) ⊎ Goes k (at xs (suc r)) (at xs r)) × OpenAt k r)
      × (cuts_of r (marks_before (suc k) ms) ≡ 0)

  pub says_cuts : (k r : ℕ) → Says (cuts_fresh cs xs path ms k r) (CutsFresh k r)
  unfolding cuts_fresh
  says_cuts k r =
      let lower = at xs r in
      let upper = at xs (suc r) in
      says_and _ _ _ _
      (says_and _ _ _ _ (says_or _ _ _ _ (says_goes k lower upper) (says_goes k upper lower))
      (says_any _ (λ c. (Of c r × (r < c.first + c.last)) × (0 < entries_of c (marks_before (suc k) ms)))
      (λ c. says_and _ _ _ _ (says_and _ _ _ _ (says_of c r) (says_ltb r (c.first + c.last))) (says_ltb 0 (entries_of c (marks_before (suc k) ms))))
      cs))
      (says_eqb (cuts_of r (marks_before (suc k) ms)) 0)

  abbrev pub Reverses : ℕ → ℕ → Type 0
  Reverses k r = (r < k) × Goes k (at path (suc r)) (at path r)

  pub says_back : (k r : ℕ) → Says (reverses path k r) (Reverses k r)
  unfolding reverses
  says_back k r = says_and (ltb r k) _ _ _ (says_ltb r k) (says_goes k (at path (suc r)) (at path r))

  abbrev pub KeepsAfter : ℕ → ℕ → ℕ → Type 0
  KeepsAfter k kind r =
      (((kind ≡ cut_kind) × CutsFresh k r) ⊎ ((kind ≡ back_step_kind) × Reverses k r))
      ⊎ (JumpOrTouch (at path k) (at path (suc k)) kind × LandsFresh (suc k) r)

  pub says_keeps : (k kind r : ℕ) → Says (keeps_after cs xs path ms k kind r) (KeepsAfter k kind r)
  unfolding keeps_after
  says_keeps k kind r =
      says_or _ _ _ _
      (says_or _ _ _ _ (says_and _ _ _ _ (says_eqb kind cut_kind) (says_cuts k r)) (says_and _ _ _ _ (says_eqb kind back_step_kind) (says_back k r)))
      (says_and _ _ _ _ (says_kind (at path k) (at path (suc k)) kind) (says_lands (suc k) r))

  pub says_start : Says (keeps_rules cs xs path ms 0) ((kind_at ms 0 ≡ start_kind) × LandsFresh 0 (reference_at ms 0))
  unfolding keeps_rules
  says_start = says_and _ _ _ _ (says_eqb (kind_at ms 0) start_kind) (says_lands 0 (reference_at ms 0))

  pub says_complete :
      Says (complete cs ms) (All (λ c. (0 < entries_of c ms) × All (λ v. 0 < cuts_of v ms) (up_from c.first c.last)) cs)
  unfolding complete
  says_complete =
      says_every _ _ (λ c. says_and _ _ _ _ (says_ltb 0 (entries_of c ms)) (says_every _ _ (λ v. says_ltb 0 (cuts_of v ms)) (up_from c.first c.last)))
      cs
