-- Refusal 12 decides the division by points, over contours that rise: it lets pass exactly what divides, and its place is the first fault. Assumes nothing.
use Rattle.std.specs.Prelude.{◌≡◌, ◌⊎◌, not, ◌&&◌, ◌||◌, List, [], ◌∷◌, ltb, Float, length}
use Rattle.std.proofs.Math.Path.{refl, ap, subst}
use Rattle.std.proofs.Common.{◌∙◌}
use Rattle.std.proofs.Math.Logic.{inl, inr}
use Rattle.std.proofs.Math.Bool.{Bool}
use Prim.Native.Nat.{ℕ, zero, suc, ◌+◌, ◌*◌, ◌≤◌, ◌<◌}
use Rattle.std.proofs.Math.Decide.{dec_le}
use native.Mathlib.Omega.{arith}
use Rattle.std.proofs.Math.Dec.{T}
use Rattle.rules.specs.Tools.{first_failing, up_from, every}
use Rattle.rules.specs.HandedOver.{Contour, Answer, refuses, RefusalRow, refused_by}
use Rattle.rules.specs.Marks.{cuts_of, entries_of}
use Rattle.statement.specs.PathCheck.{RulesAt, DividesByPoints, keeps_rules, complete, not_drawn, LeftOut, FirstFault}
use Rattle.plate_laws.specs.Rows.{Other, rows_other, row_tells, row_passes, row_refuses}
use Rattle.plate_laws.specs.Contours.{Rising}
use Rattle.division_laws.specs.Says.{Says, says_or, says_not_and, says_ltb, says_zero, says_not_every, says_not_run}
use Rattle.division_laws.specs.Rules.{First, first_failing_lem, first_only, none_failing}
use Rattle.division.specs.RulesKept.{says_rules, divides_rules, RulesKept, cuts_most, kept_entries, kept_divides}

-- ---- what is left out

-- the test that something is left out
says_left_out : (cs : List Contour) (ms : List ℕ) → Says (not (complete cs ms)) (LeftOut cs ms)
unfolding complete LeftOut
says_left_out cs ms =
    says_not_every (λ c. ltb 0 (entries_of c ms) && every (λ v. ltb 0 (cuts_of v ms)) (up_from c.first c.last))
    (λ c. (entries_of c ms ≡ 0) ⊎ ((i : ℕ) × (i < c.last) × (cuts_of (c.first + i) ms ≡ 0)))
    (λ c. says_not_and (ltb 0 (entries_of c ms)) (every (λ v. ltb 0 (cuts_of v ms)) (up_from c.first c.last)) _ _ (says_zero (entries_of c ms))
    (says_not_run (λ v. ltb 0 (cuts_of v ms)) (λ v. cuts_of v ms ≡ 0) (λ v. says_zero (cuts_of v ms)) c.first c.last))
    cs

-- ---- refusal 12

module _ (cs : List Contour) (rising : Rising cs) (xs : List Float) (n : ℕ) (path : List Float) (ms : List ℕ) where
  -- rules that are all kept make the division, where nothing is left out
  nothing_left : RulesKept cs xs n path ms → (LeftOut cs ms → ⊥) → DividesByPoints cs xs n path ms
  unfolding LeftOut
  nothing_left kept nothing =
      kept_divides kept rising
      (λ c m i l. some_one (cuts_of (c.first + i) ms) (cuts_most kept (c.first + i)) (λ e. nothing (c, m, inr (i, l, e))))
      (λ c m. some_one (entries_of c ms) (kept_entries kept rising c m) (λ e. nothing (c, m, inl e)))
    where
      some_one : (k : ℕ) → k ≤ 1 → (k ≡ 0 → ⊥) → k ≡ 1
      some_one zero h z = absurd (z refl)
      some_one (suc k) h z = omega arith

  -- and what divides leaves nothing out
  divides_nothing : DividesByPoints cs xs n path ms → LeftOut cs ms → ⊥
  unfolding LeftOut
  divides_nothing d (c, m, inl e) = omega (arith, d.entered c m, e)
  divides_nothing d (c, m, inr (i, l, e)) = omega (arith, d.division.once c m i l, e)

  abbrev keeps : ℕ → Bool
  keeps = keeps_rules cs xs path ms

  abbrev place : ℕ
  place = first_failing (keeps_rules cs xs path ms) 0 n

  -- the test that refuses
  abbrev refusing : Bool
  refusing = ltb (first_failing (keeps_rules cs xs path ms) 0 n) n || not (complete cs ms)

  says_refusing : Says refusing ((place < n) ⊎ LeftOut cs ms)
  says_refusing = says_or _ _ _ _ (says_ltb place n) (says_left_out cs ms)

  abbrev rows : List RefusalRow
  rows = not_drawn cs xs n path ms ∷ []

  -- what it lets pass divides by points, and it lets pass all that does
  pub drawn_divides : {A : Type 0} (later b : Answer A) → Other 12 b → (length path ≡ 2 * n) × (length ms ≡ 2 * n) → refused_by rows later ≡ b →
      DividesByPoints cs xs n path ms × (later ≡ b)
  unfolding not_drawn
  drawn_divides later b o whole e =
      let (t, e1) = rows_other rows later b (o, tt) e in
      let never : (place < n) ⊎ LeftOut cs ms → ⊥ = λ x. subst (λ (y : Bool). T y) t.0 (says_refusing.told x) in
      let all : place < n → ⊥ = λ x. never (inl x) in
      let before = (first_failing_lem keeps 0 n).before in
      let kept : (i : ℕ) → i < n → RulesAt cs xs path ms i = λ i l. (says_rules cs rising xs path ms i).tells (before i (omega arith) (omega arith)) in
      (nothing_left (record { whole = whole; rules = kept }) (λ x. never (inr x)), e1)

  pub divides_drawn : {A : Type 0} → DividesByPoints cs xs n path ms → (later : Answer A) → refused_by rows later ≡ later
  unfolding not_drawn
  divides_drawn d later =
      let all = none_failing keeps 0 n (λ i l h. (says_rules cs rising xs path ms i).told (divides_rules d i (omega arith))) in
      row_passes (not_drawn cs xs n path ms) later (λ t. never all (says_refusing.tells t))
    where
      never : place ≡ 0 + n → (place < n) ⊎ LeftOut cs ms → ⊥
      never e (inl x) = omega arith
      never e (inr x) = divides_nothing d x

  -- its place is the first fault, and it refuses wherever there is one
  pub drawn_fault : {A : Type 0} (later : Answer A) → Other 12 later → (i : ℕ) → refused_by rows later ≡ refuses 12 i → FirstFault cs xs n path ms i
  unfolding not_drawn FirstFault
  drawn_fault later o i e =
      let (t, s) = row_tells (not_drawn cs xs n path ms) later i o e in
      subst (FirstFault cs xs n path ms) s
      (λ j l. (says_rules cs rising xs path ms j).tells (f.before j (omega arith) l), go (dec_le n place) (says_refusing.tells t))
    where
      f : First keeps 0 n place
      f = first_failing_lem keeps 0 n

      go : Dec (n ≤ place) → (place < n) ⊎ LeftOut cs ms → ((place < n) × (RulesAt cs xs path ms place → ⊥)) ⊎ ((place ≡ n) × LeftOut cs ms)
      go (yes x) (inl y) = absurd (omega arith)
      go (yes x) (inr y) = inr (omega (arith, f.within), y)
      go (no x) y = inl (omega (arith, x), λ r. f.fails (omega (arith, x)) ((says_rules cs rising xs path ms place).told r))

  pub fault_drawn : {A : Type 0} (i : ℕ) → FirstFault cs xs n path ms i → (later : Answer A) → refused_by rows later ≡ refuses 12 i
  unfolding not_drawn FirstFault
  fault_drawn i (rules, fault) later =
      let e = first_only keeps 0 n place i (first_failing_lem keeps 0 n) (go fault) in
      row_refuses (not_drawn cs xs n path ms) later (says_refusing.told (hits e fault)) ∙ ap (refuses 12) e
    where
      passes : (j : ℕ) → 0 ≤ j → j < i → T (keeps_rules cs xs path ms j)
      passes j l h = (says_rules cs rising xs path ms j).told (rules j h)

      go : ((i < n) × (RulesAt cs xs path ms i → ⊥)) ⊎ ((i ≡ n) × LeftOut cs ms) → First keeps 0 n i
      go (inl (l, x)) =
          record { from = omega arith; within = omega arith; before = passes; fails = λ h t. x ((says_rules cs rising xs path ms i).tells t) }
      go (inr (e, x)) = record { from = omega arith; within = omega arith; before = passes; fails = λ h. absurd (omega arith) }

      hits : place ≡ i → ((i < n) × (RulesAt cs xs path ms i → ⊥)) ⊎ ((i ≡ n) × LeftOut cs ms) → (place < n) ⊎ LeftOut cs ms
      hits e (inl (l, x)) = inl (omega arith)
      hits e (inr (l, x)) = inr x
