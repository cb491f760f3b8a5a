-- What the check answers, and what it leaves of the work slice, by the way that a call takes. Assumes nothing.
use Rattle.std.proofs.Math.Path.{◌≡◌, refl}
use Rattle.std.proofs.Common.{sym, subst, ◌∙◌, arith}
use Rattle.std.specs.Prelude.{Bool, ◌||◌, List, [], ◌∷◌, ℕ, ◌+◌, ◌*◌, ◌/◌, ◌≤◌, ◌<◌, ltb, Float}
use Rattle.std.proofs.Math.Bool.{true, false, not}
use Rattle.std.proofs.Math.ListN.{length}
use borrow.Author.Tests.{lt-ltb, le-ltb, eq-eqb, ne_eqb}
use Rattle.rules.specs.Tools.{pick, sum, first_failing}
use Rattle.rules.specs.HandedOver.{Contour, contours_of, Answer, gives, refuses, refusal, RefusalRow, refused_by, work_short, contour_rows, frees_work, WorkKept}
use Rattle.statement.specs.PathCheck.{keeps_rules, complete, miscounted_path, not_drawn, check_rows, check_call}
use Rattle.rules.specs.declared.Refusal.{Refusal}
use Rattle.plate_laws.specs.Rows.{Passed, rows_pass, refusal_refuses}

-- ---- refusal 12

module _ (cs : List Contour) (xs : List Float) (n : ℕ) (path : List Float) (ms : List ℕ) where
  abbrev answer : Answer (Unit {0})
  answer = refused_by (not_drawn cs xs n path ms ∷ []) (gives tt)

  module _ (place : ℕ) (first : place ≡ first_failing (keeps_rules cs xs path ms) 0 n) where
    pub rule_broken : place < n → refuses 12 place ≡ answer
    unfolding not_drawn refused_by pick
    rule_broken h = rw (← first, lt-ltb place n h) refl

    pub left_out : complete cs ms ≡ false → refuses 12 place ≡ answer
    unfolding not_drawn refused_by pick
    left_out h = rw (← first, h) (go (ltb place n))
      where
        go : (b : Bool) → ◌≡◌ {A = Answer (Unit {0})} (refuses 12 place) (pick (b || true) (refuses 12 place) (gives (tt {0})))
        go true = refl
        go false = refl

    pub accepted : n ≤ place → complete cs ms ≡ true → gives tt ≡ answer
    unfolding not_drawn refused_by pick
    accepted h e = rw (← first, le-ltb place n h, e) refl

  -- the work slice is free
  drawn_frees : (before now : List ℕ) → WorkKept answer before now
  unfolding not_drawn refused_by pick WorkKept frees_work
  drawn_frees before now = go (ltb (first_failing (keeps_rules cs xs path ms) 0 n) n || not (complete cs ms))
    where
      go : (b : Bool) → WorkKept {A = Unit {0}} (pick b (refuses 12 (first_failing (keeps_rules cs xs path ms) 0 n)) (gives (tt {0}))) before now
      go true = λ t. absurd t
      go false = tt

-- ---- the call

module _ (xs : List Float) (ns : List ℕ) (path : List Float) (ms : List ℕ) (w : ℕ) where
  abbrev call : Answer (Unit {0})
  call = check_call xs ns path ms w

  -- the rows behind those of points and lengths
  abbrev rows : List RefusalRow
  rows = miscounted_path path ms ∷ work_short w (sum ns + length ns) 0 ∷ not_drawn (contours_of ns) xs (length path / 2) path ms ∷ []

  behind : call ≡ refused_by (contour_rows xs ns) (refused_by rows (gives tt))
  unfolding check_call check_rows contour_rows refused_by
  behind = refl

  pub unsound : (r : Refusal) (a : ℕ) → refusal r ≡ refused_by (contour_rows xs ns) (gives a) → refusal r ≡ call
  unsound r a h = refusal_refuses (contour_rows xs ns) r a _ h ∙ sym behind

  -- points and lengths are sound
  module _ (sound : Passed (contour_rows xs ns)) where
    passed : call ≡ refused_by rows (gives tt)
    passed = behind ∙ rows_pass (contour_rows xs ns) sound _

    pub odd_path : (length path ≡ 2 * (length path / 2) → ⊥) → refuses 3 0 ≡ call
    unfolding miscounted_path refused_by pick
    odd_path h = rw (passed, ne_eqb (length path) (2 * (length path / 2)) h) refl

    module _ (even : length path ≡ 2 * (length path / 2)) where
      pub other_marks : (length ms ≡ length path → ⊥) → refuses 3 0 ≡ call
      unfolding miscounted_path refused_by pick
      other_marks h =
          rw (
            passed,
            eq-eqb (length path) (2 * (length path / 2)) even,
            ne_eqb (length ms) (2 * (length path / 2)) (λ e. h (omega (arith, e, even))),
          ) refl

      module _ (marks : length ms ≡ length path) where
        pub short_work : w < sum ns + length ns → refuses 5 0 ≡ call
        unfolding miscounted_path work_short refused_by pick
        short_work h =
            rw (
              passed,
              eq-eqb (length path) (2 * (length path / 2)) even,
              eq-eqb (length ms) (2 * (length path / 2)) (omega (arith, marks, even)),
              lt-ltb w (sum ns + length ns) h,
            ) refl

        module _ (room : sum ns + length ns ≤ w) where
          pub divided : refused_by (not_drawn (contours_of ns) xs (length path / 2) path ms ∷ []) (gives tt) ≡ call
          unfolding miscounted_path work_short refused_by pick
          divided =
              rw (
                passed,
                eq-eqb (length path) (2 * (length path / 2)) even,
                eq-eqb (length ms) (2 * (length path / 2)) (omega (arith, marks, even)),
                le-ltb w (sum ns + length ns) room,
              ) refl

          pub divided_frees : (before now : List ℕ) → WorkKept call before now
          divided_frees before now =
              subst (λ (x : Answer (Unit {0})). WorkKept x before now) divided
              (drawn_frees (contours_of ns) xs (length path / 2) path ms before now)
