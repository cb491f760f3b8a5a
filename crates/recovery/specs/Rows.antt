-- What the call answers, by the rows that refuse it or pass. Assumes nothing.
use Rattle.std.specs.Prelude.{◌≡◌, refl, false, Bool, List, [], ℕ, ◌*◌, ◌/◌, ◌<◌, ◌≤◌, Float, length}
use Rattle.std.proofs.Common.{arith}
use Rattle.std.proofs.lemmas.Bool.{lt-ltb, le-ltb, eq-eqb, ne_eqb, eqb-true, ltb-false, not-false, and_parts}
use Rattle.rules.specs.Tools.{pick, first_failing}
use Rattle.rules.specs.HandedOver.{Answer, refuses, RefusalRow, refused_by, plate_limit, first_off, off_the_plate, out_of_range, work_short}
use Rattle.rules.specs.declared.Recovered.{Recovered}
use Rattle.rules.specs.Marks.{vertices_after}
use Rattle.statement.specs.PathCheck.{miscounted_path}
use Rattle.plate_laws.specs.Rows.{Passed}
use Rattle.contour_recovery.specs.ContourRecovery.{consistent, landed, vertex_count, marks_inconsistent, vertex_missing}
use Rattle.recovery_laws.specs.FirstFailing.{PassBefore, none_found}
use Rattle.recovery.specs.Parts.{path_rows, mark_rows, vertex_rows}

-- ---- refusals 3, 4 and 5

module _ (path : List Float) (ms : List ℕ) (w : ℕ) where
  abbrev n : ℕ
  n = length path / 2

  abbrev RefusedAs : ℕ → ℕ → Type 0
  RefusedAs number place = (later : Answer Recovered) → refuses number place ≡ refused_by (path_rows path ms w) later

  pub odd_path : (length path ≡ 2 * n → ⊥) → RefusedAs 3 0
  unfolding miscounted_path refused_by pick
  odd_path h = λ later. rw (ne_eqb (length path) (2 * n) h) refl

  module _ (even : length path ≡ 2 * n) where
    pub other_marks : (length ms ≡ length path → ⊥) → RefusedAs 3 0
    unfolding miscounted_path refused_by pick
    other_marks h = λ later. rw (eq-eqb (length path) (2 * n) even, ne_eqb (length ms) (2 * n) (λ e. h (omega (arith, e, even)))) refl

    module _ (marks : length ms ≡ length path) where
      counted : (miscounted_path path ms).test ≡ false
      unfolding miscounted_path
      counted = rw (eq-eqb (length path) (2 * n) even, eq-eqb (length ms) (2 * n) (omega (arith, marks, even))) refl

      pub off_path : (place : ℕ) → place < length path → place ≡ first_off plate_limit 0 path → RefusedAs 4 place
      unfolding off_the_plate out_of_range refused_by pick
      off_path place l e = λ later. rw (counted, ← e, lt-ltb place (length path) l) refl

      module _ (on : first_off plate_limit 0 path ≡ length path) where
        on_plate : (off_the_plate path).test ≡ false
        unfolding off_the_plate out_of_range
        on_plate = rw (on, le-ltb (length path) (length path) (omega arith)) refl

        pub short_work : w < 4 * n → RefusedAs 5 0
        unfolding work_short refused_by pick
        short_work l = λ later. rw (counted, on_plate, lt-ltb w (4 * n) l) refl

        pub path_passes : 4 * n ≤ w → Passed (path_rows path ms w)
        unfolding work_short
        path_passes l = (counted, (on_plate, (le-ltb w (4 * n) l, tt)))

-- what the path's rows let pass
pub record SoundPath (path : List Float) (ms : List ℕ) (w : ℕ) : Type 0 where
  pub even : length path ≡ 2 * (length path / 2)
  pub marks : length ms ≡ length path
  pub room : length path / 2 ≤ w / 4

pub rows_sound : (path : List Float) (ms : List ℕ) (w : ℕ) → Passed (path_rows path ms w) → SoundPath path ms w
unfolding miscounted_path work_short
rows_sound path ms w p =
    let n = length path / 2 in
    let both = and_parts _ _ (not-false _ p.0) in
    let even = eqb-true (length path) (2 * n) both.0 in
    let marks = eqb-true (length ms) (2 * n) both.1 in
    record { even = even; marks = omega (arith, even, marks); room = omega (arith, ltb-false w (4 * n) p.1.1.0) }

-- ---- refusals 10 and 11

abbrev RefusedBy : List RefusalRow → ℕ → ℕ → Type 0
RefusedBy rows number place = (later : Answer Recovered) → refuses number place ≡ refused_by rows later

module _ (path : List Float) (ms : List ℕ) where
  abbrev count : ℕ
  count = length path / 2

  abbrev test : ℕ → Bool
  test = consistent path ms (vertices_after [] ms)

  pub inconsistent : (place : ℕ) → place < count → place ≡ first_failing test 0 count → RefusedBy (mark_rows path ms) 10 place
  unfolding marks_inconsistent refused_by pick
  inconsistent place l e = λ later. rw (← e, lt-ltb place count l) refl

  pub marks_pass : PassBefore test count → Passed (mark_rows path ms)
  unfolding marks_inconsistent
  marks_pass p = (rw (none_found test count p, le-ltb count count (omega arith)) refl, tt)

module _ (ms vs : List ℕ) where
  abbrev most : ℕ
  most = vertex_count ms vs (length vs)

  pub missing : (place : ℕ) → place < most → place ≡ first_failing (landed ms vs (length vs)) 0 most → RefusedBy (vertex_rows ms vs) 11 place
  unfolding vertex_missing refused_by pick
  missing place l e = λ later. rw (← e, lt-ltb place most l) refl

  pub vertices_pass : PassBefore (landed ms vs (length vs)) most → Passed (vertex_rows ms vs)
  unfolding vertex_missing
  vertices_pass p = (rw (none_found (landed ms vs (length vs)) most p, le-ltb most most (omega arith)) refl, tt)
