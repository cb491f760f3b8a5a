-- No refusal has the number 0; and refusal 12 alone has a place of 64 bits. Assumes nothing.
use Rattle.std.specs.Prelude.{◌≡◌, refl, ℕ, ◌≤◌, Result, Ok, Err}
use Rattle.std.proofs.Common.{sym, ap, ◌∙◌, subst, arith}
use Rattle.rules.specs.HandedOver.{Answer, gives, refuses, number_of, refusal, answer_of}
use Rattle.rules.specs.declared.Refusal.{Refusal}
use Rattle.rules.specs.declared.Refusal.TheVariants.{TooManyContours, TooManyPoints, Miscounted, OffThePlate, WorkShort, Full, Blank, BlockDamaged, WrongEnd, NotDrawn, BadLayer}
use Rattle.plate_laws.specs.Rows.{Other}
use Rattle.contour_recovery.specs.ContourRecovery.{recovery_answer}
use Rattle.rules.specs.declared.Recovered.{Recovered}
use Rattle.rules.specs.declared.RecoveryRefusal.{RecoveryRefusal}
use Rattle.rules.specs.declared.RecoveryRefusal.TheVariants.{PathMiscounted, PathOffThePlate, PathWorkShort, MarksInconsistent, VertexMissing, NoRoom}
use Rattle.results.specs.Results.{check_result, contours_result}
use Rattle.results.specs.declared.ContoursResult.{ContoursResult}
use Rattle.results.specs.declared.CheckResult.{CheckResult}

-- no refusal has the number of a result
pub above_zero : (r : Refusal) → 1 ≤ number_of r
unfolding number_of
above_zero TooManyContours = omega arith
above_zero TooManyPoints = omega arith
above_zero Miscounted = omega arith
above_zero (OffThePlate i) = omega arith
above_zero (WorkShort i) = omega arith
above_zero (Full i) = omega arith
above_zero Blank = omega arith
above_zero (BlockDamaged i) = omega arith
above_zero (WrongEnd i) = omega arith
above_zero (NotDrawn i) = omega arith
above_zero (BadLayer i) = omega arith

-- a refusal whose place has 32 bits
abbrev pub PlaceOf32 : Refusal → Type 0
PlaceOf32 r = (place : ℕ) → r ≡ NotDrawn place → ⊥

pub of_other : {A : Type 0} (r : Refusal) (b : Answer A) → refusal r ≡ b → Other 12 b → PlaceOf32 r
unfolding number_of refusal
of_other r b e o place f = subst (Other 12) (sym e ∙ ap refusal f) o refl

-- ---- a check's answer, as its struct tells it

abbrev pub number : CheckResult → ℕ
number r = r.number

abbrev pub place : CheckResult → ℕ
place r = r.place

pub told_accepted : (a : Result (Unit {0}) Refusal) → number (check_result (answer_of a)) ≡ 0 → answer_of a ≡ gives tt
unfolding check_result answer_of refusal
told_accepted (Ok a) z = refl
told_accepted (Err r) z = absurd (omega (arith, above_zero r))

pub told_place : (a : Result (Unit {0}) Refusal) (n : ℕ) → 1 ≤ n → number (check_result (answer_of a)) ≡ n → answer_of a ≡ refuses n (place (check_result (answer_of a)))
unfolding check_result answer_of refusal
told_place (Ok a) n h z = absurd (omega arith)
told_place (Err r) n h z = rw z

-- ---- an answer of recovered contours, as its struct tells it

abbrev contours_number : ContoursResult → ℕ
contours_number r = r.number

pub told_recovered : (a : Result Recovered RecoveryRefusal) (r : ContoursResult) → r ≡ contours_result (recovery_answer a) → r.number ≡ 0 →
    recovery_answer a ≡ gives (record { points = r.points; contours = r.contours })
unfolding contours_result recovery_answer
told_recovered (Ok x) r e z = rw e refl
told_recovered (Err PathMiscounted) r e z = absurd (omega (arith, sym (ap contours_number e) ∙ z))
told_recovered (Err (PathOffThePlate place)) r e z = absurd (omega (arith, sym (ap contours_number e) ∙ z))
told_recovered (Err PathWorkShort) r e z = absurd (omega (arith, sym (ap contours_number e) ∙ z))
told_recovered (Err NoRoom) r e z = absurd (omega (arith, sym (ap contours_number e) ∙ z))
told_recovered (Err (MarksInconsistent place)) r e z = absurd (omega (arith, sym (ap contours_number e) ∙ z))
told_recovered (Err (VertexMissing place)) r e z = absurd (omega (arith, sym (ap contours_number e) ∙ z))
