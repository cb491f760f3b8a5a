-- What is promised of a retrace call's answer is promised of the struct that tells it. Assumes nothing.
use Rattle.std.specs.Prelude.{◌≡◌, refl, List, ℕ, Float, length, Result, Ok, Err}
use Rattle.std.proofs.Math.Path.{ap}
use Rattle.std.proofs.Common.{sym, ◌∙◌, arith}
use Rattle.rules.specs.Tools.{pick}
use Rattle.rules.specs.HandedOver.{Plate, Answer, gives, refuses, refusal, answer_of}
use Rattle.statement.specs.HowNear.{written_points}
use Rattle.contour_recovery.specs.ContourRecovery.{RoundTrip}
use Rattle.round_trip.specs.Theorem.{round_trip}
use Rattle.rules.specs.declared.Totals.{Totals}
use Rattle.rules.specs.declared.Refusal.{Refusal}
use Rattle.retrace.specs.RetracePromise.{RetracePromise}
use Rattle.results.specs.Results.{retrace_result, totals_of, written_of}
use Rattle.results.specs.Refusals.{above_zero}
use Rattle.twillharbor.specs.RetraceStruct.{Retraced}
use Rattle.results.specs.declared.RetraceResult.{RetraceResult}

-- with the number 0 it carries the answer's totals
told_totals : (r : Result Totals Refusal) → (retrace_result (answer_of r)).number ≡ 0 → answer_of r ≡ gives (totals_of (retrace_result (answer_of r)))
unfolding retrace_result answer_of totals_of refusal
told_totals (Ok c) z = refl
told_totals (Err r) z = absurd (omega (arith, above_zero r))

told_written : (a : Answer Totals) → written_of (retrace_result a) ≡ written_points a
unfolding retrace_result written_of written_points pick
told_written (gives c) = refl
told_written (refuses n k) = refl

pub told : {p : Plate} {path : List Float} {ms work : List ℕ} {ds path' : List Float} {ms' work' : List ℕ} {ds' : List Float} (answer : Result Totals Refusal)
    (r : RetraceResult) → r ≡ retrace_result (answer_of answer) → RetracePromise p path ms work ds (answer_of answer) path' ms' work' ds' →
    Retraced p path ms work ds path' ms' work' ds' r
unfolding totals_of RoundTrip
told {p = p} {path = path} {ms = ms} {work = work} {ds = ds} answer r e promised =
    rw e
    (record {
      answer = ap retrace_result promised.answer;
      path_is = promised.path_is;
      marks_are = promised.marks_are;
      work_kept = promised.work_kept;
      distances_kept = promised.distances_kept;
      divides = λ z. promised.divides _ (told_totals answer z);
      never_fall = λ z. promised.never_fall _ (told_totals answer z);
      quoted = λ z. promised.quoted _ (told_totals answer z);
      gives_back = λ z.
          rw (promised.path_is, promised.marks_are) (round_trip p path ms (length work) (length ds) _ (sym promised.answer ∙ told_totals answer z));
      near = rw (told_written (answer_of answer)) promised.near;
    })
