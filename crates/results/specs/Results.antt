-- The structs of the C interface, by the answers of the calls. Definitions only.
use Rattle.std.specs.Prelude.{ℕ, Bool, false, eqb, pos, Float}
use Rattle.std.specs.Float.{fin}
use Rattle.rules.specs.Tools.{pick}
use Rattle.rules.specs.HandedOver.{Answer, gives, refuses}
use Rattle.rules.specs.declared.Totals.{Totals}
use Rattle.rules.specs.declared.Recovered.{Recovered}
use Rattle.results.specs.declared.DistanceResult.{DistanceResult}
use Rattle.results.specs.declared.StartResult.{StartResult}
use Rattle.results.specs.declared.OrderResult.{OrderResult}
use Rattle.results.specs.declared.StraightResult.{StraightResult}
use Rattle.results.specs.declared.RetraceResult.{RetraceResult}
use Rattle.results.specs.declared.CheckResult.{CheckResult}
use Rattle.results.specs.declared.WriteFileResult.{WriteFileResult}
use Rattle.results.specs.declared.ReadFileResult.{ReadFileResult}
use Rattle.results.specs.declared.ContoursResult.{ContoursResult}

-- the number and place of an answer, and what it carries: of a refusal, `zeros`
unfoldable pub told : {A : Type 0} → Answer A → A → ℕ × ℕ × A
told (gives a) zeros = (0, 0, a)
told (refuses n k) zeros = (n, k, zeros)

unfoldable pub distance_result : Answer (Float × Float) → DistanceResult
distance_result (gives d) = record { number = 0; place = 0; squared = d.0; plain = d.1 }
distance_result (refuses n k) = record { number = n; place = k; squared = fin false 0 (pos 0); plain = fin false 0 (pos 0) }

unfoldable pub start_result : Answer (ℕ × Bool) → StartResult
start_result (gives s) = record { number = 0; place = 0; contour = s.0; reversed = pick s.1 1 0 }
start_result (refuses n k) = record { number = n; place = k; contour = 0; reversed = 0 }

unfoldable pub order_result : Answer ℕ → OrderResult
order_result (gives m) = record { number = 0; place = 0; entries = m }
order_result (refuses n k) = record { number = n; place = k; entries = 0 }

unfoldable pub straight_result : Answer ℕ → StraightResult
straight_result (gives m) = record { number = 0; place = 0; points = m }
straight_result (refuses n k) = record { number = n; place = k; points = 0 }

unfoldable pub retrace_result : Answer Totals → RetraceResult
retrace_result (gives c) =
    record {
      number = 0;
      place = 0;
      points = c.points;
      cuts = c.cuts;
      back_steps = c.back_steps;
      jumps = c.jumps;
      touches = c.touches;
      cut_length = c.cut_length;
      back_step_length = c.back_step_length;
      jump_length = c.jump_length;
    }
retrace_result (refuses n k) =
    record {
      number = n;
      place = k;
      points = 0;
      cuts = 0;
      back_steps = 0;
      jumps = 0;
      touches = 0;
      cut_length = 0;
      back_step_length = 0;
      jump_length = 0;
    }

-- the totals that a struct carries
unfoldable pub totals_of : RetraceResult → Totals
totals_of r =
    record {
      points = r.points;
      cuts = r.cuts;
      back_steps = r.back_steps;
      jumps = r.jumps;
      touches = r.touches;
      cut_length = r.cut_length;
      back_step_length = r.back_step_length;
      jump_length = r.jump_length;
    }

-- how many path points were written: all of a result's, and before refusal 6 its place, C
unfoldable pub written_of : RetraceResult → ℕ
written_of r = pick (eqb r.number 6) r.place r.points

unfoldable pub check_result : Answer (Unit {0}) → CheckResult
check_result (gives t) = record { number = 0; place = 0 }
check_result (refuses n k) = record { number = n; place = k }

unfoldable pub write_result : Answer ℕ → WriteFileResult
write_result (gives m) = record { number = 0; place = 0; bytes = m }
write_result (refuses n k) = record { number = n; place = k; bytes = 0 }

unfoldable pub read_result : Answer ℕ → ReadFileResult
read_result (gives m) = record { number = 0; place = 0; points = m }
read_result (refuses n k) = record { number = n; place = k; points = 0 }

unfoldable pub contours_result : Answer Recovered → ContoursResult
contours_result (gives r) = record { number = 0; place = 0; points = r.points; contours = r.contours }
contours_result (refuses n k) = record { number = n; place = k; points = 0; contours = 0 }
