-- The retrace call without touches, and counts and an answer with the touches read as jumps: the call leaves the same (proofs/CountsAsJumps.antt).
-- Definitions only.
use Rattle.std.specs.Prelude.{List, ℕ, ◌+◌, Float, length}
use Rattle.rules.specs.HandedOver.{Plate, retrace_room, Answer, gives, refuses, refused_by, retrace_rows, after}
use Rattle.rules.specs.Marks.{coordinates, marks, vertices}
use Rattle.rules.specs.Calls.{path_totals, RetraceOutcome}
use Rattle.rules.specs.declared.Totals.{Totals}
use Rattle.path.specs.TouchesAsJumps.{jump_retrace}

-- ---- counts

unfoldable pub counts_as_jumps : Totals → Totals
counts_as_jumps c =
    record {
      points = c.points;
      cuts = c.cuts;
      back_steps = c.back_steps;
      jumps = c.jumps + c.touches;
      touches = 0;
      cut_length = c.cut_length;
      back_step_length = c.back_step_length;
      jump_length = c.jump_length;
    }

-- ---- the call

unfoldable pub jump_retrace_call : Plate → List Float → List ℕ → ℕ → ℕ → RetraceOutcome
jump_retrace_call p path ms w d =
    let c = retrace_room (length path) (length ms) in
    let r = jump_retrace p in
    let a = refused_by (retrace_rows p w d c (length r)) (gives (path_totals p r)) in
    record { answer = a; path = after a c (coordinates p.points (vertices r)) path; marks = after a c (marks r) ms }

-- a refusal keeps its number and its place
unfoldable pub answer_as_jumps : Answer Totals → Answer Totals
answer_as_jumps (gives c) = gives (counts_as_jumps c)
answer_as_jumps (refuses number place) = refuses number place
