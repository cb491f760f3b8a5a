-- The theorems of this crate, `length_statement : LengthStatement` and `lengths_by_rules : LengthsByRules` below: "Lengths for the quotation" of document 02,
-- ticket 4. Both are defined, with all that they name, in crates/statement/specs/Quotation.antt. The first says of every plate p, every path slice `path` and marks
-- slice `ms`, and all lengths w and d of the work slices: where the retrace call answers with c (o.answer ≡ gives c, o being what the call answers and leaves), then
--
--   along          c has the totals of the path points that were written (totals), by their coordinates and their marks as the two slices hold them afterwards:
--                  how many marks there are of each kind, and the lengths of the cuts, of the back-steps, and of the jumps and touches, each the sum over the
--                  pairs of neighbouring path points of that kind, in 1,024ths, each pair's rounded down (length_along);
--   by_contours    the length of the cuts is that of the plate (plate_length): the sum over its contours' segments, taken from the input;
--   touches        the touches have no length.
--
-- The second says of every accepted plate, however long its path is, that the cuts of its path are as long as the plate.
--
-- The first part is how path and marks were written (crates/path, Slices and Theorem). The others are proved in ByContours: by the path statement each cut is a
-- segment in one of its two senses, and as long in either (EitherEnd); the path has each segment once (crates/path, Shares); and a touch goes between equal points
-- (Touches). Assumes nothing.
use Rattle.std.specs.Prelude.{ℕ}
use Rattle.std.proofs.Common.{sym, ap, ◌∙◌}
use Rattle.rules.specs.Retrace.{retrace}
use Rattle.rules.specs.Marks.{coordinates, marks, vertices}
use Rattle.rules.specs.Lengths.{is_touch, length_along}
use Rattle.rules.specs.Calls.{totals, path_totals}
use Rattle.statement.specs.HowNear.{IsAccepted}
use Rattle.statement.specs.Quotation.{LengthStatement, LengthsByRules}
use Rattle.rules.specs.declared.Totals.{Totals}
use Rattle.plate_laws.specs.AcceptedInput.{input_gives, accepted_measurable}
use Rattle.plate_laws.specs.Start.{layered_part}
use Rattle.path.specs.Theorem.{retrace_gives, retrace_leaves}
use Rattle.lengths.specs.ByContours.{retrace_summed}

pub length_statement : LengthStatement
unfolding LengthStatement totals path_totals
length_statement p path ms w d c e =
    let (accepted, part, counted) = retrace_gives p path ms w d c e in
    let l = retrace_leaves p path ms w d c e in
    let r = retrace p in
    let xs = coordinates p.points (vertices r) in
    let summed = retrace_summed p (accepted_measurable p accepted) part in
    rw (l.path_front, l.marks_front)
    (record {
      along = counted ∙ ap (λ (k : ℕ). totals k xs (marks r)) (sym l.points);
      by_contours = ap (λ (x : Totals). x.cut_length) counted ∙ summed.cuts;
      touches = ap (λ (k : ℕ). length_along is_touch k xs (marks r)) l.points ∙ summed.touches;
    })

pub lengths_by_rules : LengthsByRules
unfolding LengthsByRules IsAccepted totals path_totals
lengths_by_rules p accepted =
    let (sound, layered, parked, same) = input_gives p.points p.lengths p.layers p.strategy _ tt accepted in
    (retrace_summed p (accepted_measurable p sound) (layered_part p layered)).cuts
