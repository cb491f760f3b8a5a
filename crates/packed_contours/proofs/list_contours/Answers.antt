-- `packed_contours::list_contours` meets its contract: a turn writes one contour from those that are left. Assumes nothing.
use Rattle.std.proofs.Common.{◌≡◌, ◌<◌, List, sym, ap, subst, ◌∙◌, arith, length}
use Rattle.rules.specs.Tools.{sum}
use Rattle.rules.specs.HandedOver.{Contour, contours_of}
use Rattle.plate_laws.specs.Lists.{All}
use Rattle.plate_laws.specs.OrderTotals.{few_contours}
use Rattle.contours.specs.ContourOf.{contour_of}
use Rattle.contours.specs.ContoursLeft.{contours_left, WithinCounts, all_within}
use Rattle.packed_contours.proofs.ListedContours.{Listed, begun, n_few, whole, store}
use Rattle.packed_contours.proofs.Words.{word_forward}
use Rattle.packed_contours.proofs.list_contours.Goals as goal
use Rattle.packed_contours.proofs.list_contours.Goals.{In-Some}

pub loop-c-init : goal.loop-c-init
loop-c-init c =
    let ns = c.args.lengths.now in
    let e : contours_left c.into_iter-c-iterator.result ≡ contours_of ns =
    ap contours_left c.into_iter-c-iterator.ensures.into_iter_gives ∙ c.of-c-items.ensures in
    record {
      can = tt;
      ends = tt;
      within = subst (All (WithinCounts (length ns) (sum ns))) (sym e) (all_within ns);
      listed = subst (λ (left : List Contour). Listed (contours_of ns) left c.args.work.now c.args.work.now 0) (sym e) (begun (contours_of ns) c.args.work.now);
    }

next_within : (c : In-Some) → WithinCounts (length c.args.lengths.now) (sum c.args.lengths.now) (contour_of c.in-Some.c)
next_within c = (rw c.in-Some.ensures.steps at c.loop-c.invariant.within).0

-- a place is left for each contour that is
place : (c : In-Some) → c.loop-c.n < length c.args.lengths.now
place c =
    omega (arith, n_few c.loop-c.invariant.listed, ap length c.in-Some.ensures.steps, few_contours 0 0 c.args.lengths.now)

pub of-requires : goal.of-requires
unfolding contour_of
of-requires c =
    let w = next_within (goal.at.of-requires c).In-Some in
    record { few = omega (arith, w.number, c.requires.few); small = omega (arith, w.last, c.requires.small) }

pub bounds-work-n : goal.bounds-work-n
bounds-work-n c = omega (arith, place (goal.at.bounds-work-n c).In-Some, c.requires.room, c.loop-c.invariant.listed.same)

pub offset_bounds-work-n : goal.offset_bounds-work-n
offset_bounds-work-n c = omega (arith, place (goal.at.offset_bounds-work-n c).In-Some, c.requires.few)

pub overflow_add-n : goal.overflow_add-n
overflow_add-n c = omega (arith, place (goal.at.overflow_add-n c).In-Some, c.requires.few)

pub loop-c-preserved : goal.loop-c-preserved
unfolding contour_of
loop-c-preserved c =
    let l = c.loop-c.invariant in
    let e = c.in-Some.ensures.steps in
    let packed = c.of.ensures in
    record {
      can = tt;
      ends = tt;
      within = (rw e at l.within).1;
      listed = store (rw e at l.listed) (omega (arith, place (goal.at.loop-c-preserved c).In-Some, c.requires.room)) (word_forward _ packed.number packed.first packed.reversed c.into.ensures);
    }

pub returns : goal.returns
returns c =
    let w = whole c.loop-c.invariant.listed c.in-None.ensures.steps.0 in
    record { few = omega (arith, w.0, few_contours 0 0 c.args.lengths.now); count = w.0; words = w.1 }
