-- How many marks there are of each kind, where each mark names a vertex or a segment of one of the contours, each contour is entered once and each segment is cut
-- once: S cuts, n − 1 jumps and touches together, and S + B + n path points, n being the number of contours. Assumes nothing.
use Rattle.std.specs.Prelude.{◌≡◌, List, map, ℕ, ◌+◌, ◌≤◌, ◌<◌, length}
use Rattle.std.proofs.Common.{arith}
use Rattle.rules.specs.Tools.{sum, up_from}
use Rattle.rules.specs.HandedOver.{Contour}
use Rattle.rules.specs.Contours.{segments_of, Among}
use Rattle.rules.specs.Marks.{cut_kind, back_step_kind, jump_kind, touch_kind, count_marks, marks_of, cuts_of, entries_of}
use Rattle.plate_laws.specs.Lists.{all_up_from, length_up_from}
use Rattle.plate_laws.specs.Sums.{sum_ones, sum_same}
use Rattle.plate_laws.specs.Contours.{among_all, Rising}
use Rattle.division.specs.Tallies.{within_run, entering_any, Sorted, entries_add, cuts_add, kinds_add, landings_add}

module _ {cs : List Contour} (rising : Rising cs) {n : ℕ} {ms : List ℕ} (sorted : Sorted cs n ms) where
  pub entries_are : ((c : Contour) → Among c cs → entries_of c ms ≡ 1) → count_marks entering_any ms ≡ length cs
  entries_are entered =
      omega (arith, entries_add rising sorted, sum_same (λ c. entries_of c ms) (λ c. 1) cs (among_all _ cs entered), sum_ones cs)

  module _ (once : (c : Contour) → Among c cs → (i : ℕ) → i < c.last → cuts_of (c.first + i) ms ≡ 1) where
    -- the segments of a contour are cut once each
    segments_cut : (c : Contour) → Among c cs → sum (map (λ v. cuts_of v ms) (up_from c.first c.last)) ≡ c.last
    segments_cut c m =
        let run = up_from c.first c.last in
        let each = within_run (λ v. cuts_of v ms ≡ 1) c.first c.last (once c m) in
        omega (
          arith,
          sum_same (λ v. cuts_of v ms) (λ v. 1) run (all_up_from (λ v. cuts_of v ms ≡ 1) c.first c.last each),
          sum_ones run,
          length_up_from c.first c.last,
        )

    pub cuts_are : marks_of cut_kind ms ≡ segments_of cs
    unfolding segments_of
    cuts_are = omega (arith, cuts_add rising sorted, sum_same _ (λ c. c.last) cs (among_all _ cs segments_cut))

    module _ (entered : (c : Contour) → Among c cs → entries_of c ms ≡ 1) where
      pub points_are : n ≡ segments_of cs + marks_of back_step_kind ms + length cs
      points_are = omega (arith, kinds_add rising sorted, cuts_are, entries_are entered)

      pub jumps_are : 1 ≤ length cs → marks_of jump_kind ms + marks_of touch_kind ms + 1 ≡ length cs
      jumps_are h = omega (arith, points_are, landings_add rising sorted (omega (arith, points_are)), entries_are entered)
