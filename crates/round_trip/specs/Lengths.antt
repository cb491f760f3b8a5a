-- What divides gives back the lengths: the runs that its cuts join are the plate's contours. Assumes nothing.
use Rattle.std.specs.Prelude.{◌≡◌, refl, List, map, ℕ, zero, suc, ◌+◌, ◌<◌, T, Float}
use Rattle.std.proofs.Common.{ap, arith}
use Rattle.rules.specs.Tools.{sum}
use Rattle.rules.specs.HandedOver.{Plate, Contour, at, contours}
use Rattle.rules.specs.Marks.{kind_at, reference_at, vertex_in, cuts_of}
use Rattle.statement.specs.PathStatement.{Divides}
use Rattle.rules.specs.Contours.{IsContour}
use Rattle.contour_recovery.specs.ContourRecovery.{is_segment_cut, recovered_lengths}
use Rattle.rules.specs.declared.Totals.{Totals}
use Rattle.plate_laws.specs.Contours.{contour_one}
use Rattle.division_laws.specs.MarkCounts.{count_none, count_all, cutting}
use Rattle.division.specs.Kinds.{says_cut, cut_pair}
use Rattle.recovery_laws.specs.Runs.{Joins, runs_are}

module _ {p : Plate} {c : Totals} {path : List Float} {ms : List ℕ} (d : Divides p c path ms) where
  -- no cut is after a contour's last vertex
  no_cut : (x : Contour) → IsContour p x → cuts_of (x.first + x.last) ms ≡ 0
  unfolding cuts_of
  no_cut x m =
      let r = x.first + x.last in
      omega (arith, count_none (cutting r) ms c.points (omega (arith, d.division.whole)) never, count_all (cutting r) ms c.points d.division.whole)
    where
      never : (j : ℕ) → j < c.points → T (cutting (x.first + x.last) (kind_at ms j) (reference_at ms j)) → ⊥
      never zero l t =
          let (e, s) = (says_cut (x.first + x.last) (kind_at ms 0) (reference_at ms 0)).tells t in
          omega (arith, e, (d.division.start l).0)
      never (suc k) l t =
          let (e, s) = (says_cut (x.first + x.last) (kind_at ms (suc k)) (reference_at ms (suc k))).tells t in
          let (y, i, a, b) = (cut_pair (λ i. at p.points (vertex_in ms i)) (d.division.pairs k l) e).segment in
          let same = contour_one p x y (x.first + x.last) m i (omega arith, omega arith) (omega (arith, a, s), omega (arith, b, s)) in
          omega (arith, s, b, ap (λ (q : Contour). q.first) same, ap (λ (q : Contour). q.last) same)

  joins : (x : Contour) → IsContour p x → Joins (is_segment_cut ms) x
  unfolding is_segment_cut
  joins x m = record { inside = λ i l. rw (d.division.once x m i l) refl; end = rw (no_cut x m) refl }

  pub lengths_are : recovered_lengths ms (sum p.lengths) ≡ map (λ x. suc x.last) (contours p)
  unfolding recovered_lengths
  lengths_are = runs_are (is_segment_cut ms) p joins
