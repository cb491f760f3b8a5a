-- What divides by vertices divides by points: it enters each contour once, and cuts a segment once and after its contour is entered. So what the retrace call
-- finishes divides by points; a blank plate's path too. Assumes nothing.
use Rattle.std.specs.Prelude.{◌≡◌, refl, List, [], ◌∷◌, map, ℕ, suc, ◌*◌, ◌≤◌, ◌<◌, Float, length, take}
use Rattle.std.proofs.Common.{ap, arith}
use Rattle.std.proofs.Math.Decide.{dec_le}
use Rattle.rules.specs.Tools.{sum}
use Rattle.rules.specs.HandedOver.{Plate, Contour, at, contours, gives}
use Rattle.rules.specs.Contours.{contour_count, segments_of, Among}
use Rattle.rules.specs.Marks.{marks_of, count_marks, kind_at, reference_at, vertex_in, cuts_of, entries_of}
use Rattle.rules.specs.Calls.{retrace_call}
use Rattle.rules.specs.declared.Point.{Point}
use Rattle.rules.specs.declared.Totals.{Totals}
use Rattle.statement.specs.Division.{itself, NotEntered, Unentered, Division}
use Rattle.statement.specs.PathStatement.{Divides, PathStatement, BlankStatement}
use Rattle.statement.specs.PathCheck.{FirstCut, DividesByPoints}
use Rattle.plate_laws.specs.Contours.{all_among, among_all, Rising, contours_rise}
use Rattle.path.specs.Theorem.{path_statement}
use Rattle.path.specs.Blank.{blank_statement}
use Rattle.division_laws.specs.MarkCounts.{count_alone, cutting}
use Rattle.division_laws.specs.Maps.{division_maps}
use Rattle.division.specs.Kinds.{says_cut, cut_pair}
use Rattle.division.specs.Tallies.{within_run, sum_full, entering_any, entries_add, kinds_add}
use Rattle.division.specs.RulesKept.{entries_most}
use Rattle.division.specs.EnteredFirst.{division_pairs, pairs_sorted, unentered, cut_entered}

module _ {cs : List Contour} (rising : Rising cs) {x : ℕ → Point} {n : ℕ} {ms : List ℕ} (d : Division cs x itself (vertex_in ms) (NotEntered (vertex_in ms)) n ms) where
  abbrev v : ℕ → ℕ
  v = vertex_in ms

  -- by its vertices it is divided too where contours are new by the marks
  by_marks : Division cs x itself (vertex_in ms) (Unentered ms) n ms
  by_marks =
      division_maps (λ r. r) cs itself v itself v x x n (record { vertex = λ r. refl; point = λ i l. refl; coordinates = λ i l. refl })
      (NotEntered v) (Unentered ms) (λ k l. unentered (division_pairs d) k (omega (arith, l))) ms d

  -- there are as many entries as contours, and so each contour is entered once
  pub entries_are : count_marks entering_any ms ≡ length cs
  entries_are = omega (arith, kinds_add rising (pairs_sorted (division_pairs d)), d.cuts, d.points)

  pub entered_once : (c : Contour) → Among c cs → entries_of c ms ≡ 1
  entered_once c m =
      let f : Contour → ℕ = λ y. entries_of y ms in
      let most = among_all (λ y. f y ≤ 1) cs (entries_most rising x ms by_marks.pairs d.whole) in
      let full : sum (map f cs) ≡ length cs = omega (arith, entries_add rising (pairs_sorted (division_pairs d)), entries_are) in
      all_among (λ y. f y ≡ 1) cs (sum_full f cs most full) c m

  -- a cut is of an entered contour, and its segment's first
  first_cut : (k : ℕ) → suc k < n → FirstCut cs ms (suc k) (kind_at ms (suc k)) (reference_at ms (suc k))
  unfolding cuts_of
  first_cut k l e =
      let r = reference_at ms (suc k) in
      let (y, i, a, b) = (cut_pair x (d.pairs k l) e).segment in
      let once = within_run (λ u. cuts_of u ms ≡ 1) y.first y.last (d.once y i) r a b in (
        cut_entered (division_pairs d) rising k l e,
        count_alone (cutting r) ms (suc k) (omega (arith, d.whole, l)) once ((says_cut r (kind_at ms (suc k)) r).told (e, refl)),
      )

  -- path points have the points of their vertices
  pub division_by_points : {xs path : List Float} → length path ≡ 2 * n → ((i : ℕ) → i < n → at path i ≡ at xs (vertex_in ms i)) →
      ((i : ℕ) → i < n → at path i ≡ x i) → DividesByPoints cs xs n path ms
  division_by_points {xs} {path} whole point coordinates =
      record {
        whole = whole;
        division =
            division_maps (at xs) cs itself v (at xs) (at path) x (at path) n
            (record { vertex = λ r. refl; point = point; coordinates = coordinates })
            (Unentered ms) (Unentered ms) (λ k l c h. h) ms by_marks;
        first_cuts = first_cut;
        entered = entered_once;
      }

-- ---- what the retrace call finishes

pub divides_by_points : (p : Plate) (c : Totals) (path : List Float) (ms : List ℕ) → Divides p c path ms →
    DividesByPoints (contours p) p.points c.points path ms
divides_by_points p c path ms d = division_by_points (contours_rise p) d.division d.whole d.coordinates d.coordinates

-- with no contour there is no path point
blank_by_points : (cs : List Contour) (xs : List Float) → length cs ≡ 0 → DividesByPoints cs xs 0 [] []
unfolding marks_of count_marks segments_of sum
blank_by_points [] xs e =
    record {
      whole = refl;
      division =
          record {
            whole = refl;
            start = λ l. absurd (omega (arith, l));
            pairs = λ k l. absurd (omega (arith, l));
            cuts = refl;
            jumps = λ l. absurd (omega (arith, l));
            points = refl;
            once = λ c m. absurd m;
          };
      first_cuts = λ k l. absurd (omega (arith, l));
      entered = λ c m. absurd m;
    }
blank_by_points (c ∷ cs) xs e = absurd (omega (arith, e))

pub retrace_by_points : (p : Plate) (path : List Float) (ms : List ℕ) (w d : ℕ) (c : Totals) →
    let o = retrace_call p path ms w d in
    o.answer ≡ gives c →
    DividesByPoints (contours p) p.points c.points (take (2 * c.points) o.path) (take (2 * c.points) o.marks)
unfolding PathStatement BlankStatement contour_count
retrace_by_points p path ms w d c e = go (dec_le 1 (length (contours p)))
  where
    written : List Float
    written = take (2 * c.points) (retrace_call p path ms w d).path

    marked : List ℕ
    marked = take (2 * c.points) (retrace_call p path ms w d).marks

    go : Dec (1 ≤ length (contours p)) → DividesByPoints (contours p) p.points c.points written marked
    go (yes h) = divides_by_points p c written marked (path_statement p path ms w d c e h).3
    go (no h) =
        let none : length (contours p) ≡ 0 = omega (arith, h) in
        let z : c.points ≡ 0 = ap (λ (k : Totals). k.points) (blank_statement p path ms w d c e none) in
        rw z (blank_by_points (contours p) p.points none)
