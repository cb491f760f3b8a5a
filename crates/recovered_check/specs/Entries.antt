-- A path that keeps the rules of marks, and of whose vertices none is missing, divides over the contours that are recovered from it, by its vertices: each segment
-- is cut once, each contour is entered once, and each landing is on a contour of which no path point before has a vertex. So it divides by its points too. Assumes
-- nothing.
use Rattle.std.specs.Prelude.{◌≡◌, refl, Bool, true, false, List, [], map, ℕ, zero, suc, ◌+◌, ◌*◌, ◌≤◌, ◌<◌, T, length, get_or, Float}
use Rattle.std.proofs.Common.{sym, ◌∙◌, subst, inl, inr, arith, ltb-false, true≢false}
use Rattle.std.proofs.lemmas.Bool.{ltb-true}
use Rattle.std.proofs.Math.Decide.{dec_le}
use Rattle.rules.specs.Tools.{pick, sum, up_from}
use Rattle.rules.specs.HandedOver.{Contour, at, contours_of}
use Rattle.rules.specs.Marks.{cut_kind, count_marks, marks_of, kind_at, reference_at, vertices_after, vertex_in, cuts_of, enters, entries_of, marks_before}
use Rattle.rules.specs.Contours.{Among, Of, OfOne, segments_of}
use Rattle.statement.specs.Division.{itself, PairOf, NotEntered, Unentered, Division}
use Rattle.statement.specs.PathCheck.{DividesByPoints}
use Rattle.contour_recovery.specs.ContourRecovery.{lands_on, landed, vertex_count, recovered_points, is_segment_cut, recovered_lengths}
use Rattle.plate_laws.specs.Lists.{all_up_from, length_up_from}
use Rattle.plate_laws.specs.Sums.{sum_ones, sum_same}
use Rattle.plate_laws.specs.Contours.{all_among, among_all, Rising, PlacedFrom, places_from, rising_from, of_one, segments_from}
use Rattle.division_laws.specs.MarkCounts.{count_here, count_rest, count_none, count_first, count_alone, count_all, cutting, entering}
use Rattle.division.specs.Kinds.{says_cut, says_entry, landing_enters}
use Rattle.division.specs.Tallies.{entering_any, of_kind, entries_add}
use Rattle.division.specs.Counts.{cuts_are, jumps_are, points_are}
use Rattle.division.specs.EnteredFirst.{Pairs, pairs_sorted, entered_later, entered, not_entered}
use Rattle.division.specs.ByPoints.{division_by_points}
use Rattle.recovery_laws.specs.LandedVertices.{lands_there, landed_at, cut_lands, new_landing}
use Rattle.recovery_laws.specs.Runs.{runs_sum}
use Rattle.round_trip.specs.LandingCounts.{sum_tight, landings, landings_add, landed_counts}
use Rattle.recovered_check.specs.Runs.{JoinedRun, contours_run}
use Rattle.recovered_check.specs.Vertices.{MarksKept, start, CutEnds, VertexPair, goes_cut, goes, later, vertex_met, vertex_under, has_point}

module _ {path : List Float} {ms : List ℕ} {n : ℕ} (kept : MarksKept path ms n) where
  abbrev vs : List ℕ
  vs = vertices_after [] ms

  abbrev v : ℕ → ℕ
  v i = get_or (vertices_after [] ms) i 0

  abbrev m : ℕ
  m = vertex_count ms (vertices_after [] ms) n

  abbrev cs : List Contour
  cs = contours_of (recovered_lengths ms (vertex_count ms (vertices_after [] ms) n))

  abbrev xs : List Float
  xs = recovered_points path ms (vertices_after [] ms) n (vertex_count ms (vertices_after [] ms) n)

  -- ---- the recovered contours

  rising : Rising cs
  rising = rising_from 0 0 (recovered_lengths ms m)

  pub lengths_sum : sum (recovered_lengths ms m) ≡ m
  unfolding recovered_lengths
  lengths_sum = runs_sum (is_segment_cut ms) 0 m

  run_of : (c : Contour) → Among c cs → JoinedRun (is_segment_cut ms) m c
  unfolding recovered_lengths
  run_of c i = let z : 0 + m ≡ m = omega arith in rw z at (all_among (JoinedRun (is_segment_cut ms) (0 + m)) cs (contours_run (is_segment_cut ms) 0 0 m) c i)

  of_some : (u : ℕ) → u < m → OfOne cs u
  of_some u l = of_one (recovered_lengths ms m) u (omega (arith, l, lengths_sum))

  contour_under : (c : Contour) → Among c cs → c.first + c.last < m
  contour_under c i =
      let ns = recovered_lengths ms m in omega (arith, (all_among (PlacedFrom 0 0 ns) cs (places_from 0 0 ns) c i).inside, lengths_sum)

  -- ---- the pairs of neighbours, in whatever sense a landing's contour is new

  -- a segment that one path point cuts, is cut
  cut_counts : (i : ℕ) → i < n → kind_at ms i ≡ cut_kind → 1 ≤ cuts_of (reference_at ms i) ms
  unfolding cuts_of
  cut_counts i l e =
      let r = reference_at ms i in
      let t = (says_cut r (kind_at ms i) r).told (e, refl) in
      omega (arith, count_here (cutting r) ms i (omega (arith, kept.whole, l)) t, count_rest (cutting r) ms (suc i))

  -- the contour of a cut's segment
  segment : (k : ℕ) → suc k < n → kind_at ms (suc k) ≡ cut_kind → CutEnds kept k (reference_at ms (suc k)) →
      (c : Contour) × Among c cs × (c.first ≤ reference_at ms (suc k)) × (reference_at ms (suc k) < c.first + c.last)
  unfolding is_segment_cut
  segment k l e x = go (of_some r (omega (arith, next x)))
    where
      r : ℕ
      r = reference_at ms (suc k)

      a : v k < m
      a = vertex_under kept k (omega (arith, l))

      b : v (suc k) < m
      b = vertex_under kept (suc k) l

      next : CutEnds kept k r → suc r < m
      next (inl y) = omega (arith, b, y)
      next (inr y) = omega (arith, a, y)

      go : OfOne cs r → (c : Contour) × Among c cs × (c.first ≤ r) × (r < c.first + c.last)
      go (c, i, o) = elim (dec_le (suc r) (c.first + c.last)) [
        | yes h ↦ (c, i, o.0, h)
        | no h ↦
            let same : c.first + c.last ≡ r = omega (arith, h, o) in
            let none = rw same at (run_of c i).apart in
            absurd (omega (arith, ltb-false 0 (cuts_of r ms) (none (next x)), cut_counts (suc k) l e))
      ]

  of_point : (i : ℕ) → i < n → OfOne cs (v i)
  of_point i l = of_some (v i) (vertex_under kept i l)

  pairs : Pairs cs (at path) (λ k c. Unit {0}) n ms
  unfolding vertex_in
  pairs =
      record {
        whole = kept.whole;
        start = λ l. let (e, f) = start kept l in (e, subst (OfOne cs) f (of_point 0 l), f);
        pairs = λ k l. pair k l (goes kept k l);
      }
    where
      pair : (k : ℕ) → suc k < n → VertexPair kept k (kind_at ms (suc k)) (reference_at ms (suc k)) →
          PairOf cs (at path) itself v (λ c. Unit {0}) k (kind_at ms (suc k)) (reference_at ms (suc k))
      pair k l (inl (e, x)) = inl (e, record { segment = segment k l e x; sense = x })
      pair k l (inr (inl (e, x, p))) = inr (inl (e, x))
      pair k l (inr (inr (j, e))) =
          let (c, i, o) = subst (OfOne cs) e (of_point (suc k) l) in
          inr (inr (j, record { landing = e; fresh = (c, i, o, tt) }))

  -- ---- each segment is cut once

  -- path point i's vertex isn't that of a later landing
  no_landing : (i k : ℕ) → i < k → k < n → lands_on ms vs (v k) k ≡ true → v i ≡ v k → ⊥
  no_landing i k h l t e =
      let before = vertex_met kept i (omega (arith, h, l)) in
      let there = later kept (v k) (suc i) k (omega (arith, h)) (rw e at before) in
      true≢false (sym there ∙ new_landing ms vs path n kept.rules k (v k) l t)

  -- another cut of a segment would be a landing on one of two vertices that were landed on before
  uncut : (k : ℕ) → suc k < n → kind_at ms (suc k) ≡ cut_kind → cuts_of (reference_at ms (suc k)) (marks_before (suc k) ms) ≡ 0
  unfolding cuts_of
  uncut k l e = count_none (cutting r) ms (suc k) (omega (arith, kept.whole, l)) never
    where
      r : ℕ
      r = reference_at ms (suc k)

      old : (i : ℕ) → i ≤ k → v i ≡ v (suc k) → ⊥
      old i h f = no_landing i (suc k) (omega (arith, h)) l (cut_lands ms vs (suc k) e) f

      both : (j : ℕ) → j < k → CutEnds kept j r → CutEnds kept k r → ⊥
      both j h (inl y) (inl x) = old (suc j) (omega (arith, h)) (y.1 ∙ sym x.1)
      both j h (inl y) (inr x) = old j (omega (arith, h)) (y.0 ∙ sym x.1)
      both j h (inr y) (inl x) = old j (omega (arith, h)) (y.0 ∙ sym x.1)
      both j h (inr y) (inr x) = old (suc j) (omega (arith, h)) (y.1 ∙ sym x.1)

      never : (j : ℕ) → j < suc k → T (cutting r (kind_at ms j) (reference_at ms j)) → ⊥
      never zero h t =
          let (f, s) = (says_cut r (kind_at ms 0) (reference_at ms 0)).tells t in
          omega (arith, f, (start kept (omega (arith, l))).0)
      never (suc j) h t =
          let (f, s) = (says_cut r (kind_at ms (suc j)) (reference_at ms (suc j))).tells t in
          both j (omega (arith, h)) (rw s at (goes_cut kept j (omega (arith, h, l)) f)) (goes_cut kept k l e)

  cut_first : (u i : ℕ) → i < n → T (cutting u (kind_at ms i) (reference_at ms i)) → cuts_of u (marks_before i ms) ≡ 0
  unfolding cuts_of count_marks
  cut_first u zero l t = refl
  cut_first u (suc k) l t =
      let (e, f) = (says_cut u (kind_at ms (suc k)) (reference_at ms (suc k))).tells t in
      subst (λ (y : ℕ). cuts_of y (marks_before (suc k) ms) ≡ 0) f (uncut k l e)

  cuts_once : (c : Contour) → Among c cs → (i : ℕ) → i < c.last → cuts_of (c.first + i) ms ≡ 1
  unfolding cuts_of is_segment_cut
  cuts_once c j i l =
      let u = c.first + i in
      let some = ltb-true 0 (cuts_of u ms) ((run_of c j).inside i l) in
      omega (arith, some, count_first (cutting u) ms n (omega (arith, kept.whole)) (cut_first u), count_all (cutting u) ms n kept.whole)

  cuts_full : marks_of cut_kind ms ≡ segments_of cs
  cuts_full = cuts_are rising (pairs_sorted pairs) cuts_once

  -- ---- as many path points land as there are vertices

  landings_most : (u i : ℕ) → i ≤ n → landings ms vs u i ≤ 1
  unfolding landings pick
  landings_most u zero l = omega arith
  landings_most u (suc i) l = go (lands_on ms vs u i) refl (landings_most u i (omega (arith, l)))
    where
      go : (b : Bool) → lands_on ms vs u i ≡ b → landings ms vs u i ≤ 1 → landings ms vs u i + pick b 1 0 ≤ 1
      go true e h =
          let none = sym (landed_counts ms vs u i) ∙ new_landing ms vs path n kept.rules i u (omega (arith, l)) e in
          omega (arith, ltb-false 0 (landings ms vs u i) none)
      go false e h = omega (arith, h)

  module _ (all : (u : ℕ) → u < m → landed ms vs n u ≡ true) where
    landings_once : (u : ℕ) → u < m → landings ms vs u n ≡ 1
    landings_once u l =
        let some = ltb-true 0 (landings ms vs u n) (sym (landed_counts ms vs u n) ∙ all u l) in
        omega (arith, some, landings_most u n (omega arith))

    entries_are : count_marks entering_any ms ≡ length cs
    unfolding marks_of segments_of
    entries_are =
        let once = all_up_from (λ u. landings ms vs u n ≡ 1) 0 m (λ u a b. landings_once u (omega (arith, b))) in
        omega (
          arith,
          landings_add ms vs n kept.whole m (vertex_under kept) n (omega arith),
          sum_same (λ u. landings ms vs u n) (λ u. 1) (up_from 0 m) once,
          sum_ones (up_from 0 m),
          length_up_from 0 m,
          count_all entering_any ms n kept.whole,
          count_all (of_kind cut_kind) ms n kept.whole,
          cuts_full,
          segments_from 0 0 (recovered_lengths ms m),
          lengths_sum,
        )

    -- ---- each contour is entered once

    entered_some : (c : Contour) → Among c cs → 1 ≤ entries_of c ms
    unfolding entries_of vertex_in
    entered_some c i =
        let (j, l, t) = landed_at ms vs c.first n (all c.first (omega (arith, contour_under c i))) in
        let e = lands_there ms vs j c.first t in
        let some = entered pairs rising j l c i (omega (arith, e), omega (arith, e)) in
        let o = entered_later pairs c (suc j) n (omega (arith, l)) (omega arith) some in
        omega (arith, o, count_all (entering c) ms n kept.whole)

    entered_once : (c : Contour) → Among c cs → entries_of c ms ≡ 1
    entered_once c i =
        let full : sum (map (λ d. entries_of d ms) cs) ≡ length cs = entries_add rising (pairs_sorted pairs) ∙ entries_are in
        all_among (λ d. entries_of d ms ≡ 1) cs (sum_tight (λ d. entries_of d ms) cs (among_all _ cs entered_some) full) c i

    -- ---- the division

    -- a landing's contour is entered there alone
    unentered : (k : ℕ) → suc k < n → T (enters (kind_at ms (suc k))) → (c : Contour) → Among c cs → Of c (reference_at ms (suc k)) → Unentered ms k c
    unfolding entries_of
    unentered k l t c j o =
        count_alone (entering c) ms (suc k) (omega (arith, kept.whole, l)) (entered_once c j)
        ((says_entry c (kind_at ms (suc k)) (reference_at ms (suc k))).told (t, o))

    pub recovered_division : Division cs (at path) itself (vertex_in ms) (NotEntered (vertex_in ms)) n ms
    recovered_division =
        let sorted = pairs_sorted pairs in
        record {
          whole = kept.whole;
          start = pairs.start;
          pairs = λ k l. new_pair k l (pairs.pairs k l);
          cuts = cuts_full;
          jumps = jumps_are rising sorted cuts_once entered_once;
          points = points_are rising sorted cuts_once entered_once;
          once = cuts_once;
        }
      where
        new_pair : (k : ℕ) → suc k < n → PairOf cs (at path) itself (vertex_in ms) (λ c. Unit {0}) k (kind_at ms (suc k)) (reference_at ms (suc k)) →
            PairOf cs (at path) itself (vertex_in ms) (NotEntered (vertex_in ms) k) k (kind_at ms (suc k)) (reference_at ms (suc k))
        new_pair k l (inl y) = inl y
        new_pair k l (inr (inl y)) = inr (inl y)
        new_pair k l (inr (inr (j, y))) =
            let s = y.fresh in
            let t = landing_enters (at path k) (at path (suc k)) j in
            inr (inr (
              j,
              record {
                landing = y.landing;
                fresh = (s.0, s.1, s.2, not_entered pairs rising k (omega (arith, l)) s.0 s.1 (unentered k l t s.0 s.1 s.2));
              },
            ))

    pub recovered_divides : length path ≡ 2 * n → DividesByPoints cs xs n path ms
    unfolding vertex_in
    recovered_divides e = division_by_points rising recovered_division e (has_point kept) (λ i l. refl)
