-- Where the start and the pairs of a path are as its marks say, by vertices, in whatever sense a landing's contour is new: a contour of which a path point is, is
-- entered, and is so before it is cut. Assumes nothing.
use Rattle.std.specs.Prelude.{◌≡◌, refl, ◌⊎◌, List, ℕ, zero, suc, ◌+◌, ◌-◌, ◌*◌, ◌≤◌, ◌<◌, T, length}
use Rattle.std.proofs.Common.{subst, inl, inr, arith}
use Rattle.std.proofs.Math.Decide.{dec_le}
use Rattle.rules.specs.HandedOver.{Contour}
use Rattle.rules.specs.Contours.{Among, Of, NotOf}
use Rattle.rules.specs.Marks.{cut_kind, kind_at, reference_at, vertex_in, enters, entries_of, marks_before}
use Rattle.rules.specs.declared.Point.{Point}
use Rattle.statement.specs.Division.{itself, Cut, PairOf, StartOf, NotEntered, Unentered, Division}
use Rattle.plate_laws.specs.Contours.{Rising, one_of}
use Rattle.division_laws.specs.MarkCounts.{count_more, count_here, count_none, entering}
use Rattle.division.specs.Kinds.{says_entry, start_enters, landing_enters, entry_lands, cut_pair}
use Rattle.division.specs.Tallies.{Sorted, pair_names}

pub record Pairs (cs : List Contour) (x : ℕ → Point) (New : ℕ → Contour → Type 0) (n : ℕ) (ms : List ℕ) : Type 0 where
  pub whole : length ms ≡ 2 * n
  pub start : 1 ≤ n → StartOf cs itself (vertex_in ms) (kind_at ms 0) (reference_at ms 0)
  pub pairs : (k : ℕ) → suc k < n → PairOf cs x itself (vertex_in ms) (New k) k (kind_at ms (suc k)) (reference_at ms (suc k))

-- those of a division
pub division_pairs : {cs : List Contour} {x : ℕ → Point} {New : ℕ → Contour → Type 0} {n : ℕ} {ms : List ℕ} →
    Division cs x itself (vertex_in ms) New n ms → Pairs cs x New n ms
division_pairs d = record { whole = d.whole; start = d.start; pairs = d.pairs }

module _ {cs : List Contour} {x : ℕ → Point} {New : ℕ → Contour → Type 0} {n : ℕ} {ms : List ℕ} (d : Pairs cs x New n ms) where
  abbrev v : ℕ → ℕ
  v = vertex_in ms

  -- a mark that enters names the vertex of its path point
  pub entry_vertex : (i : ℕ) → i < n → T (enters (kind_at ms i)) → v i ≡ reference_at ms i
  entry_vertex zero l t = (d.start l).2
  entry_vertex (suc k) l t = (entry_lands x (d.pairs k l) t).landing

  -- a cut is of a segment, and every other mark but a back-step's names a vertex
  pub pairs_sorted : Sorted cs n ms
  pairs_sorted =
      record { whole = d.whole; start = λ l. let s = d.start l in (s.0, s.1); pairs = λ k l. pair_names x (d.pairs k l) }

  -- a contour that no path point is of is not entered
  pub unentered : (k : ℕ) → k < n → (c : Contour) → NotEntered v k c → Unentered ms k c
  unfolding entries_of
  unentered k l c none = count_none (entering c) ms (suc k) (omega (arith, d.whole, l)) never
    where
      never : (j : ℕ) → j < suc k → T (entering c (kind_at ms j) (reference_at ms j)) → ⊥
      never j h t =
          let q = (says_entry c (kind_at ms j) (reference_at ms j)).tells t in
          let e = entry_vertex j (omega (arith, h, l)) q.0 in
          elim (none j (omega (arith, h))) [ inl y ↦ omega (arith, q.1, e, y) | inr y ↦ omega (arith, q.1, e, y) ]

  -- a contour stays entered
  pub entered_later : (c : Contour) (i j : ℕ) → i ≤ j → j ≤ n → 1 ≤ entries_of c (marks_before i ms) → 1 ≤ entries_of c (marks_before j ms)
  unfolding entries_of
  entered_later c i j l h o =
      let e : i + (j - i) ≡ j = omega (arith, l) in
      let more = rw e at (count_more (entering c) ms i (j - i) (omega (arith, d.whole, h, l))) in
      omega (arith, o, more)

  abbrev EnteredBy : ℕ → Type 0
  EnteredBy k = (c : Contour) → Among c cs → Of c (v k) → 1 ≤ entries_of c (marks_before (suc k) ms)

  entry_enters : (k : ℕ) → k < n → T (enters (kind_at ms k)) → EnteredBy k
  unfolding entries_of
  entry_enters k l t c m o =
      count_here (entering c) ms k (omega (arith, d.whole, l))
      ((says_entry c (kind_at ms k) (reference_at ms k)).told (t, subst (Of c) (entry_vertex k l t) o))

  module _ (rising : Rising cs) where
    -- the contour of an end of a cut's segment is the one that the cut comes from
    cut_from : (k r : ℕ) → Cut cs itself v k r → (c : Contour) → Among c cs → (u : ℕ) → (u ≡ r) ⊎ (u ≡ suc r) → Of c u → Of c (v k)
    cut_from k r cut c m u w o =
        let s = cut.segment in
        subst (λ (y : Contour). Of y (v k)) (one_of cs rising s.0 c u s.1 m (end_of w) o)
        (end_of (elim cut.sense [ inl e ↦ inl e.0 | inr e ↦ inr e.0 ]))
      where
        -- an end of the segment is of the segment's contour
        end_of : {u : ℕ} → (u ≡ r) ⊎ (u ≡ suc r) → Of cut.segment.0 u
        end_of (inl e) = let s = cut.segment in (omega (arith, s, e), omega (arith, s, e))
        end_of (inr e) = let s = cut.segment in (omega (arith, s, e), omega (arith, s, e))

    entered_step : (k : ℕ) → suc k < n → ((j : ℕ) → j ≤ k → EnteredBy j) → EnteredBy (suc k)
    entered_step k l before c m o = go (d.pairs k l)
      where
        r : ℕ
        r = reference_at ms (suc k)

        go : PairOf cs x itself v (New k) k (kind_at ms (suc k)) r → 1 ≤ entries_of c (marks_before (suc (suc k)) ms)
        go (inl (e, cut)) =
            let to : (v (suc k) ≡ r) ⊎ (v (suc k) ≡ suc r) = elim cut.sense [ inl y ↦ inr y.1 | inr y ↦ inl y.1 ] in
            entered_later c (suc k) (suc (suc k)) (omega arith) (omega (arith, l)) (before k (omega arith) c m (cut_from k r cut c m (v (suc k)) to o))
        go (inr (inl (e, back))) =
            let h = back.earlier in
            entered_later c (suc r) (suc (suc k)) (omega (arith, h)) (omega (arith, l)) (before r (omega (arith, h)) c m (subst (Of c) back.to o))
        go (inr (inr (e, j))) = entry_enters (suc k) l (landing_enters _ _ e) c m o

    -- b counts down
    entered_by : (b k : ℕ) → k < b → k < n → EnteredBy k
    entered_by zero k h l = absurd (omega (arith, h))
    entered_by (suc b) zero h l = entry_enters 0 l (start_enters (d.start l).0)
    entered_by (suc b) (suc k) h l = entered_step k l (λ j y. entered_by b j (omega (arith, y, h)) (omega (arith, y, l)))

    pub entered : (k : ℕ) → k < n → EnteredBy k
    entered k l = entered_by (suc k) k (omega arith) l

    -- so no path point is of a contour that is not entered
    pub not_entered : (k : ℕ) → k < n → (c : Contour) → Among c cs → Unentered ms k c → NotEntered v k c
    not_entered k l c m none i h = go (dec_le c.first (v i)) (dec_le (v i) (c.first + c.last))
      where
        go : Dec (c.first ≤ v i) → Dec (v i ≤ c.first + c.last) → NotOf c (v i)
        go (yes a) (yes b) =
            let some = entered i (omega (arith, h, l)) c m (a, b) in
            absurd (omega (arith, none, entered_later c (suc i) (suc k) (omega (arith, h)) (omega (arith, l)) some))
        go (yes a) (no b) = inr (omega (arith, b))
        go (no a) b = inl (omega (arith, a))

    -- a cut is of a contour that is entered before
    pub cut_entered : (k : ℕ) → suc k < n → kind_at ms (suc k) ≡ cut_kind → (c : Contour) → Among c cs → Of c (reference_at ms (suc k)) →
        1 ≤ entries_of c (marks_before (suc k) ms)
    cut_entered k l e c m o =
        let r = reference_at ms (suc k) in
        entered k (omega (arith, l)) c m (cut_from k r (cut_pair x (d.pairs k l) e) c m r (inl refl) o)
