-- Path points that keep the check's rules divide by points, over contours that rise, where each contour is entered once and each segment is cut once; and what
-- divides by points keeps the rules. What the check tests of a path point says these rules. Assumes nothing.
use Rattle.std.specs.Prelude.{◌≡◌, refl, ◌&&◌, List, ℕ, zero, suc, ◌+◌, ◌*◌, ◌≤◌, ◌<◌, T, length, Float}
use Rattle.std.proofs.Common.{subst, inl, inr, arith}
use Rattle.rules.specs.HandedOver.{Contour, at}
use Rattle.rules.specs.Contours.{Among, is_of}
use Rattle.rules.specs.Marks.{count_marks, kind_at, reference_at, cuts_of, enters, entries_of, marks_before}
use Rattle.rules.specs.declared.Point.{Point}
use Rattle.statement.specs.Division.{JumpOrTouch, PairOf, Unentered}
use Rattle.statement.specs.PathCheck.{FirstCut, RulesAt, DividesByPoints, keeps_rules}
use Rattle.plate_laws.specs.Contours.{Rising, one_of}
use Rattle.division_laws.specs.Says.{Says, says_by}
use Rattle.division_laws.specs.MarkCounts.{count_first, count_all, cutting, entering}
use Rattle.division_laws.specs.Rules.{KeepsAfter, says_keeps, says_start}
use Rattle.division.specs.Kinds.{says_cut, says_entry, entry_lands}
use Rattle.division.specs.Tallies.{Sorted, pair_names}
use Rattle.division.specs.Counts.{cuts_are, jumps_are, points_are}

-- ---- one path point

module _ (cs : List Contour) (rising : Rising cs) (xs path : List Float) (ms : List ℕ) where
  -- a path point after the first, its mark having this kind and the reference r
  abbrev RulesAfter : ℕ → ℕ → ℕ → Type 0
  RulesAfter k kind r = PairOf cs (at path) (at xs) (at path) (Unentered ms k) k kind r × FirstCut cs ms (suc k) kind r

  keeps_rules_lem : (k kind r : ℕ) → KeepsAfter cs xs path ms k kind r → RulesAfter k kind r
  keeps_rules_lem k kind r (inl (inl (e, c))) =
      let s = c.0.1 in (
        inl (e, record { segment = (s.0, s.1, s.2.0.0.0, s.2.0.1); sense = c.0.0 }),
        λ e'. (
          λ d m o. subst (λ (x : Contour). 1 ≤ entries_of x (marks_before (suc k) ms)) (one_of cs rising s.0 d r s.1 m s.2.0.0 o) s.2.1,
          c.1,
        ),
      )
  keeps_rules_lem k kind r (inl (inr (e, b))) =
      (inr (inl (e, record { earlier = b.0; from = b.1.0; to = b.1.1 })), λ e'. absurd (omega (arith, e, e')))
  keeps_rules_lem k kind r (inr (j, f)) =
      let s = f.1 in
      (inr (inr (j, record { landing = f.0; fresh = (s.0, s.1, s.2.0, s.2.1) })), no_cut j)
    where
      no_cut : JumpOrTouch (at path k) (at path (suc k)) kind → FirstCut cs ms (suc k) kind r
      no_cut (inl x) e = absurd (omega (arith, x.0, e))
      no_cut (inr x) e = absurd (omega (arith, x.0, e))

  rules_keep : (k kind r : ℕ) → RulesAfter k kind r → KeepsAfter cs xs path ms k kind r
  rules_keep k kind r (inl (e, c), first) =
      let s = c.segment in
      let (open', uncut) = first e in
      inl (inl (e, ((c.sense, (s.0, s.1, (((s.2, omega arith), s.3), open' s.0 s.1 (s.2, omega arith)))), uncut)))
  rules_keep k kind r (inr (inl (e, b)), first) = inl (inr (e, (b.earlier, (b.from, b.to))))
  rules_keep k kind r (inr (inr (j, f)), first) = let s = f.fresh in inr (j, (f.landing, (s.0, s.1, (s.2, s.3))))

  pub says_rules : (i : ℕ) → Says (keeps_rules cs xs path ms i) (RulesAt cs xs path ms i)
  unfolding keeps_rules RulesAt entries_of count_marks
  says_rules zero =
      says_by (keeps_rules cs xs path ms 0) _ (RulesAt cs xs path ms 0)
      (λ s. let f = s.1.1 in (s.0, (f.0, f.1, f.2.0), s.1.0))
      (λ s. (s.0, (s.2, (s.1.0, s.1.1, (s.1.2, refl)))))
      (says_start cs xs path ms)
  says_rules (suc k) =
      let kind = kind_at ms (suc k) in
      let r = reference_at ms (suc k) in
      says_by (keeps_rules cs xs path ms (suc k)) (KeepsAfter cs xs path ms k kind r) (RulesAt cs xs path ms (suc k))
      (keeps_rules_lem k kind r) (rules_keep k kind r) (says_keeps cs xs path ms k kind r)

-- ---- an entry is its contour's first, so a contour is entered once at most

module _ {A : Type 0} {cs : List Contour} (rising : Rising cs) (x : ℕ → Point) {u v : ℕ → A} {n : ℕ} (ms : List ℕ)
    (pairs : (k : ℕ) → suc k < n → PairOf cs x u v (Unentered ms k) k (kind_at ms (suc k)) (reference_at ms (suc k))) where
  entry_first : (c : Contour) → Among c cs → (i : ℕ) → i < n → T (enters (kind_at ms i) && is_of c (reference_at ms i)) → entries_of c (marks_before i ms) ≡ 0
  unfolding entries_of count_marks
  entry_first c m zero l t = refl
  entry_first c m (suc k) l t =
      let r = reference_at ms (suc k) in
      let (t1, o) = (says_entry c (kind_at ms (suc k)) r).tells t in
      let s = (entry_lands x (pairs k l) t1).fresh in
      subst (λ (y : Contour). entries_of y (marks_before (suc k) ms) ≡ 0) (one_of cs rising s.0 c r s.1 m s.2 o) s.3

  pub entries_most : length ms ≡ 2 * n → (c : Contour) → Among c cs → entries_of c ms ≤ 1
  unfolding entries_of
  entries_most two c m =
      omega (arith, count_first (entering c) ms n (omega (arith, two)) (λ i l. entry_first c m i l), count_all (entering c) ms n two)

-- ---- all path points

module _ {cs : List Contour} {xs : List Float} {n : ℕ} {path : List Float} {ms : List ℕ} where
  -- what divides by points keeps the rules
  pub divides_rules : DividesByPoints cs xs n path ms → (i : ℕ) → i < n → RulesAt cs xs path ms i
  unfolding RulesAt
  divides_rules d zero l = d.division.start l
  divides_rules d (suc k) l = (d.division.pairs k l, d.first_cuts k l)

-- n path points that keep the rules
pub record RulesKept (cs : List Contour) (xs : List Float) (n : ℕ) (path : List Float) (ms : List ℕ) : Type 0 where
  pub whole : (length path ≡ 2 * n) × (length ms ≡ 2 * n)
  pub rules : (i : ℕ) → i < n → RulesAt cs xs path ms i

module _ {cs : List Contour} {xs : List Float} {n : ℕ} {path : List Float} {ms : List ℕ} (kept : RulesKept cs xs n path ms) where
  kept_pairs : (k : ℕ) → suc k < n → PairOf cs (at path) (at xs) (at path) (Unentered ms k) k (kind_at ms (suc k)) (reference_at ms (suc k))
  unfolding RulesAt
  kept_pairs k l = (kept.rules (suc k) l).0

  -- a cut is its segment's first, so a segment is cut once at most
  cut_first : (v i : ℕ) → i < n → T (cutting v (kind_at ms i) (reference_at ms i)) → cuts_of v (marks_before i ms) ≡ 0
  unfolding RulesAt cuts_of count_marks
  cut_first v zero l t = refl
  cut_first v (suc k) l t =
      let (e, f) = (says_cut v (kind_at ms (suc k)) (reference_at ms (suc k))).tells t in
      subst (λ (y : ℕ). cuts_of y (marks_before (suc k) ms) ≡ 0) f ((kept.rules (suc k) l).1 e).1

  pub cuts_most : (v : ℕ) → cuts_of v ms ≤ 1
  unfolding cuts_of
  cuts_most v = omega (arith, kept.whole, count_first (cutting v) ms n (omega (arith, kept.whole)) (cut_first v), count_all (cutting v) ms n kept.whole.1)

  module _ (rising : Rising cs) where
    -- and a contour is entered once at most
    pub kept_entries : (c : Contour) → Among c cs → entries_of c ms ≤ 1
    kept_entries = entries_most rising (at path) ms kept_pairs kept.whole.1

    -- where each segment is cut once, and each contour is entered once, they divide
    pub kept_divides : ((c : Contour) → Among c cs → (i : ℕ) → i < c.last → cuts_of (c.first + i) ms ≡ 1) →
        ((c : Contour) → Among c cs → entries_of c ms ≡ 1) → DividesByPoints cs xs n path ms
    unfolding RulesAt
    kept_divides once entered =
        let sorted : Sorted cs n ms =
        record {
          whole = kept.whole.1;
          start = λ l. let s = kept.rules 0 l in (s.0, s.1);
          pairs = λ k l. pair_names (at path) (kept_pairs k l);
        } in
        record {
          whole = kept.whole.0;
          division =
              record {
                whole = kept.whole.1;
                start = kept.rules 0;
                pairs = kept_pairs;
                cuts = cuts_are rising sorted once;
                jumps = jumps_are rising sorted once entered;
                points = points_are rising sorted once entered;
                once = once;
              };
          first_cuts = λ k l. (kept.rules (suc k) l).1;
          entered = entered;
        }
