-- Marks counted by kinds, by contours and by segments: sums of counts. Assumes nothing.
use Rattle.std.specs.Prelude.{◌≡◌, ◌⊎◌, Bool, true, false, ◌&&◌, List, [], ◌∷◌, map, leb, ltb, eqb, length}
use Rattle.std.proofs.Math.Path.{refl}
use Rattle.std.proofs.Common.{sym, ap, ◌∙◌, subst, eqb→eq}
use Rattle.std.proofs.Math.Logic.{inl, inr}
use Prim.Native.Nat.{ℕ, zero, suc, ◌+◌, ◌-◌, ◌*◌, ◌≤◌, ◌<◌}
use Rattle.std.proofs.Math.Decide.{dec_le}
use native.Mathlib.Omega.{arith}
use Rattle.std.proofs.Math.Dec.{T}
use Rattle.rules.specs.Tools.{pick, sum, up_from}
use Rattle.rules.specs.HandedOver.{Contour}
use Rattle.rules.specs.Marks.{start_kind, cut_kind, back_step_kind, jump_kind, touch_kind, count_marks, marks_of, kind_at, reference_at, cuts_of, enters, entries_of, marks_before}
use Rattle.statement.specs.Division.{IsJumpOrTouch, PairOf}
use Rattle.rules.specs.Contours.{Among, OfOne, is_of}
use Rattle.rules.specs.declared.Point.{Point}
use Rattle.plate_laws.specs.Lists.{All, all_of, all_give}
use Rattle.plate_laws.specs.Sums.{sum_zeros, sum_same, indicator, sum_absent, sum_once}
use Rattle.plate_laws.specs.Contours.{Rising, Apart, others, others_apart, sum_others}
use Rattle.division_laws.specs.Says.{Says, says_by, says_and, says_one, says_leb, says_ltb, says_eqb}
use Rattle.division_laws.specs.MarkCounts.{pick_one, pick_zero, passing, count_step, count_all, cutting, entering}
use Rattle.division_laws.specs.Rules.{says_of}
use Rattle.division.specs.Kinds.{no_entry}

-- ---- sums

pub sum_add : {A : Type 0} (f g : A → ℕ) (xs : List A) → sum (map (λ x. f x + g x) xs) ≡ sum (map f xs) + sum (map g xs)
unfolding sum
sum_add f g [] = refl
sum_add f g (x ∷ xs) = omega (arith, sum_add f g xs)

-- as much as there are, and none more than 1: each is 1
sum_most : {A : Type 0} (f : A → ℕ) (xs : List A) → All (λ x. f x ≤ 1) xs → sum (map f xs) ≤ length xs
unfolding sum
sum_most f [] a = omega arith
sum_most f (x ∷ xs) a = omega (arith, a.0, sum_most f xs a.1)

pub sum_full : {A : Type 0} (f : A → ℕ) (xs : List A) → All (λ x. f x ≤ 1) xs → sum (map f xs) ≡ length xs → All (λ x. f x ≡ 1) xs
unfolding sum
sum_full f [] a e = tt
sum_full f (x ∷ xs) a e =
    let m = sum_most f xs a.1 in
    (omega (arith, a.0, m, e), sum_full f xs a.1 (omega (arith, a.0, m, e)))

-- ---- one of a list

-- a number of a run, by its place in it
pub within_run : (P : ℕ → Type 0) (a n : ℕ) → ((i : ℕ) → i < n → P (a + i)) → (v : ℕ) → a ≤ v → v < a + n → P v
within_run P a n h v l k = let e : a + (v - a) ≡ v = omega arith in subst P e (h (v - a) (omega arith))

pub not_among : (cs : List Contour) (c : Contour) → length cs ≡ 0 → Among c cs → ⊥
not_among [] c e m = m
not_among (d ∷ ds) c e m = omega arith

eqb_swap : (a b : ℕ) → eqb a b ≡ eqb b a
eqb_swap a b = says_one (eqb a b) (eqb b a) (a ≡ b) (says_eqb a b) (says_by (eqb b a) (b ≡ a) (a ≡ b) sym sym (says_eqb b a))

-- where b holds, exactly one of the contours passes the test
sum_one : (cs : List Contour) → Rising cs → (b : Bool) (test : Contour → Bool) →
    (T b → (c : Contour) × Among c cs × T (test c) × ((d : Contour) → Apart c d → T (test d) → ⊥)) →
    sum (map (λ c. pick (b && test c) 1 0) cs) ≡ pick b 1 0
unfolding pick
sum_one cs rising false test h = sum_zeros _ cs (all_of _ (λ c. refl) cs)
sum_one cs rising true test h =
    let (c, m, t, none) = h tt in
    let f : Contour → ℕ = λ d. pick (test d) 1 0 in
    let rest = others c cs in
    let zeros = all_give (Apart c) (λ d. f d ≡ 0) (λ d a. pick_zero (test d) (none d a)) rest (others_apart c cs rising m) in
    omega (arith, sum_others f c cs rising m, pick_one (test c) t, sum_zeros f rest zeros)

-- ---- the marks of n path points

module _ (ms : List ℕ) (n : ℕ) (whole : length ms ≡ 2 * n) where
  -- where each mark passes one of the tests for x in xs if it passes `test`, and else none, the counts add up
  counts_before : {A : Type 0} (xs : List A) (tests : A → ℕ → ℕ → Bool) (test : ℕ → ℕ → Bool) →
      ((i : ℕ) → i < n → sum (map (λ x. passing (tests x) ms i) xs) ≡ passing test ms i) → (i : ℕ) → i ≤ n →
      sum (map (λ x. count_marks (tests x) (marks_before i ms)) xs) ≡ count_marks test (marks_before i ms)
  unfolding count_marks
  counts_before xs tests test h zero l = sum_zeros _ xs (all_of _ (λ x. refl) xs)
  counts_before {A} xs tests test h (suc i) l =
      let step : (x : A) → count_marks (tests x) (marks_before (suc i) ms) ≡ count_marks (tests x) (marks_before i ms) + passing (tests x) ms i =
      λ x. count_step (tests x) ms i (omega arith) in
      omega (
        arith,
        sum_same _ _ xs (all_of _ step xs),
        sum_add (λ x. count_marks (tests x) (marks_before i ms)) (λ x. passing (tests x) ms i) xs,
        counts_before xs tests test h i (omega arith),
        h i l,
        count_step test ms i (omega arith),
      )

  counts_add : {A : Type 0} (xs : List A) (tests : A → ℕ → ℕ → Bool) (test : ℕ → ℕ → Bool) →
      ((i : ℕ) → i < n → sum (map (λ x. passing (tests x) ms i) xs) ≡ passing test ms i) →
      sum (map (λ x. count_marks (tests x) ms) xs) ≡ count_marks test ms
  counts_add xs tests test h =
      omega (
        arith,
        sum_same _ _ xs (all_of _ (λ x. count_all (tests x) ms n whole) xs),
        counts_before xs tests test h n (omega arith),
        count_all test ms n whole,
      )

-- ---- marks that start, cut, step back or land

abbrev SegmentOf : List Contour → ℕ → Type 0
SegmentOf cs r = (c : Contour) × Among c cs × (c.first ≤ r) × (r < c.first + c.last)

-- of a mark after the first: what it names is a segment, or a vertex, of one of the contours
abbrev NamesOne : List Contour → ℕ → ℕ → Type 0
NamesOne cs kind r = ((kind ≡ cut_kind) × SegmentOf cs r) ⊎ (kind ≡ back_step_kind) ⊎ (IsJumpOrTouch kind × OfOne cs r)

-- the marks of n path points
pub record Sorted (cs : List Contour) (n : ℕ) (ms : List ℕ) : Type 0 where
  pub whole : length ms ≡ 2 * n
  pub start : 0 < n → (kind_at ms 0 ≡ start_kind) × OfOne cs (reference_at ms 0)
  pub pairs : (k : ℕ) → suc k < n → NamesOne cs (kind_at ms (suc k)) (reference_at ms (suc k))

-- the mark of a pair
pub pair_names : {A : Type 0} {cs : List Contour} (x : ℕ → Point) {u v : ℕ → A} {New : Contour → Type 0} {k kind r : ℕ} →
    PairOf cs x u v New k kind r → NamesOne cs kind r
pair_names x (inl (e, c)) = inl (e, c.segment)
pair_names x (inr (inl (e, b))) = inr (inl e)
pair_names x (inr (inr (inl j, f))) = let s = f.fresh in inr (inr (inl j.0, (s.0, s.1, s.2)))
pair_names x (inr (inr (inr j, f))) = let s = f.fresh in inr (inr (inr j.0, (s.0, s.1, s.2)))

abbrev pub entering_any : ℕ → ℕ → Bool
entering_any kind r = enters kind

abbrev pub of_kind : ℕ → ℕ → ℕ → Bool
of_kind a kind r = eqb kind a

-- names, and cuts, a segment of c
abbrev in_segments : Contour → ℕ → Bool
in_segments c r = leb c.first r && ltb r (c.first + c.last)

abbrev cutting_of : Contour → ℕ → ℕ → Bool
cutting_of c kind r = eqb kind cut_kind && in_segments c r

says_in : (c : Contour) (r : ℕ) → Says (in_segments c r) ((c.first ≤ r) × (r < c.first + c.last))
says_in c r = says_and _ _ _ _ (says_leb c.first r) (says_ltb r (c.first + c.last))

-- a segment of c is one of c's numbers, once
pub run_one : (b : Bool) (a n r : ℕ) → sum (map (λ v. pick (b && eqb r v) 1 0) (up_from a n)) ≡ pick (b && (leb a r && ltb r (a + n))) 1 0
unfolding pick
run_one false a n r = sum_zeros _ (up_from a n) (all_of _ (λ v. refl) (up_from a n))
run_one true a n r = go (dec_le a r) (dec_le (suc r) (a + n))
  where
    swap : sum (map (λ v. pick (eqb r v) 1 0) (up_from a n)) ≡ sum (map (indicator r) (up_from a n))
    swap = sum_same _ _ (up_from a n) (all_of _ (λ v. ap (λ (t : Bool). pick t 1 0) (eqb_swap r v)) (up_from a n))

    outside : ((a ≤ r) × (r < a + n) → ⊥) → sum (map (λ v. pick (eqb r v) 1 0) (up_from a n)) ≡ pick (leb a r && ltb r (a + n)) 1 0
    outside h =
        omega (
          arith,
          swap,
          sum_absent r a n (λ i x y z. h (omega arith, omega arith)),
          pick_zero (leb a r && ltb r (a + n)) (λ t. h ((says_and _ _ _ _ (says_leb a r) (says_ltb r (a + n))).tells t)),
        )

    go : Dec (a ≤ r) → Dec (suc r ≤ a + n) → sum (map (λ v. pick (eqb r v) 1 0) (up_from a n)) ≡ pick (leb a r && ltb r (a + n)) 1 0
    go (yes x) (yes y) =
        let e : a + (r - a) ≡ r = omega arith in
        omega (
          arith,
          swap,
          rw e at (sum_once a n (r - a) (omega arith)),
          pick_one (leb a r && ltb r (a + n)) ((says_and _ _ _ _ (says_leb a r) (says_ltb r (a + n))).told (x, y)),
        )
    go (yes x) (no y) = outside (λ h. y h.1)
    go (no x) y = outside (λ h. x h.0)

module _ {cs : List Contour} (rising : Rising cs) {n : ℕ} {ms : List ℕ} (s : Sorted cs n ms) where
  room : (i : ℕ) → i < n → 2 * suc i ≤ length ms
  room i l = omega (arith, s.whole)

  -- what enters names a vertex of a contour, and what cuts a segment
  entry_of : (i : ℕ) → i < n → T (enters (kind_at ms i)) → OfOne cs (reference_at ms i)
  entry_of zero l t = (s.start l).1
  entry_of (suc k) l t = go (s.pairs k l)
    where
      go : NamesOne cs (kind_at ms (suc k)) (reference_at ms (suc k)) → OfOne cs (reference_at ms (suc k))
      go (inl (e, x)) = absurd (no_entry (inl e) t)
      go (inr (inl e)) = absurd (no_entry (inr e) t)
      go (inr (inr (e, x))) = x

  cut_of : (i : ℕ) → i < n → T (eqb (kind_at ms i) cut_kind) → SegmentOf cs (reference_at ms i)
  cut_of zero l t = absurd (omega (arith, eqb→eq (kind_at ms 0) cut_kind t, (s.start l).0))
  cut_of (suc k) l t = go (s.pairs k l)
    where
      go : NamesOne cs (kind_at ms (suc k)) (reference_at ms (suc k)) → SegmentOf cs (reference_at ms (suc k))
      go (inl (e, x)) = x
      go (inr (inl e)) = absurd (omega (arith, eqb→eq (kind_at ms (suc k)) cut_kind t, e))
      go (inr (inr (inl e, x))) = absurd (omega (arith, eqb→eq (kind_at ms (suc k)) cut_kind t, e))
      go (inr (inr (inr e, x))) = absurd (omega (arith, eqb→eq (kind_at ms (suc k)) cut_kind t, e))

  -- the entries of the contours are all entries, and the cuts of the segments all cuts
  pub entries_add : sum (map (λ c. entries_of c ms) cs) ≡ count_marks entering_any ms
  unfolding entries_of
  entries_add =
      counts_add ms n s.whole cs entering entering_any
      (λ i l. sum_one cs rising (enters (kind_at ms i)) (λ c. is_of c (reference_at ms i)) (λ t. here (reference_at ms i) (entry_of i l t)))
    where
      here : (r : ℕ) → OfOne cs r → (c : Contour) × Among c cs × T (is_of c r) × ((d : Contour) → Apart c d → T (is_of d r) → ⊥)
      here r (c, m, o) = (c, m, (says_of c r).told o, λ d a t. let q = (says_of d r).tells t in elim a [ inl x ↦ omega arith | inr x ↦ omega arith ])

  segments_add : (c : Contour) → sum (map (λ v. cuts_of v ms) (up_from c.first c.last)) ≡ count_marks (cutting_of c) ms
  unfolding cuts_of
  segments_add c =
      counts_add ms n s.whole (up_from c.first c.last) cutting (cutting_of c)
      (λ i l. run_one (eqb (kind_at ms i) cut_kind) c.first c.last (reference_at ms i))

  pub cuts_add : sum (map (λ c. sum (map (λ v. cuts_of v ms) (up_from c.first c.last))) cs) ≡ marks_of cut_kind ms
  unfolding marks_of
  cuts_add =
      sum_same _ _ cs (all_of _ segments_add cs)
      ∙ counts_add ms n s.whole cs cutting_of (of_kind cut_kind)
      (λ i l. sum_one cs rising (eqb (kind_at ms i) cut_kind) (λ c. in_segments c (reference_at ms i)) (λ t. here (reference_at ms i) (cut_of i l t)))
    where
      here : (r : ℕ) → SegmentOf cs r → (c : Contour) × Among c cs × T (in_segments c r) × ((d : Contour) → Apart c d → T (in_segments d r) → ⊥)
      here r (c, m, l, h) = (c, m, (says_in c r).told (l, h), λ d a t. let q = (says_in d r).tells t in elim a [ inl x ↦ omega arith | inr x ↦ omega arith ])

  -- a mark enters, cuts or steps back
  one_kind : (i : ℕ) → i < n → passing entering_any ms i + passing (of_kind cut_kind) ms i + passing (of_kind back_step_kind) ms i ≡ 1
  unfolding pick enters
  one_kind zero l = rw (s.start l).0 refl
  one_kind (suc k) l = go (s.pairs k l)
    where
      go : NamesOne cs (kind_at ms (suc k)) (reference_at ms (suc k)) →
          passing entering_any ms (suc k) + passing (of_kind cut_kind) ms (suc k) + passing (of_kind back_step_kind) ms (suc k) ≡ 1
      go (inl (e, x)) = rw e refl
      go (inr (inl e)) = rw e refl
      go (inr (inr (inl e, x))) = rw e refl
      go (inr (inr (inr e, x))) = rw e refl

  kinds_before : (i : ℕ) → i ≤ n →
      count_marks entering_any (marks_before i ms) + count_marks (of_kind cut_kind) (marks_before i ms)
      + count_marks (of_kind back_step_kind) (marks_before i ms) ≡ i
  unfolding count_marks
  kinds_before zero l = refl
  kinds_before (suc i) l =
      omega (
        arith,
        kinds_before i (omega arith),
        one_kind i l,
        count_step entering_any ms i (room i l),
        count_step (of_kind cut_kind) ms i (room i l),
        count_step (of_kind back_step_kind) ms i (room i l),
      )

  pub kinds_add : count_marks entering_any ms + marks_of cut_kind ms + marks_of back_step_kind ms ≡ n
  unfolding marks_of
  kinds_add =
      let all : (test : ℕ → ℕ → Bool) → count_marks test (marks_before n ms) ≡ count_marks test ms = λ test. count_all test ms n s.whole in
      omega (arith, kinds_before n (omega arith), all entering_any, all (of_kind cut_kind), all (of_kind back_step_kind))

  -- what enters after the first is a jump or a touch
  landing : (k : ℕ) → suc k < n → passing entering_any ms (suc k) ≡ passing (of_kind jump_kind) ms (suc k) + passing (of_kind touch_kind) ms (suc k)
  unfolding pick enters
  landing k l = go (s.pairs k l)
    where
      go : NamesOne cs (kind_at ms (suc k)) (reference_at ms (suc k)) →
          passing entering_any ms (suc k) ≡ passing (of_kind jump_kind) ms (suc k) + passing (of_kind touch_kind) ms (suc k)
      go (inl (e, x)) = rw e refl
      go (inr (inl e)) = rw e refl
      go (inr (inr (inl e, x))) = rw e refl
      go (inr (inr (inr e, x))) = rw e refl

  landings_before : (k : ℕ) → k < n →
      count_marks entering_any (marks_before (suc k) ms)
      ≡ count_marks (of_kind jump_kind) (marks_before (suc k) ms) + count_marks (of_kind touch_kind) (marks_before (suc k) ms) + 1
  unfolding count_marks pick enters
  landings_before zero l =
      let one : passing entering_any ms 0 ≡ passing (of_kind jump_kind) ms 0 + passing (of_kind touch_kind) ms 0 + 1 = rw (s.start l).0 refl in
      omega (
        arith,
        one,
        count_step entering_any ms 0 (room 0 l),
        count_step (of_kind jump_kind) ms 0 (room 0 l),
        count_step (of_kind touch_kind) ms 0 (room 0 l),
      )
  landings_before (suc k) l =
      omega (
        arith,
        landings_before k (omega arith),
        landing k l,
        count_step entering_any ms (suc k) (room (suc k) l),
        count_step (of_kind jump_kind) ms (suc k) (room (suc k) l),
        count_step (of_kind touch_kind) ms (suc k) (room (suc k) l),
      )

  pub landings_add : 1 ≤ n → count_marks entering_any ms ≡ marks_of jump_kind ms + marks_of touch_kind ms + 1
  unfolding marks_of
  landings_add h =
      let e : suc (n - 1) ≡ n = omega arith in
      let all : (test : ℕ → ℕ → Bool) → count_marks test (marks_before n ms) ≡ count_marks test ms = λ test. count_all test ms n s.whole in
      omega (arith, rw e at (landings_before (n - 1) (omega arith)), all entering_any, all (of_kind jump_kind), all (of_kind touch_kind))
