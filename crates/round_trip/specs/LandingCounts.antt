-- How often path points land on a vertex: where each of m vertices is landed on, and m path points land, each is landed on once. Assumes nothing.
use Rattle.std.specs.Prelude.{◌≡◌, refl, Bool, true, false, ◌&&◌, ◌||◌, List, [], ◌∷◌, map, ℕ, zero, suc, ◌+◌, ◌-◌, ◌*◌, ◌≤◌, ◌<◌, T, leb, ltb, eqb, length, get_or}
use Rattle.std.proofs.Common.{sym, ◌∙◌, inl, zero-add, arith, lt-ltb, eqb→eq}
use Rattle.std.proofs.Math.Bool.{or-true, or-false}
use Rattle.rules.specs.Tools.{pick, sum, any, up_from}
use Rattle.rules.specs.Marks.{cut_kind, count_marks, kind_at, enters, marks_before}
use Rattle.contour_recovery.specs.ContourRecovery.{lands_on, landed}
use Rattle.plate_laws.specs.Lists.{All, all_of, all_up_from, length_up_from}
use Rattle.plate_laws.specs.Sums.{sum_zeros}
use Rattle.division_laws.specs.Says.{says_and, says_leb, says_ltb}
use Rattle.division_laws.specs.MarkCounts.{passing, count_step, count_all}
use Rattle.division.specs.Kinds.{no_entry}
use Rattle.division.specs.Tallies.{sum_add, run_one, entering_any, of_kind}
use Rattle.recovery_laws.specs.LandedVertices.{lands, landed_more}

-- ---- sums

-- as much as there are, and none less than 1: each is 1
sum_least : {A : Type 0} (f : A → ℕ) (xs : List A) → All (λ x. 1 ≤ f x) xs → length xs ≤ sum (map f xs)
unfolding sum
sum_least f [] a = omega arith
sum_least f (x ∷ xs) a = omega (arith, a.0, sum_least f xs a.1)

pub sum_tight : {A : Type 0} (f : A → ℕ) (xs : List A) → All (λ x. 1 ≤ f x) xs → sum (map f xs) ≡ length xs → All (λ x. f x ≡ 1) xs
unfolding sum
sum_tight f [] a e = tt
sum_tight f (x ∷ xs) a e =
    let m = sum_least f xs a.1 in
    (omega (arith, a.0, m, e), sum_tight f xs a.1 (omega (arith, a.0, m, e)))

-- one of a run
run_at : (P : ℕ → Type 0) (a n : ℕ) → All P (up_from a n) → (i : ℕ) → i < n → P (a + i)
run_at P a zero h i l = absurd (omega arith)
run_at P a (suc n) h zero l = let e : a + 0 ≡ a = omega arith in rw e h.0
run_at P a (suc n) h (suc i) l =
    let e : a + suc i ≡ suc a + i = omega arith in
    rw e (run_at P (suc a) n h.1 i (omega arith))

either : (a b : Bool) → (T a → T b → ⊥) → ◌≡◌ {A = ℕ} (pick (a || b) 1 0) (pick a 1 0 + pick b 1 0)
unfolding pick
either true true h = absurd (h tt tt)
either true false h = refl
either false b h = sym (zero-add _)

one_more : (k : ℕ) (b : Bool) → (ltb 0 k || b) ≡ ltb 0 (k + pick b 1 0)
unfolding pick
one_more k true = or-true (ltb 0 k) ∙ sym (lt-ltb 0 (k + 1) (omega arith))
one_more k false = let e : k + 0 ≡ k = omega arith in rw e (or-false (ltb 0 k))

-- ---- the landings of path points whose marks are ms and whose vertices are vs

module _ (ms vs : List ℕ) where
  -- how many of the first i path points land on vertex v
  unfoldable pub landings : ℕ → ℕ → ℕ
  landings v zero = 0
  landings v (suc i) = landings v i + pick (lands_on ms vs v i) 1 0

  -- a path point with a vertex below m lands on one of these, or on none
  share : (m i : ℕ) → get_or vs i 0 < m →
      sum (map (λ v. pick (lands_on ms vs v i) 1 0) (up_from 0 m)) ≡ passing entering_any ms i + passing (of_kind cut_kind) ms i
  unfolding lands_on lands
  share m i h =
      let u = get_or vs i 0 in
      let within : T (leb 0 u && ltb u (0 + m)) = (says_and _ _ _ _ (says_leb 0 u) (says_ltb u (0 + m))).told (omega arith, omega (arith, h)) in
      run_one (lands ms i) 0 m u ∙ drop_true (lands ms i) _ within ∙ either (enters (kind_at ms i)) (eqb (kind_at ms i) cut_kind) apart
    where
      drop_true : (a b : Bool) → T b → ◌≡◌ {A = ℕ} (pick (a && b) 1 0) (pick a 1 0)
      drop_true true true t = refl
      drop_true true false t = absurd t
      drop_true false b t = refl

      apart : T (enters (kind_at ms i)) → T (eqb (kind_at ms i) cut_kind) → ⊥
      apart a b = no_entry (inl (eqb→eq (kind_at ms i) cut_kind b)) a

  module _ (n : ℕ) (whole : length ms ≡ 2 * n) (m : ℕ) (below : (i : ℕ) → i < n → get_or vs i 0 < m) where
    pub landings_add : (i : ℕ) → i ≤ n →
        sum (map (λ v. landings v i) (up_from 0 m)) ≡ count_marks entering_any (marks_before i ms) + count_marks (of_kind cut_kind) (marks_before i ms)
    unfolding landings count_marks
    landings_add zero l = sum_zeros _ (up_from 0 m) (all_of _ (λ v. refl) (up_from 0 m))
    landings_add (suc i) l =
        omega (
          arith,
          sum_add (λ v. landings v i) (λ v. pick (lands_on ms vs v i) 1 0) (up_from 0 m),
          landings_add i (omega arith),
          share m i (below i l),
          count_step entering_any ms i (omega (arith, whole)),
          count_step (of_kind cut_kind) ms i (omega (arith, whole)),
        )

    -- where m path points land, and one or more on each of the m vertices, one lands on each
    pub each_once : count_marks entering_any ms + count_marks (of_kind cut_kind) ms ≡ m → ((v : ℕ) → v < m → 1 ≤ landings v n) →
        (v : ℕ) → v < m → landings v n ≡ 1
    each_once e some v l =
        let all = all_up_from (λ u. 1 ≤ landings u n) 0 m (λ u a b. some u (omega (arith, b))) in
        let full : sum (map (λ u. landings u n) (up_from 0 m)) ≡ length (up_from 0 m) =
        omega (
          arith,
          landings_add n (omega arith),
          count_all entering_any ms n whole,
          count_all (of_kind cut_kind) ms n whole,
          length_up_from 0 m,
          e,
        ) in
        let h : 0 + v ≡ v = omega arith in
        rw h at (run_at (λ u. landings u n ≡ 1) 0 m (sum_tight (λ u. landings u n) (up_from 0 m) all full) v l)

  -- ---- landed on

  landings_more : (v i d : ℕ) → landings v i ≤ landings v (i + d)
  unfolding landings
  landings_more v i zero = let e : i + 0 ≡ i = omega arith in rw e (omega arith)
  landings_more v i (suc d) = let e : i + suc d ≡ suc (i + d) = omega arith in rw e (omega (arith, landings_more v i d))

  landings_here : (v i : ℕ) → lands_on ms vs v i ≡ true → landings v (suc i) ≡ landings v i + 1
  unfolding landings pick
  landings_here v i t = rw t refl

  -- one that lands is counted
  pub landings_some : (v i n : ℕ) → i < n → lands_on ms vs v i ≡ true → 1 ≤ landings v n
  landings_some v i n l t =
      let e : suc i + (n - suc i) ≡ n = omega arith in
      omega (arith, landings_here v i t, rw e at (landings_more v (suc i) (n - suc i)))

  -- where one path point alone lands on a vertex, none before it does
  pub landings_first : (v i n : ℕ) → i < n → landings v n ≡ 1 → lands_on ms vs v i ≡ true → landings v i ≡ 0
  landings_first v i n l once t =
      let e : suc i + (n - suc i) ≡ n = omega arith in
      omega (arith, once, landings_here v i t, rw e at (landings_more v (suc i) (n - suc i)))

  pub landed_counts : (v i : ℕ) → landed ms vs i v ≡ ltb 0 (landings v i)
  unfolding landed landings any
  landed_counts v zero = refl
  landed_counts v (suc i) = rw (landed_more ms vs i v, landed_counts v i) (one_more (landings v i) (lands_on ms vs v i))
