-- Counting the marks of a slice that pass a test, path point by path point. Assumes nothing.
use Rattle.std.specs.Prelude.{◌≡◌, Bool, ◌&&◌, List, [], ◌∷◌, T, length, drop, eqb}
use Rattle.std.proofs.Math.Path.{refl, sym}
use Rattle.std.proofs.Math.Bool.{true, false}
use Prim.Native.Nat.{ℕ, zero, suc, ◌+◌, ◌*◌, ◌≤◌, ◌<◌}
use Rattle.std.proofs.Common.{zero-add, take_all}
use native.Mathlib.Omega.{arith}
use Rattle.rules.specs.Tools.{pick}
use Rattle.rules.specs.HandedOver.{Contour}
use Rattle.rules.specs.Contours.{is_of}
use Rattle.rules.specs.Marks.{cut_kind, count_marks, kind_at, reference_at, enters, marks_before}
use Rattle.plate_laws.specs.Slices.{twice, twice_one}

-- the first mark apart
before_pair : (i k r : ℕ) (ms : List ℕ) → marks_before (suc i) (k ∷ r ∷ ms) ≡ k ∷ r ∷ marks_before i ms
before_pair i k r ms = rw (twice i)

drop_pair : (i k r : ℕ) (ms : List ℕ) → drop (2 * suc i) (k ∷ r ∷ ms) ≡ drop (2 * i) ms
drop_pair i k r ms = rw (twice i)

kind_pair : (i k r : ℕ) (ms : List ℕ) → kind_at (k ∷ r ∷ ms) (suc i) ≡ kind_at ms i
unfolding kind_at
kind_pair i k r ms = rw (twice i)

reference_pair : (i k r : ℕ) (ms : List ℕ) → reference_at (k ∷ r ∷ ms) (suc i) ≡ reference_at ms i
unfolding reference_at
reference_pair i k r ms = rw (twice_one i)

-- what a mark counts
pub pick_one : (t : Bool) → T t → ◌≡◌ {A = ℕ} (pick t 1 0) 1
unfolding pick
pick_one true x = refl
pick_one false x = absurd x

pub pick_zero : (t : Bool) → (T t → ⊥) → ◌≡◌ {A = ℕ} (pick t 1 0) 0
unfolding pick
pick_zero true x = absurd (x tt)
pick_zero false x = refl

-- what `cuts_of` and `entries_of` count: a mark that cuts segment v, and one that enters c
abbrev pub cutting : ℕ → ℕ → ℕ → Bool
cutting v kind r = eqb kind cut_kind && eqb r v

abbrev pub entering : Contour → ℕ → ℕ → Bool
entering c kind r = enters kind && is_of c r

module _ (test : ℕ → ℕ → Bool) where
  count_pair : (k r : ℕ) (ms : List ℕ) → count_marks test (k ∷ r ∷ ms) ≡ pick (test k r) 1 0 + count_marks test ms
  unfolding count_marks
  count_pair k r ms = refl

  -- 1 where the mark of path point i passes
  abbrev pub passing : List ℕ → ℕ → ℕ
  passing ms i = pick (test (kind_at ms i) (reference_at ms i)) 1 0

  count_one : (k r : ℕ) (ms : List ℕ) → count_marks test (marks_before 1 (k ∷ r ∷ ms)) ≡ count_marks test [] + passing (k ∷ r ∷ ms) 0
  unfolding count_marks kind_at reference_at
  count_one k r ms = omega arith

  -- one path point more
  pub count_step : (ms : List ℕ) (i : ℕ) → 2 * suc i ≤ length ms →
      count_marks test (marks_before (suc i) ms) ≡ count_marks test (marks_before i ms) + passing ms i
  count_step [] i h = absurd (omega arith)
  count_step (k ∷ []) i h = absurd (omega arith)
  count_step (k ∷ r ∷ ms) zero h = count_one k r ms
  count_step (k ∷ r ∷ ms) (suc i) h =
      rw (
        before_pair (suc i) k r ms,
        before_pair i k r ms,
        count_pair k r (marks_before (suc i) ms),
        count_pair k r (marks_before i ms),
        kind_pair i k r ms,
        reference_pair i k r ms,
      )
      (omega (arith, count_step ms i (omega arith)))

  count_zero : (ms : List ℕ) → count_marks test ms ≡ count_marks test (marks_before 0 ms) + count_marks test (drop (2 * 0) ms)
  unfolding count_marks
  count_zero ms = sym (zero-add _)

  count_short : (i : ℕ) → count_marks test [] ≡ count_marks test (marks_before (suc i) []) + count_marks test (drop (2 * suc i) [])
  unfolding count_marks
  count_short i = rw (twice i) refl

  count_short_one : (k i : ℕ) →
      count_marks test (k ∷ []) ≡ count_marks test (marks_before (suc i) (k ∷ [])) + count_marks test (drop (2 * suc i) (k ∷ []))
  unfolding count_marks
  count_short_one k i = rw (twice i) refl

  -- the rest
  pub count_rest : (ms : List ℕ) (i : ℕ) → count_marks test ms ≡ count_marks test (marks_before i ms) + count_marks test (drop (2 * i) ms)
  count_rest ms zero = count_zero ms
  count_rest [] (suc i) = count_short i
  count_rest (k ∷ []) (suc i) = count_short_one k i
  count_rest (k ∷ r ∷ ms) (suc i) =
      rw (before_pair i k r ms, drop_pair i k r ms, count_pair k r ms, count_pair k r (marks_before i ms)) (omega (arith, count_rest ms i))

  -- more path points have no fewer
  pub count_more : (ms : List ℕ) (i d : ℕ) → 2 * (i + d) ≤ length ms → count_marks test (marks_before i ms) ≤ count_marks test (marks_before (i + d) ms)
  count_more ms i zero h = let e : i + 0 ≡ i = omega arith in rw e (omega arith)
  count_more ms i (suc d) h =
      let e : i + suc d ≡ suc (i + d) = omega arith in
      rw e (omega (arith, count_more ms i d (omega arith), count_step ms (i + d) (omega arith)))

  pub count_here : (ms : List ℕ) (i : ℕ) → 2 * suc i ≤ length ms → T (test (kind_at ms i) (reference_at ms i)) →
      1 ≤ count_marks test (marks_before (suc i) ms)
  count_here ms i h t = omega (arith, count_step ms i h, pick_one (test (kind_at ms i) (reference_at ms i)) t)

  -- none passes
  pub count_none : (ms : List ℕ) (i : ℕ) → 2 * i ≤ length ms →
      ((j : ℕ) → j < i → T (test (kind_at ms j) (reference_at ms j)) → ⊥) → count_marks test (marks_before i ms) ≡ 0
  unfolding count_marks
  count_none ms zero h none = refl
  count_none ms (suc i) h none =
      let before = count_none ms i (omega arith) (λ j l. none j (omega arith)) in
      omega (arith, before, count_step ms i h, pick_zero (test (kind_at ms i) (reference_at ms i)) (none i (omega arith)))

  -- where some pass, there is one
  pub count_some : (ms : List ℕ) (i : ℕ) → 2 * i ≤ length ms → 1 ≤ count_marks test (marks_before i ms) →
      (j : ℕ) × (j < i) × T (test (kind_at ms j) (reference_at ms j))
  unfolding count_marks pick
  count_some ms zero h some = absurd (omega (arith, some))
  count_some ms (suc i) h some =
      go (test (kind_at ms i) (reference_at ms i)) refl (omega (arith, some, count_step ms i h)) (λ l. count_some ms i (omega arith) l)
    where
      Some : ℕ → Type 0
      Some i = (j : ℕ) × (j < i) × T (test (kind_at ms j) (reference_at ms j))

      go : (b : Bool) → test (kind_at ms i) (reference_at ms i) ≡ b → 1 ≤ count_marks test (marks_before i ms) + pick b 1 0 →
          (1 ≤ count_marks test (marks_before i ms) → Some i) → Some (suc i)
      go true e l before = (i, omega arith, rw e tt)
      go false e l before = let (j, k, t) = before (omega (arith, l)) in (j, omega (arith, k), t)

  -- where each that passes is the first, there is at most one
  pub count_first : (ms : List ℕ) (i : ℕ) → 2 * i ≤ length ms →
      ((j : ℕ) → j < i → T (test (kind_at ms j) (reference_at ms j)) → count_marks test (marks_before j ms) ≡ 0) → count_marks test (marks_before i ms) ≤ 1
  unfolding count_marks pick
  count_first ms zero h first = omega arith
  count_first ms (suc i) h first =
      let before = count_first ms i (omega arith) (λ j l. first j (omega arith)) in
      omega (arith, count_step ms i h, go (test (kind_at ms i) (reference_at ms i)) (first i (omega arith)) before)
    where
      go : (b : Bool) → (T b → count_marks test (marks_before i ms) ≡ 0) → count_marks test (marks_before i ms) ≤ 1 →
          count_marks test (marks_before i ms) + pick b 1 0 ≤ 1
      go true f l = omega (arith, f tt)
      go false f l = omega (arith, l)

  -- where there is one, one that passes is the first
  pub count_alone : (ms : List ℕ) (i : ℕ) → 2 * suc i ≤ length ms → count_marks test ms ≡ 1 → T (test (kind_at ms i) (reference_at ms i)) →
      count_marks test (marks_before i ms) ≡ 0
  count_alone ms i h one t = omega (arith, one, count_rest ms (suc i), count_step ms i h, pick_one (test (kind_at ms i) (reference_at ms i)) t)

  -- the marks before the last are all
  pub count_all : (ms : List ℕ) (n : ℕ) → length ms ≡ 2 * n → count_marks test (marks_before n ms) ≡ count_marks test ms
  count_all ms n h = rw (take_all (2 * n) ms (omega arith))
