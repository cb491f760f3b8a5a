-- Adding up the lengths of a path, mark by mark: what is known after k of its n path points. Assumes nothing.
use Rattle.std.specs.Prelude.{◌≡◌, refl, Bool, true, false, List, [], ◌∷◌, map, ℕ, zero, suc, ◌+◌, ◌-◌, ◌*◌, ◌≤◌, ◌<◌, Float, eqb, length, take}
use Rattle.std.proofs.Common.{ap, zero-add, arith, take_all}
use Rattle.rules.specs.Tools.{pick, sum, up_from}
use Rattle.rules.specs.HandedOver.{at}
use Rattle.rules.specs.Marks.{start_kind, cut_kind, back_step_kind, jump_kind, touch_kind, kind_at, count_marks, marks_of}
use Rattle.rules.specs.Lengths.{pair_length, is_cut, is_back_step, is_jump_or_touch, counted_length, length_along}
use Rattle.rules.specs.Calls.{totals}
use Rattle.rules.specs.declared.Totals.{Totals}
use Rattle.plate_laws.specs.Sums.{sum_up_from}
use Rattle.plate_laws.specs.Slices.{twice}
use Rattle.division_laws.specs.MarkCounts.{count_step}

-- of a path with n points, what its first k come to
unfoldable pub so_far : ℕ → ℕ → List Float → List ℕ → Totals
so_far n k xs ms =
    record {
      points = n;
      cuts = marks_of cut_kind (take (2 * k) ms);
      back_steps = marks_of back_step_kind (take (2 * k) ms);
      jumps = marks_of jump_kind (take (2 * k) ms);
      touches = marks_of touch_kind (take (2 * k) ms);
      cut_length = length_along is_cut k xs ms;
      back_step_length = length_along is_back_step k xs ms;
      jump_length = length_along is_jump_or_touch k xs ms;
    }

-- one mark more, of a kind, and the length of the pair that it ends
unfoldable pub added : Totals → ℕ → ℕ → Totals
added t kind l =
    record {
      points = t.points;
      cuts = t.cuts + pick (eqb kind cut_kind) 1 0;
      back_steps = t.back_steps + pick (eqb kind back_step_kind) 1 0;
      jumps = t.jumps + pick (eqb kind jump_kind) 1 0;
      touches = t.touches + pick (eqb kind touch_kind) 1 0;
      cut_length = t.cut_length + pick (is_cut kind) l 0;
      back_step_length = t.back_step_length + pick (is_back_step kind) l 0;
      jump_length = t.jump_length + pick (is_jump_or_touch kind) l 0;
    }

-- n path points, of which nothing is counted
unfoldable pub none_counted : ℕ → Totals
none_counted n = record { points = n; cuts = 0; back_steps = 0; jumps = 0; touches = 0; cut_length = 0; back_step_length = 0; jump_length = 0 }

-- ---- one path point more

-- the marks, counted
take_step : (kind : ℕ) (ms : List ℕ) (k : ℕ) → 2 * suc k ≤ length ms →
    marks_of kind (take (2 * suc k) ms) ≡ marks_of kind (take (2 * k) ms) + pick (eqb (kind_at ms k) kind) 1 0
unfolding marks_of
take_step kind ms k h = count_step (λ a r. eqb a kind) ms k h

-- the pairs, added up
along_step : (test : ℕ → Bool) (k : ℕ) (xs : List Float) (ms : List ℕ) → 1 ≤ k →
    length_along test (suc k) xs ms ≡ length_along test k xs ms + pick (test (kind_at ms k)) (pair_length (at xs (k - 1)) (at xs k)) 0
unfolding length_along counted_length sum
along_step test zero xs ms h = absurd (omega arith)
along_step test (suc k) xs ms h =
    let a : suc (suc k) - 1 ≡ k + 1 = omega arith in
    let b : suc k - 1 ≡ k = omega arith in
    rw (a, b) (omega (arith, sum_up_from (counted_length test xs ms) 0 k 1, ap (counted_length test xs ms) (zero-add k)))

pub so_far_step : (n k : ℕ) (xs : List Float) (ms : List ℕ) → 1 ≤ k → 2 * suc k ≤ length ms →
    so_far n (suc k) xs ms ≡ added (so_far n k xs ms) (kind_at ms k) (pair_length (at xs (k - 1)) (at xs k))
unfolding so_far added
so_far_step n k xs ms h l =
    rw (
      take_step cut_kind ms k l,
      take_step back_step_kind ms k l,
      take_step jump_kind ms k l,
      take_step touch_kind ms k l,
      along_step is_cut k xs ms h,
      along_step is_back_step k xs ms h,
      along_step is_jump_or_touch k xs ms h,
    )

-- ---- the first, and the last

start_uncounted : (kind : ℕ) (ms : List ℕ) → eqb start_kind kind ≡ false → kind_at ms 0 ≡ start_kind → marks_of kind (take 2 ms) ≡ 0
unfolding marks_of count_marks kind_at pick
start_uncounted kind [] d e = refl
start_uncounted kind (a ∷ []) d e = refl
start_uncounted kind (a ∷ b ∷ ms) d e = rw (e, d)

-- a start is not counted, and ends no pair
pub so_far_start : (n : ℕ) (xs : List Float) (ms : List ℕ) → kind_at ms 0 ≡ start_kind → so_far n 1 xs ms ≡ none_counted n
unfolding so_far none_counted length_along sum
so_far_start n xs ms e =
    rw (start_uncounted cut_kind ms refl e, start_uncounted back_step_kind ms refl e, start_uncounted jump_kind ms refl e, start_uncounted touch_kind ms refl e)

pub so_far_none : (n : ℕ) (xs : List Float) (ms : List ℕ) → so_far n 0 xs ms ≡ none_counted n
unfolding so_far none_counted marks_of count_marks length_along sum
so_far_none n xs ms = refl

-- all path points
pub so_far_all : (n : ℕ) (xs : List Float) (ms : List ℕ) → length ms ≡ 2 * n → so_far n n xs ms ≡ totals n xs ms
unfolding so_far totals
so_far_all n xs ms h = rw (take_all (2 * n) ms (omega arith))

-- ---- how much it can be

-- counts up to k, and lengths up to k times 2 ^ 32
pub record Within (t : Totals) (k : ℕ) : Type 0 where
  pub cuts : t.cuts ≤ k
  pub back_steps : t.back_steps ≤ k
  pub jumps : t.jumps ≤ k
  pub touches : t.touches ≤ k
  pub cut_length : t.cut_length ≤ k * 4294967296
  pub back_step_length : t.back_step_length ≤ k * 4294967296
  pub jump_length : t.jump_length ≤ k * 4294967296

pick_most : (b : Bool) (m n : ℕ) → m ≤ n → pick b m 0 ≤ n
unfolding pick
pick_most true m n h = h
pick_most false m n h = omega arith

take_most : (kind : ℕ) (ms : List ℕ) (k : ℕ) → marks_of kind (take (2 * k) ms) ≤ k
unfolding marks_of count_marks
take_most kind ms zero = omega arith
take_most kind [] (suc k) = rw (twice k) (omega arith)
take_most kind (a ∷ []) (suc k) = rw (twice k) (omega arith)
take_most kind (a ∷ b ∷ ms) (suc k) = rw (twice k) (omega (arith, take_most kind ms k, pick_most (eqb a kind) 1 1 (omega arith)))

-- each pair of the first k path points is shorter than 2 ^ 32
abbrev pub ShortPairs : ℕ → List Float → Type 0
ShortPairs k xs = (j : ℕ) → suc j < k → pair_length (at xs j) (at xs (suc j)) < 4294967296

sum_most : (f : ℕ → ℕ) (a n : ℕ) → ((i : ℕ) → a ≤ i → i < a + n → f i ≤ 4294967296) → sum (map f (up_from a n)) ≤ n * 4294967296
unfolding sum
sum_most f a zero h = omega arith
sum_most f a (suc n) h = omega (arith, h a (omega arith) (omega arith), sum_most f (suc a) n (λ i x y. h i (omega arith) (omega arith)))

along_most : (test : ℕ → Bool) (k : ℕ) (xs : List Float) (ms : List ℕ) → ShortPairs k xs → length_along test k xs ms ≤ k * 4294967296
unfolding length_along counted_length
along_most test k xs ms h =
    omega (arith, sum_most (counted_length test xs ms) 0 (k - 1) (λ i x y. pick_most (test (kind_at ms (suc i))) _ _ (omega (arith, h i (omega arith)))))

pub so_far_within : (n k : ℕ) (xs : List Float) (ms : List ℕ) → ShortPairs k xs → Within (so_far n k xs ms) k
unfolding so_far
so_far_within n k xs ms h =
    record {
      cuts = take_most cut_kind ms k;
      back_steps = take_most back_step_kind ms k;
      jumps = take_most jump_kind ms k;
      touches = take_most touch_kind ms k;
      cut_length = along_most is_cut k xs ms h;
      back_step_length = along_most is_back_step k xs ms h;
      jump_length = along_most is_jump_or_touch k xs ms h;
    }
