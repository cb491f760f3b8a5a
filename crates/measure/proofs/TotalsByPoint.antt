-- The totals of a walked path, one path point after the other. Assumes nothing.
use Rattle.std.proofs.Common.{◌≡◌, refl, sym, ◌∙◌, List, ℕ, zero, suc, ◌+◌, ◌-◌, ◌*◌, ◌≤◌, ◌<◌, Float, get_or, arith, ap}
use Rattle.std.proofs.Math.ListN.{get_or-eq_default}
use Rattle.rules.specs.HandedOver.{at}
use Rattle.rules.specs.Marks.{start_kind, kind_at}
use Rattle.rules.specs.Lengths.{pair_length}
use Rattle.rules.specs.Calls.{totals}
use Rattle.rules.specs.declared.Totals.{Totals}
use Rattle.length_laws.specs.WalkedPath.{Walked}
use Rattle.length_laws.specs.RunningTotals.{so_far, none_counted, added, so_far_start, so_far_none, so_far_step, so_far_all, ShortPairs, Within}
use Rattle.measure.specs.LengthsKept.{LengthsKept}

-- counts and lengths of nothing
pub none_is : (t : Totals) (n : ℕ) → (t.cuts ≡ 0) × (t.back_steps ≡ 0) × (t.jumps ≡ 0) × (t.touches ≡ 0)
    × (t.cut_length ≡ 0) × (t.back_step_length ≡ 0) × (t.jump_length ≡ 0) → record t { points = n } ≡ none_counted n
unfolding none_counted
none_is t n e = rw (e.0, e.1, e.2, e.3, e.4, e.5, e.6) refl

-- kept lengths are u32 numbers
pub short : (kept : List ℕ) (path : List Float) (k : ℕ) → LengthsKept kept path k → ((i : ℕ) → get_or kept i 0 < 4294967296) → ShortPairs (suc k) path
short kept path k q f j h = omega (arith, q j (omega arith), f j)

pub within_more : (t : Totals) (k m : ℕ) → k ≤ m → Within t k → Within t m
within_more t k m h w =
    record {
      cuts = omega (arith, w.cuts);
      back_steps = omega (arith, w.back_steps);
      jumps = omega (arith, w.jumps);
      touches = omega (arith, w.touches);
      cut_length = omega (arith, w.cut_length);
      back_step_length = omega (arith, w.back_step_length);
      jump_length = omega (arith, w.jump_length);
    }

module _ (path : List Float) (ms : List ℕ) (n : ℕ) (w : Walked path ms n) where
  -- with no path point there is no mark
  begins : (m : ℕ) → n ≡ m → kind_at ms 0 ≡ start_kind
  unfolding kind_at
  begins zero e = get_or-eq_default ms 0 (omega (arith, w.whole))
  begins (suc m) e = w.start (omega arith)

  pub totals_start : so_far n 1 path ms ≡ none_counted n
  totals_start = so_far_start n path ms (begins n refl)

  -- path point k + 1 and its pair
  pub totals_step : (k : ℕ) → suc k < n →
      so_far n (suc (suc k)) path ms ≡ added (so_far n (suc k) path ms) (get_or ms (2 * k + 2) 0) (pair_length (at path k) (at path (suc k)))
  unfolding kind_at
  totals_step k h =
      let a : 2 * suc k ≡ 2 * k + 2 = omega arith in
      let b : suc k - 1 ≡ k = omega arith in
      rw (a, b) at (so_far_step n (suc k) path ms (omega arith) (omega (arith, w.whole)))

  pub totals_end : (k : ℕ) → k ≡ n - 1 → so_far n (suc k) path ms ≡ totals n path ms
  totals_end k e = go n refl
    where
      go : (m : ℕ) → n ≡ m → so_far n (suc k) path ms ≡ totals n path ms
      go zero z =
          let f : suc k ≡ 1 = omega arith in
          rw f (totals_start ∙ sym (so_far_none n path ms) ∙ ap (λ (i : ℕ). so_far n i path ms) (sym z) ∙ so_far_all n path ms w.whole.1)
      go (suc m) z =
          let f : suc k ≡ n = omega arith in
          rw f (so_far_all n path ms w.whole.1)
