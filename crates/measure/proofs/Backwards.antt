-- A back-step is as long as the pair that it reverses, whose length is kept. Assumes nothing.
use Rattle.std.proofs.Common.{◌≡◌, ◌≢◌, sym, ◌∙◌, List, ℕ, suc, ◌+◌, ◌*◌, ◌<◌, Float, length, get_or, set, add-one, arith, below_more, get_or-set_other, get_or-set_same}
use Rattle.rules.specs.HandedOver.{at}
use Rattle.rules.specs.Marks.{back_step_kind, kind_at, reference_at}
use Rattle.rules.specs.Lengths.{pair_length}
use Rattle.statement.specs.Division.{BackStep}
use Rattle.length_laws.specs.WalkedPath.{Walked}
use Rattle.length_laws.specs.EitherEnd.{pair_swap}
use Rattle.measure.specs.LengthsKept.{LengthsKept}

module _ (path : List Float) (ms : List ℕ) (n k : ℕ) (w : Walked path ms n) (h : suc k < n) (e : get_or ms (2 * k + 2) 0 ≡ back_step_kind) where
  pub reversed : BackStep (at path) k (get_or ms (2 * k + 2 + 1) 0)
  unfolding kind_at reference_at
  reversed =
      let a : 2 * suc k ≡ 2 * k + 2 = omega arith in
      rw a at (w.back k h (rw a e))

  pub length_kept : (kept : List ℕ) → LengthsKept kept path k → get_or kept (get_or ms (2 * k + 2 + 1) 0) 0 ≡ pair_length (at path k) (at path (suc k))
  length_kept kept q =
      let r = reversed in
      q _ r.earlier ∙ rw (r.from, r.to) (pair_swap _ _)

-- one pair more
pub kept_more : (kept : List ℕ) (path : List Float) (k l : ℕ) → LengthsKept kept path k → k < length kept → l ≡ pair_length (at path k) (at path (suc k)) →
    LengthsKept (set kept k l) path (suc k)
kept_more kept path k l q h e =
    rw (sym (add-one k))
    (below_more _ _
    (λ i b. let ne : i ≢ k = omega arith in rw get_or-set_other (q i b))
    (rw get_or-set_same e))
