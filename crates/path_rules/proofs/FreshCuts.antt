-- What the words of the work slice say of a cut. Assumes nothing.
use mathlib.Core.Path.{◌≡◌, sym, ◌∙◌, subst}
use mathlib.Core.Logic.{◌⊎◌}
use mathlib.Core.Bool.{false, ◌||◌}
use mathlib.Core.List.{List}
use Prim.Native.Nat.{ℕ, suc, ◌+◌}
use native.Mathlib.Omega.{arith}
use lib.Dec.{not_T}
use lib.Ieee.{Float}
use lib.Ieee.Bits.{is_false}
use Rattle.rules.specs.HandedOver.{Contour, at}
use Rattle.rules.specs.Contours.{Of}
use Rattle.statement.specs.PathCheck.{goes, cuts_fresh}
use Rattle.plate_laws.specs.Contours.{one_number}
use Rattle.division_laws.specs.Says.{says_by, says_or, says_one}
use Rattle.division_laws.specs.Rules.{Goes, CutsFresh, says_cuts, says_goes}
use Rattle.path_rules.specs.PathWords.{Tallied}
use Rattle.path_rules.specs.Words.{Open, number_of, word_of}

module _ (cs : List Contour) (total : ℕ) (ms : List ℕ) (k : ℕ) (work : List ℕ) (t : Tallied cs total ms (suc k) work) (xs path : List Float) (v : ℕ) where
  refuted : (CutsFresh cs xs path ms k v → ⊥) → cuts_fresh cs xs path ms k v ≡ false
  refuted f = is_false (cuts_fresh cs xs path ms k v) (not_T (cuts_fresh cs xs path ms k v) (λ q. f ((says_cuts cs xs path ms k v).tells q)))

  -- what a fresh cut says of the words
  fresh_words : CutsFresh cs xs path ms k v → Open total work v
  fresh_words q =
      let (c, m, ((o, below), entered)) = q.0.1 in
      let upper : Of c (v + 1) = (omega (arith, o), omega (arith, below)) in (
        omega (arith, below, t.within c m),
        omega (arith, t.cuts c m v o, q.1),
        number_of cs total ms (suc k) work t c m v o ∙ sym (number_of cs total ms (suc k) work t c m (v + 1) upper),
        omega (arith, word_of cs total ms (suc k) work t c m v o, entered),
      )

  pub cuts_closed : (Open total work v → ⊥) → cuts_fresh cs xs path ms k v ≡ false
  cuts_closed d = refuted (λ q. d (fresh_words q))

  -- the words allow it: the points decide
  module _ (open_here : Open total work v) where
    fresh_points : (Goes cs xs path ms k (at xs v) (at xs (suc v)) ⊎ Goes cs xs path ms k (at xs (suc v)) (at xs v)) → CutsFresh cs xs path ms k v
    fresh_points g =
        let (h, uncut, same, entered) = open_here in
        let (c, m, o, e) = t.owner v (omega (arith, h)) (omega (arith, entered)) in
        let (d, n, q, f) = t.owner (v + 1) h (rw (sym same) (omega (arith, entered))) in
        let one : d ≡ c = one_number cs t.rising d c n m (omega (arith, e, f, same)) in
        let upper : Of c (v + 1) = subst (λ (x : Contour). Of x (v + 1)) one q in
        let entries = word_of cs total ms (suc k) work t c m v o in
        ((g, (c, m, ((o, omega (arith, upper)), omega (arith, entered, entries)))), omega (arith, t.cuts c m v o, t.once v, uncut))

    pub cuts_points : goes path k (at xs v) (at xs (suc v)) || goes path k (at xs (suc v)) (at xs v) ≡ cuts_fresh cs xs path ms k v
    cuts_points =
        let lower = at xs v in
        let upper = at xs (suc v) in
        says_one _ _ _ (says_or _ _ _ _ (says_goes cs xs path ms k lower upper) (says_goes cs xs path ms k upper lower))
        (says_by (cuts_fresh cs xs path ms k v) (CutsFresh cs xs path ms k v) _ (λ q. q.0.0) fresh_points (says_cuts cs xs path ms k v))
