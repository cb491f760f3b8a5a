-- The first of m numbers that fails a test, by those before it. Assumes nothing.
use Rattle.std.specs.Prelude.{◌≡◌, Bool, true, false, ℕ, ◌+◌, ◌≤◌, ◌<◌, T}
use Rattle.std.proofs.Common.{sym, subst, ◌∙◌, arith}
use Rattle.std.specs.Float.Ieee.Bits.{is_true}
use Rattle.std.proofs.Math.Decide.{ℕ_discrete}
use Rattle.rules.specs.Tools.{first_failing}
use Rattle.division_laws.specs.Rules.{first_failing_lem, first_only, none_failing}

-- those before v pass
unfoldable pub PassBefore : (ℕ → Bool) → ℕ → Type 0
PassBefore test v = (u : ℕ) → u < v → test u ≡ true

pub pass_none : (test : ℕ → Bool) → PassBefore test 0
unfolding PassBefore
pass_none test u h = absurd (omega (arith, h))

pub pass_more : (test : ℕ → Bool) (v : ℕ) → PassBefore test v → test v ≡ true → PassBefore test (v + 1)
unfolding PassBefore
pass_more test v p e u h = go (ℕ_discrete u v)
  where
    go : Dec (u ≡ v) → test u ≡ true
    go (yes same) = rw same e
    go (no n) = p u (omega (arith, h, n))

pub first_found : (test : ℕ → Bool) (v m : ℕ) → PassBefore test v → v < m → test v ≡ false → v ≡ first_failing test 0 m
unfolding PassBefore
first_found test v m p h e =
    first_only test 0 m v (first_failing test 0 m)
    (record { from = omega arith; within = omega arith; before = λ j a b. subst T (sym (p j b)) tt; fails = λ l t. subst (λ (b : Bool). T b) e t })
    (first_failing_lem test 0 m)

pub none_found : (test : ℕ → Bool) (m : ℕ) → PassBefore test m → first_failing test 0 m ≡ m
unfolding PassBefore
none_found test m p = let z : 0 + m ≡ m = omega arith in none_failing test 0 m (λ i a b. subst T (sym (p i (omega (arith, b)))) tt) ∙ z

pub first_pass : (test : ℕ → Bool) (m : ℕ) → m ≤ first_failing test 0 m → PassBefore test m
unfolding PassBefore
first_pass test m e u h = is_true (test u) ((first_failing_lem test 0 m).before u (omega arith) (omega (arith, h, e)))
