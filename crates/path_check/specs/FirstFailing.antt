-- The first of n numbers that fails a test, as a loop finds it: those before i pass. Assumes nothing.
use Rattle.std.specs.Prelude.{◌≡◌, Bool}
use Rattle.std.proofs.Math.Path.{refl}
use Rattle.std.proofs.Math.Bool.{true, false}
use Prim.Native.Nat.{ℕ, suc, ◌+◌, ◌-◌, ◌≤◌, ◌<◌}
use native.Mathlib.Omega.{arith}
use Rattle.rules.specs.Tools.{pick, first_failing}

module _ (test : ℕ → Bool) where
  pub first_pass : (i n : ℕ) → i < n → test i ≡ true → first_failing test i (n - i) ≡ first_failing test (i + 1) (n - (i + 1))
  unfolding first_failing pick
  first_pass i n h t =
      let e : n - i ≡ suc (n - (i + 1)) = omega arith in
      let f : i + 1 ≡ suc i = omega arith in
      rw (e, first_failing) (rw t (rw f refl))

  pub first_fail : (i n : ℕ) → i < n → test i ≡ false → first_failing test i (n - i) ≡ i
  unfolding first_failing pick
  first_fail i n h t =
      let e : n - i ≡ suc (n - (i + 1)) = omega arith in
      rw (e, first_failing) (rw t refl)

  pub first_end : (i n : ℕ) → n ≤ i → first_failing test i (n - i) ≡ i
  unfolding first_failing
  first_end i n h = let e : n - i ≡ 0 = omega arith in rw (e, first_failing) refl
