-- A walk along a chain is a fold over the numbers that pass, in rising order. Assumes nothing.
use Rattle.std.specs.Prelude.{◌≡◌, Bool}
use Rattle.std.proofs.Math.Path.{refl, ap, subst}
use Rattle.std.proofs.Common.{◌∙◌}
use Rattle.std.proofs.Math.Bool.{true, false}
use Prim.Native.Nat.{ℕ, zero, suc, ◌+◌, ◌-◌, ◌≤◌, ◌<◌}
use native.Mathlib.Omega.{arith}
use Rattle.rules.specs.Tools.{pick}
use Rattle.samples.specs.Chains.{first_of}

-- over those of the m numbers from k on that pass
unfoldable pub fold_from : {A : Type 0} → (ℕ → Bool) → (ℕ → A → A) → ℕ → ℕ → A → A
fold_from P step zero k acc = acc
fold_from P step (suc m) k acc = fold_from P step m (suc k) (pick (P k) (step k acc) acc)

-- j is the first of the m numbers from k on that passes: the fold begins with it and goes on behind it
pub record FoldStep {A : Type 0} (P : ℕ → Bool) (step : ℕ → A → A) (m k : ℕ) (acc : A) (j : ℕ) : Type 0 where
  pub passes : P j ≡ true
  pub from_k : k ≤ j
  pub below : j < k + m
  pub fold : fold_from P step m k acc ≡ fold_from P step (k + m - suc j) (suc j) (step j acc)

module _ {A : Type 0} (P : ℕ → Bool) (step : ℕ → A → A) where
  -- a chain's end
  pub fold_none : (m k : ℕ) (acc : A) → first_of P m k ≡ 0 → fold_from P step m k acc ≡ acc
  unfolding fold_from first_of pick
  fold_none zero k acc e = refl
  fold_none (suc m) k acc e = go (P k) e (fold_none m (suc k) acc)
    where
      go : (b : Bool) → pick b (suc k) (first_of P m (suc k)) ≡ 0 → (first_of P m (suc k) ≡ 0 → fold_from P step m (suc k) acc ≡ acc) →
          fold_from P step m (suc k) (pick b (step k acc) acc) ≡ acc
      go true e h = absurd (omega arith)
      go false e h = h e

  -- a chain's link
  pub fold_first : (m k : ℕ) (acc : A) (j : ℕ) → first_of P m k ≡ suc j → FoldStep P step m k acc j
  unfolding fold_from first_of pick
  fold_first zero k acc j e = absurd (omega arith)
  fold_first (suc m) k acc j e = go (P k) refl e (fold_first m (suc k) acc j)
    where
      go : (b : Bool) → P k ≡ b → pick b (suc k) (first_of P m (suc k)) ≡ suc j → (first_of P m (suc k) ≡ suc j → FoldStep P step m (suc k) acc j) →
          FoldStep P step (suc m) k acc j
      go true w e h =
          let q : k ≡ j = omega arith in
          let r : k + suc m - suc k ≡ m = omega arith in
          subst (FoldStep P step (suc m) k acc) q record { passes = w; from_k = omega arith; below = omega arith; fold = rw (w, r) }
      go false w e h =
          let s = h e in
          let r : suc k + m - suc j ≡ k + suc m - suc j = omega arith in
          record {
            passes = s.passes;
            from_k = omega (arith, s.from_k);
            below = omega (arith, s.below);
            fold = rw w (s.fold ∙ ap (λ (i : ℕ). fold_from P step i (suc j) (step j acc)) r);
          }

  pub fold_split : (a b k : ℕ) (acc : A) → fold_from P step (a + b) k acc ≡ fold_from P step b (k + a) (fold_from P step a k acc)
  unfolding fold_from
  fold_split zero b k acc = let e : zero + b ≡ b = omega arith in let f : k + zero ≡ k = omega arith in rw (e, f)
  fold_split (suc a) b k acc =
      let e : suc a + b ≡ suc (a + b) = omega arith in
      let f : k + suc a ≡ suc k + a = omega arith in
      rw (e, f) (fold_split a b (suc k) (pick (P k) (step k acc) acc))

  -- steps that change nothing
  pub fold_idle : (m k : ℕ) (acc : A) → ((v : ℕ) (x : A) → k ≤ v → v < k + m → step v x ≡ x) → fold_from P step m k acc ≡ acc
  unfolding fold_from pick
  fold_idle zero k acc h = refl
  fold_idle (suc m) k acc h =
      go (P k) (h k acc (omega arith) (omega arith)) (fold_idle m (suc k) acc (λ v x l g. h v x (omega arith) (omega arith)))
    where
      go : (b : Bool) → step k acc ≡ acc → fold_from P step m (suc k) acc ≡ acc → fold_from P step m (suc k) (pick b (step k acc) acc) ≡ acc
      go true e r = rw e r
      go false e r = r
