-- The best of a set of places: of a union it is the better of the two bests, apart or not. Assumes nothing.
use Rattle.std.specs.Prelude.{◌≡◌, Bool, true, cond, ◌||◌, T}
use Rattle.std.proofs.Math.Path.{refl, sym, ap}
use Rattle.std.proofs.Common.{◌∙◌, arith}
use Rattle.std.proofs.Math.Bool.{false}
use Prim.Native.Nat.{ℕ, zero, suc, ◌<◌}
use Rattle.chains.specs.Hits.{Hit, miss, hit, better, better_miss, better_assoc, better_comm, better_same}

-- of the places below n that pass a test
unfoldable pub best_of : (ℕ → Bool) → (ℕ → ℕ) → ℕ → Hit
best_of P key zero = miss
best_of P key (suc n) = cond (P n) (better (hit n (key n)) (best_of P key n)) (best_of P key n)

-- tests that pass alike
pub same_test : (a b : Bool) → (T a → T b) → (T b → T a) → a ≡ b
same_test true true f g = refl
same_test true false f g = absurd (f tt)
same_test false true f g = absurd (g tt)
same_test false false f g = refl

module _ (key : ℕ → ℕ) where
  pub best_in : (P : ℕ → Bool) (n : ℕ) → P n ≡ true → best_of P key (suc n) ≡ better (hit n (key n)) (best_of P key n)
  unfolding best_of
  best_in P n h = rw h

  pub best_out : (P : ℕ → Bool) (n : ℕ) → P n ≡ false → best_of P key (suc n) ≡ best_of P key n
  unfolding best_of
  best_out P n h = rw h

  pub best_same : (P Q : ℕ → Bool) (n : ℕ) → ((k : ℕ) → k < n → P k ≡ Q k) → best_of P key n ≡ best_of Q key n
  unfolding best_of
  best_same P Q zero h = refl
  best_same P Q (suc n) h = rw (h n (omega arith), best_same P Q n (λ k l. h k (omega arith)))

  pub best_none : (P : ℕ → Bool) (n : ℕ) → ((k : ℕ) → k < n → T (P k) → ⊥) → best_of P key n ≡ miss
  unfolding best_of
  best_none P zero h = refl
  best_none P (suc n) h = rw (same_test (P n) false (h n (omega arith)) absurd) (best_none P n (λ k l. h k (omega arith)))

  pub best_or : (P Q R : ℕ → Bool) (n : ℕ) → ((k : ℕ) → k < n → P k ≡ (Q k || R k)) →
      best_of P key n ≡ better (best_of Q key n) (best_of R key n)
  unfolding best_of
  best_or P Q R zero h = sym (better_miss miss)
  best_or P Q R (suc n) h =
      rw (h n (omega arith), best_or P Q R n (λ k l. h k (omega arith)))
      (go (Q n) (R n) (hit n (key n)) (best_of Q key n) (best_of R key n))
    where
      swap : (x a b : Hit) → better a (better x b) ≡ better x (better a b)
      swap x a b = sym (better_assoc a x b) ∙ ap (λ (h : Hit). better h b) (better_comm a x) ∙ better_assoc x a b

      go : (q r : Bool) (x a b : Hit) →
          cond (q || r) (better x (better a b)) (better a b) ≡ better (cond q (better x a) a) (cond r (better x b) b)
      go true true x a b =
          sym
          (better_assoc x a (better x b) ∙ ap (better x) (swap x a b) ∙ sym (better_assoc x x (better a b))
          ∙ ap (λ (h : Hit). better h (better a b)) (better_same x))
      go true false x a b = sym (better_assoc x a b)
      go false true x a b = sym (swap x a b)
      go false false x a b = refl
