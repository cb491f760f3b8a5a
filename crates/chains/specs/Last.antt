-- The last of the places that pass a test. Assumes nothing.
use Rattle.std.specs.Prelude.{◌≡◌, refl, Bool, true, false, cond, ℕ, zero, suc, ◌≤◌, ◌<◌}
use Rattle.std.proofs.Common.{arith}

-- one more than the last place below n that passes; 0 where none does
unfoldable pub last_of : (ℕ → Bool) → ℕ → ℕ
last_of P zero = zero
last_of P (suc n) = cond (P n) (suc n) (last_of P n)

pub last_in : (P : ℕ → Bool) (n : ℕ) → P n ≡ true → last_of P (suc n) ≡ suc n
unfolding last_of
last_in P n h = rw h

pub last_out : (P : ℕ → Bool) (n : ℕ) → P n ≡ false → last_of P (suc n) ≡ last_of P n
unfolding last_of
last_out P n h = rw h

pub last_le : (P : ℕ → Bool) (n : ℕ) → last_of P n ≤ n
unfolding last_of
last_le P zero = omega arith
last_le P (suc n) = go (P n) (last_le P n)
  where
    go : (b : Bool) → last_of P n ≤ n → cond b (suc n) (last_of P n) ≤ suc n
    go true h = omega arith
    go false h = omega arith

-- the last below it is itself
pub last_last : (P : ℕ → Bool) (n : ℕ) → last_of P (last_of P n) ≡ last_of P n
unfolding last_of
last_last P zero = refl
last_last P (suc n) = go (P n) refl (last_last P n)
  where
    go : (b : Bool) → P n ≡ b → last_of P (last_of P n) ≡ last_of P n →
        last_of P (cond b (suc n) (last_of P n)) ≡ cond b (suc n) (last_of P n)
    go true w h = rw w
    go false w h = h

pub last_passes : (P : ℕ → Bool) (n : ℕ) → last_of P (suc n) ≡ suc n → P n ≡ true
last_passes P n h = go (P n) refl
  where
    go : (b : Bool) → P n ≡ b → P n ≡ true
    go true w = w
    go false w = absurd (omega (arith, last_out P n w, last_le P n))

pub last_same : (P Q : ℕ → Bool) (n : ℕ) → ((k : ℕ) → k < n → P k ≡ Q k) → last_of P n ≡ last_of Q n
unfolding last_of
last_same P Q zero h = refl
last_same P Q (suc n) h = rw (h n (omega arith), last_same P Q n (λ k l. h k (omega arith)))
