-- The sticky bit of what was cut off: 0 where that is 0, else 1. Assumes nothing.
use Rattle.std.specs.Prelude.{◌≡◌, refl, ℕ, zero, suc, ◌+◌, ◌*◌, ◌≤◌, ◌<◌}
use Rattle.std.proofs.Common.{ap, ◌∙◌, lt_irrefl, arith}

abbrev pub sticky_bit : ℕ → ℕ
sticky_bit zero = 0
sticky_bit (suc n) = 1

pub bit_le : (r : ℕ) → sticky_bit r ≤ 1
bit_le zero = omega arith
bit_le (suc r) = omega arith

pub bit_zero : (r : ℕ) → r ≡ 0 → sticky_bit r ≡ 0
bit_zero zero e = refl
bit_zero (suc r) e = omega arith

pub bit_pos : (r : ℕ) → 0 < r → sticky_bit r ≡ 1
bit_pos zero h = absurd (lt_irrefl 0 h)
bit_pos (suc r) h = refl

bit_none : (n : ℕ) → sticky_bit n ≡ 0 → n ≡ 0
bit_none zero h = refl
bit_none (suc n) h = omega arith

bit_same : (m n : ℕ) → (m ≡ 0 → n ≡ 0) → (n ≡ 0 → m ≡ 0) → sticky_bit m ≡ sticky_bit n
bit_same zero zero f g = refl
bit_same zero (suc n) f g = absurd (no n (f refl))
  where
    no : (n : ℕ) → suc n ≡ 0 → ⊥
    no n h = omega arith
bit_same (suc m) zero f g = absurd (no m (g refl))
  where
    no : (n : ℕ) → suc n ≡ 0 → ⊥
    no n h = omega arith
bit_same (suc m) (suc n) f g = refl

pub factor_zero : (a c : ℕ) → 0 < c → a * c ≡ 0 → a ≡ 0
factor_zero zero c C h = refl
factor_zero (suc a) c C h = omega arith

zero_times : (c : ℕ) → 0 * c ≡ 0
zero_times c = omega arith

-- of what was cut off in two parts
pub bit_two : (a b c : ℕ) → 0 < c → sticky_bit (a * c + b) ≡ sticky_bit (sticky_bit a + sticky_bit b)
bit_two a b c C =
    bit_same (a * c + b) (sticky_bit a + sticky_bit b)
    (λ h. let u : a ≡ 0 = factor_zero a c C (omega arith) in let v : b ≡ 0 = omega arith in omega (arith, bit_zero a u, bit_zero b v))
    (λ h. let u : a ≡ 0 = bit_none a (omega arith) in let v : b ≡ 0 = bit_none b (omega arith) in let w : a * c ≡ 0 = ap (λ (x : ℕ). x * c) u ∙ zero_times c in omega arith)

-- the unit does not matter
pub bit_times : (m c : ℕ) → 0 < c → sticky_bit (m * c) ≡ sticky_bit m
bit_times m c C = bit_same (m * c) m (factor_zero m c C) (λ h. ap (λ (x : ℕ). x * c) h ∙ zero_times c)
