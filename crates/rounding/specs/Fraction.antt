-- A fraction n / c as the sticky law sees it: how it compares with whole numbers, and that `round` rounds it by those comparisons. Assumes nothing.
use Rattle.std.specs.Prelude.{◌≡◌, ◌⊎◌, Bool, Float}
use Rattle.std.proofs.Common.{sym, ◌∙◌, le_trans, le_of_eq, lt_of_lt_of_le, lt_of_le_of_lt, eq-zero-or-pos, mul_assoc, mul-le-mul_right, lt_of_mul-lt-mul_right, le_of_mul-le-mul_right, div-mul-le_self, div-add-mod', le-div_iff_mul-le, div-lt_iff_lt-mul, pow-add, pow_pos}
use Rattle.std.proofs.Math.Path.{ap}
use Rattle.std.proofs.Math.Logic.{inl, inr}
use Prim.Native.Nat.{ℕ, suc, ◌+◌, ◌-◌, ◌*◌, ◌/◌, ◌%◌, ◌^◌, ◌≤◌, ◌<◌, compare, Ordering}
use Rattle.std.proofs.Math.Nat.{mul-pos, pow-succ'}
use native.Mathlib.Omega.{arith}
use Rattle.std.specs.Float.{Format}
use Rattle.std.specs.Float.Ieee.{prec, low, size, nearest, units, round}
use Rattle.std.specs.Float.Ieee.Fits.{round_is, two, two-le_pos}
use Rattle.std.specs.Float.Ieee.Nearest.{closest, closest_same}
use Rattle.rounding.specs.Compare.{same_order, is_lt, lt_of, double_order}
use Rattle.rounding.specs.StickyBit.{sticky_bit, bit_le, bit_zero, bit_pos}
use Rattle.rounding.specs.Significand.{Drops, drops, pow_lt_back, closest_by}
use Rattle.rounding.specs.Sticky.{Rounds}

-- ---- n / c and its whole part with the sticky bit lie on the same side of every whole number m

-- in halves
abbrev pub with_sticky : ℕ → ℕ → ℕ
with_sticky n c = 2 * (n / c) + sticky_bit (n % c)

with_lt : (n c m : ℕ) → 0 < c → n < m * c → with_sticky n c < 2 * m
with_lt n c m C h = let a : n / c < m = (div-lt_iff_lt-mul C).1 h in omega (arith, bit_le (n % c))

with_eq : (n c m : ℕ) → 0 < c → n ≡ m * c → with_sticky n c ≡ 2 * m
with_eq n c m C h =
    let a : m ≤ n / c = (le-div_iff_mul-le C).1 (le_of_eq (sym h)) in
    let b : n / c * c ≤ n = div-mul-le_self n c in
    let d : n / c ≤ m = le_of_mul-le-mul_right (le_trans b (le_of_eq h)) C in
    let e : n / c ≡ m = omega arith in
    let g : m * c + n % c ≡ n = ap (λ (x : ℕ). x * c + n % c) (sym e) ∙ div-add-mod' n c in
    omega (arith, bit_zero (n % c) (omega arith))

with_gt : (n c m : ℕ) → 0 < c → m * c < n → 2 * m < with_sticky n c
with_gt n c m C h = go (eq-zero-or-pos (n / c - m))
  where
    a : m ≤ n / c
    a = (le-div_iff_mul-le C).1 (omega arith)

    go : (n / c - m ≡ 0) ⊎ (0 < n / c - m) → 2 * m < with_sticky n c
    go (inr p) = omega (arith, a)
    go (inl p) =
        let e : n / c ≡ m = omega (arith, a) in
        let g : m * c + n % c ≡ n = ap (λ (x : ℕ). x * c + n % c) (sym e) ∙ div-add-mod' n c in
        omega (arith, bit_pos (n % c) (omega arith))

pub fraction_order : (n c m : ℕ) → 0 < c → compare n (m * c) ≡ compare (with_sticky n c) (2 * m)
fraction_order n c m C = same_order n (m * c) (with_sticky n c) (2 * m) (with_lt n c m C) (with_eq n c m C) (with_gt n c m C)

-- ---- `round` goes by these comparisons, where the whole part of n / 2 ^ e has more digits than the format keeps

module _ (f : Format) (n e j k : ℕ) (many : 2 ^ prec f ≤ n / 2 ^ e) (d : Drops (prec f) (n * 2 ^ low f) (2 ^ j) k) where
  w : ℕ
  w = j + k - low f - e - 1

  ulp : j + k ≡ e + low f + suc w
  unfolding w
  ulp = gap (prec f) e (low f) k j far
    where
      gap : (p e l k j : ℕ) → p + e + l < p + k + j → j + k ≡ e + l + suc (j + k - l - e - 1)
      gap p e l k j h = omega arith

      far : prec f + e + low f < prec f + k + j
      far =
          pow_lt_back (prec f + e + low f) (prec f + k + j)
          (lt_of_le_of_lt (le_of_eq (pow-add 2 (prec f + e) (low f) ∙ ap (λ (x : ℕ). x * 2 ^ low f) (pow-add 2 (prec f) e)))
          (lt_of_le_of_lt (mul-le-mul_right (2 ^ low f) ((le-div_iff_mul-le (pow_pos e)).0 many))
          (lt_of_lt_of_le d.0 (le_of_eq (sym (pow-add 2 (prec f + k) j))))))

  scale : 2 ^ j * 2 ^ k ≡ 2 ^ e * 2 ^ low f * 2 ^ suc w
  scale = sym (pow-add 2 j k) ∙ ap (λ (x : ℕ). 2 ^ x) ulp ∙ pow-add 2 (e + low f) (suc w) ∙ ap (λ (x : ℕ). x * 2 ^ suc w) (pow-add 2 e (low f))

  u : ℕ
  u = 2 ^ suc w * 2 ^ e

  u_pos : 0 < u
  unfolding u
  u_pos = mul-pos (pow_pos (suc w)) (pow_pos e)

  -- a power of two ulps, in n and in the format's smallest numbers
  seen : (i : ℕ) → 2 ^ (i + k) * 2 ^ j ≡ 2 ^ i * u * 2 ^ low f
  unfolding u
  seen i = ap (λ (x : ℕ). x * 2 ^ j) (pow-add 2 i k) ∙ turn (2 ^ i) (2 ^ k) (2 ^ j) ∙ ap (λ (x : ℕ). 2 ^ i * x) scale ∙ back (2 ^ i) (2 ^ e) (2 ^ low f) (2 ^ suc w)
    where
      turn : (i k j : ℕ) → i * k * j ≡ i * (j * k)
      turn i k j = omega arith

      back : (i e l w : ℕ) → i * (e * l * w) ≡ i * (w * e) * l
      back i e l w = omega arith

  q : ℕ
  q = n / u

  q_most : q < 2 ^ prec f
  unfolding q
  q_most = (div-lt_iff_lt-mul u_pos).1 (lt_of_mul-lt-mul_right (2 ^ low f) (lt_of_lt_of_le d.0 (le_of_eq (seen (prec f)))))

  q_least : (k ≡ 0) ⊎ (2 ^ (prec f - 1) ≤ q)
  unfolding q
  q_least = go d.1
    where
      go : (k ≡ 0) ⊎ (2 ^ (prec f - 1 + k) * 2 ^ j ≤ n * 2 ^ low f) → (k ≡ 0) ⊎ (2 ^ (prec f - 1) ≤ n / u)
      go (inl z) = inl z
      go (inr h) = inr ((le-div_iff_mul-le u_pos).1 (le_of_mul-le-mul_right (le_trans (le_of_eq (sym (seen (prec f - 1)))) h) (pow_pos (low f))))

  reached : compare n (q * 2 ^ suc w * 2 ^ e) ≡ Ordering.lt → ⊥
  unfolding q u
  reached h = no n (q * 2 ^ suc w * 2 ^ e) (lt_of n (q * 2 ^ suc w * 2 ^ e) h) (le_trans (le_of_eq (mul_assoc q (2 ^ suc w) (2 ^ e))) (div-mul-le_self n u))
    where
      no : (a b : ℕ) → a < b → b ≤ a → ⊥
      no a b h g = omega arith

  next : compare n (suc q * 2 ^ suc w * 2 ^ e) ≡ Ordering.lt
  unfolding q u
  next = is_lt n (suc q * 2 ^ suc w * 2 ^ e) (lt_of_lt_of_le ((div-lt_iff_lt-mul u_pos).0 (self (n / u))) (le_of_eq (sym (mul_assoc (suc (n / u)) (2 ^ suc w) (2 ^ e)))))
    where
      self : (a : ℕ) → a < suc a
      self a = omega arith

  value : closest (n * 2 ^ low f) (2 ^ j * 2 ^ k) ≡ nearest q (compare n ((2 * q + 1) * 2 ^ w * 2 ^ e))
  unfolding q u
  value =
      closest_same (n * 2 ^ low f) (2 ^ j * 2 ^ k) n u (mul-pos (pow_pos j) (pow_pos k)) u_pos
      (cross n (2 ^ low f) (2 ^ suc w) (2 ^ e) (2 ^ j * 2 ^ k) scale)
      ∙ closest_by n u
      ∙ ap (λ (x : ℕ). nearest q (compare (2 * n) ((2 * q + 1) * (x * 2 ^ e)))) (pow-succ' 2 w)
      ∙ ap (λ (x : ℕ). nearest q (compare (2 * n) x)) (middle (2 * q + 1) (2 ^ w) (2 ^ e))
      ∙ ap (λ (o : Ordering). nearest q o) (double_order n ((2 * q + 1) * 2 ^ w * 2 ^ e))
    where
      cross : (n l v e c : ℕ) → c ≡ e * l * v → n * l * (v * e) ≡ n * c
      cross n l v e c h = turn n l v e ∙ ap (λ (x : ℕ). n * x) (sym h)
        where
          turn : (n l v e : ℕ) → n * l * (v * e) ≡ n * (e * l * v)
          turn n l v e = omega arith

      middle : (a b c : ℕ) → a * (2 * b * c) ≡ 2 * (a * b * c)
      middle a b c = omega arith

  rounds : (s : Bool) (v : Float) → v ≡ units f s (closest (n * 2 ^ low f) (2 ^ j * 2 ^ k)) k → Rounds f s (λ (m : ℕ). compare n (m * 2 ^ e)) e j v
  rounds s v h =
      record {
        exponent = k;
        dropped = w;
        significand = q;
        ulp = ulp;
        reached = reached;
        next = next;
        most = q_most;
        least = q_least;
        value = h ∙ ap (λ (x : ℕ). units f s x k) value;
      }

pub fraction_rounds : (f : Format) (s : Bool) (n e j : ℕ) → 2 ^ prec f ≤ n / 2 ^ e → Rounds f s (λ (m : ℕ). compare n (m * 2 ^ e)) e j (round f s n (2 ^ j))
fraction_rounds f s n e j many =
    rounds f n e j (size (n * 2 ^ low f / 2 ^ j) - prec f) many (drops (prec f) (n * 2 ^ low f) (2 ^ j) (two-le_pos (prec f) (two f)) (pow_pos j)) s (round f s n (2 ^ j)) (round_is f s n (2 ^ j))
