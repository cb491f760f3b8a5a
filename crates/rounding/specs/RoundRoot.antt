-- A square root as the sticky law sees it: `round_root` goes by how the root of X compares with whole numbers, where it has more digits before its point
-- than the format keeps. Assumes nothing.
use Rattle.std.specs.Prelude.{◌≡◌, refl, ◌⊎◌, Float}
use Rattle.std.proofs.Math.Path.{sym, ap, ap₂}
use Rattle.std.proofs.Common.{◌∙◌, le_trans, le_of_eq, lt_of_lt_of_le, lt_of_le_of_lt, zero-lt-suc, mul_left_comm, mul-le-mul, mul-le-mul_right, mul-lt-mul_of_pos_right, lt_of_mul-lt-mul_right, le_of_mul-le-mul_right, le-div_iff_mul-le, div-lt_iff_lt-mul, div-mul-le_self, two-mul, pow_pos}
use Rattle.std.proofs.Math.Logic.{inl, inr}
use Prim.Native.Nat.{ℕ, suc, ◌+◌, ◌-◌, ◌*◌, ◌/◌, ◌^◌, ◌≤◌, ◌<◌, compare, Ordering}
use Rattle.std.proofs.Math.Nat.{mul_comm, mul_assoc, mul-pos, pow-succ'}
use native.Mathlib.Omega.{arith}
use Rattle.std.proofs.Math.Bool.{false}
use Rattle.std.proofs.Math.Pow.{pow-add}
use Rattle.std.specs.Float.{Format}
use Rattle.std.specs.Float.Ieee.{prec, low, size, nearest, units}
use Rattle.std.specs.Float.Ieee.Fits.{two, two-le_pos}
use Rattle.rules.specs.Distances.{floor_root, round_root}
use Rattle.rounding.specs.Compare.{is_lt, lt_of, times_order}
use Rattle.rounding.specs.Significand.{pow_lt_back, size_under, size_over}
use Rattle.rounding.specs.FloorRoot.{IsRoot, floor_root_is, sq_lt_back}
use Rattle.rounding.specs.Sticky.{Rounds}

-- N / den is the number whose root is asked, X * L * L / (J * J) the same number, w the whole part of the root, k the digits of it that are dropped
module _ (f : Format) (i j k N den X w : ℕ) (D : 0 < den) (same : N * (2 ^ j * 2 ^ j) ≡ X * (2 ^ (i + low f) * 2 ^ (i + low f)) * den)
    (many : 2 ^ prec f * 2 ^ prec f ≤ X) (isw : IsRoot (N / den) w) (wlt : w < 2 ^ (prec f + k)) (wge : (k ≡ 0) ⊎ (2 ^ (prec f - 1 + k) ≤ w)) where
  J : ℕ
  J = 2 ^ j

  L : ℕ
  L = 2 ^ (i + low f)

  v : ℕ
  v = j + k - (i + low f) - 1

  W : ℕ
  W = 2 ^ suc v

  JJ : 0 < J * J
  unfolding J
  JJ = mul-pos (pow_pos j) (pow_pos j)

  LL : 0 < L * L
  unfolding L
  LL = mul-pos (pow_pos (i + low f)) (pow_pos (i + low f))

  link : N * (J * J) ≡ X * (L * L) * den
  unfolding J L
  link = same

  square : (c : ℕ) → c * c * den * (J * J) ≡ c * J * (c * J) * den
  square c = simp (mul_assoc, mul_comm, mul_left_comm)

  below : (c : ℕ) → c * c * den ≤ N → c * J * (c * J) ≤ X * (L * L)
  below c h = le_of_mul-le-mul_right (le_trans (le_of_eq (sym (square c))) (le_trans (mul-le-mul_right (J * J) h) (le_of_eq link))) D

  above : (c : ℕ) → N < c * c * den → X * (L * L) < c * J * (c * J)
  above c h = lt_of_mul-lt-mul_right den (lt_of_le_of_lt (le_of_eq (sym link)) (lt_of_lt_of_le (mul-lt-mul_of_pos_right h JJ) (le_of_eq (square c))))

  -- from the whole part of the root
  above_root : (c : ℕ) → w < c → X * (L * L) < c * J * (c * J)
  above_root c h = above c ((div-lt_iff_lt-mul D).0 (lt_of_lt_of_le isw.1 (mul-le-mul (next w c h) (next w c h))))
    where
      next : (w c : ℕ) → w < c → w + 1 ≤ c
      next w c h = omega arith

  below_root : (c : ℕ) → c ≤ w → c * J * (c * J) ≤ X * (L * L)
  below_root c h = below c ((le-div_iff_mul-le D).0 (le_trans (mul-le-mul h h) isw.0))

  ulp : j + k ≡ i + low f + suc v
  unfolding L J v
  ulp = gap (prec f) (i + low f) k j far
    where
      gap : (p g k j : ℕ) → p + g < p + k + j → j + k ≡ g + suc (j + k - g - 1)
      gap p g k j h = omega arith

      squares : (p l : ℕ) → p * l * (p * l) ≡ p * p * (l * l)
      squares p l = omega arith

      far : prec f + (i + low f) < prec f + k + j
      far =
          pow_lt_back (prec f + (i + low f)) (prec f + k + j)
          (lt_of_le_of_lt (le_of_eq (pow-add 2 (prec f) (i + low f)))
          (lt_of_lt_of_le (sq_lt_back (2 ^ prec f * L) (2 ^ (prec f + k) * J) (lt_of_le_of_lt (le_trans (le_of_eq (squares (2 ^ prec f) L)) (mul-le-mul_right (L * L) many)) (above_root (2 ^ (prec f + k)) wlt)))
          (le_of_eq (sym (pow-add 2 (prec f + k) j)))))

  scale : J * 2 ^ k ≡ L * W
  unfolding L J W
  scale = sym (pow-add 2 j k) ∙ ap (λ (x : ℕ). 2 ^ x) ulp ∙ pow-add 2 (i + low f) (suc v)

  -- a multiple of the ulp, in the root and in the format's smallest numbers
  seen : (a : ℕ) → a * 2 ^ k * J * (a * 2 ^ k * J) ≡ a * W * (a * W) * (L * L)
  seen a = ap (λ (x : ℕ). x * x) (turn a (2 ^ k) J ∙ ap (λ (x : ℕ). a * x) scale) ∙ back a L W
    where
      turn : (a k j : ℕ) → a * k * j ≡ a * (j * k)
      turn a k j = omega arith

      back : (a l w : ℕ) → a * (l * w) * (a * (l * w)) ≡ a * w * (a * w) * (l * l)
      back a l w = omega arith

  q : ℕ
  q = w / 2 ^ k

  reached : compare X (q * W * (q * W)) ≡ Ordering.lt → ⊥
  unfolding q
  reached h =
      no X (q * W * (q * W)) (lt_of X (q * W * (q * W)) h)
      (le_of_mul-le-mul_right (le_trans (le_of_eq (sym (seen q))) (below_root (q * 2 ^ k) (div-mul-le_self w (2 ^ k)))) LL)
    where
      no : (a b : ℕ) → a < b → b ≤ a → ⊥
      no a b h g = omega arith

  next : compare X (suc q * W * (suc q * W)) ≡ Ordering.lt
  unfolding q
  next =
      is_lt X (suc q * W * (suc q * W))
      (lt_of_mul-lt-mul_right (L * L) (lt_of_lt_of_le (above_root (suc q * 2 ^ k) ((div-lt_iff_lt-mul (pow_pos k)).0 (self (w / 2 ^ k)))) (le_of_eq (seen (suc q)))))
    where
      self : (a : ℕ) → a < suc a
      self a = omega arith

  most : q < 2 ^ prec f
  unfolding q
  most = (div-lt_iff_lt-mul (pow_pos k)).1 (lt_of_lt_of_le wlt (le_of_eq (pow-add 2 (prec f) k)))

  least : (k ≡ 0) ⊎ (2 ^ (prec f - 1) ≤ q)
  unfolding q
  least = go wge
    where
      go : (k ≡ 0) ⊎ (2 ^ (prec f - 1 + k) ≤ w) → (k ≡ 0) ⊎ (2 ^ (prec f - 1) ≤ w / 2 ^ k)
      go (inl z) = inl z
      go (inr h) = inr ((le-div_iff_mul-le (pow_pos k)).1 (le_trans (le_of_eq (sym (pow-add 2 (prec f - 1) k))) h))

  -- four times N / den and the square of twice the middle
  middle : compare (4 * N) ((2 * q + 1) * 2 ^ k * ((2 * q + 1) * 2 ^ k) * den) ≡ compare X ((2 * q + 1) * 2 ^ v * ((2 * q + 1) * 2 ^ v))
  unfolding W
  middle =
      let c = 2 * q + 1 in
      let b = 4 * (L * L) * den in
      let e1 : 4 * N * (J * J) ≡ X * b = mul_assoc 4 N (J * J) ∙ ap (λ (x : ℕ). 4 * x) link ∙ simp (mul_assoc, mul_comm, mul_left_comm) in
      let e2 : c * 2 ^ k * (c * 2 ^ k) * den * (J * J) ≡ c * 2 ^ v * (c * 2 ^ v) * b = square (c * 2 ^ k) ∙ ap (λ (x : ℕ). x * den) (seen c) ∙ ap (λ (x : ℕ). c * x * (c * x) * (L * L) * den) (pow-succ' 2 v) ∙ fours c (2 ^ v) (L * L) den in
      times_order (4 * N) (c * 2 ^ k * (c * 2 ^ k) * den) (J * J) JJ
      ∙ ap₂ (λ (x z : ℕ). compare x z) e1 e2
      ∙ sym (times_order X (c * 2 ^ v * (c * 2 ^ v)) b (mul-pos (mul-pos (zero-lt-suc 3) LL) D))
    where
      fours : (c h A d : ℕ) → c * (2 * h) * (c * (2 * h)) * A * d ≡ c * h * (c * h) * (4 * A * d)
      fours c h A d = omega arith

  rounds : (r : Float) → r ≡ units f false (nearest (w / 2 ^ k) (compare (4 * N) ((2 * (w / 2 ^ k) + 1) * 2 ^ k * ((2 * (w / 2 ^ k) + 1) * 2 ^ k) * den))) k → Rounds f false (λ (m : ℕ). compare X (m * m)) i j r
  unfolding q W
  rounds r h =
      record {
        exponent = k;
        dropped = v;
        significand = q;
        ulp = ulp;
        reached = reached;
        next = next;
        most = most;
        least = least;
        value = h ∙ ap (λ (o : Ordering). units f false (nearest q o) k) middle;
      }

opened : (f : Format) (num den : ℕ)
    → round_root f num den
    ≡ (let n = num * 2 ^ (2 * low f) in
    let w = floor_root (n / den) in
    let k = size w - prec f in
    units f false (nearest (w / 2 ^ k) (compare (4 * n) ((2 * (w / 2 ^ k) + 1) * 2 ^ k * ((2 * (w / 2 ^ k) + 1) * 2 ^ k) * den))) k)
unfolding round_root
opened f num den = refl

-- num / den is X * 2 ^ (2 i) / 2 ^ (2 j)
pub root_rounds : (f : Format) (num den X i j : ℕ) → 0 < den → num * (2 ^ j * 2 ^ j) ≡ X * (2 ^ i * 2 ^ i) * den → 2 ^ prec f * 2 ^ prec f ≤ X
    → Rounds f false (λ (m : ℕ). compare X (m * m)) i j (round_root f num den)
root_rounds f num den X i j D h many =
    let l = low f in
    let n = num * 2 ^ (2 * l) in
    let w = floor_root (n / den) in
    let same : n * (2 ^ j * 2 ^ j) ≡ X * (2 ^ (i + l) * 2 ^ (i + l)) * den = scaled num X (2 ^ j * 2 ^ j) (2 ^ i) (2 ^ l) (2 ^ (i + l)) (2 ^ (2 * l)) den (pow-add 2 i l) (ap (λ (x : ℕ). 2 ^ x) (two-mul l) ∙ pow-add 2 l l) h in
    rounds f i j (size w - prec f) n den X w D same many (floor_root_is (n / den)) (size_under (prec f) w) (size_over (prec f) w (two-le_pos (prec f) (two f))) (round_root f num den) (opened f num den)
  where
    scaled : (a x b c l g m d : ℕ) → g ≡ c * l → m ≡ l * l → a * b ≡ x * (c * c) * d → a * m * b ≡ x * (g * g) * d
    scaled a x b c l g m d G E h =
        let u : a * (l * l) * b ≡ a * b * (l * l) = simp (mul_assoc, mul_comm, mul_left_comm) in
        let v : x * (c * c) * d * (l * l) ≡ x * (c * l * (c * l)) * d = simp (mul_assoc, mul_comm, mul_left_comm) in
        ap (λ (z : ℕ). a * z * b) E ∙ u ∙ ap (λ (z : ℕ). z * (l * l)) h ∙ v ∙ ap (λ (z : ℕ). x * (z * z) * d) (sym G)
