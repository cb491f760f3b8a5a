-- `round` by inequalities: how many digits of a fraction a format drops, and what its significand then is. Assumes nothing.
use Rattle.std.specs.Prelude.{◌≡◌, ◌⊎◌, Bool}
use Rattle.std.proofs.Common.{sym, ap, ◌∙◌, inl, inr, le_trans, le_of_eq, lt_of_lt_of_le, lt_of_le_of_lt, lt_of_not-le, lt_irrefl, eq-zero-or-pos, mul_assoc, mul-pos, add-mul, one-mul, le-div_iff_mul-le, div-lt_iff_lt-mul, div-add-mod', arith, pow-add, pow_pos, pow_mono}
use Prim.Native.Nat.{ℕ, ◌+◌, ◌-◌, ◌*◌, ◌/◌, ◌%◌, ◌^◌, ◌≤◌, ◌<◌, compare, Ordering}
use Rattle.std.specs.Float.{Format}
use Rattle.std.specs.Float.Ieee.{prec, low, size, nearest, units, round}
use Rattle.std.specs.Float.Ieee.Digits.{size-lt, size-le, size_reaches}
use Rattle.std.specs.Float.Ieee.Fits.{core, round_is, two, two-le_pos, nearest-le}
use Rattle.std.specs.Float.Ieee.Nearest.{closest, nearest-ge}
use Rattle.rounding.specs.Compare.{same_order}

-- ---- powers of two and numbers of digits

pub pow_lt_back : (i p : ℕ) → 2 ^ i < 2 ^ p → i < p
pow_lt_back i p h = lt_of_not-le (λ (g : p ≤ i). lt_irrefl (2 ^ i) (lt_of_lt_of_le h (pow_mono g)))

pub size_gt : (n j : ℕ) → 2 ^ j ≤ n → j < size n
size_gt n j h = pow_lt_back j (size n) (lt_of_le_of_lt h (size-lt n))

-- ---- how many digits are dropped

-- k: n / c being in units of the smallest number of a format with p digits
abbrev pub Drops : ℕ → ℕ → ℕ → ℕ → Type 0
Drops p n c k = (n < 2 ^ (p + k) * c) × ((k ≡ 0) ⊎ (2 ^ (p - 1 + k) * c ≤ n))

pub size_drops : (p k z : ℕ) → 0 < p → z ≤ p + k → (k ≡ 0) ⊎ (p - 1 + k < z) → z - p ≡ k
size_drops p k z P h (inl e) = omega arith
size_drops p k z P h (inr g) = omega arith

drops_is : (p n c k : ℕ) → 0 < p → 0 < c → Drops p n c k → size (n / c) - p ≡ k
drops_is p n c k P C d = size_drops p k (size (n / c)) P (size-le (n / c) (p + k) ((div-lt_iff_lt-mul C).1 d.0)) (go d.1)
  where
    go : (k ≡ 0) ⊎ (2 ^ (p - 1 + k) * c ≤ n) → (k ≡ 0) ⊎ (p - 1 + k < size (n / c))
    go (inl e) = inl e
    go (inr h) = inr (size_gt (n / c) (p - 1 + k) ((le-div_iff_mul-le C).1 h))

-- of a whole number w that are those beyond its first p
pub size_under : (p w : ℕ) → w < 2 ^ (p + (size w - p))
size_under p w = lt_of_lt_of_le (size-lt w) (pow_mono (enough p (size w)))
  where
    enough : (p z : ℕ) → z ≤ p + (z - p)
    enough p z = omega arith

pub size_over : (p w : ℕ) → 0 < p → (size w - p ≡ 0) ⊎ (2 ^ (p - 1 + (size w - p)) ≤ w)
size_over p w P = go (eq-zero-or-pos (size w - p))
  where
    under : (p z : ℕ) → 0 < p → 0 < z - p → p - 1 + (z - p) < z
    under p z P h = omega arith

    go : (size w - p ≡ 0) ⊎ (0 < size w - p) → (size w - p ≡ 0) ⊎ (2 ^ (p - 1 + (size w - p)) ≤ w)
    go (inl e) = inl e
    go (inr h) = inr (size_reaches w (p - 1 + (size w - p)) (under p (size w) P h))

pub drops : (p n c : ℕ) → 0 < p → 0 < c → Drops p n c (size (n / c) - p)
drops p n c P C = ((div-lt_iff_lt-mul C).0 (size_under p (n / c)), go (size_over p (n / c) P))
  where
    go : (size (n / c) - p ≡ 0) ⊎ (2 ^ (p - 1 + (size (n / c) - p)) ≤ n / c) → (size (n / c) - p ≡ 0) ⊎ (2 ^ (p - 1 + (size (n / c) - p)) * c ≤ n)
    go (inl e) = inl e
    go (inr h) = inr ((le-div_iff_mul-le C).0 h)

pub round_at : (f : Format) (s : Bool) (num den k : ℕ) → 0 < den → Drops (prec f) (num * 2 ^ low f) den k
    → round f s num den ≡ units f s (closest (num * 2 ^ low f) (den * 2 ^ k)) k
round_at f s num den k D d =
    round_is f s num den ∙ ap (λ (x : ℕ). core f s (num * 2 ^ low f) den x) (drops_is (prec f) (num * 2 ^ low f) den k (two-le_pos (prec f) (two f)) D d)

-- ---- the significand

-- the nearest whole number asks on which side of the middle a fraction lies
pub closest_by : (a b : ℕ) → closest a b ≡ nearest (a / b) (compare (2 * a) ((2 * (a / b) + 1) * b))
closest_by a b =
    let q = a / b in
    let e : q * b + a % b ≡ a = div-add-mod' a b in
    let g : (2 * q + 1) * b ≡ 2 * (q * b) + b = add-mul (2 * q) 1 b ∙ ap (λ (x : ℕ). x + 1 * b) (mul_assoc 2 q b) ∙ ap (λ (x : ℕ). 2 * (q * b) + x) (one-mul b) in
    ap (λ (o : Ordering). nearest q o) (same_order (a % b * 2) b (2 * a) ((2 * q + 1) * b) (λ h. omega arith) (λ h. omega arith) (λ h. omega arith))

-- y * E * L / (2 * J * K) is y / (2 * W), multiplied out
pub regroup : (y E L W J K : ℕ) → J * K ≡ E * L * W → y * E * L * (2 * W) ≡ y * (2 * J * K)
regroup y E L W J K h = left y E L W ∙ ap (λ (x : ℕ). y * (2 * x)) (sym h) ∙ ap (λ (x : ℕ). y * x) (sym (mul_assoc 2 J K))
  where
    left : (y e l w : ℕ) → y * e * l * (2 * w) ≡ y * (2 * (e * l * w))
    left y e l w = omega arith

turn : (a b c : ℕ) → a * (b * c) ≡ a * c * b
turn a b c = omega arith

-- it is at most 2 ^ p, and at least 2 ^ (p - 1) where digits were dropped
module _ (p n c k : ℕ) (C : 0 < c) (d : Drops p n c k) where
  pub significand_most : closest n (c * 2 ^ k) ≤ 2 ^ p
  significand_most =
      le_trans (nearest-le (n / (c * 2 ^ k)) (compare (n % (c * 2 ^ k) * 2) (c * 2 ^ k)))
      ((div-lt_iff_lt-mul (mul-pos C (pow_pos k))).1 (lt_of_lt_of_le d.0 (le_of_eq (ap (λ (x : ℕ). x * c) (pow-add 2 p k) ∙ sym (turn (2 ^ p) c (2 ^ k))))))

  pub significand_least : (k ≡ 0) ⊎ (2 ^ (p - 1) ≤ closest n (c * 2 ^ k))
  significand_least = go d.1
    where
      go : (k ≡ 0) ⊎ (2 ^ (p - 1 + k) * c ≤ n) → (k ≡ 0) ⊎ (2 ^ (p - 1) ≤ closest n (c * 2 ^ k))
      go (inl z) = inl z
      go (inr h) =
          inr (le_trans ((le-div_iff_mul-le (mul-pos C (pow_pos k))).1 (le_trans (le_of_eq (turn (2 ^ (p - 1)) c (2 ^ k) ∙ ap (λ (x : ℕ). x * c) (sym (pow-add 2 (p - 1) k)))) h))
          (nearest-ge (n / (c * 2 ^ k)) (compare (n % (c * 2 ^ k) * 2) (c * 2 ^ k))))
