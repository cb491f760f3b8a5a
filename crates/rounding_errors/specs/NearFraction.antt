-- How near a rounded fraction is to the fraction, over the format. Assumes nothing.
-- `grid f a c` is a / c rounded, in units of the format's smallest value; a / c itself is a * 2 ^ low f / c units.
use Rattle.std.specs.Prelude.{◌≡◌}
use Rattle.std.proofs.Common.{sym, ap, ◌∙◌, subst, le_trans, le_of_eq, mul_comm, mul_assoc, mul_right_comm, mul-pos, mul-lt-mul_of_pos_right, mul-le-mul_right, le_of_mul-le-mul_right, div-lt_iff_lt-mul, le-div_iff_mul-le, arith, pow-add, pow_pos, pow_mono}
use Prim.Native.Nat.{ℕ, suc, ◌+◌, ◌-◌, ◌*◌, ◌/◌, ◌%◌, ◌^◌, ◌≤◌, ◌<◌, compare}
use Rattle.std.proofs.Math.Nat.{pow-succ'}
use Rattle.std.proofs.Math.Decide.{dec_lt}
use Rattle.std.specs.Float.{Format}
use Rattle.std.specs.Float.Ieee.{prec, low, size}
use Rattle.std.specs.Float.Ieee.Digits.{size-le, size_reaches}
use Rattle.std.specs.Float.Ieee.Fits.{two, two-le_pos}
use Rattle.std.specs.Float.Ieee.Nearest.{closest, nearest-ge}
use Rattle.std.specs.Float.Ieee.Order.{drop, kept}
use Rattle.std.specs.Float.Ieee.Scale.{grid, normal_of_fraction}
use Rattle.rounding_errors.specs.Half.{closest_near}

-- a ≤ b * (1 + i / K)
abbrev pub Most : ℕ → ℕ → ℕ → ℕ → Type 0
Most K i a b = a * K ≤ b * (K + i)

pub most_cancel : (K i a b c : ℕ) → 0 < c → Most K i (a * c) (b * c) → Most K i a b
most_cancel K i a b c C h = le_of_mul-le-mul_right (le_trans (le_of_eq (mul_right_comm a K c)) (le_trans h (le_of_eq (mul_right_comm b c (K + i))))) C

-- each is at most the other's (1 + 2 ^ -prec): a result that is w, and an exact result that is d
pub record Near (f : Format) (w d : ℕ) : Type 0 where
  pub over : Most (2 ^ prec f) 1 w d
  pub under : Most (2 ^ prec f) 1 d w

-- ---- the normal range: n / c units have all the digits that the format keeps

-- then 2 ^ (prec - 1) of the result's own unit are at most n / c
reaches : (p n c : ℕ) → 0 < p → 0 < c → p ≤ size (n / c) → 2 ^ (p - 1) * (c * 2 ^ drop p n c) ≤ n
reaches p n c P C N =
    let z = size (n / c) in
    le_trans
    (le_of_eq (sym (ap (λ (x : ℕ). x * c) (pow-add 2 (p - 1) (z - p)) ∙ mul_assoc (2 ^ (p - 1)) (2 ^ (z - p)) c ∙ ap (λ (x : ℕ). 2 ^ (p - 1) * x) (mul_comm (2 ^ (z - p)) c))))
    ((le-div_iff_mul-le C).0 (size_reaches (n / c) (p - 1 + (z - p)) (top p z P N)))
  where
    top : (p z : ℕ) → 0 < p → p ≤ z → p - 1 + (z - p) < z
    top p z P h = omega arith

-- and the result is at least as much
reached : (p n c : ℕ) → 0 < p → 0 < c → p ≤ size (n / c) → 2 ^ (p - 1) ≤ kept p n c
reached p n c P C N =
    let u = c * 2 ^ drop p n c in
    let U : 0 < u = mul-pos C (pow_pos (drop p n c)) in
    le_trans ((le-div_iff_mul-le U).1 (reaches p n c P C N)) (nearest-ge (n / u) (compare (n % u * 2) u))

twice : (p : ℕ) → 0 < p → 2 ^ p ≡ 2 * 2 ^ (p - 1)
twice p h = let e : p ≡ suc (p - 1) = omega arith in ap (λ (x : ℕ). 2 ^ x) e ∙ pow-succ' 2 (p - 1)

-- r and n differ by at most u / 2, and H * u is at most the other
within : (r u n H P : ℕ) → r * 2 ≤ n * 2 + u → P ≡ 2 * H → H * u ≤ n → Most P 1 r n
within r u n H P h e g = omega (arith, mul-le-mul_right H h, ap (λ (x : ℕ). x * r) e, ap (λ (x : ℕ). x * n) e)

flat : (q k c : ℕ) → q * k * c ≡ q * (c * k)
flat q k c = omega arith

-- In the normal range the result and the fraction are at most each other's (1 + 2 ^ -prec).
pub grid_near : (f : Format) (a c : ℕ) → 0 < c → 2 ^ (prec f - 1) * c ≤ a * 2 ^ low f → Near f (grid f a c * c) (a * 2 ^ low f)
grid_near f a c C h =
    let p = prec f in
    let P : 0 < p = two-le_pos p (two f) in
    let N = normal_of_fraction f a c C h in
    let n = a * 2 ^ low f in
    let k = drop p n c in
    let u = c * 2 ^ k in
    let b = closest_near n u (mul-pos C (pow_pos k)) in
    rw (flat (kept p n c) (2 ^ k) c)
    record {
      over = within (kept p n c * u) u n (2 ^ (p - 1)) (2 ^ p) b.over (twice p P) (reaches p n c P C N);
      under = within n u (kept p n c * u) (2 ^ (p - 1)) (2 ^ p) b.under (twice p P) (mul-le-mul_right u (reached p n c P C N));
    }

-- ---- a whole number of units: where it has fewer digits than the format keeps it is not changed

few : (p n c : ℕ) → 0 < c → n < 2 ^ p * c → drop p n c ≡ 0
few p n c C h = let z = size-le (n / c) p ((div-lt_iff_lt-mul C).1 h) in omega arith

same : (w n l : ℕ) → 0 < l → w * (l * 1) * 2 ≤ n * l * 2 + l * 1 → n * l * 2 ≤ w * (l * 1) * 2 + l * 1 → w * 1 ≡ n
same w n l L h g =
    let a : w * 2 ≤ n * 2 + 1 = le_of_mul-le-mul_right (omega arith) L in
    let b : n * 2 ≤ w * 2 + 1 = le_of_mul-le-mul_right (omega arith) L in
    omega arith

unchanged : (n l k : ℕ) → 0 < l → k ≡ 0 → closest (n * l) (l * 2 ^ k) * 2 ^ k ≡ n
unchanged n l k L e =
    let b = closest_near (n * l) (l * 2 ^ 0) (mul-pos L (pow_pos 0)) in
    subst (λ (i : ℕ). closest (n * l) (l * 2 ^ i) * 2 ^ i ≡ n) (sym e) (same (closest (n * l) (l * 2 ^ 0)) n l L b.over b.under)

pub whole_near : (f : Format) (n : ℕ) → Near f (grid f n (2 ^ low f)) n
whole_near f n = go (dec_lt n (2 ^ prec f))
  where
    p : ℕ
    p = prec f

    L : ℕ
    L = 2 ^ low f

    l : 0 < L
    l = pow_pos (low f)

    self : (a K : ℕ) → Most K 1 a a
    self a K = omega arith

    less : (p : ℕ) → p - 1 ≤ p
    less p = omega arith

    go : Dec (n < 2 ^ p) → Near f (grid f n L) n
    go (yes h) =
        let e = unchanged n L (drop p (n * L) L) l (few p (n * L) L l (mul-lt-mul_of_pos_right h l)) in
        subst (λ (w : ℕ). Near f w n) (sym e) (record { over = self n (2 ^ p); under = self n (2 ^ p) })
    go (no h) =
        let b = grid_near f n L l (mul-le-mul_right L (le_trans (pow_mono (less p)) (omega arith))) in
        record { over = most_cancel (2 ^ p) 1 (grid f n L) n L l b.over; under = most_cancel (2 ^ p) 1 n (grid f n L) L l b.under }
