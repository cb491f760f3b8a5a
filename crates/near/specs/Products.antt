-- Products and squared distances in units of 2 ^ -1074, with their errors. Assumes nothing.
use Rattle.std.specs.Prelude.{◌≡◌, refl, true, false, ℕ, ◌+◌, ◌*◌, ◌^◌, ◌≤◌, ◌<◌, T, pos, Float}
use Rattle.std.proofs.Common.{sym, ap, ◌∙◌, subst, le_trans, le_of_eq, lt_of_lt_of_le, mul_comm, mul-one, mul_assoc, mul-pos, mul-le-mul_right, le_of_mul-le-mul_right, arith, lit≤, pow_pos, pow_mono, shl_lt}
use Rattle.std.proofs.Math.Nat.{mul-mul-mul_comm}
use Rattle.std.specs.Float.{nan, inf, fin, binary64}
use Rattle.std.specs.Float.Ieee.{round, sum, mul, of_int}
use Rattle.std.specs.Float.Ieee.Exact.{HasValue, round_exact}
use Rattle.std.specs.Float.Ieee.Positive.{num, den, den_pos, positive, first_pos, mul_at}
use Rattle.std.specs.Float.Ieee.Scale.{grid, finite, round_val, round_under}
use Rattle.rules.specs.Distances.{mul_add}
use Rattle.plate_laws.specs.FloatOrder.{Plus}
use Rattle.plate_laws.specs.FiniteDistances.{unlike_self}
use Rattle.rounding_errors.specs.NearFraction.{Most, most_cancel, Near, grid_near}
use Rattle.rounding_errors.specs.Units.{At, value_at, positive_at}
use Rattle.rounding_errors.specs.Results.{fraction_result}
use Rattle.near.specs.Ratios.{most_trans, most_weak, most_half, at_num}

-- ---- a whole number below 2 ^ 53 is exact

pub whole_at : (q : ℕ) → q < 2 ^ 53 → At binary64 (of_int binary64 (pos q)) (q * 2 ^ 1074) 0
unfolding of_int
whole_at q h =
    value_at binary64 (round binary64 false q 1) false (q * 2 ^ 1074)
    (scaled (round binary64 false q 1) (2 ^ 1074)
    (round_exact binary64 false q 1 q 1074 (lit≤ tt) h (lt_of_lt_of_le (shl_lt 53 1074 h) (pow_mono {i = 1127} {j = 2098} (lit≤ tt))) (sym (mul-one (q * 2 ^ 1074)))))
  where
    scaled : (x : Float) (l : ℕ) → HasValue x false q 1 → HasValue x false (q * l) l
    scaled nan l v = absurd v
    scaled (inf s) l v = absurd v
    scaled (fin s m e) l v = (v.0, omega (arith, ap (λ (i : ℕ). i * l) v.1))

-- ---- a product of numbers above 0, in the normal range

near_cancel : (a b c : ℕ) → 0 < c → Near binary64 (a * c) (b * c) → Near binary64 a b
near_cancel a b c C n = record { over = most_cancel (2 ^ 53) 1 a b c C n.over; under = most_cancel (2 ^ 53) 1 b a c C n.under }

has_value : (x : Float) (p l : ℕ) → T (positive x) → num x * l ≡ p * den x → HasValue x false p l
has_value nan p l t h = elim t [ ]
has_value (inf _) p l t h = elim t [ ]
has_value (fin true m e) p l t h = elim t [ ]
has_value (fin false m e) p l t h = (refl, h)

pub mul_up : (x y : Float) (p q : ℕ) → At binary64 x p 0 → At binary64 y q 0 → 2 ^ 52 * 2 ^ 1074 ≤ p * q →
    p * q ≤ 2 ^ 100 * (2 ^ 1074 * 2 ^ 1074) → (w : ℕ) × At binary64 (mul binary64 x y) w 0 × Near binary64 (w * 2 ^ 1074) (p * q)
mul_up x y p q hx hy N h =
    let L = 2 ^ 1074 in
    let l = pow_pos 1074 in
    let some : 0 < p * q = lt_of_lt_of_le (mul-pos {m = 2 ^ 52} {n = 2 ^ 1074} (pow_pos 52) l) N in
    let a = positive_at binary64 x p hx (first_pos p q some) in
    let b = positive_at binary64 y q hy (first_pos q p (subst (λ (i : ℕ). 0 < i) (mul_comm p q) some)) in
    let is = mul_at binary64 x y p L q L a.0 b.0 l l (has_value x p L a.0 a.1) (has_value y q L b.0 b.1) in
    let r = fraction_result binary64 false (p * q) (L * L) (mul-pos {m = L} {n = L} l l)
    (le_trans (le_of_eq (sym (mul_assoc (2 ^ 52) L L))) (mul-le-mul_right L N)) h in (
      r.0,
      subst (λ (z : Float). At binary64 z r.0 0) (sym is) r.1,
      near_cancel (r.0 * L) (p * q) L l (subst (λ (i : ℕ). Near binary64 i (p * q * L)) (sym (mul_assoc r.0 L L)) r.2),
    )

-- ---- a finite result of a / c, from below

-- It is w units; what is in the normal range and is at most a / c, n units of 2 ^ -2148, is at most that but for its 2 ^ -53.
record Least (z : Float) (a c : ℕ) : Type 0 where
  w : ℕ
  at : At binary64 z w 0
  least : (n : ℕ) → n * c ≤ a * (2 ^ 1074 * 2 ^ 1074) → 2 ^ 52 * 2 ^ 1074 ≤ n → Most (2 ^ 53) 1 n (w * 2 ^ 1074)

normal : (L a c n : ℕ) → 0 < L → n * c ≤ a * (L * L) → 2 ^ 52 * L ≤ n → 2 ^ 52 * c ≤ a * L
normal L a c n l h N = le_of_mul-le-mul_right (omega (arith, mul-le-mul_right c N)) l

under : (L a c n w : ℕ) → 0 < c → n * c ≤ a * (L * L) → Most (2 ^ 53) 1 (a * L) (w * c) → Most (2 ^ 53) 1 n (w * L)
under L a c n w C h m = le_of_mul-le-mul_right (omega (arith, mul-le-mul_right L m)) C

least_of : (z : Float) (a c : ℕ) → 0 < c → z ≡ round binary64 false a c → T (finite z) → Least z a c
least_of z a c C e t =
    let is = round_val binary64 a c (round_under binary64 a c (subst (λ (y : Float). T (finite y)) e t)) in
    record {
      w = grid binary64 a c;
      at = subst (λ (y : Float). At binary64 y (grid binary64 a c) 0) (sym e) (value_at binary64 (round binary64 false a c) false (grid binary64 a c) is);
      least = λ n h N.
          under (2 ^ 1074) a c n (grid binary64 a c) C h (grid_near binary64 a c C (normal (2 ^ 1074) a c n (pow_pos 1074) h N)).under;
    }

-- ---- a square, and a square with a number that is not negative, rounded once

square_is : (x : Float) → T (finite x) → mul binary64 x x ≡ round binary64 false (num x * num x) (den x * den x)
unfolding mul
square_is nan t = elim t [ ]
square_is (inf _) t = elim t [ ]
square_is (fin s m e) t = rw (unlike_self s)

sum_is : (x z : Float) → T (finite x) → Plus z →
    mul_add binary64 x x z ≡ round binary64 false (num x * num x * den z + num z * (den x * den x)) (den x * den x * den z)
unfolding mul_add sum
sum_is nan z t h = elim t [ ]
sum_is (inf _) z t h = elim t [ ]
sum_is (fin s m e) nan t h = elim h [ ]
sum_is (fin s m e) (inf _) t h = elim h [ ]
sum_is (fin s m e) (fin true n d) t h = elim h [ ]
sum_is (fin s m e) (fin false n d) t h = rw (unlike_self s)

-- x is D units, with either sign
pub record Mag (x : Float) (D : ℕ) : Type 0 where
  pub fine : T (finite x)
  pub size : num x * 2 ^ 1074 ≡ D * den x

-- the squared distance of dx and dy is F units, and is not below either square
pub record SquareUnits (d : Float) (X Y : ℕ) : Type 0 where
  pub F : ℕ
  pub at : At binary64 d F 0
  pub by_x : 2 ^ 53 * 2 ^ 1074 ≤ X * X → Most (2 ^ 53) 3 (X * X) (F * 2 ^ 1074)
  pub by_y : 2 ^ 53 * 2 ^ 1074 ≤ Y * Y → Most (2 ^ 53) 3 (Y * Y) (F * 2 ^ 1074)

-- well in the normal range
pub half_normal : (L n : ℕ) → 2 ^ 53 * L ≤ n → 2 ^ 52 * L ≤ n
half_normal L n h = omega arith

plus_finite : (z : Float) → Plus z → T (finite z)
plus_finite nan h = elim h [ ]
plus_finite (inf _) h = elim h [ ]
plus_finite (fin true m e) h = elim h [ ]
plus_finite (fin false m e) h = tt

pub squared_at : (x y : Float) (X Y : ℕ) → Mag x X → Mag y Y → Plus (mul binary64 y y) → Plus (mul_add binary64 x x (mul binary64 y y)) →
    SquareUnits (mul_add binary64 x x (mul binary64 y y)) X Y
squared_at x y X Y hx hy pz pd =
    let L = 2 ^ 1074 in
    let z = mul binary64 y y in
    let Z = least_of z (num y * num y) (den y * den y) (mul-pos (den_pos y) (den_pos y)) (square_is y hy.fine) (plus_finite z pz) in
    let d = mul_add binary64 x x z in
    let c = den x * den x * den z in
    let D = least_of d (num x * num x * den z + num z * (den x * den x)) c (mul-pos (mul-pos (den_pos x) (den_pos x)) (den_pos z)) (sum_is x z hx.fine pz) (plus_finite d pd) in
    record {
      F = D.w;
      at = D.at;
      by_x = λ N. most_weak (2 ^ 53) 1 3 (X * X) (D.w * L) (lit≤ tt) (D.least (X * X) (first (num x) (den x) (num z) (den z) L hx.size) (half_normal L (X * X) N));
      by_y = λ N.
          let u = Z.least (Y * Y) (square (num y) (den y) L hy.size) (half_normal L (Y * Y) N) in
          most_trans (2 ^ 53) 1 1 (Y * Y) (Z.w * L) (D.w * L) (lit≤ tt) (lit≤ tt) u
          (D.least (Z.w * L) (second (num x) (den x) (num z) (den z) L Z.w (at_num z Z.w Z.at)) (still L (Y * Y) (Z.w * L) N u));
    }
  where
    still : (L n m : ℕ) → 2 ^ 53 * L ≤ n → Most (2 ^ 53) 1 n m → 2 ^ 52 * L ≤ m
    still L n m h g = go (most_half n m g)
      where
        go : n ≤ m * 2 → 2 ^ 52 * L ≤ m
        go z = omega arith

    square : (n d L : ℕ) → n * L ≡ Y * d → Y * Y * (d * d) ≤ n * n * (L * L)
    square n d L e = le_of_eq (mul-mul-mul_comm Y Y d d ∙ ap (λ (i : ℕ). i * i) (sym e) ∙ mul-mul-mul_comm n L n L)

    first : (n d k c L : ℕ) → n * L ≡ X * d → X * X * (d * d * c) ≤ (n * n * c + k * (d * d)) * (L * L)
    first n d k c L e =
        let s : X * X * (d * d) ≡ n * n * (L * L) = mul-mul-mul_comm X X d d ∙ ap (λ (i : ℕ). i * i) (sym e) ∙ mul-mul-mul_comm n L n L in
        omega (arith, ap (λ (i : ℕ). i * c) s)

    second : (n d k c L w : ℕ) → k * L ≡ w * c → w * L * (d * d * c) ≤ (n * n * c + k * (d * d)) * (L * L)
    second n d k c L w e = omega (arith, ap (λ (i : ℕ). i * (L * (d * d))) e)
