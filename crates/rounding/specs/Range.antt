-- How large the results of the operations are, so that none overflows. Assumes nothing.
use Rattle.std.specs.Prelude.{◌≡◌, ℕ, suc, ◌+◌, ◌-◌, ◌*◌, ◌/◌, ◌^◌, ◌≤◌, ◌<◌, Bool, true, false, not, ◌&&◌, ◌||◌, cond, T, ltb, eqb, pos, Float}
use Rattle.std.proofs.Common.{sym, ap, ◌∙◌, subst, le_trans, le_of_eq, le_of_lt, lt_of_lt_of_le, lt_of_le_of_lt, zero-lt-suc, mul_comm, mul_assoc, mul_right_comm, mul-pos, mul-le-mul, mul-le-mul_right, mul-lt-mul_of_pos_right, le_of_mul-le-mul_right, div-lt_iff_lt-mul, le-add_right, le-add_left, sub-le, arith, ltb→lt, eqb→eq, pow-add, pow_pos, pow_mono}
use Rattle.std.proofs.Math.Nat.{pow-succ'}
use Rattle.std.specs.Bool.{beq}
use Rattle.std.proofs.Math.Pow.{pow-lt}
use Rattle.std.specs.Float.{nan, inf, fin, binary64}
use Rattle.std.specs.Float.Ieee.{up, down, size, round, neg, sum, add, sub, mul, lt, eq, le}
use Rattle.std.specs.Float.Ieee.Digits.{size-le}
use Rattle.std.specs.Float.Ieee.Fits.{down_pos, round_is, and_l}
use Rattle.std.specs.Float.Ieee.Exact.{HasValue, units_val}
use Rattle.std.specs.Float.Ieee.Nearest.{closest}
use Rattle.rules.specs.Distances.{mul_add}
use Rattle.rounding.specs.Significand.{drops, significand_most}
use Rattle.rounding.specs.Magnitude.{non_negative}
use Rattle.rounding.specs.SquareSum.{mul_opened, mul_add_opened}

-- x is finite, and its magnitude is at most 2 ^ B
abbrev pub Upto : ℕ → Float → Type 0
Upto B nan = ⊥
Upto B (inf s) = ⊥
Upto B (fin s m e) = m * up e ≤ 2 ^ B * down e

-- ---- a rounded fraction

-- its sign, and its size in units of 2^-1074
rounded_value : (s : Bool) (num den B : ℕ) → 0 < den → num < 2 ^ B * den → B ≤ 1000 → (w : ℕ) × HasValue (round binary64 s num den) s w (2 ^ 1074) × (w ≤ 2 ^ (B + 1074))
rounded_value s num den B D h b =
    let n = num * 2 ^ 1074 in
    let k = size (n / den) - 53 in
    let q = closest n (den * 2 ^ k) in
    let z : size (n / den) ≤ B + 1074 = size-le (n / den) (B + 1074) ((div-lt_iff_lt-mul D).1 (lt_of_lt_of_le (mul-lt-mul_of_pos_right h (pow_pos 1074)) (le_of_eq (mul_right_comm (2 ^ B) den (2 ^ 1074) ∙ ap (λ (x : ℕ). x * den) (sym (pow-add 2 B 1074)))))) in
    let most : q ≤ 2 ^ 53 = significand_most 53 n den k D (drops 53 n den (zero-lt-suc 52) D) in
    let w_le : q * 2 ^ k ≤ 2 ^ (B + 1074) = le_trans (mul-le-mul_right (2 ^ k) most) (le_trans (le_of_eq (sym (pow-add 2 53 k))) (pow_mono (places (size (n / den)) B z))) in
    let small : q * 2 ^ k < 2 ^ 2098 = lt_of_le_of_lt w_le (pow-lt (range B b)) in
    (q * 2 ^ k, subst (λ (v : Float). HasValue v s (q * 2 ^ k) (2 ^ 1074)) (sym (round_is binary64 s num den)) (units_val binary64 s q k small), w_le)
  where
    places : (z B : ℕ) → z ≤ B + 1074 → 53 + (z - 53) ≤ B + 1074
    places z B h = omega arith

    range : (B : ℕ) → B ≤ 1000 → B + 1074 < 2098
    range B h = omega arith

upto_value : (x : Float) (s : Bool) (B w : ℕ) → HasValue x s w (2 ^ 1074) → w ≤ 2 ^ (B + 1074) → Upto B x
upto_value nan s B w v h = absurd v
upto_value (inf t) s B w v h = absurd v
upto_value (fin t m e) s B w v h =
    le_of_mul-le-mul_right
    (le_trans (le_of_eq v.1) (le_trans (mul-le-mul_right (down e) h) (le_of_eq (ap (λ (x : ℕ). x * down e) (pow-add 2 B 1074) ∙ mul_right_comm (2 ^ B) (2 ^ 1074) (down e)))))
    (pow_pos 1074)

non_negative_value : (x : Float) (w : ℕ) → HasValue x false w (2 ^ 1074) → T (non_negative x)
non_negative_value nan w v = absurd v
non_negative_value (inf t) w v = absurd v
non_negative_value (fin t m e) w v = subst (λ (b : Bool). T (not b)) (sym v.0) tt

next : (B x c : ℕ) → 0 < c → x ≤ 2 ^ B * c → x < 2 ^ suc B * c
next B x c C h = lt_of_le_of_lt h (mul-lt-mul_of_pos_right (pow-lt (self B)) C)
  where
    self : (B : ℕ) → B < suc B
    self B = omega arith

round_upto : (s : Bool) (num den B : ℕ) → 0 < den → num ≤ 2 ^ B * den → B < 1000 → Upto (suc B) (round binary64 s num den)
round_upto s num den B D h b = let v = rounded_value s num den (suc B) D (next B num den D h) b in upto_value (round binary64 s num den) s (suc B) v.0 v.1 v.2

round_non_negative : (num den B : ℕ) → 0 < den → num ≤ 2 ^ B * den → B < 1000 → T (non_negative (round binary64 false num den))
round_non_negative num den B D h b = let v = rounded_value false num den (suc B) D (next B num den D h) b in non_negative_value (round binary64 false num den) v.0 v.1

-- ---- a difference

sum_upto : (s : Bool) (a : ℕ) (t : Bool) (b c B : ℕ) → 0 < c → a + b ≤ 2 ^ B * c → B < 1000 → Upto (suc B) (sum binary64 s a t b c)
unfolding sum
sum_upto s a t b c B C h r = go (beq s t) (ltb a b)
  where
    go : (x y : Bool) → Upto (suc B) (cond x (round binary64 s (a + b) c) (cond y (round binary64 t (b - a) c) (round binary64 (s && ltb b a) (a - b) c)))
    go true y = round_upto s (a + b) c B C h r
    go false true = round_upto t (b - a) c B C (le_trans (sub-le b a) (le_trans (le-add_left b a) h)) r
    go false false = round_upto (s && ltb b a) (a - b) c B C (le_trans (sub-le a b) (le_trans (le-add_right a b) h)) r

-- two fractions over one denominator
both : (B X Y de dd : ℕ) → X ≤ 2 ^ B * de → Y ≤ 2 ^ B * dd → X * dd + Y * de ≤ 2 ^ suc B * (de * dd)
both B X Y de dd h g =
    let a : X * dd ≤ 2 ^ B * de * dd = mul-le-mul_right dd h in
    let b : Y * de ≤ 2 ^ B * dd * de = mul-le-mul_right de g in
    le_trans (add2 (X * dd) (Y * de) (2 ^ B * (de * dd)) (le_trans a (le_of_eq (mul_assoc (2 ^ B) de dd))) (le_trans b (le_of_eq (mul_assoc (2 ^ B) dd de ∙ ap (λ (x : ℕ). 2 ^ B * x) (mul_comm dd de)))))
    (le_of_eq (sym (ap (λ (x : ℕ). x * (de * dd)) (pow-succ' 2 B) ∙ mul_assoc 2 (2 ^ B) (de * dd))))
  where
    add2 : (x y z : ℕ) → x ≤ z → y ≤ z → x + y ≤ 2 * z
    add2 x y z h g = omega arith

pub sub_upto : (B : ℕ) (x y : Float) → suc B < 1000 → Upto B x → Upto B y → Upto (suc (suc B)) (sub binary64 x y)
unfolding sub add neg
sub_upto B nan y b h g = absurd h
sub_upto B (inf s) y b h g = absurd h
sub_upto B (fin s m e) nan b h g = absurd g
sub_upto B (fin s m e) (inf t) b h g = absurd g
sub_upto B (fin s m e) (fin t n d) b h g = sum_upto s (m * up e * down d) (not t) (n * up d * down e) (down e * down d) (suc B) (mul-pos (down_pos e) (down_pos d)) (both B (m * up e) (n * up d) (down e) (down d) h g) b

-- ---- a square, and a square plus a number: neither is negative

-- x is at most 2^B and not negative
pub record PlusUpto (B : ℕ) (x : Float) : Type 0 where
  pub upto : Upto B x
  pub plus : T (non_negative x)

square_size : (B U de : ℕ) → U ≤ 2 ^ B * de → U * U ≤ 2 ^ (B + B) * (de * de)
square_size B U de h = le_trans (mul-le-mul h h) (le_of_eq (squares (2 ^ B) de ∙ ap (λ (x : ℕ). x * (de * de)) (sym (pow-add 2 B B))))
  where
    squares : (p d : ℕ) → p * d * (p * d) ≡ p * p * (d * d)
    squares p d = omega arith

pub square_upto : (B : ℕ) (x : Float) → B + B < 1000 → Upto B x → PlusUpto (suc (B + B)) (mul binary64 x x)
square_upto B nan b h = absurd h
square_upto B (inf s) b h = absurd h
square_upto B (fin s m e) b h =
    let u = m * up e in
    let d = down e * down e in
    subst (PlusUpto (suc (B + B))) (sym (mul_opened s m e))
    (record { upto = round_upto false (u * u) d (B + B) (mul-pos (down_pos e) (down_pos e)) (square_size B u (down e) h) b; plus = round_non_negative (u * u) d (B + B) (mul-pos (down_pos e) (down_pos e)) (square_size B u (down e) h) b })

pub square_plus_upto : (B : ℕ) (x y : Float) → suc (suc (B + B)) < 1000 → Upto B x → Upto (suc (B + B)) y → T (non_negative y)
    → PlusUpto (suc (suc (suc (B + B)))) (mul_add binary64 x x y)
square_plus_upto B nan y b h g p = absurd h
square_plus_upto B (inf s) y b h g p = absurd h
square_plus_upto B (fin s m e) nan b h g p = absurd g
square_plus_upto B (fin s m e) (inf t) b h g p = absurd g
square_plus_upto B (fin s m e) (fin true n d) b h g p = absurd p
square_plus_upto B (fin s m e) (fin false n d) b h g p =
    let u = m * up e in
    let C : 0 < down e * down e * down d = mul-pos (mul-pos (down_pos e) (down_pos e)) (down_pos d) in
    let most : u * u * down d + n * up d * (down e * down e) ≤ 2 ^ suc (suc (B + B)) * (down e * down e * down d) =
    both (suc (B + B)) (u * u) (n * up d) (down e * down e) (down d) (le_trans (square_size B u (down e) h) (mul-le-mul_right (down e * down e) (pow_mono (self (B + B))))) g in
    subst (PlusUpto (suc (suc (suc (B + B))))) (sym (mul_add_opened s m e n d))
    (record { upto = round_upto false (u * u * down d + n * up d * (down e * down e)) (down e * down e * down d) (suc (suc (B + B))) C most b; plus = round_non_negative (u * u * down d + n * up d * (down e * down e)) (down e * down e * down d) (suc (suc (B + B))) C most b })
  where
    self : (B : ℕ) → B ≤ suc B
    self B = omega arith

-- ---- the range from two comparisons with a number n * 2 ^ k

or_cases : (a b : Bool) → T (a || b) → (P : Type 0) → (T a → P) → (T b → P) → P
or_cases true b t P f g = f tt
or_cases false b t P f g = g t

within : (u n k B d : ℕ) → n * 2 ^ k ≤ 2 ^ B → u * 1 ≤ n * 2 ^ k * d → u ≤ 2 ^ B * d
within u n k B d N h = le_trans (le_trans (omega arith) h) (mul-le-mul_right d N)

pub between : (n k B : ℕ) (x : Float) → n * 2 ^ k ≤ 2 ^ B → T (le (fin true n (pos k)) x) → T (le x (fin false n (pos k))) → Upto B x
unfolding le lt eq
between n k B nan N h g = absurd h
between n k B (inf true) N h g = absurd h
between n k B (inf false) N h g = absurd g
between n k B (fin false m e) N h g =
    let u = m * up e in
    let v = n * 2 ^ k * down e in
    or_cases (ltb (u * 1) v) (eqb (u * 1) v && true) g (u ≤ 2 ^ B * down e)
    (λ t. within u n k B (down e) N (le_of_lt (ltb→lt (u * 1) v t)))
    (λ t. within u n k B (down e) N (le_of_eq (eqb→eq (u * 1) v (and_l (eqb (u * 1) v) true t))))
between n k B (fin true m e) N h g =
    let u = m * up e in
    let v = n * 2 ^ k * down e in
    or_cases (ltb (u * 1) v) (eqb v (u * 1) && true) h (u ≤ 2 ^ B * down e)
    (λ t. within u n k B (down e) N (le_of_lt (ltb→lt (u * 1) v t)))
    (λ t. within u n k B (down e) N (le_of_eq (sym (eqb→eq v (u * 1) (and_l (eqb v (u * 1)) true t)))))
