-- Numbers of 128 bits as two halves: a square, a shift to the right, and the halves of a sum. Assumes nothing.
use Rattle.std.specs.Prelude.{◌≡◌, ℕ, suc, ◌+◌, ◌-◌, ◌*◌, ◌/◌, ◌%◌, ◌^◌, ◌≤◌, ◌<◌}
use Rattle.std.proofs.Math.Path.{sym, ap, subst}
use Rattle.std.proofs.Common.{ap₂, ◌∙◌, le_trans, le_of_eq, lt_of_lt_of_le, lt_of_le_of_lt, mul_comm, mod-eq_of_lt, mod-lt, div-add-mod', div-lt_iff_lt-mul, div-le_self, le-add_right, le_of_suc-le-suc, lt_of_mul-lt-mul_right, pow-add, pow_mono}
use Rattle.std.proofs.Math.Nat.{div-eq_of_lt, div-div-eq-div-mul}
use native.Mathlib.Omega.{arith}
use Rattle.std.proofs.Math.Arith.{digits_div, digits_mod, digits_lt}
use Rattle.std.proofs.Math.Pow.{pow_pos}
use Rattle.rounding.specs.StickyBit.{sticky_bit, bit_two}
use Rattle.rounding.specs.Shift.{shifted_out}

abbrev pub wide : ℕ → ℕ → ℕ
wide hi lo = hi * 18446744073709551616 + lo

-- ---- the upper half

pub hi_lt : (h l n k : ℕ) → wide h l ≡ n → n < k * 18446744073709551616 → h < k
hi_lt h l n k e b = lt_of_mul-lt-mul_right 18446744073709551616 (lt_of_le_of_lt (le_trans (le-add_right (h * 18446744073709551616) l) (le_of_eq e)) b)

pub hi_ge : (h l n k : ℕ) → wide h l ≡ n → l < 2 ^ 64 → k * 18446744073709551616 ≤ n → k ≤ h
hi_ge h l n k e b c =
    le_of_suc-le-suc (lt_of_mul-lt-mul_right 18446744073709551616 (lt_of_le_of_lt c (lt_of_le_of_lt (le_of_eq (sym e)) (under h l b))))
  where
    under : (h l : ℕ) → l < 2 ^ 64 → h * 18446744073709551616 + l < suc h * 18446744073709551616
    under h l b = omega arith

-- ---- `square`

pub square_is : (a b : ℕ)
    → wide (a * a + 2 * a * b / 4294967296 + (b * b / 4294967296 + 2 * a * b % 4294967296) / 4294967296) ((b * b / 4294967296 + 2 * a * b % 4294967296) % 4294967296 * 4294967296 + b * b % 4294967296)
    ≡ (a * 4294967296 + b) * (a * 4294967296 + b)
square_is a b = omega arith

-- ---- a shift by d

-- q is what a shift of n by d to the right leaves, t the sticky bit of what it cuts off
pub record IsShifted (n d q t : ℕ) : Type 0 where
  pub value : q ≡ n / 2 ^ d
  pub sticky : t ≡ sticky_bit (n % 2 ^ d)

-- ---- by at most 64

module _ (hi lo d : ℕ) (H : hi < 2 ^ 64) (L : lo < 2 ^ 64) (D : d ≤ 64) where
  P : ℕ
  P = 2 ^ d

  Q : ℕ
  Q = 2 ^ (64 - d)

  PQ : Q * P ≡ 2 ^ 64
  unfolding P Q
  PQ = sym (pow-add 2 (64 - d) d) ∙ ap (λ (x : ℕ). 2 ^ x) (back d D)
    where
      back : (d : ℕ) → d ≤ 64 → 64 - d + d ≡ 64
      back d h = omega arith

  P_pos : 0 < P
  unfolding P
  P_pos = pow_pos d

  lo_lt : lo / P < Q
  lo_lt = (div-lt_iff_lt-mul P_pos).1 (lt_of_lt_of_le L (le_of_eq (sym PQ)))

  up_lt : hi % P * Q + lo / P < 2 ^ 64
  up_lt = lt_of_lt_of_le (digits_lt (mod-lt hi P_pos) lo_lt) (le_of_eq (mul_comm P Q ∙ PQ))

  up_exact : hi % P * Q % 18446744073709551616 ≡ hi % P * Q
  up_exact = mod-eq_of_lt (lt_of_le_of_lt (plus_ge (hi % P * Q) (lo / P)) up_lt)
    where
      plus_ge : (a b : ℕ) → a ≤ a + b
      plus_ge a b = omega arith

  -- what goes from the upper half into the lower one
  moved : (hi - hi / 2 ^ d * 2 ^ d % 18446744073709551616) * 2 ^ (64 - d) % 18446744073709551616 ≡ hi % P * Q
  unfolding P Q
  moved = ap (λ (x : ℕ). x * 2 ^ (64 - d) % 18446744073709551616) (shifted_out hi d H) ∙ up_exact

  whole : wide hi lo ≡ (hi / P * 2 ^ 64 + (hi % P * Q + lo / P)) * P + lo % P
  whole =
      let a : hi / P * P + hi % P ≡ hi = div-add-mod' hi P in
      let b : lo / P * P + lo % P ≡ lo = div-add-mod' lo P in
      ap₂ (λ (x z : ℕ). x * 2 ^ 64 + z) (sym a) (sym b) ∙ sort (hi / P) (hi % P) (lo / P) (lo % P) P Q PQ
    where
      sort : (a b c e p q : ℕ) → q * p ≡ 2 ^ 64 → (a * p + b) * 2 ^ 64 + (c * p + e) ≡ (a * 2 ^ 64 + (b * q + c)) * p + e
      sort a b c e p q h = let g : b * (q * p) ≡ b * 2 ^ 64 = ap (λ (x : ℕ). b * x) h in omega arith

  pub shift_fits : (hi - hi / 2 ^ d * 2 ^ d % 18446744073709551616) * 2 ^ (64 - d) % 18446744073709551616 + lo / 2 ^ d < 2 ^ 64
  unfolding P
  shift_fits = subst (λ (x : ℕ). x + lo / P < 2 ^ 64) (sym moved) up_lt

  pub shift_is : (r : ℕ) → r ≡ sticky_bit (lo - lo / 2 ^ d * 2 ^ d % 18446744073709551616)
      → IsShifted (wide hi lo) d (wide (hi / 2 ^ d) ((hi - hi / 2 ^ d * 2 ^ d % 18446744073709551616) * 2 ^ (64 - d) % 18446744073709551616 + lo / 2 ^ d)) r
  unfolding P
  shift_is r e =
      record {
        value = ap (λ (x : ℕ). wide (hi / P) (x + lo / P)) moved ∙ sym (ap (λ (x : ℕ). x / P) whole ∙ digits_div (hi / P * 2 ^ 64 + (hi % P * Q + lo / P)) (mod-lt lo P_pos));
        sticky = e ∙ ap sticky_bit (shifted_out lo d L ∙ sym (ap (λ (x : ℕ). x % P) whole ∙ digits_mod (hi / P * 2 ^ 64 + (hi % P * Q + lo / P)) (mod-lt lo P_pos)));
      }

-- ---- by 64 and more

far_whole : (hi lo g : ℕ) → lo < 2 ^ 64 → hi / 2 ^ g ≡ wide hi lo / 2 ^ (g + 64)
far_whole hi lo g L =
    ap (λ (x : ℕ). x / 2 ^ g) (sym (digits_div hi L)) ∙ div-div-eq-div-mul (wide hi lo) (2 ^ 64) (2 ^ g)
    ∙ ap (λ (x : ℕ). wide hi lo / x) (sym (pow-add 2 g 64 ∙ mul_comm (2 ^ g) (2 ^ 64)))

far_rest : (hi lo g : ℕ) → lo < 2 ^ 64 → hi % 2 ^ g * 2 ^ 64 + lo ≡ wide hi lo % 2 ^ (g + 64)
far_rest hi lo g L =
    let p = 2 ^ g in
    let a : hi / p * p + hi % p ≡ hi = div-add-mod' hi p in
    let e : wide hi lo ≡ hi / p * 2 ^ (g + 64) + (hi % p * 2 ^ 64 + lo) = ap (λ (x : ℕ). x * 2 ^ 64 + lo) (sym a) ∙ sort (hi / p) (hi % p) lo p (2 ^ (g + 64)) (pow-add 2 g 64) in
    sym (ap (λ (x : ℕ). x % 2 ^ (g + 64)) e ∙ digits_mod (hi / p) (lt_of_lt_of_le (digits_lt (mod-lt hi (pow_pos g)) L) (le_of_eq (sym (pow-add 2 g 64)))))
  where
    sort : (a b c p m : ℕ) → m ≡ p * 2 ^ 64 → (a * p + b) * 2 ^ 64 + c ≡ a * m + (b * 2 ^ 64 + c)
    sort a b c p m h = let k : a * m ≡ a * (p * 2 ^ 64) = ap (λ (x : ℕ). a * x) h in omega arith

-- the upper half shifted by d - 64, and the lower one gone
pub shift_far : (hi lo d ch cl cr t r : ℕ) → hi < 2 ^ 64 → lo < 2 ^ 64 → 64 ≤ d → wide ch cl ≡ (0 + hi) / 2 ^ (d - 64) → cr ≡ sticky_bit ((0 + hi) % 2 ^ (d - 64)) → t ≡ sticky_bit lo → r ≡ sticky_bit (cr + t)
    → IsShifted (wide hi lo) d (0 + cl) r
shift_far hi lo d ch cl cr t r H L D W C E R =
    let g = d - 64 in
    let z : 0 + hi ≡ hi = omega arith in
    let gd : g + 64 ≡ d = omega arith in
    let w : wide ch cl ≡ hi / 2 ^ g = W ∙ ap (λ (x : ℕ). x / 2 ^ g) z in
    let small : hi / 2 ^ g ≤ hi = div-le_self hi (2 ^ g) in
    let cl_is : 0 + cl ≡ hi / 2 ^ g = omega arith in
    let c_is : cr ≡ sticky_bit (hi % 2 ^ g) = C ∙ ap (λ (x : ℕ). sticky_bit (x % 2 ^ g)) z in
    record {
      value = cl_is ∙ far_whole hi lo g L ∙ ap (λ (x : ℕ). wide hi lo / 2 ^ x) gd;
      sticky = R ∙ ap₂ (λ (a b : ℕ). sticky_bit (a + b)) c_is E ∙ sym (bit_two (hi % 2 ^ g) lo (2 ^ 64) (pow_pos 64)) ∙ ap sticky_bit (far_rest hi lo g L) ∙ ap (λ (x : ℕ). sticky_bit (wide hi lo % 2 ^ x)) gd;
    }

-- nothing is left
pub shift_all : (hi lo d a b r : ℕ) → hi < 2 ^ 64 → lo < 2 ^ 64 → 128 ≤ d → a ≡ sticky_bit hi → b ≡ sticky_bit lo → r ≡ sticky_bit (a + b)
    → IsShifted (wide hi lo) d 0 r
shift_all hi lo d a b r H L D A B R =
    let all : 2 ^ 128 ≤ 2 ^ d = pow_mono D in
    let small : wide hi lo < 2 ^ d = lt_of_lt_of_le (digits_lt H L) (le_trans (le_of_eq (sym (pow-add 2 64 64))) all) in
    record {
      value = sym (div-eq_of_lt small);
      sticky = R ∙ ap₂ (λ (x y : ℕ). sticky_bit (x + y)) A B ∙ sym (bit_two hi lo (2 ^ 64) (pow_pos 64)) ∙ ap sticky_bit (sym (mod-eq_of_lt small));
    }
