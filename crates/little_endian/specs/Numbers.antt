-- Numbers as bytes and back: little-endian numbers, and f64 bit patterns. Assumes nothing.
use Rattle.std.specs.Prelude.{◌≡◌, refl, not, List, [], ◌∷◌, ◌++◌, ℕ, zero, suc, ◌+◌, ◌*◌, ◌/◌, ◌%◌, ◌^◌, ◌≤◌, ◌<◌, T, length, take, drop, set, Float}
use Rattle.std.proofs.Common.{sym, ap, ap₂, ◌∙◌, subst, append_assoc, pow-suc, add-zero, zero-add, arith, length-append, length-drop, take-append-drop, length-take-le, take_at, drop_at}
use Rattle.std.proofs.Math.Nat.{pow-succ', div-div-eq-div-mul}
use Rattle.std.proofs.lemmas.List.Edits.{sets}
use Rattle.std.proofs.lemmas.List.{take-append-le, drop-append-le}
use Rattle.std.specs.Float.{binary64}
use Rattle.std.specs.Float.Ieee.{is_nan, of_bits, to_bits}
use Rattle.std.specs.Float.Ieee.Bits.{of_bits-to_bits, to_bits-of_bits, to_bits-lt}
use Rattle.rules.specs.HandedOver.{IsF64}
use Rattle.plate_laws.specs.Lists.{All, all_take, all_drop}
use Rattle.little_endian.specs.Bytes.{IsByte, to_bytes, from_bytes, words, patterns, floats}

-- ---- bytes

pub bytes_length : (n x : ℕ) → length (to_bytes n x) ≡ n
unfolding to_bytes
bytes_length zero x = refl
bytes_length (suc n) x = ap suc (bytes_length n (x / 256))

pub number_bytes : (n x : ℕ) → x < 256 ^ n → from_bytes (to_bytes n x) ≡ x
unfolding from_bytes to_bytes
number_bytes zero x h = omega arith
number_bytes (suc n) x h =
    let e = pow-suc 256 n in
    let l : x / 256 < 256 ^ n = omega arith in
    omega (arith, number_bytes n (x / 256) l)

bytes_number : (bs : List ℕ) → All IsByte bs → to_bytes (length bs) (from_bytes bs) ≡ bs
unfolding from_bytes to_bytes
bytes_number [] a = refl
bytes_number (b ∷ bs) a =
    let h = a.0 in
    let e : (b + 256 * from_bytes bs) % 256 ≡ b = omega arith in
    let f : (b + 256 * from_bytes bs) / 256 ≡ from_bytes bs = omega arith in
    rw (e, f) (ap {B = List ℕ} (λ r. b ∷ r) (bytes_number bs a.1))

-- n bytes whose number is x are x's bytes
pub bytes_of : (bs : List ℕ) (n x : ℕ) → All IsByte bs → length bs ≡ n → from_bytes bs ≡ x → bs ≡ to_bytes n x
bytes_of bs n x a l e = rw (← l, ← e) (sym (bytes_number bs a))

-- ---- words

pub words_front : (n : ℕ) (front bs : List ℕ) → length front ≡ 4 * n → words n (front ++ bs) ≡ words n front
unfolding words
words_front zero front bs l = refl
words_front (suc n) front bs l =
    let h : 4 ≤ length front = omega arith in
    rw (take-append-le 4 front bs h, drop-append-le 4 front bs h)
    (ap {B = List ℕ} (λ r. from_bytes (take 4 front) ∷ r) (words_front n (drop 4 front) bs (omega (arith, length-drop 4 front))))

-- ---- floats

pub patterns_length : (xs : List Float) → length (patterns xs) ≡ 8 * length xs
unfolding patterns
patterns_length [] = refl
patterns_length (x ∷ xs) = simp length-append (omega (arith, bytes_length 8 (to_bits binary64 x), patterns_length xs))

pub floats_length : (n : ℕ) (bs : List ℕ) → length (floats n bs) ≡ n
unfolding floats
floats_length zero bs = refl
floats_length (suc n) bs = ap suc (floats_length n (drop 8 bs))

pub floats_patterns : (xs : List Float) (bs : List ℕ) → All IsF64 xs → floats (length xs) (patterns xs ++ bs) ≡ xs
unfolding floats patterns
floats_patterns [] bs a = refl
floats_patterns (x ∷ xs) bs a =
    let b = to_bits binary64 x in
    let l = bytes_length 8 b in
    let e : from_bytes (to_bytes 8 b) ≡ b = number_bytes 8 b (to_bits-lt binary64 x a.0) in
    rw (append_assoc (to_bytes 8 b) (patterns xs) bs, take_at (to_bytes 8 b) (patterns xs ++ bs) 8 l, drop_at (to_bytes 8 b) (patterns xs ++ bs) 8 l, e)
    (ap₂ {C = List Float} (λ y r. y ∷ r) (of_bits-to_bits binary64 x a.0) (floats_patterns xs bs a.1))

pub floats_front : (n : ℕ) (front bs : List ℕ) → length front ≡ 8 * n → floats n (front ++ bs) ≡ floats n front
unfolding floats
floats_front zero front bs l = refl
floats_front (suc n) front bs l =
    let h : 8 ≤ length front = omega arith in
    rw (take-append-le 8 front bs h, drop-append-le 8 front bs h)
    (ap {B = List Float} (λ r. of_bits binary64 (from_bytes (take 8 front)) ∷ r) (floats_front n (drop 8 front) bs (omega (arith, length-drop 8 front))))

number_lt : (bs : List ℕ) → All IsByte bs → from_bytes bs < 256 ^ length bs
unfolding from_bytes
number_lt [] a = omega arith
number_lt (b ∷ bs) a =
    let h = a.0 in
    let e = pow-suc 256 (length bs) in
    omega (arith, number_lt bs a.1)

abbrev pub NoNan : Float → Type 0
NoNan x = T (not (is_nan x))

-- not one of them is a NaN's pattern
pub patterns_floats : (n : ℕ) (bs : List ℕ) → All IsByte bs → length bs ≡ 8 * n → All NoNan (floats n bs) → patterns (floats n bs) ≡ bs
unfolding floats patterns
patterns_floats zero [] a l h = refl
patterns_floats zero (b ∷ bs) a l h = absurd (omega arith)
patterns_floats (suc n) bs a l h =
    let front = take 8 bs in
    let k : length front ≡ 8 = length-take-le 8 bs (omega arith) in
    let ab = all_take IsByte 8 bs a in
    let e : to_bits binary64 (of_bits binary64 (from_bytes front)) ≡ from_bytes front =
    to_bits-of_bits binary64 (from_bytes front) (subst (λ (n : ℕ). from_bytes front < 256 ^ n) k (number_lt front ab)) h.0 in
    rw (e, ← bytes_of front 8 (from_bytes front) ab k refl)
    (ap {B = List ℕ} (λ r. front ++ r) (patterns_floats n (drop 8 bs) (all_drop IsByte 8 bs a) (omega (arith, length-drop 8 bs)) h.1)
    ∙ take-append-drop 8 bs)

-- ---- in parts

pub bytes_append : (m n x : ℕ) → to_bytes (m + n) x ≡ to_bytes m x ++ to_bytes n (x / 256 ^ m)
unfolding to_bytes
bytes_append zero n x = let e : x / 1 ≡ x = omega arith in rw (zero-add n, e)
bytes_append (suc m) n x =
    let e : suc m + n ≡ suc (m + n) = omega arith in
    rw (e, bytes_append m n (x / 256), div-div-eq-div-mul x 256 (256 ^ m), pow-succ' 256 m)

pub sets_append : {A : Type 0} (xs : List A) (i : ℕ) (bs cs : List A) → sets xs i (bs ++ cs) ≡ sets (sets xs i bs) (i + length bs) cs
sets_append xs i [] cs = rw (add-zero i)
sets_append xs i (b ∷ bs) cs =
    let e : i + suc (length bs) ≡ suc i + length bs = omega arith in
    rw e (sets_append (set xs i b) (suc i) bs cs)
