-- Numbers of any width, one byte a turn, and slices of f64 bit patterns, one number a turn. Assumes nothing.
use Rattle.std.specs.Prelude.{◌≡◌, List, ◌++◌, ℕ, suc, ◌+◌, ◌*◌, ◌/◌, ◌^◌, ◌≤◌, ◌<◌, Float, length, get_or, take, drop, set}
use Rattle.std.proofs.Common.{sym, ◌∙◌, pow-suc, mul_comm, arith}
use Rattle.std.proofs.Math.Nat.{pow-succ', pow-le-pow_right, div-div-eq-div-mul}
use Rattle.std.proofs.lemmas.List.Edits.{sets, sets-eq}
use Rattle.std.specs.Float.{nan, binary64}
use Rattle.std.specs.Float.Ieee.{to_bits, of_bits}
use Rattle.little_endian.specs.Bytes.{to_bytes, field, patterns, floats}
use Rattle.little_endian.specs.Numbers.{floats_length}
use Rattle.little_endian.specs.PatternSteps.{put_step, read_step}

pub left_more : (k x : ℕ) {left : ℕ} → left ≡ x / 256 ^ k → left / 256 ≡ x / 256 ^ (k + 1)
left_more k x e = let g : k + 1 ≡ suc k = omega arith in rw (e, div-div-eq-div-mul x (256 ^ k) 256, g, pow-succ' 256 k, mul_comm (256 ^ k) 256)

pub small_more : (m : ℕ) {x b : ℕ} → x < 256 ^ m → b < 256 → 256 * x + b < 256 ^ (m + 1)
small_more m h l = let g : m + 1 ≡ suc m = omega arith in rw (g, pow-suc 256 m) (omega arith)

-- with one byte more, fewer than 8 bytes still make a u64
pub more_fits : (m : ℕ) {x b : ℕ} → m < 8 → x < 256 ^ m → b < 256 → 256 * x + b < 18446744073709551616
more_fits m h l k = omega (arith, small_more m l k, pow-le-pow_right {n = 256} (omega arith) {i = m + 1} {j = 8} (omega arith))

-- j patterns of a whole slice were written from byte i on, and then one more
pub put_next : (b₀ : List ℕ) {b c : List ℕ} (xs : List Float) (i j : ℕ) → j < length xs → b ≡ sets b₀ i (patterns (take j xs)) →
    c ≡ sets b (i + 8 * j) (to_bytes 8 (to_bits binary64 (get_or xs j nan))) → c ≡ sets b₀ i (patterns (take (j + 1) xs))
put_next b₀ xs i j h e f = let z : 0 + j ≡ j = omega arith in put_step b₀ xs i 0 (length xs) j (omega arith) h e (rw z f)

sets_front : (xs new : List Float) (k : ℕ) → length new ≡ k → k ≤ length xs → sets xs 0 new ≡ new ++ drop k xs
sets_front xs new k e h =
    let z : 0 + length new ≡ k = omega (arith, e) in
    rw z at (sets-eq new xs 0 (omega (arith, e, h)))

-- j numbers of a whole slice were read, and then one more
pub read_next : (xs₀ : List Float) {xs : List Float} (bs : List ℕ) (i j : ℕ) {x : ℕ} → j < length xs₀ → xs ≡ floats j (drop i bs) ++ drop j xs₀ →
    x ≡ field (i + 8 * j) 8 bs → set xs j (of_bits binary64 x) ≡ floats (j + 1) (drop i bs) ++ drop (j + 1) xs₀
read_next xs₀ {xs} bs i j {x} h e f =
    let z : 0 + j ≡ j = omega arith in
    let before : xs ≡ sets xs₀ 0 (floats j (drop i bs)) = e ∙ sym (sets_front xs₀ (floats j (drop i bs)) j (floats_length j (drop i bs)) (omega arith)) in
    rw z at (read_step xs₀ bs i 0 j before f)
    ∙ sets_front xs₀ (floats (j + 1) (drop i bs)) (j + 1) (floats_length (j + 1) (drop i bs)) (omega arith)
