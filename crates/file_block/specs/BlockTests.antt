-- A block that is tested: the loops over its bytes and its numbers, and one test after another. Assumes nothing.
use Rattle.std.specs.Prelude.{◌≡◌, refl, Bool, true, false, not, ◌&&◌, List, ℕ, ◌+◌, ◌-◌, ◌*◌, ◌%◌, ◌≤◌, ◌<◌, T, eqb, Float, drop}
use Rattle.std.proofs.Math.Path.{sym}
use Rattle.std.proofs.Common.{◌∙◌, arith}
use Rattle.std.specs.Float.{nan, inf, fin, binary64}
use Rattle.std.specs.Float.Ieee.{neg, lt, eq, le, is_nan, nan_bits, of_bits}
use Rattle.std.specs.Float.Ieee.Bits.{nan_bits_is, nan_bits_above}
use borrow.Author.Tests.{eq-eqb, ne_eqb, le-leb, lt-leb, lt-ltb, le-ltb}
use Rattle.rules.specs.HandedOver.{in_range, plate_limit, first_off}
use Rattle.little_endian.specs.Bytes.{field, words, floats}
use Rattle.file_format.specs.PlateFile.{first_check, second_check, count_in, coordinates_in, sound}

-- ---- zeros up to the checks

-- ---- numbers on the plate

nan_off : (x : Float) → is_nan x ≡ true → in_range plate_limit x ≡ false
unfolding in_range plate_limit neg le lt eq is_nan
nan_off nan e = refl
nan_off (inf s) e = let z : ◌≡◌ {A = ℕ} 0 1 = cc in absurd (omega arith)
nan_off (fin s m k) e = let z : ◌≡◌ {A = ℕ} 0 1 = cc in absurd (omega arith)

-- a pattern beyond the infinities'
pub pattern_off : (n : ℕ) → 9218868437227405312 < n % 9223372036854775808 → in_range plate_limit (of_bits binary64 n) ≡ false
pattern_off n h = nan_off (of_bits binary64 n) (sym (nan_bits_is binary64 n) ∙ nan_bits_above binary64 n ∙ lt-ltb _ _ h)

pub pattern_number : (n : ℕ) → n % 9223372036854775808 ≤ 9218868437227405312 → T (not (nan_bits binary64 n))
pattern_number n h = rw (nan_bits_above binary64 n, le-ltb 9218868437227405312 (n % 9223372036854775808) h) tt

-- ---- one test after another

and_false : (a : Bool) → (a && false) ≡ false
and_false true = refl
and_false false = refl

-- x, y are numbers that were read from block i, n its count
module _ (i : ℕ) (b : List ℕ) where
  unused_is : {n : ℕ} → n ≡ count_in b →
      eqb (field (8 + 16 * n) (504 - (8 + 16 * n)) b) 0 ≡ eqb (field (8 + 16 * count_in b) (496 - 16 * count_in b) b) 0
  unused_is {n} e = let g : 504 - (8 + 16 * n) ≡ 496 - 16 * n = omega arith in rw (g, e)

  pub number_fails : {x : ℕ} → x ≡ field 0 4 b → (x ≡ i → ⊥) → false ≡ sound i b
  unfolding sound
  number_fails e h = rw (ne_eqb (field 0 4 b) i (λ f. h (e ∙ f)))

  pub count_fails : {n : ℕ} → n ≡ count_in b → 31 < n → false ≡ sound i b
  unfolding sound
  count_fails e h = rw (lt-leb (count_in b) 31 (omega (arith, e, h)), and_false)

  pub zeros_fail : {x : ℕ} → x ≡ field 6 2 b → (x ≡ 0 → ⊥) → false ≡ sound i b
  unfolding sound
  zeros_fail e h = rw (ne_eqb (field 6 2 b) 0 (λ f. h (e ∙ f)), and_false)

  pub unused_fail : {n : ℕ} → n ≡ count_in b → eqb (field (8 + 16 * n) (504 - (8 + 16 * n)) b) 0 ≡ false → false ≡ sound i b
  unfolding sound
  unused_fail e h = rw (sym (unused_is e) ∙ h, and_false)

  pub first_fails : {x y : ℕ} → x ≡ field 504 4 b → y ≡ first_check (words 126 b) → (x ≡ y → ⊥) → false ≡ sound i b
  unfolding sound
  first_fails e f h = rw (ne_eqb (field 504 4 b) (first_check (words 126 b)) (λ g. h (e ∙ g ∙ sym f)), and_false)

  pub second_fails : {x y : ℕ} → x ≡ field 508 4 b → y ≡ second_check (words 126 b) → (x ≡ y → ⊥) → false ≡ sound i b
  unfolding sound
  second_fails e f h = rw (ne_eqb (field 508 4 b) (second_check (words 126 b)) (λ g. h (e ∙ g ∙ sym f)), and_false)

  -- all tests but the last were passed
  pub all_but_last : {n : ℕ} → n ≡ count_in b → field 0 4 b ≡ i → n ≤ 31 → field 6 2 b ≡ 0 → eqb (field (8 + 16 * n) (504 - (8 + 16 * n)) b) 0 ≡ true →
      field 504 4 b ≡ first_check (words 126 b) → field 508 4 b ≡ second_check (words 126 b) →
      eqb (first_off plate_limit 0 (floats (2 * n) (drop 8 b))) (2 * n) ≡ sound i b
  unfolding sound coordinates_in
  all_but_last e e1 h e3 e4 e5 e6 =
      rw (
        eq-eqb (field 0 4 b) i e1,
        le-leb (count_in b) 31 (omega (arith, e, h)),
        eq-eqb (field 6 2 b) 0 e3,
        sym (unused_is e) ∙ e4,
        eq-eqb (field 504 4 b) (first_check (words 126 b)) e5,
        eq-eqb (field 508 4 b) (second_check (words 126 b)) e6,
        e,
      )
