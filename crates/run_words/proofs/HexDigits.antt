-- Hexadecimal digits, one after the other, and how large the number grows. Assumes nothing.
use mathlib.Core.Path.{◌≡◌, sym, ◌∙◌}
use mathlib.Core.List.{List}
use Prim.Native.Nat.{ℕ, ◌+◌, ◌*◌, ◌^◌, ◌≤◌, ◌<◌}
use native.Mathlib.Nat.{lt_of_lt_of_le}
use native.Mathlib.Numerals.{add-one}
use native.Mathlib.Omega.{arith}
use lib.ListN.{length, get_or, drop, drop_of_length-le}
use lib.Seq.{drop-cons}
use lib.Pow.{pow-add, pow_mono}
use borrow.Author.Tests.{lt-ltb, le-ltb}
use Rattle.run_words.specs.Words.{hex_digit, no_word, spelled}

-- ---- k digits are below 16 ^ k, so that sixteen fit

sixty : (k : ℕ) → k < 16 → 2 ^ (4 * k) ≤ 1152921504606846976
sixty k l = pow_mono {i = 4 * k} {j = 60} (omega arith)

pub fits_word : (v k : ℕ) → v < 2 ^ (4 * k) → k < 16 → v < 1152921504606846976
fits_word v k h l = lt_of_lt_of_le h (sixty k l)

more : (v d p : ℕ) → v < p → d < 16 → v * 16 + d < p * 16
more v d p h l = omega arith

four : (k : ℕ) → 4 * k + 4 ≡ 4 * (k + 1)
four k = omega arith

pub grown : (v d k : ℕ) → v < 2 ^ (4 * k) → d < 16 → v * 16 + d < 2 ^ (4 * (k + 1))
grown v d k h l = rw (← four k, pow-add 2 (4 * k) 4) (more v d (2 ^ (4 * k)) h l)

-- ---- digits one after the other

-- k digits are read, and v is their number
abbrev pub ReadDigits : List ℕ → ℕ → ℕ → Type 0
ReadDigits digits v k = (k ≤ length digits) × (v < 2 ^ (4 * k)) × (spelled 0 digits ≡ spelled v (drop k digits))

module _ (digits : List ℕ) (fits : length digits ≤ 16) where
  one_more : (v k : ℕ) → k < length digits → hex_digit (get_or digits k 0) < 16 →
      spelled v (drop k digits) ≡ spelled (v * 16 + hex_digit (get_or digits k 0)) (drop (k + 1) digits)
  unfolding spelled
  one_more v k h d = rw (drop-cons digits k 0 h, add-one k, lt-ltb (hex_digit (get_or digits k 0)) 16 d)

  no_digit : (v k : ℕ) → k < length digits → 16 ≤ hex_digit (get_or digits k 0) → spelled v (drop k digits) ≡ no_word
  unfolding spelled
  no_digit v k h d = rw (drop-cons digits k 0 h, le-ltb (hex_digit (get_or digits k 0)) 16 d)

  pub read_more : (v k d : ℕ) → ReadDigits digits v k → k < length digits → d ≡ hex_digit (get_or digits k 0) → d < 16 → ReadDigits digits (v * 16 + d) (k + 1)
  read_more v k d r h e l =
      let m : hex_digit (get_or digits k 0) < 16 = omega arith in
      (omega arith, grown v d k r.1 l, r.2 ∙ one_more v k h m ∙ rw e)

  pub read_no_digit : (v k d : ℕ) → ReadDigits digits v k → k < length digits → d ≡ hex_digit (get_or digits k 0) → 16 ≤ d → no_word ≡ spelled 0 digits
  read_no_digit v k d r h e l =
      let m : 16 ≤ hex_digit (get_or digits k 0) = omega arith in
      sym (r.2 ∙ no_digit v k h m)

  pub read_all : (v k : ℕ) → ReadDigits digits v k → length digits ≤ k → v ≡ spelled 0 digits
  unfolding spelled
  read_all v k r h = sym (r.2 ∙ rw (drop_of_length-le digits h))
