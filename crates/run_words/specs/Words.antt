-- A text of words: sixteen lowercase hexadecimal digits and one separator each, floats as bit patterns. Assumes nothing.
use Rattle.std.specs.Prelude.{Bool, not, ◌&&◌, cond, List, [], ◌∷◌, ℕ, zero, suc, ◌+◌, ◌-◌, ◌*◌, ◌/◌, ◌%◌, leb, ltb, eqb, Float, length, take, drop}
use Rattle.std.specs.Float.{binary64}
use Rattle.std.specs.Float.Ieee.{is_nan, of_bits, to_bits}

-- the value of a hexadecimal digit, or 16
unfoldable pub hex_digit : ℕ → ℕ
hex_digit b = cond (leb 48 b && leb b 57) (b - 48) (cond (leb 97 b && leb b 102) (b - 87) 16)

-- what a missing word, and one that is not hexadecimal, reads as: all ones
abbrev pub no_word : ℕ
no_word = 18446744073709551615

-- the number that these digits spell behind those of v
unfoldable pub spelled : ℕ → List ℕ → ℕ
spelled v [] = v
spelled v (b ∷ bs) = cond (ltb (hex_digit b) 16) (spelled (v * 16 + hex_digit b) bs) no_word

-- word number i of a text, from 0; a word without its separator is missing
unfoldable pub word : List ℕ → ℕ → ℕ
word text i = cond (ltb i (length text / 17)) (spelled 0 (take 16 (drop (17 * i) text))) no_word

-- whether a text has i words and nothing behind them
abbrev pub ends_at : List ℕ → ℕ → Bool
ends_at text i = eqb (length text) (17 * i)

-- n words from word i on, each taken as f has it
unfoldable pub words_as : {A : Type 0} → (ℕ → A) → List ℕ → ℕ → ℕ → List A
words_as f text i zero = []
words_as f text i (suc n) = f (word text i) ∷ words_as f text (i + 1) n

-- the float of a bit pattern; every NaN pattern is the one NaN
abbrev pub float_of : ℕ → Float
float_of bits = of_bits binary64 bits

-- the low half of a word
abbrev pub low_half : ℕ → ℕ
low_half w = w % 4294967296

-- whether x is a number, or an infinity, with this pattern
unfoldable pub has_bits : Float → ℕ → Bool
has_bits x bits = not (is_nan x) && eqb (to_bits binary64 x) bits

-- how many elements are not the words from word i on
unfoldable pub unlike : {A : Type 0} → (A → ℕ → Bool) → List ℕ → ℕ → List A → ℕ
unlike same text i [] = 0
unlike same text i (x ∷ xs) = cond (same x (word text i)) 0 1 + unlike same text (i + 1) xs
