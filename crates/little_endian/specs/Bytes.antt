-- Numbers as bytes, little-endian: whole numbers of n bytes, 32-bit words, and f64 bit patterns. Definitions only.
use Rattle.std.specs.Prelude.{ℕ, zero, suc, ◌+◌, ◌*◌, ◌/◌, ◌%◌, ◌<◌, List, [], ◌∷◌, ◌++◌, length, get_or, take, drop, Float}
use Rattle.std.specs.Float.{binary64}
use Rattle.std.specs.Float.Ieee.{of_bits, to_bits}

-- a number that a byte can have
abbrev pub IsByte : ℕ → Type 0
IsByte b = b < 256

unfoldable pub AllBytes : List ℕ → Type 0
AllBytes bs = (i : ℕ) → i < length bs → IsByte (get_or bs i 0)

-- the lowest n bytes of a number, the lowest first; and the number that has these bytes
unfoldable pub to_bytes : ℕ → ℕ → List ℕ
to_bytes zero x = []
to_bytes (suc n) x = (x % 256) ∷ to_bytes n (x / 256)

unfoldable pub from_bytes : List ℕ → ℕ
from_bytes [] = 0
from_bytes (b ∷ bs) = b + 256 * from_bytes bs

-- the n bytes from byte i on, and their number
unfoldable pub part : ℕ → ℕ → List ℕ → List ℕ
part i n bs = take n (drop i bs)

unfoldable pub field : ℕ → ℕ → List ℕ → ℕ
field i n bs = from_bytes (part i n bs)

-- the first n 32-bit words
unfoldable pub words : ℕ → List ℕ → List ℕ
words zero bs = []
words (suc n) bs = from_bytes (take 4 bs) ∷ words n (drop 4 bs)

-- the bytes of numbers' f64 bit patterns, and the first n numbers whose patterns bytes are
unfoldable pub patterns : List Float → List ℕ
patterns [] = []
patterns (x ∷ xs) = to_bytes 8 (to_bits binary64 x) ++ patterns xs

unfoldable pub floats : ℕ → List ℕ → List Float
floats zero bs = []
floats (suc n) bs = of_bits binary64 (from_bytes (take 8 bs)) ∷ floats n (drop 8 bs)
