-- Numbers as bytes, as rows: the lowest byte comes first. Bytes and numbers are those of Python's `struct`.
use Rattle.std.specs.Prelude.{◌≡◌, refl, true, false, [], ◌∷◌, pos}
use Rattle.std.specs.Float.{fin}
use Rattle.std.specs.Float.Ieee.{of_bits, to_bits}
use Rattle.little_endian.specs.Bytes.{to_bytes, from_bytes, part, field, words, patterns, floats}

pub byte_rows :
    (to_bytes 4 33825 ≡ (33 ∷ 132 ∷ 0 ∷ 0 ∷ []))
    × (to_bytes 1 33825 ≡ (33 ∷ []))
    × (from_bytes (33 ∷ 132 ∷ 0 ∷ 1 ∷ []) ≡ 16811041)
    × (field 1 2 (9 ∷ 33 ∷ 132 ∷ 9 ∷ []) ≡ 33825)
    × (words 2 (33 ∷ 132 ∷ 0 ∷ 0 ∷ 0 ∷ 0 ∷ 0 ∷ 128 ∷ 9 ∷ []) ≡ (33825 ∷ 2147483648 ∷ []))
    -- 1 and −0
    × (patterns (fin false 1 (pos 0) ∷ fin true 0 (pos 0) ∷ []) ≡ (0 ∷ 0 ∷ 0 ∷ 0 ∷ 0 ∷ 0 ∷ 240 ∷ 63 ∷ 0 ∷ 0 ∷ 0 ∷ 0 ∷ 0 ∷ 0 ∷ 0 ∷ 128 ∷ []))
    × (floats 2 (0 ∷ 0 ∷ 0 ∷ 0 ∷ 0 ∷ 0 ∷ 240 ∷ 63 ∷ 0 ∷ 0 ∷ 0 ∷ 0 ∷ 0 ∷ 0 ∷ 0 ∷ 128 ∷ 9 ∷ []) ≡ (fin false 1 (pos 0) ∷ fin true 0 (pos 0) ∷ []))
unfolding to_bytes from_bytes part field words patterns floats of_bits to_bits
byte_rows = (refl, refl, refl, refl, refl, refl, refl)
