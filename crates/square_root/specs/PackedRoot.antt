-- A root of 55 digits rounded to a float, two digits being rounded off: it is never half way between two floats. Assumes nothing.
use Rattle.std.specs.Prelude.{◌≡◌, ◌⊎◌}
use Rattle.std.proofs.Common.{sym, ap, ◌∙◌, inl, inr, lt_of_le_of_lt, arith}
use Rattle.std.proofs.lemmas.Bool.{cases_order}
use Prim.Native.Nat.{ℕ, ◌+◌, ◌-◌, ◌*◌, ◌/◌, ◌%◌, ◌^◌, ◌≤◌, ◌<◌, Ordering}
use Rattle.std.specs.Float.{binary64}
use Rattle.std.specs.Float.Ieee.{nearest, of_bits}
use Rattle.std.specs.Float.Ieee.Nearest.{closest}
use Rattle.rounding.specs.Compare.{is_lt, is_gt}
use Rattle.rounding.specs.Significand.{pow_lt_back}
use Rattle.rounding.specs.StickyBit.{sticky_bit, bit_le, bit_pos}
use Rattle.rounding.specs.FloorRoot.{IsRoot}
use Rattle.rounding.specs.Pack.{rounded_from, digits, digits_of, packs}

-- the square of 4 q + 2 is no multiple of 16, and m × 2^48 is one: so if r is 4 q + 2, something is left
no_tie : (m r : ℕ) → r * r ≤ m * 2 ^ 48 → (2 * r + sticky_bit (m * 2 ^ 48 - r * r)) % 8 ≡ 4 → ⊥
no_tie m r h e =
    let t = bit_le (m * 2 ^ 48 - r * r) in
    let one = bit_pos (m * 2 ^ 48 - r * r) (rest (r / 4) r (omega arith) h) in
    omega arith
  where
    rest : (q r : ℕ) → r ≡ 4 * q + 2 → r * r ≤ m * 2 ^ 48 → 0 < m * 2 ^ 48 - r * r
    rest q r e h = let s : r * r ≡ 16 * (q * q) + 16 * q + 4 = ap (λ (x : ℕ). x * x) e ∙ omega arith in omega arith

eighth : (y : ℕ) → (y % 8 ≡ 4 → ⊥) → closest y 8 ≡ (y + 4) / 8
eighth y n = go (cases_order (y % 8) 4)
  where
    go : (y % 8 ≡ 4) ⊎ ((y % 8 < 4) ⊎ (4 < y % 8)) → closest y 8 ≡ (y + 4) / 8
    go (inl e) = absurd (n e)
    go (inr (inl h)) = ap (λ (o : Ordering). nearest (y / 8) o) (is_lt (y % 8 * 2) 8 (omega arith)) ∙ omega arith
    go (inr (inr h)) = ap (λ (o : Ordering). nearest (y / 8) o) (is_gt (y % 8 * 2) 8 (omega arith)) ∙ omega arith

has_55_digits : (r : ℕ) → 2 ^ 54 ≤ r → r < 2 ^ 55 → digits r ≡ 55
has_55_digits r L H =
    let d = digits_of r (omega arith) (omega arith) in
    let least = pow_lt_back 54 (digits r) (lt_of_le_of_lt L d.below) in
    let most = pow_lt_back (digits r - 1) 55 (lt_of_le_of_lt d.least H) in
    omega arith

-- r's two last digits are rounded off
pub packed : (m r e : ℕ) → IsRoot (m * 2 ^ 48) r → 2 ^ 54 ≤ r → r < 2 ^ 55 → e ≤ 1050
    → of_bits binary64 ((e + 483) * 4503599627370496 + (r + 2) / 4) ≡ rounded_from r (sticky_bit (m * 2 ^ 48 - r * r)) (e + 1683)
packed m r e i L H E =
    let t = sticky_bit (m * 2 ^ 48 - r * r) in
    let one = bit_le (m * 2 ^ 48 - r * r) in
    let z = has_55_digits r L H in
    let quarter : (r + 2) / 4 ≡ (2 * r + t + 4) / 8 = omega arith in
    let two : 2 ≡ e + 483 + 1202 - (e + 1683) = omega arith in
    ap (λ (x : ℕ). of_bits binary64 ((e + 483) * 4503599627370496 + x))
    (quarter ∙ sym (eighth (2 * r + t) (no_tie m r i.0)) ∙ ap (λ (x : ℕ). closest (2 * r + t) (2 * 2 ^ x)) two)
    ∙ packs r t (e + 1683) (e + 483) (omega arith) (omega arith) one (record { most = omega arith; least = inr (omega arith) }) (omega arith)
