-- From a significand of at most 53 digits and an exponent to the bit pattern. Assumes nothing.
use Rattle.std.specs.Prelude.{◌≡◌, refl, ◌⊎◌, false, ℕ, suc, ◌+◌, ◌-◌, ◌*◌, ◌%◌, ◌^◌, ◌≤◌, ◌<◌, min, not, T}
use Rattle.std.proofs.Common.{sym, ap, ap₂, ◌∙◌, subst, inl, inr, le_refl, le_trans, le_of_eq, le_of_lt, lt_of_lt_of_le, lt_of_le_of_lt, one-mul, mul_assoc, mul-pos, mul-le-mul_left, mul-le-mul_right, mul-lt-mul_of_pos_right, mul-div_cancel, mod-eq_of_lt, arith, pow-add, pow_pos, pow_mono, shl_lt}
use Rattle.std.proofs.Math.Nat.{mul-mod_left}
use Rattle.std.proofs.Math.Decide.{dec_lt}
use Prim.Native.Nat.{compare, Ordering}
use Rattle.std.specs.Int.Count.{count_leading_zeros}
use Rattle.std.proofs.lemmas.Nat.{leading_top}
use Rattle.std.specs.Float.{binary64}
use Rattle.std.specs.Float.Ieee.{nearest, round, of_bits, nan_bits}
use Rattle.std.specs.Float.Ieee.Nearest.{closest}
use Rattle.rounding.specs.Compare.{is_lt}
use Rattle.rounding.specs.Significand.{Drops, pow_lt_back}
use Rattle.rounding.specs.Magnitude.{zeros}
use Rattle.rounding.specs.Pack.{bits_most}
use Rattle.rounding.specs.Pattern.{rounded_bits, not_nan}

-- ---- what a significand has room for

pub record Taken (r e up : ℕ) : Type 0 where
  pub most : up ≤ e
  pub fits : r * 2 ^ up < 2 ^ 53
  pub filled : (up ≡ e) ⊎ (2 ^ 52 ≤ r * 2 ^ up)

module _ (r e : ℕ) (P : 0 < r) (S : r < 2 ^ 53) where
  abbrev room : ℕ
  room = count_leading_zeros 64 r - 11

  pub some_room : 11 ≤ count_leading_zeros 64 r
  some_room = (zeros r 0 P S).0

  filled : (r * 2 ^ room < 2 ^ 53) × (2 ^ 52 ≤ r * 2 ^ room)
  filled =
      let t = leading_top 64 r P (lt_of_lt_of_le S (pow_mono {i = 53} {j = 64} (omega arith))) in
      let z = count_leading_zeros 64 r in
      let j = t.0 in
      let is : z + suc j ≡ 64 = t.1 in
      let above : suc j + (z - 11) ≡ 53 = omega (arith, some_room) in
      let least : j + (z - 11) ≡ 52 = omega (arith, some_room) in (
        subst (λ (n : ℕ). r * 2 ^ (z - 11) < 2 ^ n) above (shl_lt (suc j) (z - 11) t.3),
        le_trans (le_of_eq (ap (λ (n : ℕ). 2 ^ n) (sym least) ∙ pow-add 2 j (z - 11))) (mul-le-mul_right (2 ^ (z - 11)) t.2),
      )

  takes_room : room < e → Taken r e room
  takes_room h = record { most = le_of_lt h; fits = filled.0; filled = inr filled.1 }

  takes_all : e ≤ room → Taken r e e
  takes_all h = record { most = le_refl e; fits = lt_of_le_of_lt (mul-le-mul_left r (pow_mono h)) filled.0; filled = inl refl }

  pub takes : Taken r e (min room e)
  takes = go (dec_lt room e)
    where
      go : Dec (room < e) → Taken r e (min room e)
      go (yes h) = let m : min room e ≡ room = omega arith in rw m (takes_room h)
      go (no h) = let m : min room e ≡ e = omega arith in rw m (takes_all (omega arith))

-- ---- the pattern

closest_whole : (q u : ℕ) → 0 < u → closest (q * u) u ≡ q
closest_whole q u U =
    ap₂ (λ (a b : ℕ). nearest a (compare (b * 2) u)) (mul-div_cancel q U) (mul-mod_left q u)
    ∙ ap (λ (o : Ordering). nearest q o) (is_lt 0 u U)

module _ (r e up : ℕ) (E : e ≤ 2045) (t : Taken r e up) where
  abbrev q : ℕ
  q = r * 2 ^ up

  abbrev k : ℕ
  k = e - up

  fits : q % 18446744073709551616 ≡ q
  fits = mod-eq_of_lt (lt_of_lt_of_le t.fits (pow_mono {i = 53} {j = 64} (omega arith)))

  few : k ≤ 2045
  few = omega arith

  whole : q * 2 ^ k ≡ r * 2 ^ e
  whole = mul_assoc r (2 ^ up) (2 ^ k) ∙ ap (λ (x : ℕ). r * x) (sym (pow-add 2 up k) ∙ ap (λ (x : ℕ). 2 ^ x) (all up e t.most))
    where
      all : (up e : ℕ) → up ≤ e → up + (e - up) ≡ e
      all up e h = omega arith

  drops : Drops 53 (r * 2 ^ e * 2 ^ 1074) (2 ^ 1074) k
  drops = (
    mul-lt-mul_of_pos_right (lt_of_le_of_lt (le_of_eq (sym whole)) (shl_lt 53 k t.fits)) (pow_pos 1074),
    go t.filled,
  )
    where
      none : (up e : ℕ) → up ≡ e → e - up ≡ 0
      none up e h = omega arith

      go : (up ≡ e) ⊎ (2 ^ 52 ≤ q) → (k ≡ 0) ⊎ (2 ^ (52 + k) * 2 ^ 1074 ≤ r * 2 ^ e * 2 ^ 1074)
      go (inl h) = inl (none up e h)
      go (inr h) = inr (mul-le-mul_right (2 ^ 1074) (le_trans (le_of_eq (pow-add 2 52 k)) (le_trans (mul-le-mul_right (2 ^ k) h) (le_of_eq whole))))

  significand_is : q ≡ closest (r * 2 ^ e * 2 ^ 1074) (2 ^ 1074 * 2 ^ k)
  significand_is =
      sym (closest_whole q (2 ^ 1074 * 2 ^ k) (mul-pos (pow_pos 1074) (pow_pos k)))
      ∙ ap (λ (x : ℕ). closest x (2 ^ 1074 * 2 ^ k)) (turn q (2 ^ 1074) (2 ^ k) ∙ ap (λ (x : ℕ). x * 2 ^ 1074) whole)
    where
      turn : (q a b : ℕ) → q * (a * b) ≡ q * b * a
      turn q a b = omega arith

  pub taken_few : 0 < r → up < 53
  taken_few P = pow_lt_back up 53 (lt_of_le_of_lt (by_one r (2 ^ up) P) t.fits)
    where
      by_one : (r c : ℕ) → 0 < r → c ≤ r * c
      by_one r c P = le_trans (le_of_eq (sym (one-mul c))) (mul-le-mul_right c P)

  pub pattern_most : k * 4503599627370496 + q % 18446744073709551616 ≤ 9218868437227405312
  pattern_most = bits_most k (q % 18446744073709551616) few (le_trans (le_of_eq fits) (le_of_lt t.fits))

  pub pattern_not_nan : T (not (nan_bits binary64 (k * 4503599627370496 + q % 18446744073709551616)))
  pattern_not_nan = not_nan _ pattern_most

  pub packs : of_bits binary64 (k * 4503599627370496 + q % 18446744073709551616) ≡ round binary64 false (r * 2 ^ e) (2 ^ 1074)
  packs = rounded_bits (r * 2 ^ e) (2 ^ 1074) k (pow_pos 1074) drops (q % 18446744073709551616) (fits ∙ significand_is) few
