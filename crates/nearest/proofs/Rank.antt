-- A finite number with a clear sign, counted in its format's smallest steps: comparisons of such numbers are those of the counts.
-- Assumes nothing.
use mathlib.Core.Path.{◌≡◌, sym, ap, ◌∙◌}
use mathlib.Core.Bool.{true, false, and-true}
use Prim.Native.Nat.{ℕ, ◌+◌, ◌-◌, ◌*◌, ◌/◌, ◌^◌, ◌≤◌, ◌<◌}
use native.Mathlib.Nat.{mul_assoc, mul_comm, mul_right_comm, mul-div_cancel, mul-le-mul_right, mul-lt-mul_of_pos_right, mul-pos, lt_of_mul-lt-mul_right, le_of_mul-le-mul_right, eq_of_mul-eq-mul_right}
use native.Mathlib.Decide.{dec_lt, ℕ_discrete}
use native.Mathlib.Omega.{arith}
use borrow.Author.Tests.{lt-ltb, le-ltb, eq-eqb, ne_eqb}
use lib.Dec.{T, ltb, eqb}
use lib.IntN.{ℤ}
use lib.Pow.{pow_pos}
use lib.Ieee.{Float, nan, inf, fin, Format, low, prec, hid, size, up, down, fits, lt, eq, to_bits, of_bits}
use lib.Ieee.Bits.{of_bits-to_bits}
use lib.Ieee.Fits.{down_pos}
use Rattle.plate_laws.specs.FloatOrder.{Plus}
use Rattle.rounding_errors.specs.Units.{down_le, unit_of}

unfoldable pub rank : Format → Float → ℕ
rank f nan = 0
rank f (inf s) = 0
rank f (fin s m e) = m * up e * 2 ^ low f / down e

-- ---- numbers that are proportional compare alike

ltb_alike : (a b r s c w : ℕ) → 0 < c → 0 < w → a * w ≡ r * c → b * w ≡ s * c → ltb a b ≡ ltb r s
ltb_alike a b r s c w hc hw ha hb = go (dec_lt a b)
  where
    go : Dec (a < b) → ltb a b ≡ ltb r s
    go (yes l) =
        let k : a * w < b * w = mul-lt-mul_of_pos_right l hw in
        let g : r * c < s * c = omega arith in
        lt-ltb a b l ∙ sym (lt-ltb r s (lt_of_mul-lt-mul_right c g))
    go (no l) =
        let le : b ≤ a = omega arith in
        let k : b * w ≤ a * w = mul-le-mul_right w le in
        let g : s * c ≤ r * c = omega arith in
        le-ltb a b le ∙ sym (le-ltb r s (le_of_mul-le-mul_right g hc))

eqb_alike : (a b r s c w : ℕ) → 0 < c → 0 < w → a * w ≡ r * c → b * w ≡ s * c → eqb a b ≡ eqb r s
eqb_alike a b r s c w hc hw ha hb = go (ℕ_discrete a b)
  where
    go : Dec (a ≡ b) → eqb a b ≡ eqb r s
    go (yes l) = eq-eqb a b l ∙ sym (eq-eqb r s (eq_of_mul-eq-mul_right c hc r s (sym ha ∙ ap (λ (n : ℕ). n * w) l ∙ hb)))
    go (no l) =
        ne_eqb a b l
        ∙ sym (ne_eqb r s (λ q. l (eq_of_mul-eq-mul_right w hw a b (ha ∙ ap (λ (n : ℕ). n * c) q ∙ sym hb))))

module _ (f : Format) where
  rank_value : (m : ℕ) (e : ℤ) → T (fits f (fin false m e)) → rank f (fin false m e) * down e ≡ m * up e * 2 ^ low f
  unfolding rank
  rank_value m e h =
      let w = unit_of f e (down_le f false m e h) in
      let v : m * up e * 2 ^ low f ≡ m * up e * w.0 * down e =
      ap (λ (n : ℕ). m * up e * n) w.1 ∙ sym (mul_assoc (m * up e) w.0 (down e)) in
      ap (λ (n : ℕ). n / down e * down e) v ∙ ap (λ (n : ℕ). n * down e) (mul-div_cancel (m * up e * w.0) (down_pos e)) ∙ sym v

  -- ---- comparisons

  -- the sides of a comparison, which are brought to one denominator, are proportional to the counts
  left : (m : ℕ) (e d : ℤ) → T (fits f (fin false m e)) → m * up e * down d * 2 ^ low f ≡ rank f (fin false m e) * (down e * down d)
  left m e d h =
      mul_right_comm (m * up e) (down d) (2 ^ low f) ∙ ap (λ (n : ℕ). n * down d) (sym (rank_value m e h))
      ∙ mul_assoc (rank f (fin false m e)) (down e) (down d)

  right : (m : ℕ) (e d : ℤ) → T (fits f (fin false m e)) → m * up e * down d * 2 ^ low f ≡ rank f (fin false m e) * (down d * down e)
  right m e d h = left m e d h ∙ ap (λ (n : ℕ). rank f (fin false m e) * n) (mul_comm (down e) (down d))

  pub lt_rank : (x y : Float) → Plus x → Plus y → T (fits f x) → T (fits f y) → lt x y ≡ ltb (rank f x) (rank f y)
  unfolding lt
  lt_rank nan y px py hx hy = elim px [ ]
  lt_rank (inf _) y px py hx hy = elim px [ ]
  lt_rank (fin false m e) nan px py hx hy = elim py [ ]
  lt_rank (fin false m e) (inf _) px py hx hy = elim py [ ]
  lt_rank (fin false m e) (fin true n d) px py hx hy = elim py [ ]
  lt_rank (fin true m e) y px py hx hy = elim px [ ]
  lt_rank (fin false m e) (fin false n d) px py hx hy =
      ltb_alike _ _ _ _ (down e * down d) (2 ^ low f) (mul-pos (down_pos e) (down_pos d)) (pow_pos (low f)) (left m e d hx) (right n d e hy)

  pub eq_rank : (x y : Float) → Plus x → Plus y → T (fits f x) → T (fits f y) → eq x y ≡ eqb (rank f x) (rank f y)
  unfolding eq
  eq_rank nan y px py hx hy = elim px [ ]
  eq_rank (inf _) y px py hx hy = elim px [ ]
  eq_rank (fin false m e) nan px py hx hy = elim py [ ]
  eq_rank (fin false m e) (inf _) px py hx hy = elim py [ ]
  eq_rank (fin false m e) (fin true n d) px py hx hy = elim py [ ]
  eq_rank (fin true m e) y px py hx hy = elim px [ ]
  eq_rank (fin false m e) (fin false n d) px py hx hy =
      and-true (eqb (m * up e * down d) (n * up d * down e))
      ∙ eqb_alike _ _ _ _ (down e * down d) (2 ^ low f) (mul-pos (down_pos e) (down_pos d)) (pow_pos (low f)) (left m e d hx) (right n d e hy)

  -- a count has one number, since it gives the bit pattern
  pub rank_one : (x y : Float) → Plus x → Plus y → T (fits f x) → T (fits f y) → rank f x ≡ rank f y → x ≡ y
  unfolding rank to_bits
  rank_one nan y px py hx hy h = elim px [ ]
  rank_one (inf _) y px py hx hy h = elim px [ ]
  rank_one (fin false m e) nan px py hx hy h = elim py [ ]
  rank_one (fin false m e) (inf _) px py hx hy h = elim py [ ]
  rank_one (fin false m e) (fin true n d) px py hx hy h = elim py [ ]
  rank_one (fin true m e) y px py hx hy h = elim px [ ]
  rank_one (fin false m e) (fin false n d) px py hx hy h =
      sym (of_bits-to_bits f (fin false m e) hx)
      ∙ ap (λ (k : ℕ). of_bits f (0 + (size k - prec f) * hid f + k / 2 ^ (size k - prec f))) h
      ∙ of_bits-to_bits f (fin false n d) hy
