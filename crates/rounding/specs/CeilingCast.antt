-- A float rounded up to a whole number of 32 bits: by whether it is above its whole part. Assumes nothing.
use Rattle.std.specs.Prelude.{◌≡◌, refl, ◌⊎◌, ℕ, ◌+◌, ◌-◌, ◌*◌, ◌/◌, ◌%◌, ◌^◌, ◌≤◌, ◌<◌, min, true, false, ℤ, pos, Float}
use Rattle.std.proofs.Common.{sym, ap, ◌∙◌, subst, inl, inr, le_trans, le_of_eq, lt_of_lt_of_le, lt_of_le_of_lt, le_of_lt, eq-or-lt_of_le, lt_of_mul-lt-mul_right, le_of_mul-le-mul_right, le-div_iff_mul-le, div-mul-le_self, div-add-mod', mod-lt, arith, true≢false, lit≤}
use Rattle.std.proofs.Math.Nat.{le-pred_of_lt}
use Rattle.std.proofs.lemmas.Bool.{false≢true}
use Rattle.std.proofs.Math.Arith.{digits_div}
use Rattle.std.specs.Float.{nan, inf, fin, binary64}
use Rattle.std.specs.Float.Ieee.{up, down, lt, of_int, to_unsigned}
use Rattle.std.specs.Float.Ieee.Back.{round_whole}
use Rattle.std.specs.Float.Ieee.Casts.{to_unsigned-lt}
use Rattle.std.specs.Float.Ieee.Exact.{HasValue}
use Rattle.std.specs.Float.Ieee.Fits.{down_pos}
use Rattle.rules.specs.Tools.{pick}
use Rattle.rules.specs.GridAndNearest.{ceiling}
use Rattle.rounding.specs.Compare.{below, not_below}

-- ---- a whole number as a float, and m * up e / down e

whole_below : (v : Float) (whole m : ℕ) (e : ℤ) → HasValue v false whole 1 → lt v (fin false m e) ≡ true → whole * down e < m * up e
unfolding lt
whole_below nan w m e r h = absurd r
whole_below (inf t) w m e r h = absurd r
whole_below (fin true n d) w m e r h = absurd (true≢false r.0)
whole_below (fin false n d) w m e r h = scaled (n * up d) (down d) w (m * up e) (down e) r.1 (below (n * up d * down e) (m * up e * down d) h)
  where
    scaled : (n d w u k : ℕ) → n * 1 ≡ w * d → n * k < u * d → w * k < u
    scaled n d w u k v h = lt_of_mul-lt-mul_right d (lt_of_le_of_lt (le_of_eq (turn w k d ∙ ap (λ (z : ℕ). z * k) (sym v) ∙ one n k)) h)
      where
        turn : (w k d : ℕ) → w * k * d ≡ w * d * k
        turn w k d = omega arith

        one : (n k : ℕ) → n * 1 * k ≡ n * k
        one n k = omega arith

whole_reaches : (v : Float) (whole m : ℕ) (e : ℤ) → HasValue v false whole 1 → lt v (fin false m e) ≡ false → m * up e ≤ whole * down e
unfolding lt
whole_reaches nan w m e r h = absurd r
whole_reaches (inf t) w m e r h = absurd r
whole_reaches (fin true n d) w m e r h = absurd (true≢false r.0)
whole_reaches (fin false n d) w m e r h = scaled (n * up d) (down d) w (m * up e) (down e) (down_pos d) r.1 (not_below (n * up d * down e) (m * up e * down d) h)
  where
    scaled : (n d w u k : ℕ) → 0 < d → n * 1 ≡ w * d → u * d ≤ n * k → u ≤ w * k
    scaled n d w u k p v h = le_of_mul-le-mul_right (le_trans h (le_of_eq (one n k ∙ ap (λ (z : ℕ). z * k) v ∙ turn w k d))) p
      where
        turn : (w k d : ℕ) → w * d * k ≡ w * k * d
        turn w k d = omega arith

        one : (n k : ℕ) → n * k ≡ n * 1 * k
        one n k = omega arith

-- nothing is below a NaN, and no number that is not negative is below a negative one
not_below_nan : (v : Float) → lt v nan ≡ true → ⊥
unfolding lt
not_below_nan nan h = false≢true h
not_below_nan (inf t) h = false≢true h
not_below_nan (fin t n d) h = false≢true h

not_below_infinity : (v : Float) (whole : ℕ) → HasValue v false whole 1 → lt v (inf true) ≡ true → ⊥
unfolding lt
not_below_infinity nan w r h = r
not_below_infinity (inf t) w r h = r
not_below_infinity (fin t n d) w r h = false≢true h

not_below_negative : (v : Float) (whole m : ℕ) (e : ℤ) → HasValue v false whole 1 → lt v (fin true m e) ≡ true → ⊥
unfolding lt
not_below_negative nan w m e r h = r
not_below_negative (inf t) w m e r h = r
not_below_negative (fin true n d) w m e r h = true≢false r.0
not_below_negative (fin false n d) w m e r h = false≢true h

-- ---- u / d rounded up

up_one : (u d : ℕ) → 0 < d → u / d * d < u → (u + (d - 1)) / d ≡ u / d + 1
up_one u d D h = go (u / d) (u % d) (div-add-mod' u d) (mod-lt u D) h
  where
    go : (q r : ℕ) → q * d + r ≡ u → r < d → q * d < u → (u + (d - 1)) / d ≡ q + 1
    go q r e l h = ap (λ (z : ℕ). z / d) (split q r d u D e h) ∙ digits_div (q + 1) (less r d l)
      where
        split : (q r d u : ℕ) → 0 < d → q * d + r ≡ u → q * d < u → u + (d - 1) ≡ (q + 1) * d + (r - 1)
        split q r d u D e h = omega arith

        less : (r d : ℕ) → r < d → r - 1 < d
        less r d l = omega arith

up_none : (u d : ℕ) → 0 < d → u ≤ u / d * d → (u + (d - 1)) / d ≡ u / d
up_none u d D h = go (u / d) (u % d) (div-add-mod' u d) h
  where
    go : (q r : ℕ) → q * d + r ≡ u → u ≤ q * d → (u + (d - 1)) / d ≡ q
    go q r e h = ap (λ (z : ℕ). (z + (d - 1)) / d) (exact q r d u e h) ∙ digits_div q (less d D)
      where
        exact : (q r d u : ℕ) → q * d + r ≡ u → u ≤ q * d → u ≡ q * d
        exact q r d u e h = omega arith

        less : (d : ℕ) → 0 < d → d - 1 < d
        less d D = omega arith

up_ge : (u d : ℕ) → 0 < d → u / d ≤ (u + (d - 1)) / d
up_ge u d D = (le-div_iff_mul-le D).1 (le_trans (div-mul-le_self u d) (more u (d - 1)))
  where
    more : (a b : ℕ) → a ≤ a + b
    more a b = omega arith

whole_value : (x : Float) → HasValue (of_int binary64 (pos (to_unsigned 32 x))) false (to_unsigned 32 x) 1
unfolding of_int
whole_value x = round_whole binary64 false (to_unsigned 32 x) (le_of_lt (lt_of_lt_of_le (to_unsigned-lt 32 x) (lit≤ {m = 2 ^ 32} {n = 2 ^ 53} tt)))

-- ---- the three ways out

ceiling_most : (x : Float) → 4294967295 ≤ to_unsigned 32 x → to_unsigned 32 x ≡ ceiling 32 x
unfolding to_unsigned ceiling pick
ceiling_most nan h = refl
ceiling_most (inf true) h = refl
ceiling_most (inf false) h = refl
ceiling_most (fin true m e) h = refl
ceiling_most (fin false m e) h = most (m * up e / down e) ((m * up e + (down e - 1)) / down e) h (up_ge (m * up e) (down e) (down_pos e))
  where
    most : (w c : ℕ) → 4294967295 ≤ min w 4294967295 → w ≤ c → min w 4294967295 ≡ min c 4294967295
    most w c h g = omega arith

few : (w : ℕ) → min w 4294967295 < 4294967295 → min w 4294967295 ≡ w
few w h = omega arith

ceiling_more : (x : Float) → lt (of_int binary64 (pos (to_unsigned 32 x))) x ≡ true → to_unsigned 32 x < 4294967295 → to_unsigned 32 x + 1 ≡ ceiling 32 x
unfolding to_unsigned ceiling pick
ceiling_more nan h l = absurd (not_below_nan (of_int binary64 (pos 0)) h)
ceiling_more (inf true) h l = absurd (not_below_infinity (of_int binary64 (pos 0)) 0 (whole_value (inf true)) h)
ceiling_more (inf false) h l = omega arith
ceiling_more (fin true m e) h l = absurd (not_below_negative (of_int binary64 (pos 0)) 0 m e (whole_value (fin true m e)) h)
ceiling_more (fin false m e) h l =
    let u = m * up e in
    let w : min (u / down e) 4294967295 ≡ u / down e = few (u / down e) l in
    let b : u / down e * down e < u = subst (λ (z : ℕ). z * down e < u) w (whole_below (of_int binary64 (pos (min (u / down e) 4294967295))) (min (u / down e) 4294967295) m e (whole_value (fin false m e)) h) in
    next (u / down e) ((u + (down e - 1)) / down e) l (up_one u (down e) (down_pos e) b)
  where
    next : (w c : ℕ) → min w 4294967295 < 4294967295 → c ≡ w + 1 → min w 4294967295 + 1 ≡ min c 4294967295
    next w c h e = omega arith

ceiling_same : (x : Float) → lt (of_int binary64 (pos (to_unsigned 32 x))) x ≡ false → to_unsigned 32 x < 4294967295 → to_unsigned 32 x ≡ ceiling 32 x
unfolding to_unsigned ceiling pick
ceiling_same nan h l = refl
ceiling_same (inf true) h l = refl
ceiling_same (inf false) h l = refl
ceiling_same (fin true m e) h l = refl
ceiling_same (fin false m e) h l =
    let u = m * up e in
    let w : min (u / down e) 4294967295 ≡ u / down e = few (u / down e) l in
    let b : u ≤ u / down e * down e = subst (λ (z : ℕ). u ≤ z * down e) w (whole_reaches (of_int binary64 (pos (min (u / down e) 4294967295))) (min (u / down e) 4294967295) m e (whole_value (fin false m e)) h) in
    ap (λ (z : ℕ). min z 4294967295) (sym (up_none u (down e) (down_pos e) b))

-- whole is what `truncated` answers
module _ (x : Float) (whole : ℕ) (W : whole ≡ to_unsigned 32 x) where
  pub rounded_up : lt (of_int binary64 (pos whole)) x ≡ true → whole < 4294967295 → whole + 1 ≡ ceiling 32 x
  rounded_up h l = ap (λ (n : ℕ). n + 1) W ∙ ceiling_more x (subst (λ (n : ℕ). lt (of_int binary64 (pos n)) x ≡ true) W h) (lt_of_le_of_lt (le_of_eq (sym W)) l)

  pub rounded_most : 4294967295 ≤ whole → whole ≡ ceiling 32 x
  rounded_most l = W ∙ ceiling_most x (le_trans l (le_of_eq W))

  pub not_rounded : lt (of_int binary64 (pos whole)) x ≡ false → whole ≡ ceiling 32 x
  not_rounded h = go (eq-or-lt_of_le (le-pred_of_lt (lt_of_le_of_lt (le_of_eq W) (to_unsigned-lt 32 x))))
    where
      go : (whole ≡ 4294967295) ⊎ (whole < 4294967295) → whole ≡ ceiling 32 x
      go (inl e) = rounded_most (le_of_eq (sym e))
      go (inr l) = W ∙ ceiling_same x (subst (λ (n : ℕ). lt (of_int binary64 (pos n)) x ≡ false) W h) (lt_of_le_of_lt (le_of_eq (sym W)) l)
