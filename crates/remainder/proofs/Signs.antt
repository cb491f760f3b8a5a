-- Rounding and the sign, and that a float is known by its sign and its size. Assumes nothing.
use Rattle.std.specs.Prelude.{◌≡◌, refl, ℕ, zero, suc, ◌+◌, ◌-◌, ◌*◌, ◌/◌, ◌^◌, Bool, true, false, cond, T, ltb, ℤ, Float}
use Rattle.std.proofs.Common.{sym, ap, ◌∙◌, mul-div_cancel}
use Rattle.std.specs.Float.{nan, inf, fin, Format}
use Rattle.std.specs.Float.Ieee.{prec, emax, low, hid, top, up, down, size, odd, units, round, neg, fits, of_bits, to_bits}
use Rattle.std.specs.Float.Ieee.Bits.{of_bits-to_bits}
use Rattle.std.specs.Float.Ieee.Exact.{HasValue}
use Rattle.std.specs.Float.Ieee.Fits.{round_is, down_pos}

-- ---- the sign passes through rounding

neg_odd : (d q k l : ℕ) → neg (odd d false q k l) ≡ odd d true q k l
unfolding neg odd
neg_odd d zero k l = refl
neg_odd d (suc q) k l = refl

neg_units : (f : Format) (q k : ℕ) → neg (units f false q k) ≡ units f true q k
unfolding neg units
neg_units f q k = go (ltb (q * 2 ^ k) (2 ^ (low f + suc (emax f))))
  where
    go : (b : Bool) → neg (cond b (odd (suc (prec f)) false q k (low f)) (inf false)) ≡ cond b (odd (suc (prec f)) true q k (low f)) (inf true)
    go true = neg_odd (suc (prec f)) q k (low f)
    go false = refl

pub neg_round : (f : Format) (num den : ℕ) → neg (round f false num den) ≡ round f true num den
neg_round f num den = ap neg (round_is f false num den) ∙ neg_units f _ _ ∙ sym (round_is f true num den)

-- ---- equal signs and sizes are equal floats

same_bits : (f : Format) (s : Bool) (m n c : ℕ) (e d : ℤ) → m * up e * 2 ^ low f ≡ c * down e → n * up d * 2 ^ low f ≡ c * down d → to_bits f (fin s m e) ≡ to_bits f (fin s n d)
unfolding to_bits
same_bits f s m n c e d h g =
    ap (λ (x : ℕ). cond s (top f) 0 + (size x - prec f) * hid f + x / 2 ^ (size x - prec f)) (quotient m e h ∙ sym (quotient n d g))
  where
    quotient : (m : ℕ) (e : ℤ) → m * up e * 2 ^ low f ≡ c * down e → m * up e * 2 ^ low f / down e ≡ c
    quotient m e h = ap (λ (x : ℕ). x / down e) h ∙ mul-div_cancel c (down_pos e)

pub same_float : (f : Format) (x y : Float) (s : Bool) (c : ℕ) → T (fits f x) → T (fits f y) → HasValue x s c (2 ^ low f) → HasValue y s c (2 ^ low f) → x ≡ y
same_float f nan y s c p q h g = absurd h
same_float f (inf t) y s c p q h g = absurd h
same_float f (fin t m e) nan s c p q h g = absurd g
same_float f (fin t m e) (inf u) s c p q h g = absurd g
same_float f (fin t m e) (fin u n d) s c p q h g =
    sym (of_bits-to_bits f (fin t m e) p)
    ∙ ap (λ (b : ℕ). of_bits f b) (ap (λ (v : Bool). to_bits f (fin v m e)) h.0 ∙ same_bits f s m n c e d h.1 g.1 ∙ ap (λ (v : Bool). to_bits f (fin v n d)) (sym g.0))
    ∙ of_bits-to_bits f (fin u n d) q
