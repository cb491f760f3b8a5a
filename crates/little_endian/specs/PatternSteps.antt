-- The loops over f64 bit patterns, one number a turn. Assumes nothing.
use Rattle.std.specs.Prelude.{◌≡◌, refl, not, List, [], ◌∷◌, ◌++◌, ℕ, zero, suc, ◌+◌, ◌*◌, ◌≤◌, ◌<◌, T, Float, length, get_or, take, drop, set}
use Rattle.std.proofs.Common.{sym, ap, ◌∙◌, append_assoc, append-nil, arith, length-drop, take-suc, drop-drop, get_or-drop, length-take-le}
use Rattle.std.specs.Float.{nan, binary64}
use Rattle.std.specs.Float.Ieee.{nan_bits, to_bits, of_bits}
use Rattle.std.specs.Float.Ieee.Bits.{nan_bits_is}
use Rattle.std.proofs.lemmas.List.Edits.{sets}
use Rattle.plate_laws.specs.Lists.{All, all-at}
use Rattle.little_endian.specs.Bytes.{to_bytes, part, field, patterns, floats}
use Rattle.little_endian.specs.Numbers.{sets_append, patterns_length, floats_length, NoNan}

-- ---- writing

patterns_snoc : (xs : List Float) (x : Float) → patterns (xs ++ x ∷ []) ≡ patterns xs ++ to_bytes 8 (to_bits binary64 x)
unfolding patterns
patterns_snoc [] x = append-nil (to_bytes 8 (to_bits binary64 x))
patterns_snoc (y ∷ xs) x = rw (patterns_snoc xs x) (sym (append_assoc (to_bytes 8 (to_bits binary64 y)) (patterns xs) (to_bytes 8 (to_bits binary64 x))))

-- j patterns were written from byte i on, and then one more
pub put_step : (b₀ : List ℕ) {b c : List ℕ} (xs : List Float) (i from n j : ℕ) → from + n ≤ length xs → j < n → b ≡ sets b₀ i (patterns (take j (drop from xs))) →
    c ≡ sets b (i + 8 * j) (to_bytes 8 (to_bits binary64 (get_or xs (from + j) nan))) → c ≡ sets b₀ i (patterns (take (j + 1) (drop from xs)))
put_step b₀ xs i from n j l h e f =
    let ys = drop from xs in
    let x = get_or xs (from + j) nan in
    let left = length-drop from xs in
    let next : j + 1 ≡ suc j = omega arith in
    let done : length (patterns (take j ys)) ≡ 8 * j =
    patterns_length (take j ys) ∙ ap (λ (m : ℕ). 8 * m) (length-take-le j ys (omega arith)) in
    f
    ∙ ap (λ (r : List ℕ). sets r (i + 8 * j) (to_bytes 8 (to_bits binary64 x))) e
    ∙ rw (
      next,
      take-suc ys j nan (omega arith),
      get_or-drop from xs j nan,
      patterns_snoc (take j ys) x,
      sets_append b₀ i (patterns (take j ys)) (to_bytes 8 (to_bits binary64 x)),
      done,
    )

-- ---- reading

floats_snoc : (n : ℕ) (bs : List ℕ) → floats (n + 1) bs ≡ floats n bs ++ of_bits binary64 (field (8 * n) 8 bs) ∷ []
unfolding floats field part
floats_snoc zero bs = refl
floats_snoc (suc n) bs =
    let e : suc n + 1 ≡ suc (n + 1) = omega arith in
    let f : 8 + 8 * n ≡ 8 * suc n = omega arith in
    rw (e, floats_snoc n (drop 8 bs), drop-drop (8 * n) 8 bs, f)

floats_at : (n : ℕ) (bs : List ℕ) (j : ℕ) → j < n → get_or (floats n bs) j nan ≡ of_bits binary64 (field (8 * j) 8 bs)
unfolding floats field part
floats_at zero bs j h = absurd (omega arith)
floats_at (suc n) bs zero h = refl
floats_at (suc n) bs (suc j) h =
    let f : 8 + 8 * j ≡ 8 * suc j = omega arith in
    floats_at n (drop 8 bs) j (omega arith) ∙ rw (drop-drop (8 * j) 8 bs, f)

field_drop : (i j n : ℕ) (bs : List ℕ) → field j n (drop i bs) ≡ field (i + j) n bs
unfolding field part
field_drop i j n bs = rw (drop-drop j i bs)

-- j numbers were read, and then one more
pub read_step : (xs₀ : List Float) {xs : List Float} (bs : List ℕ) (i from j : ℕ) {x : ℕ} → xs ≡ sets xs₀ from (floats j (drop i bs)) → x ≡ field (i + 8 * j) 8 bs →
    set xs (from + j) (of_bits binary64 x) ≡ sets xs₀ from (floats (j + 1) (drop i bs))
read_step xs₀ bs i from j e f =
    let ys = floats j (drop i bs) in
    let y = of_bits binary64 (field (i + 8 * j) 8 bs) in
    rw (floats_snoc j (drop i bs), field_drop i (8 * j) 8 bs, sets_append xs₀ from ys (y ∷ []), floats_length j (drop i bs), ← e, f)

-- what from_bits asks for
pub read_number : (bs : List ℕ) (i n j : ℕ) {x : ℕ} → All NoNan (floats n (drop i bs)) → j < n → x ≡ field (i + 8 * j) 8 bs → T (not (nan_bits binary64 x))
read_number bs i n j {x} a h e =
    let all = floats_length n (drop i bs) in
    rw (nan_bits_is binary64 x, e)
    (rw (floats_at n (drop i bs) j h, field_drop i (8 * j) 8 bs) at (all-at NoNan nan (floats n (drop i bs)) a j (omega arith)))
