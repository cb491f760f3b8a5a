-- One block: what is written is sound and is read as written, and what is sound is what is written for the points that it is read as. Assumes nothing.
use Rattle.std.specs.Prelude.{◌≡◌, true, ℕ, zero, suc, ◌+◌, ◌-◌, ◌*◌, ◌/◌, ◌^◌, ◌≤◌, ◌<◌, take, drop, Float}
use Rattle.std.proofs.Math.Path.{refl, sym, ap, subst}
use Rattle.std.proofs.Common.{◌∙◌, mod-lt, pow-suc, length-drop, take-append-drop, drop_of_length-le, length-take-le, take_at, drop_at, drop-drop}
use mathlib.Core.List.{List, [], ◌++◌, append_assoc, append-nil}
use native.Mathlib.Omega.{arith}
use Rattle.std.proofs.Math.ListN.{length}
use Rattle.std.specs.Float.{nan, inf, fin}
use Rattle.std.specs.Float.Ieee.{neg, lt, eq, le, is_nan}
use Rattle.std.proofs.lemmas.Bool.{and_from, and_parts}
use borrow.Author.Tests.{leb-true, eqb-true, le-leb, eq-eqb}
use Rattle.rules.specs.Tools.{sum}
use Rattle.rules.specs.HandedOver.{IsF64, in_range, plate_limit, first_off}
use Rattle.plate_laws.specs.Lists.{All, all_give, all_take, all_drop}
use Rattle.plate_laws.specs.FiniteDistances.{OnPlate}
use Rattle.plate_laws.specs.AcceptedInput.{first_off_lem, first_on}
use Rattle.little_endian.specs.Bytes.{IsByte, to_bytes, from_bytes, part, field, words, patterns, floats}
use Rattle.little_endian.specs.Numbers.{bytes_length, number_bytes, bytes_of, words_front, patterns_length, floats_length, floats_patterns, floats_front, NoNan, patterns_floats}
use Rattle.file_format.specs.PlateFile.{sums, first_check, second_check, block_body, block, count_in, coordinates_in, sound}
use Rattle.file_laws.specs.Lengths.{body_length}

pub on_number : (x : Float) → OnPlate x → NoNan x
unfolding in_range plate_limit neg le lt eq is_nan
on_number nan h = absurd h
on_number (inf s) h = tt
on_number (fin s m e) h = tt

-- ---- parts

-- what stands from byte k on, and what comes after it
next : (b p r : List ℕ) (k n : ℕ) → drop k b ≡ p ++ r → length p ≡ n → (part k n b ≡ p) × (drop (k + n) b ≡ r)
unfolding part
next b p r k n e l = (ap (take n) e ∙ take_at p r n l, sym (drop-drop n k b) ∙ ap (drop n) e ∙ drop_at p r n l)

split : (b : List ℕ) (k n : ℕ) → drop k b ≡ part k n b ++ drop (k + n) b
unfolding part
split b k n = sym (take-append-drop n (drop k b)) ∙ ap (λ (r : List ℕ). take n (drop k b) ++ r) (drop-drop n k b)

cut_at : (b p : List ℕ) (k n : ℕ) → part k n b ≡ p → drop k b ≡ p ++ drop (k + n) b
cut_at b p k n e = split b k n ∙ ap (λ (q : List ℕ). q ++ drop (k + n) b) e

then : (p a b : List ℕ) → a ≡ b → p ++ a ≡ p ++ b
then p a b e = ap (λ (q : List ℕ). p ++ q) e

part_length : (b : List ℕ) (k n : ℕ) → k + n ≤ length b → length (part k n b) ≡ n
unfolding part
part_length b k n h = length-take-le n (drop k b) (omega (arith, length-drop k b))

part_bytes : (b : List ℕ) (k n : ℕ) → All IsByte b → All IsByte (part k n b)
unfolding part
part_bytes b k n a = all_take IsByte n (drop k b) (all_drop IsByte k b a)

-- n bytes from byte k on whose number is x
field_is : (b : List ℕ) (k n x : ℕ) → All IsByte b → k + n ≤ length b → field k n b ≡ x → part k n b ≡ to_bytes n x
unfolding field
field_is b k n x a h e = bytes_of (part k n b) n x (part_bytes b k n a) (part_length b k n h) e

part_number : (b r : List ℕ) (k n x : ℕ) → drop k b ≡ to_bytes n x ++ r → x < 256 ^ n → (field k n b ≡ x) × (drop (k + n) b ≡ r)
unfolding field
part_number b r k n x e h =
    let s = next b (to_bytes n x) r k n e (bytes_length n x) in
    (ap from_bytes s.0 ∙ number_bytes n x h, s.1)

power : (n : ℕ) → 0 < 256 ^ n
power zero = omega arith
power (suc n) = omega (arith, pow-suc 256 n, power n)

-- ---- the checks

first_lt : (ws : List ℕ) → first_check ws < 256 ^ 4
unfolding first_check
first_lt ws = mod-lt (sum ws) (omega arith)

second_lt : (ws : List ℕ) → second_check ws < 256 ^ 4
unfolding second_check
second_lt ws = mod-lt (sum (sums 0 ws)) (omega arith)

-- ---- what is written

-- the coordinates of up to 31 points
pub record BlockPoints (xs : List Float) : Type 0 where
  pub few : length xs ≤ 62
  pub even : length xs ≡ 2 * (length xs / 2)
  pub f64 : All IsF64 xs
  pub on : All OnPlate xs

-- a block from its front
laid : (i : ℕ) (xs : List Float) →
    let ws = words 126 (block_body i xs) in
    block i xs
    ≡ to_bytes 4 i
    ++ (to_bytes 2 (length xs / 2)
    ++ (to_bytes 2 0 ++ (patterns xs ++ (to_bytes (496 - 8 * length xs) 0 ++ (to_bytes 4 (first_check ws) ++ to_bytes 4 (second_check ws))))))
unfolding block block_body
laid i xs = simp append_assoc

block_words : (i : ℕ) (xs : List Float) → length xs ≤ 62 → words 126 (block i xs) ≡ words 126 (block_body i xs)
unfolding block
block_words i xs h = ap (words 126) (append_assoc (block_body i xs) _ _) ∙ words_front 126 (block_body i xs) _ (body_length i xs h)

pub block_read : (i : ℕ) (xs : List Float) → BlockPoints xs → i < 2 ^ 32 →
    (sound i (block i xs) ≡ true) × (count_in (block i xs) ≡ length xs / 2) × (coordinates_in (block i xs) ≡ xs)
unfolding sound count_in coordinates_in field
block_read i xs h small =
    let few = h.few in
    let even = h.even in
    let n = length xs / 2 in
    let m : 496 - 16 * n ≡ 496 - 8 * length xs = omega arith in
    let k : 8 * length xs ≡ 16 * n = omega arith in
    let ws = words 126 (block_body i xs) in
    let b = block i xs in
    let same = block_words i xs few in
    let p1 = part_number b _ 0 4 i (laid i xs) small in
    let p2 = part_number b _ 4 2 n p1.1 (omega arith) in
    let p3 = part_number b _ 6 2 0 p2.1 (omega arith) in
    let p4 = next b (patterns xs) _ 8 (16 * n) p3.1 (patterns_length xs ∙ k) in
    let p5 = next b (to_bytes (496 - 8 * length xs) 0) _ (8 + 16 * n) (496 - 16 * n) p4.1 (bytes_length (496 - 8 * length xs) 0 ∙ sym m) in
    let e : (8 + 16 * n) + (496 - 16 * n) ≡ 504 = omega arith in
    let p6 = part_number b (to_bytes 4 (second_check ws)) 504 4 (first_check ws) (rw e at p5.1) (first_lt ws) in
    let p7 = part_number b [] 508 4 (second_check ws) (p6.1 ∙ sym (append-nil (to_bytes 4 (second_check ws)))) (second_lt ws) in
    let read : floats (2 * n) (drop 8 b) ≡ xs = rw (← even, p3.1) (floats_patterns xs _ h.f64) in
    let zeros : from_bytes (part (8 + 16 * n) (496 - 16 * n) b) ≡ 0 = ap from_bytes p5.0 ∙ number_bytes (496 - 8 * length xs) 0 (power (496 - 8 * length xs)) in
    rw p2.0 (
      and_from _ _
          (and_from _ _
          (and_from _ _
          (and_from _ _
          (and_from _ _ (and_from _ _ (eq-eqb _ _ p1.0) (le-leb n 31 (omega arith))) (eq-eqb _ _ p3.0))
          (eq-eqb _ _ zeros))
          (eq-eqb _ _ (p6.0 ∙ ap first_check (sym same))))
          (eq-eqb _ _ (p7.0 ∙ ap second_check (sym same))))
          (eq-eqb _ _ (ap (first_off plate_limit 0) read ∙ first_on plate_limit 0 xs h.on ∙ omega arith)),
      refl,
      read,
    )

-- ---- what is read

module _ (i : ℕ) (b : List ℕ) (is : sound i b ≡ true) where
  -- the tests that it passed
  record SoundBlock : Type 0 where
    numbered : field 0 4 b ≡ i
    few : count_in b ≤ 31
    zeros : field 6 2 b ≡ 0
    unused : field (8 + 16 * count_in b) (496 - 16 * count_in b) b ≡ 0
    first : field 504 4 b ≡ first_check (words 126 b)
    second : field 508 4 b ≡ second_check (words 126 b)
    on : first_off plate_limit 0 (coordinates_in b) ≡ 2 * count_in b

  passed : SoundBlock
  unfolding sound
  passed =
      let t6 = and_parts _ _ is in
      let t5 = and_parts _ _ t6.0 in
      let t4 = and_parts _ _ t5.0 in
      let t3 = and_parts _ _ t4.0 in
      let t2 = and_parts _ _ t3.0 in
      let t1 = and_parts _ _ t2.0 in
      record {
        numbered = eqb-true _ _ t1.0;
        few = leb-true _ _ t1.1;
        zeros = eqb-true _ _ t2.1;
        unused = eqb-true _ _ t3.1;
        first = eqb-true _ _ t4.1;
        second = eqb-true _ _ t5.1;
        on = eqb-true _ _ t6.1;
      }

  pub sound_few : count_in b ≤ 31
  sound_few = passed.few

  pub sound_length : length (coordinates_in b) ≡ 2 * count_in b
  unfolding coordinates_in
  sound_length = floats_length (2 * count_in b) (drop 8 b)

  pub sound_on : All OnPlate (coordinates_in b)
  sound_on = first_off_lem plate_limit 0 (coordinates_in b) (omega (arith, passed.on, sound_length))

module _ (i : ℕ) (b : List ℕ) (bytes : All IsByte b) (whole : length b ≡ 512) (is : sound i b ≡ true) where
  tests : SoundBlock i b is
  tests = passed i b is

  few_in : count_in b ≤ 31
  few_in = sound_few i b is

  count_field : field 4 2 b ≡ count_in b
  unfolding count_in
  count_field = refl

  places : part 8 (16 * count_in b) b ≡ patterns (coordinates_in b)
  unfolding coordinates_in
  places =
      let n = count_in b in
      let few = few_in in
      let p = part 8 (16 * n) b in
      let l : length p ≡ 8 * (2 * n) = part_length b 8 (16 * n) (omega arith) ∙ omega arith in
      let e : coordinates_in b ≡ floats (2 * n) p = ap (floats (2 * n)) (split b 8 (16 * n)) ∙ floats_front (2 * n) p (drop (8 + 16 * n) b) l in
      let numbers : All NoNan (floats (2 * n) p) =
      subst (λ (xs : List Float). All NoNan xs) e (all_give OnPlate NoNan on_number (coordinates_in b) (sound_on i b is)) in
      sym (ap patterns e ∙ patterns_floats (2 * n) p (part_bytes b 8 (16 * n) bytes) l numbers)

  -- the body, from its front
  body : b ≡ block_body i (coordinates_in b) ++ drop 504 b
  unfolding block_body
  body =
      let n = count_in b in
      let xs = coordinates_in b in
      let few = few_in in
      let two = sound_length i b is in
      let half : n ≡ length xs / 2 = omega arith in
      let m : 496 - 16 * n ≡ 496 - 8 * length xs = omega arith in
      let e : (8 + 16 * n) + (496 - 16 * n) ≡ 504 = omega arith in
      let s0 = cut_at b _ 0 4 (field_is b 0 4 i bytes (omega arith) tests.numbered) in
      let s1 = cut_at b _ 4 2 (field_is b 4 2 (length xs / 2) bytes (omega arith) (count_field ∙ half)) in
      let s2 = cut_at b _ 6 2 (field_is b 6 2 0 bytes (omega arith) tests.zeros) in
      let s3 = cut_at b _ 8 (16 * n) places in
      let s4 = rw (e, m) at (cut_at b _ (8 + 16 * n) (496 - 16 * n) (field_is b (8 + 16 * n) (496 - 16 * n) 0 bytes (omega arith) tests.unused)) in
      simp append_assoc
      (s0 ∙ then (to_bytes 4 i) _ _ (s1 ∙ then (to_bytes 2 (length xs / 2)) _ _ (s2 ∙ then (to_bytes 2 0) _ _ (s3 ∙ then (patterns xs) _ _ s4))))

  checks : drop 504 b ≡ to_bytes 4 (first_check (words 126 b)) ++ to_bytes 4 (second_check (words 126 b))
  checks =
      let s5 = cut_at b _ 504 4 (field_is b 504 4 _ bytes (omega arith) tests.first) in
      let s6 = cut_at b _ 508 4 (field_is b 508 4 _ bytes (omega arith) tests.second) in
      let l : length b ≤ 512 = omega arith in
      let end : drop 512 b ≡ [] = drop_of_length-le b l in
      let c2 = to_bytes 4 (second_check (words 126 b)) in
      s5 ∙ then (to_bytes 4 (first_check (words 126 b))) _ _ (s6 ∙ then c2 _ _ end ∙ append-nil c2)

  pub sound_block : b ≡ block i (coordinates_in b)
  unfolding block
  sound_block =
      let two = sound_length i b is in
      let few = few_in in
      let front = block_body i (coordinates_in b) in
      let ws : words 126 b ≡ words 126 front = ap (words 126) body ∙ words_front 126 front (drop 504 b) (body_length i (coordinates_in b) (omega arith)) in
      body ∙ then front _ _ (rw ws at checks) ∙ sym (append_assoc front _ _)
