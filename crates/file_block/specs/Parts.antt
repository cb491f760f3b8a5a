-- A block by slices of its bytes: they are filled, and tested as a whole. Assumes nothing.
use Rattle.std.specs.Prelude.{◌≡◌, refl, Bool, true, false, ◌&&◌, List, [], ◌∷◌, ◌++◌, ℕ, zero, suc, ◌+◌, ◌-◌, ◌*◌, ◌/◌, ◌≤◌, eqb, Float, length, take, drop, replicate}
use Rattle.std.proofs.Common.{sym, ap, ◌∙◌, append_assoc, append-nil, arith, length-append, length-take, length-take-le, length-drop, drop-drop, drop_of_length-le, take_all, take-append-drop}
use Rattle.std.proofs.lemmas.List.{length-replicate}
use Rattle.std.proofs.lemmas.List.Edits.{sets, sets-eq}
use Rattle.std.specs.List.{list_all}
use Rattle.std.specs.Simd.{first_chunks}
use Rattle.std.specs.Float.{binary64}
use Rattle.std.specs.Float.Ieee.{of_bits}
use borrow.Author.Tests.{eq-eqb, ne_eqb}
use Rattle.rules.specs.Tools.{pick}
use Rattle.rules.specs.HandedOver.{in_range, plate_limit, first_off}
use Rattle.little_endian.specs.Bytes.{to_bytes, from_bytes, part, field, words, patterns, floats}
use Rattle.little_endian.specs.Numbers.{bytes_length, sets_append, patterns_length, words_front, floats_front}
use Rattle.file_format.specs.PlateFile.{first_check, second_check, count_in, sound, block_body, block}
use Rattle.file_laws.specs.Lengths.{body_length}
use Rattle.file_block.specs.Checks.{Checked}
use Rattle.file_block.specs.BlockTests.{unused_fail, all_but_last}

-- ---- writing

sets_whole : (b vs : List ℕ) → length vs ≤ length b → sets b 0 vs ≡ vs ++ drop (length vs) b
sets_whole b vs h = let z : 0 + length vs ≡ length vs = omega arith in rw z at (sets-eq vs b 0 (omega arith))

-- one more part behind those that were written
more_written : (b p q : List ℕ) {r s : List ℕ} (k : ℕ) → r ≡ sets b 0 p → length p ≡ k → s ≡ sets r k q → s ≡ sets b 0 (p ++ q)
more_written b p q k e l f = let z : k ≡ 0 + length p = omega arith in f ∙ rw (e, z) (sym (sets_append b 0 p q))

zeros : (n : ℕ) → to_bytes n 0 ≡ replicate n 0
unfolding to_bytes
zeros zero = refl
zeros (suc n) = ap {B = List ℕ} (λ r. 0 ∷ r) (zeros n)

-- zeros from one byte to another
pub zeros_written : (b : List ℕ) {new : List ℕ} (from to : ℕ) → from ≤ to → to ≤ length b → new ≡ replicate (length (take (to - from) (drop from b))) 0 →
    take from b ++ (new ++ drop (to - from) (drop from b)) ≡ sets b from (to_bytes (to - from) 0)
zeros_written b from to h l e =
    let n = to - from in
    let k : length (take n (drop from b)) ≡ n = length-take-le n (drop from b) (omega (arith, length-drop from b)) in
    let m : length (replicate {A = ℕ} n 0) ≡ n = length-replicate n 0 in
    rw (e, k, zeros n, sets-eq (replicate n 0) b from (omega (arith, m, h, l)), m, drop-drop n from b) (sym (append_assoc (take from b) (replicate n 0) (drop (from + n) b)))

module _ (b : List ℕ) (i : ℕ) (xs : List Float) (few : length xs ≤ 62) where
  -- what is written before the checks
  pub body_of_parts : {b1 b2 b3 b4 b5 : List ℕ} → b1 ≡ sets b 0 (to_bytes 4 i) → b2 ≡ sets b1 4 (to_bytes 2 (length xs / 2)) → b3 ≡ sets b2 6 (to_bytes 2 0) →
      b4 ≡ sets b3 8 (patterns xs) → b5 ≡ sets b4 (8 + 8 * length xs) (to_bytes (504 - (8 + 8 * length xs)) 0) → b5 ≡ sets b 0 (block_body i xs)
  unfolding block_body
  body_of_parts e1 e2 e3 e4 e5 =
      let m : 504 - (8 + 8 * length xs) ≡ 496 - 8 * length xs = omega arith in
      let p1 = to_bytes 4 i in
      let p2 = to_bytes 2 (length xs / 2) in
      let p3 = to_bytes 2 0 in
      let p4 = patterns xs in
      let p5 = to_bytes (496 - 8 * length xs) 0 in
      let l1 = bytes_length 4 i in
      let l2 : length (p1 ++ p2) ≡ 6 = omega (arith, length-append p1 p2, l1, bytes_length 2 (length xs / 2)) in
      let l3 : length (p1 ++ p2 ++ p3) ≡ 8 = omega (arith, length-append (p1 ++ p2) p3, bytes_length 2 0) in
      let l4 : length (p1 ++ p2 ++ p3 ++ p4) ≡ 8 + 8 * length xs = omega (arith, length-append (p1 ++ p2 ++ p3) p4, patterns_length xs) in
      let w2 = more_written b p1 p2 4 e1 l1 e2 in
      let w3 = more_written b (p1 ++ p2) p3 6 w2 l2 e3 in
      let w4 = more_written b (p1 ++ p2 ++ p3) p4 8 w3 l3 e4 in
      more_written b (p1 ++ p2 ++ p3 ++ p4) p5 (8 + 8 * length xs) w4 l4 (rw m at e5)

  pub block_of_parts : {b5 b6 b7 : List ℕ} {first second : ℕ} → length b ≡ 512 → b5 ≡ sets b 0 (block_body i xs) → Checked b5 first second →
      b6 ≡ sets b5 504 (to_bytes 4 first) → b7 ≡ sets b6 508 (to_bytes 4 second) → b7 ≡ block i xs
  unfolding block
  block_of_parts {b5} {first = first} {second = second} whole e5 h e6 e7 =
      let body = block_body i xs in
      let lb : length body ≡ 504 = body_length i xs few in
      let ws : words 126 b5 ≡ words 126 body = ap (words 126) (e5 ∙ sets_whole b body (omega arith)) ∙ words_front 126 body _ lb in
      let q1 = to_bytes 4 (first_check (words 126 body)) in
      let q2 = to_bytes 4 (second_check (words 126 body)) in
      let first_is : first ≡ first_check (words 126 body) = h.first_is ∙ ap first_check ws in
      let second_is : second ≡ second_check (words 126 body) = h.second_is ∙ ap second_check ws in
      let l6 : length (body ++ q1) ≡ 508 = omega (arith, length-append body q1, bytes_length 4 (first_check (words 126 body))) in
      let w6 = more_written b body q1 504 e5 lb (rw first_is at e6) in
      let w7 = more_written b (body ++ q1) q2 508 w6 l6 (rw second_is at e7) in
      let all = body ++ q1 ++ q2 in
      let la : length all ≡ 512 = omega (arith, length-append (body ++ q1) q2, bytes_length 4 (second_check (words 126 body))) in
      let short : length b ≤ length all = omega arith in
      w7 ∙ sets_whole b all (omega arith) ∙ ap (λ (r : List ℕ). all ++ r) (drop_of_length-le b short) ∙ append-nil all

-- ---- testing

zero_all : (b n : ℕ) → eqb b 0 && eqb n 0 ≡ eqb (b + 256 * n) 0
zero_all zero zero = refl
zero_all zero (suc n) = ne_eqb (suc n) 0 (λ e. omega arith) ∙ sym (ne_eqb (0 + 256 * suc n) 0 (λ e. omega arith))
zero_all (suc b) n = ap (λ t. t && eqb n 0) (ne_eqb (suc b) 0 (λ e. omega arith)) ∙ sym (ne_eqb (suc b + 256 * n) 0 (λ e. omega arith))

pub all_zero : (bs : List ℕ) → list_all (λ b. eqb b 0) bs ≡ eqb (from_bytes bs) 0
unfolding from_bytes
all_zero [] = refl
all_zero (b ∷ bs) = rw (all_zero bs) (zero_all b (from_bytes bs))

-- whether the pattern in 8 bytes is that of a number on the plate
abbrev pub pattern_on : List ℕ → Bool
pattern_on p = in_range plate_limit (of_bits binary64 (field 0 8 p))

front_number : (bs : List ℕ) → field 0 8 (take 8 bs) ≡ from_bytes (take 8 bs)
unfolding field part
front_number bs = ap from_bytes (take_all 8 (take 8 bs) (omega (arith, length-take 8 bs)))

patterns_on : (n i : ℕ) (bs : List ℕ) → list_all pattern_on (first_chunks 8 n bs) ≡ eqb (first_off plate_limit i (floats n bs)) (i + n)
unfolding first_off floats pick
patterns_on zero i bs = let z : i + 0 ≡ i = omega arith in sym (rw z (eq-eqb i i refl))
patterns_on (suc n) i bs =
    rw (front_number bs, patterns_on n (suc i) (drop 8 bs)) (go (in_range plate_limit (of_bits binary64 (from_bytes (take 8 bs)))))
  where
    rest : ℕ
    rest = first_off plate_limit (suc i) (floats n (drop 8 bs))

    go : (t : Bool) → t && eqb rest (suc i + n) ≡ eqb (pick t rest i) (i + suc n)
    go true = let e : suc i + n ≡ i + suc n = omega arith in rw e
    go false = sym (ne_eqb i (i + suc n) (λ e. omega arith))

pub all_on : (n : ℕ) (bs : List ℕ) → list_all pattern_on (first_chunks 8 n bs) ≡ eqb (first_off plate_limit 0 (floats n bs)) n
all_on n bs = let z : 0 + n ≡ n = omega arith in rw z at (patterns_on n 0 bs)

-- n is the count that was read from block i
module _ (i : ℕ) (b : List ℕ) where
  -- the bytes of the places that are used
  places_is : {n : ℕ} → n ≤ 31 → length b ≡ 512 →
      let p = take (8 + 16 * n - 8) (drop 8 b) in
      let k = length p / 8 in
      eqb (first_off plate_limit 0 (floats k p)) k ≡ eqb (first_off plate_limit 0 (floats (2 * n) (drop 8 b))) (2 * n)
  places_is {n} h whole =
      let m : 8 + 16 * n - 8 ≡ 16 * n = omega arith in
      let front = take (16 * n) (drop 8 b) in
      let l : length front ≡ 16 * n = length-take-le (16 * n) (drop 8 b) (omega (arith, length-drop 8 b)) in
      let k : length front / 8 ≡ 2 * n = omega arith in
      let f : floats (2 * n) (drop 8 b) ≡ floats (2 * n) front =
      ap (floats (2 * n)) (sym (take-append-drop (16 * n) (drop 8 b))) ∙ floats_front (2 * n) front (drop (16 * n) (drop 8 b)) (omega arith) in
      rw (m, k, f)

  pub unused_part_fails : {n : ℕ} → n ≡ count_in b → eqb (from_bytes (take (504 - (8 + 16 * n)) (drop (8 + 16 * n) b))) 0 ≡ false → false ≡ sound i b
  unfolding field part
  unused_part_fails e h = unused_fail i b e h

  -- all tests but the last were passed
  pub all_but_last_part : {n : ℕ} → length b ≡ 512 → n ≡ count_in b → field 0 4 b ≡ i → n ≤ 31 → field 6 2 b ≡ 0 →
      eqb (from_bytes (take (504 - (8 + 16 * n)) (drop (8 + 16 * n) b))) 0 ≡ true →
      field 504 4 b ≡ first_check (words 126 b) → field 508 4 b ≡ second_check (words 126 b) →
      let p = take (8 + 16 * n - 8) (drop 8 b) in
      let k = length p / 8 in
      eqb (first_off plate_limit 0 (floats k p)) k ≡ sound i b
  unfolding field part
  all_but_last_part whole e e1 h e3 e4 e5 e6 = places_is h whole ∙ all_but_last i b e e1 h e3 e4 e5 e6
