-- The two checks, summed up word by word. Assumes nothing.
use Rattle.std.specs.Prelude.{◌≡◌, List, ◌∷◌, ℕ, suc, ◌+◌, ◌-◌, ◌*◌, ◌%◌, ◌≤◌, ◌<◌, length, get_or, take, drop}
use Rattle.std.proofs.Common.{sym, ap, ◌∙◌, arith, drop-drop, length-take, length-take-le, take_all, take-append-drop}
use Rattle.std.specs.Simd.{first_chunks}
use Rattle.rules.specs.Tools.{sum}
use Rattle.little_endian.specs.Bytes.{from_bytes, part, field, words}
use Rattle.little_endian.specs.Numbers.{words_front}
use Rattle.file_format.specs.PlateFile.{sums, first_check, second_check}
use Rattle.file_laws.specs.Chunks.{chunk_at}

-- the checks of a block
pub record Checked (bs : List ℕ) (first second : ℕ) : Type 0 where
  pub first_is : first ≡ first_check (words 126 bs)
  pub second_is : second ≡ second_check (words 126 bs)

-- the words from word i on
abbrev rest : List ℕ → ℕ → List ℕ
rest bs i = words (126 - i) (drop (4 * i) bs)

-- the sums after i words: what they come to with the words that are left, and how large they are
pub record SummedTo (bs : List ℕ) (first second i : ℕ) : Type 0 where
  pub within : i ≤ 126
  pub first_is : first + sum (rest bs i) ≡ sum (words 126 bs)
  pub second_is : second + sum (sums first (rest bs i)) ≡ sum (sums 0 (words 126 bs))
  pub first_small : first ≤ i * 4294967296
  pub second_small : second ≤ i * 541165879296

rest_step : (bs : List ℕ) (i : ℕ) → i < 126 → rest bs i ≡ field (4 * i) 4 bs ∷ rest bs (i + 1)
unfolding words field part
rest_step bs i h =
    let e : 126 - i ≡ suc (126 - (i + 1)) = omega arith in
    let g : 4 * i + 4 ≡ 4 * (i + 1) = omega arith in
    rw (e, drop-drop 4 (4 * i) bs, g)

pub summed_more : (bs : List ℕ) {first second i w : ℕ} → SummedTo bs first second i → i < 126 → w ≡ field (4 * i) 4 bs → w < 4294967296 →
    SummedTo bs (first + w) (second + (first + w)) (i + 1)
unfolding sum sums
summed_more bs {first} {second} {i} s h e l =
    let step = rest_step bs i h in
    let f = s.first_is in
    let g = s.second_is in
    let f' : first + sum (field (4 * i) 4 bs ∷ rest bs (i + 1)) ≡ sum (words 126 bs) = rw step at f in
    let g' : second + sum (sums first (field (4 * i) 4 bs ∷ rest bs (i + 1))) ≡ sum (sums 0 (words 126 bs)) = rw step at g in
    rw e
    (record {
      within = omega arith;
      first_is = omega (arith, f');
      second_is = omega (arith, g');
      first_small = omega (arith, e, s.first_small);
      second_small = omega (arith, e, s.first_small, s.second_small);
    })

pub summed_all : (bs : List ℕ) {first second i : ℕ} → SummedTo bs first second i → 126 ≤ i → Checked bs (first % 4294967296) (second % 4294967296)
unfolding first_check second_check sum sums words
summed_all bs {first} {second} {i} s h =
    let w = s.within in
    let e : i ≡ 126 = omega arith in
    let t : SummedTo bs first second 126 = rw e at s in
    record {
      first_is = rw (← t.first_is) (ap (λ (n : ℕ). n % 4294967296) (omega arith));
      second_is = rw (← t.second_is) (ap (λ (n : ℕ). n % 4294967296) (omega arith));
    }

-- the words of the first 504 bytes are those of all, which are more
pub checked_front : (bs : List ℕ) {first second : ℕ} → 504 ≤ length bs → Checked (take 504 bs) first second → Checked bs first second
checked_front bs h c =
    let e : words 126 bs ≡ words 126 (take 504 bs) =
    ap (words 126) (sym (take-append-drop 504 bs)) ∙ words_front 126 (take 504 bs) (drop 504 bs) (length-take-le 504 bs h) in
    record { first_is = c.first_is ∙ ap first_check (sym e); second_is = c.second_is ∙ ap second_check (sym e) }

-- number i of the words as chunks
pub word_in : (bs : List ℕ) (n i : ℕ) (d : List ℕ) → i < n → field 0 4 (get_or (first_chunks 4 n bs) i d) ≡ field (4 * i) 4 bs
unfolding field part
word_in bs n i d h =
    let p = drop (4 * i) bs in
    rw (chunk_at 4 n i bs d h) (ap from_bytes (take_all 4 (take 4 p) (omega (arith, length-take 4 p))))
