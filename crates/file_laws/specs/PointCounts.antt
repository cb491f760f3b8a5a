-- How many points a file is read as, block by block. Assumes nothing.
use Rattle.std.specs.Prelude.{◌≡◌, refl, true, false, List, ◌++◌, ltb, Float, take}
use Rattle.std.proofs.Math.Path.{sym, ap}
use Rattle.std.proofs.Common.{◌∙◌, length-append, length-drop}
use Prim.Native.Nat.{ℕ, suc, ◌+◌, ◌-◌, ◌*◌, ◌/◌, ◌≤◌, ◌<◌}
use native.Mathlib.Omega.{arith}
use Rattle.std.proofs.Math.ListN.{length, drop}
use Rattle.std.proofs.Math.Seq.{drop-drop}
use borrow.Author.Tests.{lt-ltb, le-ltb}
use Rattle.rules.specs.Tools.{pick}
use Rattle.rules.specs.HandedOver.{Answer, gives, refuses, refused_by}
use Rattle.rules.specs.Limits.{most_path_points}
use Rattle.file_format.specs.PlateFile.{count_in, coordinates_in, sound, block_damaged, too_many_path_points, goes_on, followed, read_from, read_file, coordinates_of}
use Rattle.file_laws.specs.Block.{sound_length}

unfoldable pub counted : Answer (List Float) → Answer ℕ
counted (gives xs) = gives (length xs / 2)
counted (refuses number place) = refuses number place

pub counted_gives : (a : Answer (List Float)) (n : ℕ) → counted a ≡ gives n → (a ≡ gives (coordinates_of a)) × (n ≡ length (coordinates_of a) / 2)
unfolding counted coordinates_of
counted_gives (gives xs) n e = (refl, cc)
counted_gives (refuses number place) n e = let z : ◌≡◌ {A = ℕ} 0 1 = cc in absurd (omega arith)

pub counted_refuses : (a : Answer (List Float)) (n k : ℕ) → counted a ≡ refuses n k → a ≡ refuses n k
unfolding counted
counted_refuses (gives xs) n k e = let z : ◌≡◌ {A = ℕ} 0 1 = cc in absurd (omega arith)
counted_refuses (refuses number place) n k e = cc

-- k points more
unfoldable pub more : ℕ → Answer ℕ → Answer ℕ
more k (gives n) = gives (k + n)
more k (refuses number place) = refuses number place

more_none : (a : Answer ℕ) → more 0 a ≡ a
unfolding more
more_none (gives n) = let e : 0 + n ≡ n = omega arith in rw e
more_none (refuses number place) = refl

more_more : (k m : ℕ) (a : Answer ℕ) → more k (more m a) ≡ more (k + m) a
unfolding more
more_more k m (gives n) = let e : k + (m + n) ≡ k + m + n = omega arith in rw e
more_more k m (refuses number place) = refl

counted_followed : (xs : List Float) (a : Answer (List Float)) → length xs ≡ 62 → counted (followed xs a) ≡ more 31 (counted a)
unfolding counted followed more
counted_followed xs (gives ys) l = let e : length (xs ++ ys) / 2 ≡ 31 + length ys / 2 = omega (arith, length-append xs ys) in rw e
counted_followed xs (refuses number place) l = refl

-- what is counted from block i on
abbrev pub left : List ℕ → ℕ → Answer ℕ
left file i = counted (read_from (length file / 512 - i) i (drop (512 * i) file))

module _ (file : List ℕ) (i : ℕ) (in-file : 512 * i ≤ length file) where
  abbrev bs : List ℕ
  bs = drop (512 * i) file

  long : length bs ≡ length file - 512 * i
  long = length-drop (512 * i) file

  pub left_short : length file - 512 * i < 512 → left file i ≡ refuses 9 (length file)
  unfolding read_from counted
  left_short h =
      let none : length file / 512 - i ≡ 0 = omega arith in
      let e : 512 * i + length bs ≡ length file = omega (arith, long) in
      rw (none, e)

  module _ (enough : 512 ≤ length file - 512 * i) (b : List ℕ) (here : b ≡ take 512 (drop (512 * i) file)) where
    fuel : length file / 512 - i ≡ suc (length file / 512 - (i + 1))
    fuel = omega arith

    pub left_damaged : sound i b ≡ false → left file i ≡ refuses 8 i
    unfolding read_from refused_by block_damaged pick counted
    left_damaged s = rw (fuel, ← here, s)

    module _ (s : sound i b ≡ true) where
      pub left_many : most_path_points < 31 * i + count_in b → left file i ≡ refuses 2 0
      unfolding read_from refused_by block_damaged too_many_path_points pick counted
      left_many h = rw (fuel, ← here, s, lt-ltb most_path_points (31 * i + count_in b) h)

      module _ (few : 31 * i + count_in b ≤ most_path_points) where
        fits : ltb most_path_points (31 * i + count_in b) ≡ false
        fits = le-ltb most_path_points (31 * i + count_in b) few

        pub left_beyond : count_in b < 31 → 512 * i + 512 < length file → left file i ≡ refuses 9 (512 * i + 512)
        unfolding read_from refused_by block_damaged too_many_path_points goes_on pick counted
        left_beyond h l = rw (fuel, ← here, s, fits, lt-ltb (count_in b) 31 h, lt-ltb 512 (length bs) (omega (arith, long)))

        pub left_last : count_in b < 31 → length file ≤ 512 * i + 512 → left file i ≡ gives (count_in b)
        unfolding read_from refused_by block_damaged too_many_path_points goes_on pick counted
        left_last h l =
            let e : length (coordinates_in b) / 2 ≡ count_in b = omega (arith, sound_length i b s) in
            rw (fuel, ← here, s, fits, lt-ltb (count_in b) 31 h, le-ltb 512 (length bs) (omega (arith, long)), e)

        pub left_full : count_in b ≡ 31 → left file i ≡ more 31 (left file (i + 1))
        unfolding read_from refused_by block_damaged too_many_path_points pick
        left_full h =
            let l : length (coordinates_in b) ≡ 62 = omega (arith, sound_length i b s) in
            let q : 512 * i + 512 ≡ 512 * (i + 1) = omega arith in
            let d : drop 512 bs ≡ drop (512 * (i + 1)) file = drop-drop 512 (512 * i) file ∙ rw q in
            let g : suc i ≡ i + 1 = omega arith in
            rw (fuel, ← here, s, fits, le-ltb (count_in b) 31 (omega arith), d, g) (counted_followed (coordinates_in b) _ l)

-- ---- what the blocks before block i and the answer from it on say of the whole file

pub scan_begun : (file : List ℕ) → counted (read_file file) ≡ more 0 (left file 0)
unfolding read_file
scan_begun file = let e : length file / 512 - 0 ≡ length file / 512 = omega arith in rw e (sym (more_none (counted (read_file file))))

module _ (file : List ℕ) (i : ℕ) (so_far : counted (read_file file) ≡ more (31 * i) (left file i)) where
  pub scan_refused : (number place : ℕ) → left file i ≡ refuses number place → refuses number place ≡ counted (read_file file)
  unfolding more
  scan_refused number place e = sym (so_far ∙ ap (more (31 * i)) e)

  pub scan_given : (n : ℕ) → left file i ≡ gives n → gives (31 * i + n) ≡ counted (read_file file)
  unfolding more
  scan_given n e = sym (so_far ∙ ap (more (31 * i)) e)

  pub scan_on : left file i ≡ more 31 (left file (i + 1)) → counted (read_file file) ≡ more (31 * (i + 1)) (left file (i + 1))
  scan_on e =
      let f : 31 * i + 31 ≡ 31 * (i + 1) = omega arith in
      so_far ∙ ap (more (31 * i)) e ∙ more_more (31 * i) 31 (left file (i + 1)) ∙ rw f
