-- The coordinates of a file, copied block by block. Assumes nothing.
use Rattle.std.specs.Prelude.{◌≡◌, true, List, ℕ, zero, suc, ◌+◌, ◌-◌, ◌*◌, ◌/◌, ◌≤◌, ◌<◌, min, Float, take, drop}
use Rattle.std.proofs.Math.Path.{refl, ap}
use Rattle.std.proofs.Common.{sym, ◌∙◌, subst, inl, inr, add-zero, length-take, length-drop, take_at, drop_at, drop-drop, take_all}
use native.Mathlib.Omega.{arith}
use Rattle.std.proofs.Math.ListN.{length}
use Rattle.rules.specs.HandedOver.{gives, over}
use Rattle.plate_laws.specs.Lists.{All, all_give}
use Rattle.plate_laws.specs.FiniteDistances.{OnPlate}
use Rattle.little_endian.specs.Bytes.{floats}
use Rattle.little_endian.specs.Numbers.{NoNan}
use Rattle.file_format.specs.PlateFile.{count_in, coordinates_in, sound, read_from, read_file, coordinates_of}
use Rattle.file_laws.specs.Block.{on_number, sound_length, sound_on}
use Rattle.file_laws.specs.File.{ReadBlock, read_block, ReadAs, read_from_lem}
use Rattle.file_laws.specs.PointCounts.{counted, counted_gives}

-- ---- a block of a file that is read as a path

-- b is block i, and xs is the path from its points on
record BlockOf (i : ℕ) (b : List ℕ) (xs : List Float) : Type 0 where
  is : sound i b ≡ true
  path : coordinates_in b ≡ take 62 xs

first_block : (m i : ℕ) (bs : List ℕ) (xs : List Float) → ReadBlock m i bs xs → BlockOf i (take 512 bs) xs
first_block m i bs xs r =
    let b = take 512 bs in
    let l = sound_length i b r.is in
    record {
      is = r.is;
      path =
          elim r.then [
            | inl c ↦
                let few = c.count in
                rw c.path (sym (take_all 62 (coordinates_in b) (omega arith)))
            | inr f ↦
                let full = f.count in
                rw f.path (sym (take_at (coordinates_in b) f.later 62 (omega arith)))
          ];
    }

block_of : (k n i : ℕ) (bs : List ℕ) (xs : List Float) → length bs / 512 ≡ n → read_from n i bs ≡ gives xs → k < n →
    BlockOf (i + k) (take 512 (drop (512 * k) bs)) (drop (62 * k) xs)
block_of k zero i bs xs l e h = absurd (omega arith)
block_of zero (suc m) i bs xs l e h = rw (add-zero i) (first_block m i bs xs (read_block m i bs xs l e))
block_of (suc k) (suc m) i bs xs l e h =
    let r = read_block m i bs xs l e in
    let g : 62 + 62 * k ≡ 62 * suc k = omega arith in
    let q : 512 + 512 * k ≡ 512 * suc k = omega arith in
    let s : suc i + k ≡ i + suc k = omega arith in
    elim r.then [
      | inl c ↦ let last = c.last in absurd (omega arith)
      | inr f ↦
          let full = f.count in
          let w : length (coordinates_in (take 512 bs)) ≡ 62 = omega (arith, sound_length i (take 512 bs) r.is) in
          let d : drop (62 * suc k) xs ≡ drop (62 * k) f.later =
          rw (← g, ← drop-drop (62 * k) 62 xs, f.path) (ap (drop (62 * k)) (drop_at (coordinates_in (take 512 bs)) f.later 62 w)) in
          rw (d, ← s, ← q, ← drop-drop (512 * k) 512 bs)
          (block_of k m (suc i) (drop 512 bs) f.later (omega (arith, length-drop 512 bs)) f.reads (omega arith))
    ]

-- ---- copying

-- what is read, and the output slice after i blocks
abbrev pub read_path : List ℕ → List Float
read_path file = coordinates_of (read_file file)

abbrev pub copied_to : List ℕ → List Float → ℕ → List Float
copied_to file path i = over (take (62 * i) (read_path file)) path

pub none_copied : (file : List ℕ) (path : List Float) → path ≡ copied_to file path 0
unfolding over
none_copied file path = refl

-- a file that is counted as so many points
module _ (file : List ℕ) (points : ℕ) (counts : counted (read_file file) ≡ gives points) where
  abbrev xs : List Float
  xs = read_path file

  reads : read_file file ≡ gives xs
  reads = (counted_gives (read_file file) points counts).0

  pub read_as : ReadAs (length file / 512) 0 xs
  unfolding read_file
  read_as = read_from_lem (length file / 512) 0 file xs refl reads

  pub points_read : length xs ≡ 2 * points
  points_read = let even = read_as.even in omega (arith, (counted_gives (read_file file) points counts).1)

  pub blocks_read : length file / 512 ≡ points / 31 + 1
  blocks_read = omega (arith, read_as.count, points_read)

  pub all_copied : (path : List Float) (i : ℕ) → i ≡ length file / 512 → copied_to file path i ≡ over xs path
  all_copied path i e =
      let l : length xs ≤ 62 * i = omega (arith, e, read_as.count) in
      ap (λ (ys : List Float). over ys path) (take_all (62 * i) xs l)

  -- block i of the file, of which n points are copied
  module _ (i n : ℕ) (b : List ℕ) (in-file : i < length file / 512) (share : n ≡ min (points - 31 * i) 31) (here : b ≡ take 512 (drop (512 * i) file)) where
    block_here : BlockOf i b (drop (62 * i) xs)
    unfolding read_file
    block_here =
        let z : 0 + i ≡ i = omega arith in
        rw (← here, z) at (block_of i (length file / 512) 0 file xs refl reads in-file)

    share_length : length (take 62 (drop (62 * i) xs)) ≡ 2 * n
    share_length = omega (arith, length-take 62 (drop (62 * i) xs), length-drop (62 * i) xs, points_read, share)

    pub copied_here : floats (2 * n) (drop 8 b) ≡ take 62 (drop (62 * i) xs)
    unfolding coordinates_in
    copied_here =
        let l = ap length block_here.path in
        let e : 2 * n ≡ 2 * count_in b = omega (arith, l, share_length, sound_length i b block_here.is) in
        ap (λ (m : ℕ). floats m (drop 8 b)) e ∙ block_here.path

    pub copied_numbers : All NoNan (floats (2 * n) (drop 8 b))
    copied_numbers =
        subst (λ (ys : List Float). All NoNan ys) (block_here.path ∙ sym copied_here)
        (all_give OnPlate NoNan on_number (coordinates_in b) (sound_on i b block_here.is))
