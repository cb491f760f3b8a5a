-- A whole file: what is written for a path is read as that path, and what is read as a path is what is written for it. Assumes nothing.
use Rattle.std.specs.Prelude.{◌≡◌, Bool, not, ◌⊎◌, List, [], ◌∷◌, ◌++◌, ℕ, zero, suc, ◌+◌, ◌*◌, ◌/◌, ◌≤◌, ◌<◌, ltb, length, take, drop, Float}
use Rattle.std.proofs.Math.Path.{refl}
use Rattle.std.proofs.Common.{sym, ap, ◌∙◌, append-nil, arith, length-append, length-drop, take-append-drop, length-take-le, take_at, drop_at}
use Rattle.std.proofs.Math.Bool.{true, false}
use Rattle.std.proofs.Math.Logic.{inl, inr}
use Rattle.std.proofs.Math.Seq.{take_all}
use borrow.Author.Tests.{ltb-true, ltb-false, not-false, lt-ltb, le-ltb}
use Rattle.rules.specs.Tools.{pick}
use Rattle.rules.specs.HandedOver.{IsF64, Answer, gives, refuses, refused_by}
use Rattle.rules.specs.Limits.{most_path_points}
use Rattle.plate_laws.specs.Lists.{All, all_append, all_take, all_drop}
use Rattle.plate_laws.specs.Rows.{rows_give, rows_pass}
use Rattle.plate_laws.specs.FiniteDistances.{OnPlate}
use Rattle.little_endian.specs.Bytes.{IsByte}
use Rattle.file_format.specs.PlateFile.{block, blocks, write_file, count_in, coordinates_in, sound, block_damaged, too_many_path_points, goes_on, followed, read_from, read_file}
use Rattle.file_laws.specs.Lengths.{block_length, file_length}
use Rattle.file_laws.specs.Block.{BlockPoints, block_read, sound_few, sound_length, sound_on, sound_block}

-- ---- what is written is read back

-- a path that the writer accepts, after i full blocks
pub record Writable (i : ℕ) (xs : List Float) : Type 0 where
  pub even : length xs ≡ 2 * (length xs / 2)
  pub few : 31 * i + length xs / 2 ≤ most_path_points
  pub f64 : All IsF64 xs
  pub on : All OnPlate xs

-- a block that is sound, and what follows it
read_step : (m i : ℕ) (b rest : List ℕ) → length b ≡ 512 → sound i b ≡ true → 31 * i + count_in b ≤ most_path_points →
    read_from (suc m) i (b ++ rest)
    ≡ pick (ltb (count_in b) 31)
    (refused_by (goes_on i (length (b ++ rest)) ∷ []) (gives (coordinates_in b)))
    (followed (coordinates_in b) (read_from m (suc i) rest))
unfolding read_from block_damaged too_many_path_points
read_step m i b rest l s h =
    rw (take_at b rest 512 l, drop_at b rest 512 l)
    (rows_pass (block_damaged i b ∷ too_many_path_points (31 * i + count_in b) ∷ []) (ap not s, (le-ltb most_path_points (31 * i + count_in b) h, tt)) _)

read_last : (m i : ℕ) (xs : List Float) → Writable i xs → length xs < 62 → read_from (suc m) i (block i xs ++ []) ≡ gives xs
unfolding pick refused_by goes_on
read_last m i xs p h =
    let few = p.few in
    let even = p.even in
    let r = block_read i xs (record { few = omega arith; even = p.even; f64 = p.f64; on = p.on }) (omega arith) in
    let l = block_length i xs (omega arith) in
    let c = r.1 in
    let short : length (block i xs ++ []) ≤ 512 = simp length-append (omega arith) in
    read_step m i (block i xs) [] l r.0 (omega arith)
    ∙ rw (lt-ltb (count_in (block i xs)) 31 (omega arith), le-ltb 512 (length (block i xs ++ [])) short, r.2)

read_full : (m i : ℕ) (xs ys : List Float) (rest : List ℕ) → BlockPoints xs → length xs ≡ 62 → 31 * suc i ≤ most_path_points → read_from m (suc i) rest ≡ gives ys →
    read_from (suc m) i (block i xs ++ rest) ≡ gives (xs ++ ys)
unfolding pick followed
read_full m i xs ys rest p h few e =
    let r = block_read i xs p (omega arith) in
    let l = block_length i xs (omega arith) in
    let c = r.1 in
    read_step m i (block i xs) rest l r.0 (omega arith) ∙ rw (le-ltb (count_in (block i xs)) 31 (omega arith), r.2, e)

read_blocks : (n i : ℕ) (xs : List Float) → Writable i xs → length xs / 62 ≡ n → read_from (suc n) i (blocks (suc n) i xs) ≡ gives xs
unfolding blocks
read_blocks zero i xs p e = let l : length xs ≤ 62 = omega arith in rw (take_all 62 xs l) (read_last zero i xs p (omega arith))
read_blocks (suc n) i xs p e =
    let even = p.even in
    let few = p.few in
    let front = take 62 xs in
    let rest = drop 62 xs in
    let lf : length front ≡ 62 = length-take-le 62 xs (omega arith) in
    let lr = length-drop 62 xs in
    let later = read_blocks n (suc i) rest
    (record { even = omega arith; few = omega arith; f64 = all_drop IsF64 62 xs p.f64; on = all_drop OnPlate 62 xs p.on })
    (omega arith) in
    read_full (suc n) i front rest (blocks (suc n) (suc i) rest)
    (record { few = omega arith; even = omega arith; f64 = all_take IsF64 62 xs p.f64; on = all_take OnPlate 62 xs p.on })
    lf (omega arith) later
    ∙ ap gives (take-append-drop 62 xs)

pub read_write : (xs : List Float) → Writable 0 xs → read_file (write_file xs) ≡ gives xs
unfolding read_file write_file
read_write xs p =
    let n = length xs / 62 in
    let f : n + 1 ≡ suc n = omega arith in
    let e : length (write_file xs) / 512 ≡ suc n = omega (arith, file_length xs) in
    rw (e, f) (read_blocks n 0 xs p refl)

-- ---- what is read as a path

-- A block of a file that is read as xs, bs being what is left of the file with it and m the blocks after it: it closes the file, or it is full and more follows.
pub record ClosingBlock (m : ℕ) (bs : List ℕ) (xs : List Float) : Type 0 where
  pub count : count_in (take 512 bs) < 31
  pub last : m ≡ 0
  pub whole : take 512 bs ≡ bs
  pub path : xs ≡ coordinates_in (take 512 bs)

pub record FullBlock (m i : ℕ) (bs : List ℕ) (xs : List Float) : Type 0 where
  pub count : count_in (take 512 bs) ≡ 31
  pub later : List Float
  pub reads : read_from m (suc i) (drop 512 bs) ≡ gives later
  pub path : xs ≡ coordinates_in (take 512 bs) ++ later

pub record ReadBlock (m i : ℕ) (bs : List ℕ) (xs : List Float) : Type 0 where
  pub is : sound i (take 512 bs) ≡ true
  pub few : 31 * i + count_in (take 512 bs) ≤ most_path_points
  pub then : ClosingBlock m bs xs ⊎ FullBlock m i bs xs

followed_gives : (cs xs : List Float) (r : Answer (List Float)) → followed cs r ≡ gives xs → (ys : List Float) × (r ≡ gives ys) × (xs ≡ cs ++ ys)
unfolding followed
followed_gives cs xs (gives ys) e = (ys, refl, cc)
followed_gives cs xs (refuses number place) e = let z : ◌≡◌ {A = ℕ} 0 1 = cc in absurd (omega arith)

module _ (m i : ℕ) (bs : List ℕ) (xs : List Float) (left : length bs / 512 ≡ suc m) where
  abbrev here : List ℕ
  here = take 512 bs

  -- after the tests of the block
  after_tests : sound i here ≡ true → (t : Bool) → ltb (count_in here) 31 ≡ t →
      pick t (refused_by (goes_on i (length bs) ∷ []) (gives (coordinates_in here))) (followed (coordinates_in here) (read_from m (suc i) (drop 512 bs))) ≡ gives xs →
      ClosingBlock m bs xs ⊎ FullBlock m i bs xs
  unfolding pick goes_on
  after_tests s true t e =
      let ((shut, _), same) = rows_give (goes_on i (length bs) ∷ []) _ xs e in
      let short = ltb-false 512 (length bs) shut in
      inl (record { count = ltb-true (count_in here) 31 t; last = omega arith; whole = take_all 512 bs short; path = cc same })
  after_tests s false t e =
      let (ys, f, g) = followed_gives (coordinates_in here) xs (read_from m (suc i) (drop 512 bs)) e in
      let most = sound_few i here s in
      let least = ltb-false (count_in here) 31 t in
      inr (record { count = omega arith; later = ys; reads = f; path = g })

  pub read_block : read_from (suc m) i bs ≡ gives xs → ReadBlock m i bs xs
  unfolding read_from block_damaged too_many_path_points
  read_block e =
      let ((unsound, (few, _)), same) = rows_give (block_damaged i here ∷ too_many_path_points (31 * i + count_in here) ∷ []) _ xs e in
      let s = not-false (sound i here) unsound in
      record { is = s; few = ltb-false most_path_points (31 * i + count_in here) few; then = after_tests s (ltb (count_in here) 31) refl same }

-- n blocks from block i on that are read as xs
pub record ReadAs (n i : ℕ) (xs : List Float) : Type 0 where
  pub count : n ≡ length xs / 62 + 1
  pub even : length xs ≡ 2 * (length xs / 2)
  pub few : 31 * i + length xs / 2 ≤ most_path_points
  pub on : All OnPlate xs

closes_as : (m i : ℕ) (bs : List ℕ) (xs : List Float) → ReadBlock m i bs xs → ClosingBlock m bs xs → ReadAs (suc m) i xs
closes_as m i bs xs r c =
    let b = take 512 bs in
    let l = sound_length i b r.is in
    let count = c.count in
    let last = c.last in
    let few = r.few in
    rw c.path (record { count = omega arith; even = omega arith; few = omega arith; on = sound_on i b r.is })

follows_as : (m i : ℕ) (bs : List ℕ) (xs : List Float) → ReadBlock m i bs xs → (f : FullBlock m i bs xs) → ReadAs m (suc i) f.later → ReadAs (suc m) i xs
follows_as m i bs xs r f a =
    let b = take 512 bs in
    let ys = f.later in
    let l = sound_length i b r.is in
    let k = length-append (coordinates_in b) ys in
    let full = f.count in
    let count = a.count in
    let even = a.even in
    let few = a.few in
    rw f.path
    (record { count = omega arith; even = omega arith; few = omega arith; on = all_append OnPlate (coordinates_in b) ys (sound_on i b r.is) a.on })

pub read_from_lem : (n i : ℕ) (bs : List ℕ) (xs : List Float) → length bs / 512 ≡ n → read_from n i bs ≡ gives xs → ReadAs n i xs
unfolding read_from
read_from_lem zero i bs xs l e = let z : ◌≡◌ {A = ℕ} 0 1 = cc in absurd (omega arith)
read_from_lem (suc m) i bs xs l e =
    let r = read_block m i bs xs l e in
    elim r.then [
      | inl c ↦ closes_as m i bs xs r c
      | inr f ↦ follows_as m i bs xs r f (read_from_lem m (suc i) (drop 512 bs) f.later (omega (arith, length-drop 512 bs)) f.reads)
    ]

-- ---- and is the file of that path

closes_with : (m i : ℕ) (bs : List ℕ) (xs : List Float) → All IsByte bs → 512 ≤ length bs → ReadBlock m i bs xs → ClosingBlock m bs xs → bs ≡ blocks (suc m) i xs
unfolding blocks
closes_with m i bs xs a h r c =
    let b = take 512 bs in
    let l = sound_length i b r.is in
    let count = c.count in
    let k : length (coordinates_in b) ≤ 62 = omega arith in
    rw (c.path, c.last, take_all 62 (coordinates_in b) k)
    (sym c.whole ∙ sound_block i b (all_take IsByte 512 bs a) (length-take-le 512 bs h) r.is ∙ sym (append-nil (block i (coordinates_in b))))

follows_with : (m i : ℕ) (bs : List ℕ) (xs : List Float) → All IsByte bs → 512 ≤ length bs → ReadBlock m i bs xs → (f : FullBlock m i bs xs) →
    drop 512 bs ≡ blocks m (suc i) f.later → bs ≡ blocks (suc m) i xs
unfolding blocks
follows_with m i bs xs a h r f e =
    let b = take 512 bs in
    let full = f.count in
    let l : length (coordinates_in b) ≡ 62 = omega (arith, sound_length i b r.is) in
    let same = sound_block i b (all_take IsByte 512 bs a) (length-take-le 512 bs h) r.is in
    rw (f.path, take_at (coordinates_in b) f.later 62 l, drop_at (coordinates_in b) f.later 62 l, ← e, ← same)
    (sym (take-append-drop 512 bs))

read_blocks_of : (n i : ℕ) (bs : List ℕ) (xs : List Float) → All IsByte bs → length bs / 512 ≡ n → read_from n i bs ≡ gives xs → bs ≡ blocks n i xs
unfolding read_from
read_blocks_of zero i bs xs a l e = let z : ◌≡◌ {A = ℕ} 0 1 = cc in absurd (omega arith)
read_blocks_of (suc m) i bs xs a l e =
    let r = read_block m i bs xs l e in
    let h : 512 ≤ length bs = omega arith in
    elim r.then [
      | inl c ↦ closes_with m i bs xs a h r c
      | inr f ↦ follows_with m i bs xs a h r f
          (read_blocks_of m (suc i) (drop 512 bs) f.later (all_drop IsByte 512 bs a) (omega (arith, length-drop 512 bs)) f.reads)
    ]

pub read_file_of : (bs : List ℕ) (xs : List Float) → All IsByte bs → read_file bs ≡ gives xs → bs ≡ write_file xs
unfolding read_file write_file
read_file_of bs xs a e =
    let n = length bs / 512 in
    rw (← (read_from_lem n 0 bs xs refl e).count) (read_blocks_of n 0 bs xs a refl e)
