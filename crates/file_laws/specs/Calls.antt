-- The writer and the reader, test by test: what each answers, and what it leaves in its output slice. Assumes nothing.
use Rattle.std.specs.Prelude.{◌≡◌, refl, false, List, [], ◌∷◌, ℕ, ◌*◌, ◌/◌, ◌%◌, ◌≤◌, ◌<◌, Float}
use Rattle.std.proofs.Common.{ap, arith}
use Rattle.std.proofs.Math.Bool.{not}
use Rattle.std.proofs.Math.ListN.{length}
use borrow.Author.Tests.{lt-ltb, le-ltb, eq-eqb, ne_eqb}
use Rattle.rules.specs.Tools.{pick}
use Rattle.rules.specs.HandedOver.{gives, refuses, plate_limit, first_off, refused_by, out_of_range, off_the_plate, no_room, over, written}
use Rattle.rules.specs.Limits.{most_path_points}
use Rattle.plate_laws.specs.Rows.{Passed, rows_pass}
use Rattle.file_format.specs.PlateFile.{write_file, read_file, too_many_path_points, odd_path, write_rows, write_call, read_into, coordinates_of, read_call}
use Rattle.file_laws.specs.PointCounts.{counted, counted_gives, counted_refuses}
use Rattle.file_laws.specs.BlockCopies.{points_read}

-- ---- the writer

module _ (xs : List Float) (file : List ℕ) where
  -- a refusal alters nothing
  abbrev pub WriteRefused : ℕ → ℕ → Type 0
  WriteRefused n k = (refuses n k ≡ (write_call xs file).answer) × (file ≡ (write_call xs file).file)

  write_refused : (n k : ℕ) → refused_by (write_rows xs (length file)) (gives (length (write_file xs))) ≡ refuses n k → WriteRefused n k
  unfolding write_call written
  write_refused n k e = rw e (refl, refl)

  pub write_accepted : Passed (write_rows xs (length file)) →
      ((write_call xs file).answer ≡ gives (length (write_file xs))) × ((write_call xs file).file ≡ over (write_file xs) file)
  unfolding write_call written
  write_accepted p = rw (rows_pass (write_rows xs (length file)) p (gives (length (write_file xs)))) (refl, refl)

  pub write_many : most_path_points < length xs / 2 → WriteRefused 2 0
  unfolding write_rows refused_by pick too_many_path_points
  write_many h = write_refused 2 0 (rw (lt-ltb most_path_points (length xs / 2) h))

  module _ (few : length xs / 2 ≤ most_path_points) where
    pub write_odd : (length xs % 2 ≡ 0 → ⊥) → WriteRefused 3 0
    unfolding write_rows refused_by pick too_many_path_points odd_path
    write_odd h = write_refused 3 0 (rw (le-ltb most_path_points (length xs / 2) few, ne_eqb (length xs % 2) 0 h))

    module _ (even : length xs % 2 ≡ 0) where
      pub write_off : first_off plate_limit 0 xs < length xs → WriteRefused 4 (first_off plate_limit 0 xs)
      unfolding write_rows refused_by pick too_many_path_points odd_path off_the_plate out_of_range
      write_off h =
          write_refused 4 (first_off plate_limit 0 xs)
          (rw (le-ltb most_path_points (length xs / 2) few, eq-eqb (length xs % 2) 0 even, lt-ltb (first_off plate_limit 0 xs) (length xs) h))

      module _ (on : length xs ≤ first_off plate_limit 0 xs) where
        pub write_full : length file < length (write_file xs) → WriteRefused 6 0
        unfolding write_rows refused_by pick too_many_path_points odd_path off_the_plate out_of_range no_room
        write_full h =
            write_refused 6 0
            (rw (
              le-ltb most_path_points (length xs / 2) few,
              eq-eqb (length xs % 2) 0 even,
              le-ltb (first_off plate_limit 0 xs) (length xs) on,
              lt-ltb (length file) (length (write_file xs)) h,
            ))

        pub write_passed : length (write_file xs) ≤ length file → Passed (write_rows xs (length file))
        unfolding write_rows too_many_path_points odd_path off_the_plate out_of_range no_room
        write_passed h = (
          le-ltb most_path_points (length xs / 2) few,
          (ap not (eq-eqb (length xs % 2) 0 even), (le-ltb (first_off plate_limit 0 xs) (length xs) on, (le-ltb (length file) (length (write_file xs)) h, tt))),
        )

-- ---- the reader

room_passed : (room n : ℕ) → n ≤ room → (no_room room n).test ≡ false
unfolding no_room
room_passed room n h = le-ltb room n h

module _ (file : List ℕ) (path : List Float) where
  abbrev pub ReadRefused : ℕ → ℕ → Type 0
  ReadRefused n k = (refuses n k ≡ (read_call file path).answer) × (path ≡ (read_call file path).path)

  pub read_refused : (n k : ℕ) → counted (read_file file) ≡ refuses n k → ReadRefused n k
  unfolding read_call read_into written
  read_refused n k e = rw (counted_refuses (read_file file) n k e) (refl, refl)

  module _ (points : ℕ) (counts : counted (read_file file) ≡ gives points) where
    reads : read_file file ≡ gives (coordinates_of (read_file file))
    reads = (counted_gives (read_file file) points counts).0

    pub read_full : length path < 2 * points → ReadRefused 6 0
    unfolding read_call read_into written refused_by pick no_room
    read_full h =
        let l = points_read file points counts in
        rw (reads, lt-ltb (length path) (length (coordinates_of (read_file file))) (omega (arith, l))) (refl, refl)

    pub read_whole : 2 * points ≤ length path →
        (gives points ≡ (read_call file path).answer) × (over (coordinates_of (read_file file)) path ≡ (read_call file path).path)
    unfolding read_call read_into written
    read_whole h =
        let xs = coordinates_of (read_file file) in
        let l = points_read file points counts in
        let half : points ≡ length xs / 2 = omega (arith, l) in
        rw (reads, rows_pass (no_room (length path) (length xs) ∷ []) (room_passed (length path) (length xs) (omega (arith, l)), tt) (gives (length xs / 2)), half)
        (refl, refl)
