-- The plate file's two theorems (document 02, ticket 2): what the writer finishes is read back, and a path has one file. Assumes nothing.
use Rattle.std.specs.Prelude.{◌≡◌, refl, List, [], ◌∷◌, ℕ, ◌/◌, ◌%◌, length, take, drop, Float}
use Rattle.std.proofs.Common.{sym, ap, ◌∙◌, arith, take_at, ltb-false, eqb-true, le-ltb}
use Rattle.std.specs.Float.{nan}
use Rattle.std.proofs.lemmas.Bool.{not-false}
use Rattle.rules.specs.HandedOver.{IsF64, AllF64, gives, plate_limit, first_off, out_of_range, off_the_plate, no_room, over, written}
use Rattle.rules.specs.Limits.{most_path_points}
use Rattle.plate_laws.specs.Lists.{All, all-places}
use Rattle.plate_laws.specs.Rows.{Passed, rows_give, rows_pass}
use Rattle.plate_laws.specs.AcceptedInput.{first_off_lem, first_on}
use Rattle.little_endian.specs.Bytes.{IsByte, AllBytes}
use Rattle.file_format.specs.PlateFile.{write_file, read_file, too_many_path_points, odd_path, write_rows, write_call, read_into, coordinates_of, read_call, ReadsBack, OneFile}
use Rattle.file_laws.specs.Calls.{write_passed, write_accepted}
use Rattle.file_laws.specs.File.{Writable, read_write, read_from_lem, read_file_of}

-- ---- what the writer finishes is read back

-- a path that the writer accepts
writable : (xs : List Float) (room : ℕ) → All IsF64 xs → Passed (write_rows xs room) → Writable 0 xs
unfolding write_rows too_many_path_points odd_path off_the_plate out_of_range
writable xs room a (many, (odd, (off, _))) =
    let few = ltb-false most_path_points (length xs / 2) many in
    let even = eqb-true (length xs % 2) 0 (not-false _ odd) in
    let on = ltb-false (first_off plate_limit 0 xs) (length xs) off in
    record { even = omega arith; few = omega arith; f64 = a; on = first_off_lem plate_limit 0 xs (omega arith) }

write_gives : (xs : List Float) (file : List ℕ) (n : ℕ) → All IsF64 xs → (write_call xs file).answer ≡ gives n →
    Writable 0 xs × (n ≡ length (write_file xs)) × ((write_call xs file).file ≡ over (write_file xs) file)
unfolding write_call written
write_gives xs file n a e =
    let (passed, same) = rows_give (write_rows xs (length file)) _ n e in
    (writable xs (length file) a passed, cc same, rw e)

pub reads_back : ReadsBack
unfolding ReadsBack AllF64 read_call read_into coordinates_of no_room written over
reads_back xs path file n a e h =
    let (p, k, w) = write_gives xs file n (all-places IsF64 nan xs a) e in
    let bs = write_file xs in
    let f : take n (write_call xs file).file ≡ bs = take_over bs file (write_call xs file).file n w k in
    let room = rows_pass (no_room (length path) (length xs) ∷ []) (le-ltb (length path) (length xs) h, tt) (gives (length xs / 2)) in
    rw (f, read_write xs p, room) (refl, refl)
  where
    take_over : (bs file f : List ℕ) (n : ℕ) → f ≡ over bs file → n ≡ length bs → take n f ≡ bs
    take_over bs file f n w k = ap (take n) w ∙ take_at bs (drop (length bs) file) n (sym k)

-- ---- a path has one file

pub one_file : OneFile
unfolding OneFile AllBytes read_file
one_file bs xs a e =
    let f = read_file_of bs xs (all-places IsByte 0 bs a) e in
    let r = read_from_lem (length bs / 512) 0 bs xs refl e in
    let even = r.even in
    let on = first_on plate_limit 0 xs r.on in (
      f,
      λ file h.
          rw (← f) at (write_accepted xs file
          (write_passed xs file (omega (arith, r.few)) (omega arith) (omega (arith, on)) (rw (← f) h))),
    )
