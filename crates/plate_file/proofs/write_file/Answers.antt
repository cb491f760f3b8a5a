-- The first test that fails refuses, and alters nothing; else the whole file is written.
use Rattle.std.proofs.Common.{◌≡◌, ◌∙◌, ℕ, ◌+◌, ◌*◌, ◌/◌, ◌<◌, ◌≤◌, Bool, true, false, ltb, List, [], ◌∷◌, length, refl, sym, arith, ltb-true, ltb-false}
use Rattle.std.specs.Prelude.{Float}
use Rattle.std.specs.Float.Ieee.{of_bits}
use Rattle.std.proofs.lemmas.Result.{err_from_is_err_and}
use Rattle.rules.specs.Tools.{pick}
use Rattle.rules.specs.HandedOver.{answer_of, gives, refuses, number_of, place_of, refusal, plate_limit, first_off, refused_by, out_of_range, off_the_plate}
use Rattle.rules.specs.declared.Refusal.{Refusal}
use Rattle.plate_laws.specs.Rows.{refused, not_given, rows_give}
use Rattle.plate_laws.specs.Lists.{all_give}
use Rattle.plate_laws.specs.FiniteDistances.{OnPlate}
use Rattle.plate_laws.specs.AcceptedInput.{first_off_lem}
use Rattle.little_endian.specs.Numbers.{NoNan}
use Rattle.file_format.specs.PlateFile.{write_file}
use Rattle.file_laws.specs.Lengths.{file_length}
use Rattle.file_laws.specs.Block.{on_number}
use Rattle.file_laws.specs.Calls.{write_accepted, write_many, write_odd, write_off, write_full, write_passed}
use Rattle.plate_file.proofs.write_file.Goals as goal

-- what the check of the coordinates tells, where it refuses and where it does not
off_by : (xs : List Float) (e : Refusal) → refusal {A = Unit} e ≡ refused_by (off_the_plate xs ∷ []) (gives tt) →
    (first_off plate_limit 0 xs < length xs) × (refusal {A = ℕ} e ≡ refuses 4 (first_off plate_limit 0 xs))
unfolding off_the_plate out_of_range refused_by pick
off_by xs e = go (ltb (first_off plate_limit 0 xs) (length xs)) refl
  where
    go : (t : Bool) → ltb (first_off plate_limit 0 xs) (length xs) ≡ t → refusal {A = Unit} e ≡ pick t (refuses 4 (first_off plate_limit 0 xs)) (gives tt) →
        (first_off plate_limit 0 xs < length xs) × (refusal {A = ℕ} e ≡ refuses 4 (first_off plate_limit 0 xs))
    go true b h = (ltb-true _ _ b, refused e 4 _ h)
    go false b h = absurd (not_given e tt h)

on_by : (xs : List Float) → gives (tt {0}) ≡ refused_by {A = Unit {0}} (off_the_plate xs ∷ []) (gives tt) → length xs ≤ first_off plate_limit 0 xs
unfolding off_the_plate out_of_range
on_by xs h = ltb-false _ _ (rows_give (off_the_plate xs ∷ []) (gives tt) tt (sym h)).0.0

pub returns-then-points-gt-MOST_PATH_POINTS : goal.returns-then-points-gt-MOST_PATH_POINTS
unfolding answer_of refusal number_of place_of
returns-then-points-gt-MOST_PATH_POINTS c =
    let o = write_many c.args.path.now c.args.file.now c.if-points-gt-MOST_PATH_POINTS.true in
    record { answer = o.0; file = o.1 }

pub returns-then-path-ne0 : goal.returns-then-path-ne0
unfolding answer_of refusal number_of place_of
returns-then-path-ne0 c =
    let o = write_odd c.args.path.now c.args.file.now c.if-points-gt-MOST_PATH_POINTS.false c.if-path-ne0.true in
    record { answer = o.0; file = o.1 }

pub returns-in_err-check_range : goal.returns-in_err-check_range
unfolding answer_of off_the_plate plate_limit of_bits
returns-in_err-check_range c =
    let p = err_from_is_err_and c.from_residual.result c.from_residual.ensures.1 in
    let (place, told) = off_by c.args.path.now _ c.in_err-check_range.ensures in
    let w =
    write_off c.args.path.now c.args.file.now c.if-points-gt-MOST_PATH_POINTS.false (omega (arith, c.if-path-ne0.false)) place
    in
    rw (p.1, p.2) (record { answer = told ∙ w.0; file = w.1 })

pub returns-then-file-bytes : goal.returns-then-file-bytes
unfolding answer_of refusal number_of place_of off_the_plate plate_limit of_bits
returns-then-file-bytes c =
    let xs = c.args.path.now in
    let o =
    write_full xs c.args.file.now c.if-points-gt-MOST_PATH_POINTS.false (omega (arith, c.if-path-ne0.false))
    (on_by xs c.in_ok-check_range.ensures) (omega (arith, c.if-file-bytes.true, file_length xs)) in
    record { answer = o.0; file = o.1 }

pub write_blocks-requires-clause-numbers : goal.write_blocks-requires-clause-numbers
unfolding answer_of off_the_plate plate_limit of_bits
write_blocks-requires-clause-numbers c =
    let xs = c.args.path.now in
    all_give OnPlate NoNan on_number xs (first_off_lem plate_limit 0 xs (omega (arith, on_by xs c.in_ok-check_range.ensures)))

pub returns : goal.returns
unfolding answer_of off_the_plate plate_limit of_bits
returns c =
    let xs = c.args.path.now in
    let file = c.args.file.now in
    let l = file_length xs in
    let o =
    write_accepted xs file
    (write_passed xs file c.if-points-gt-MOST_PATH_POINTS.false (omega (arith, c.if-path-ne0.false)) (on_by xs c.in_ok-check_range.ensures)
    (omega (arith, c.if-file-bytes.false, l))) in
    let e : 512 * (length xs / 2 / 31 + 1) ≡ length (write_file xs) = omega (arith, l) in
    record { answer = rw e (sym o.0); file = c.write_blocks.ensures ∙ sym o.1 }
