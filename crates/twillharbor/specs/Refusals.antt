-- The calls whose results have a place of 32 bits never give refusal 12, whose place has 64. Assumes nothing.
use Rattle.std.proofs.Common.{sym, subst, arith}
use Rattle.std.specs.Prelude.{Bool, true, false, List, ◌++◌, ℕ, zero, suc, ◌/◌, ltb, length, take, drop, Float}
use Rattle.std.proofs.Math.Option.{Option, none, some}
use Rattle.rules.specs.Tools.{pick, every}
use Rattle.rules.specs.HandedOver.{Plate, Answer, gives, refuses, RefusalRow, refused_by, out_of_range, off_the_plate, work_short, full, no_room, plate_rows, order_rows, retrace_rows}
use Rattle.rules.specs.Start.{Oriented, start}
use Rattle.rules.specs.Calls.{distance_call, start_or, start_call, order_call, straight_call, retrace_call}
use Rattle.rules.specs.declared.Point.{Point}
use Rattle.plate_laws.specs.Rows.{Other, Lacks, rows_append, rows_lack}
use Rattle.plate_laws.specs.AcceptedInput.{input_lacks}
use Rattle.file_format.specs.PlateFile.{count_in, coordinates_in, block_damaged, too_many_path_points, goes_on, followed, read_from, read_file, odd_path, write_rows, write_call, read_into, read_call}

-- ---- the calls

pub distance_other : (a b : Point) → Other 12 (distance_call a b)
unfolding distance_call out_of_range every
distance_other a b = rows_lack 12 _ _ tt tt

start_or_lem : (s : Option Oriented) → Other 12 (start_or s)
unfolding start_or
start_or_lem none = λ e. omega arith
start_or_lem (some s) = tt

-- rows behind those of a plate
behind : {A : Type 0} (p : Plate) (rs : List RefusalRow) (later : Answer A) → Lacks 12 rs → Other 12 later → Other 12 (refused_by (plate_rows p ++ rs) later)
behind p rs later l o =
    subst (Other 12) (sym (rows_append (plate_rows p) rs later))
    (rows_lack 12 (plate_rows p) _ (input_lacks p.points p.lengths p.layers p.strategy).1 (rows_lack 12 rs later l o))

pub start_other : (p : Plate) → Other 12 (start_call p)
unfolding start_call
start_other p = rows_lack 12 (plate_rows p) _ (input_lacks p.points p.lengths p.layers p.strategy).1 (start_or_lem (start p))

pub order_other : (p : Plate) (slice : List ℕ) (w : ℕ) → Other 12 (order_call p slice w).answer
unfolding order_call order_rows work_short full every
order_other p slice w = behind p _ _ tt tt

pub straight_other : (p : Plate) (path : List Float) (w : ℕ) → Other 12 (straight_call p path w).answer
unfolding straight_call order_rows work_short full every
straight_other p path w = behind p _ _ tt tt

pub retrace_other : (p : Plate) (path : List Float) (ms : List ℕ) (w d : ℕ) → Other 12 (retrace_call p path ms w d).answer
unfolding retrace_call retrace_rows work_short full every
retrace_other p path ms w d = behind p _ _ tt tt

pub write_other : (xs : List Float) (file : List ℕ) → Other 12 (write_call xs file).answer
unfolding write_call write_rows too_many_path_points odd_path off_the_plate out_of_range no_room every
write_other xs file = rows_lack 12 _ _ tt tt

read_into_lem : (room : ℕ) (r : Answer (List Float)) → Other 12 r → Other 12 (read_into room r)
unfolding read_into no_room every
read_into_lem room (gives xs) o = rows_lack 12 _ _ tt tt
read_into_lem room (refuses number place) o = o

followed_other : (xs : List Float) (r : Answer (List Float)) → Other 12 r → Other 12 (followed xs r)
unfolding followed
followed_other xs (gives ys) o = tt
followed_other xs (refuses number place) o = o

either : (t : Bool) (a b : Answer (List Float)) → Other 12 a → Other 12 b → Other 12 (pick t a b)
unfolding pick
either true a b x y = x
either false a b x y = y

from_other : (n i : ℕ) (bs : List ℕ) → Other 12 (read_from n i bs)
unfolding read_from block_damaged too_many_path_points goes_on every
from_other zero i bs = λ e. omega arith
from_other (suc n) i bs =
    let b = take 512 bs in
    rows_lack 12 _ _ tt
    (either (ltb (count_in b) 31) _ _ (rows_lack 12 _ _ tt tt) (followed_other (coordinates_in b) (read_from n (suc i) (drop 512 bs)) (from_other n (suc i) (drop 512 bs))))

pub read_other : (file : List ℕ) (path : List Float) → Other 12 (read_call file path).answer
unfolding read_call read_file
read_other file path = read_into_lem (length path) (read_file file) (from_other (length file / 512) 0 file)
