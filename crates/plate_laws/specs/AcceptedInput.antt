-- What a call has passed that gives a result, or another refusal than these: refusals 1 to 3, 13 and 4; and so the squared distances of the plate's points
-- are finite, their signs plus. Assumes nothing.
use Rattle.std.specs.Prelude.{◌≡◌, refl, Bool, true, false, not, List, [], ◌∷◌, ℕ, suc, ◌+◌, ◌*◌, ◌≤◌, ◌<◌, T, leb, Float, length}
use Rattle.std.proofs.Common.{ap, arith, ltb-false, le-ltb, leb-true, eqb-true, eq-eqb}
use Rattle.std.specs.Float.{nan}
use Rattle.std.proofs.lemmas.Bool.{not-false}
use Rattle.rules.specs.Tools.{pick, sum, every, highest_layer}
use Rattle.rules.specs.HandedOver.{Plate, at, Answer, gives, in_range, plate_limit, first_off, first_bad, refused_by, too_many_contours, too_many_points, miscounted, bad_layer_count, bad_layer, out_of_range, off_the_plate, contour_rows, parked_coordinates, input_rows}
use Rattle.rules.specs.Distances.{distance_squared}
use Rattle.rules.specs.declared.StartPointStrategy.{StartPointStrategy}
use Rattle.plate_laws.specs.Lists.{All, all-at}
use Rattle.plate_laws.specs.Rows.{Passed, OtherThan, Lacks, rows_other, given_other, rows_give}
use Rattle.plate_laws.specs.FloatOrder.{Plus}
use Rattle.plate_laws.specs.FiniteDistances.{OnPlate, distance_plus}

-- where the first coordinate out of range is the place after the last, all are in range
pub first_off_lem : (limit : Float) (i : ℕ) (xs : List Float) → i + length xs ≤ first_off limit i xs → All (λ x. T (in_range limit x)) xs
unfolding first_off pick
first_off_lem limit i [] h = tt
first_off_lem limit i (x ∷ xs) h = go (in_range limit x) (λ t. t) (first_off_lem limit (suc i) xs) h
  where
    go : (t : Bool) → (T t → T (in_range limit x)) → (suc i + length xs ≤ first_off limit (suc i) xs → All (λ x. T (in_range limit x)) xs) →
        i + suc (length xs) ≤ pick t (first_off limit (suc i) xs) i → T (in_range limit x) × All (λ x. T (in_range limit x)) xs
    go true f rest l = (f tt, rest (omega arith))
    go false f rest l = absurd (omega arith)

-- where the first contour with a layer above 15 is the number after the last, all are of a layer up to 15
pub first_bad_lem : (i : ℕ) (ls : List ℕ) → i + length ls ≤ first_bad i ls → All (λ l. l ≤ highest_layer) ls
unfolding first_bad pick
first_bad_lem i [] h = tt
first_bad_lem i (l ∷ ls) h = go (leb l highest_layer) refl (first_bad_lem (suc i) ls) h
  where
    go : (t : Bool) → leb l highest_layer ≡ t → (suc i + length ls ≤ first_bad (suc i) ls → All (λ l. l ≤ highest_layer) ls) →
        i + suc (length ls) ≤ pick t (first_bad (suc i) ls) i → (l ≤ highest_layer) × All (λ l. l ≤ highest_layer) ls
    go true e rest h = (leb-true l highest_layer e, rest (omega arith))
    go false e rest h = absurd (omega arith)

-- points and lengths that refusals 1 to 4 let pass
pub record Accepted (xs : List Float) (ns : List ℕ) : Type 0 where
  pub contours : length ns ≤ 4096
  pub points : sum ns ≤ 65536
  pub counted : length xs ≡ 2 * sum ns
  pub on_plate : All OnPlate xs

-- layers of m contours that refusal 13 lets pass
pub record Layered (m : ℕ) (ls : List ℕ) : Type 0 where
  pub counted : length ls ≡ m
  pub shallow : All (λ l. l ≤ highest_layer) ls

-- a parked point that refusal 4 lets pass
unfoldable pub ParkedOnPlate : StartPointStrategy → Type 0
ParkedOnPlate s = All OnPlate (parked_coordinates s)

on_plate : (xs : List Float) → (off_the_plate xs).test ≡ false → All OnPlate xs
unfolding off_the_plate out_of_range
on_plate xs e = first_off_lem plate_limit 0 xs (omega (arith, ltb-false (first_off plate_limit 0 xs) (length xs) e))

accepted_by : (xs : List Float) (ns : List ℕ) → Passed (too_many_contours ns ∷ too_many_points ns ∷ miscounted xs ns ∷ off_the_plate xs ∷ []) → Accepted xs ns
unfolding too_many_contours too_many_points miscounted
accepted_by xs ns (m, (p, (c, (o, t)))) =
    record {
      contours = ltb-false 4096 (length ns) m;
      points = ltb-false 65536 (sum ns) p;
      counted = eqb-true (length xs) (2 * sum ns) (not-false _ c);
      on_plate = on_plate xs o;
    }

layered_by : (m : ℕ) (ls : List ℕ) → Passed (bad_layer_count m ls ∷ bad_layer ls ∷ []) → Layered m ls
unfolding bad_layer_count bad_layer
layered_by m ls (c, (b, t)) =
    record {
      counted = eqb-true (length ls) m (not-false _ c);
      shallow = first_bad_lem 0 ls (omega (arith, ltb-false (first_bad 0 ls) (length ls) b));
    }

-- what an answer has passed that is a result, or another refusal
pub input_other : {A : Type 0} (xs : List Float) (ns ls : List ℕ) (s : StartPointStrategy) (later b : Answer A) → OtherThan (input_rows xs ns ls s) b →
    refused_by (input_rows xs ns ls s) later ≡ b → Accepted xs ns × Layered (length ns) ls × ParkedOnPlate s × (later ≡ b)
unfolding input_rows ParkedOnPlate
input_other xs ns ls s later b o e =
    let ((m, (p, (c, (n, (l, (k, (o, t))))))), same) = rows_other (input_rows xs ns ls s) later b o e in
    (accepted_by xs ns (m, (p, (c, (o, tt)))), layered_by (length ns) ls (n, (l, tt)), on_plate (parked_coordinates s) k, same)

pub input_gives : {A : Type 0} (xs : List Float) (ns ls : List ℕ) (s : StartPointStrategy) (later : Answer A) (c : A) →
    refused_by (input_rows xs ns ls s) later ≡ gives c → Accepted xs ns × Layered (length ns) ls × ParkedOnPlate s × (later ≡ gives c)
input_gives xs ns ls s later c e = input_other xs ns ls s later (gives c) (given_other (input_rows xs ns ls s) c) e

-- refusal 6 is none of these, and neither is 12
pub input_lacks : (xs : List Float) (ns ls : List ℕ) (s : StartPointStrategy) → Lacks 6 (input_rows xs ns ls s) × Lacks 12 (input_rows xs ns ls s)
unfolding input_rows every too_many_contours too_many_points miscounted bad_layer_count bad_layer out_of_range off_the_plate
input_lacks xs ns ls s = (tt, tt)

-- of contours without layers
pub contours_accepted : (xs : List Float) (ns : List ℕ) → Passed (contour_rows xs ns) → Accepted xs ns
unfolding contour_rows
contours_accepted xs ns p = accepted_by xs ns p

pub contours_gives : {A : Type 0} (xs : List Float) (ns : List ℕ) (later : Answer A) (c : A) → refused_by (contour_rows xs ns) later ≡ gives c →
    Accepted xs ns × (later ≡ gives c)
contours_gives xs ns later c e = let (p, same) = rows_give (contour_rows xs ns) later c e in (contours_accepted xs ns p, same)

-- and back: what is accepted passes
pub first_on : (limit : Float) (i : ℕ) (xs : List Float) → All (λ x. T (in_range limit x)) xs → first_off limit i xs ≡ i + length xs
unfolding first_off pick
first_on limit i [] a = omega arith
first_on limit i (x ∷ xs) a = go (in_range limit x) a.0 (first_on limit (suc i) xs a.1)
  where
    go : (t : Bool) → T t → first_off limit (suc i) xs ≡ suc i + length xs → pick t (first_off limit (suc i) xs) i ≡ i + suc (length xs)
    go true t e = omega (arith, e)
    go false t e = absurd t

pub accepted_contours : (xs : List Float) (ns : List ℕ) → Accepted xs ns → Passed (contour_rows xs ns)
unfolding contour_rows too_many_contours too_many_points miscounted off_the_plate out_of_range
accepted_contours xs ns a =
    let all : first_off plate_limit 0 xs ≡ 0 + length xs = first_on plate_limit 0 xs a.on_plate in (
      le-ltb 4096 (length ns) a.contours,
      (
        le-ltb 65536 (sum ns) a.points,
        (ap not (eq-eqb (length xs) (2 * sum ns) a.counted), (le-ltb (first_off plate_limit 0 xs) (length xs) (omega (arith, all)), tt)),
      ),
    )

-- ---- points and distances

-- a point of coordinates that are all on the plate
pub point_on : (xs : List Float) (v : ℕ) → All OnPlate xs → 2 * v + 1 < length xs → OnPlate (at xs v).x × OnPlate (at xs v).y
unfolding at
point_on xs v a l = (all-at OnPlate nan xs a (2 * v) (omega arith), all-at OnPlate nan xs a (2 * v + 1) l)

-- v is the number of one of the plate's vertices
abbrev pub OfPlate : Plate → ℕ → Type 0
OfPlate p v = v < sum p.lengths

-- the squared distance of two of the plate's points is finite, and its sign is plus
abbrev pub Measurable : Plate → Type 0
Measurable p = (u v : ℕ) → OfPlate p u → OfPlate p v → Plus (distance_squared (at p.points u) (at p.points v))

pub accepted_measurable : (p : Plate) → Accepted p.points p.lengths → Measurable p
accepted_measurable p a u v hu hv =
    let e = a.counted in
    let c = point_on p.points u a.on_plate (omega arith) in
    let d = point_on p.points v a.on_plate (omega arith) in
    distance_plus (at p.points u) (at p.points v) c.0 c.1 d.0 d.1
