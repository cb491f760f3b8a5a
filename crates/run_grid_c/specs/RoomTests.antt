-- What is known of a plate of n points that has a grid, and what the tests of the slices' lengths tell. Assumes nothing.
use Rattle.std.specs.Prelude.{◌≡◌, refl, true, List, ℕ, ◌+◌, ◌/◌, ◌≤◌, ◌<◌, ltb, leb, Float, length}
use Rattle.std.proofs.Common.{ap, arith}
use Rattle.std.proofs.lemmas.Bool.{and_parts}
use borrow.Author.Tests.{ltb-true, leb-true}
use Rattle.rules.specs.Limits.{most_cells}
use Rattle.rules.specs.Tools.{sum}
use Rattle.rules.specs.HandedOver.{Answer, gives, refuses, refusal, refused_by, contour_rows}
use Rattle.rules.specs.Box.{box}
use Rattle.rules.specs.declared.Refusal.{Refusal}
use Rattle.plate_laws.specs.Rows.{not_given}
use Rattle.plate_laws.specs.AcceptedInput.{Accepted, contours_gives}
use Rattle.rounding_errors.specs.Boxes.{SoundBox, accepted_sound}
use Rattle.run_grid_c.specs.Results.{given, accepted, has_room, has_query_room}

-- ---- the plate

pub record HasGrid (xs : List Float) (ns : List ℕ) (n : ℕ) : Type 0 where
  pub plate : Accepted xs ns
  pub points : n ≡ sum ns
  pub half : length xs / 2 ≡ n
  pub sound : SoundBox (box xs)

pub gridded : (xs : List Float) (ns : List ℕ) (n : ℕ) → n ≡ accepted xs ns → 0 < n → HasGrid xs ns n
unfolding accepted given
gridded xs ns n h l = go (refused_by (contour_rows xs ns) (gives (sum ns))) refl h
  where
    go : (a : Answer ℕ) → refused_by (contour_rows xs ns) (gives (sum ns)) ≡ a → n ≡ given a → HasGrid xs ns n
    go (gives m) e f =
        let passed = contours_gives xs ns (gives (sum ns)) m e in
        let total : sum ns ≡ m = ap given passed.1 in
        record {
          plate = passed.0;
          points = omega arith;
          half = omega (arith, passed.0.counted);
          sound = accepted_sound xs ns passed.0 (omega arith);
        }
    go (refuses number place) e f = absurd (omega arith)

-- a refusal is no result
pub refused_none : (r : Refusal) (a : Answer ℕ) → refusal r ≡ a → 0 ≡ given a
unfolding given
refused_none r (gives n) e = absurd (not_given r n e)
refused_none r (refuses number place) e = refl

-- ---- the slices

-- a slice of that length has room for each point
pub record HasRoom (xs : List Float) (ns : List ℕ) (n size : ℕ) : Type 0 where
  pub grid : HasGrid xs ns n
  pub room : n ≤ size

-- slices of these lengths have room for the answers, and for the chains of a path of p points
pub record HasQueryRoom (xs : List Float) (ns : List ℕ) (n p work_size places_size squared_size : ℕ) : Type 0 where
  pub grid : HasGrid xs ns n
  pub places : n ≤ places_size
  pub squared : n ≤ squared_size
  pub count : p ≤ n
  pub work : most_cells + p ≤ work_size

module _ (xs : List Float) (ns : List ℕ) (n : ℕ) (is : n ≡ accepted xs ns) where
  pub room_told : (room : ℕ) → has_room n room ≡ true → HasRoom xs ns n room
  unfolding has_room
  room_told room e =
      let w = and_parts (ltb 0 n) (leb n room) e in record { grid = gridded xs ns n is (ltb-true 0 n w.0); room = leb-true n room w.1 }

  pub query_room_told : (count work places squared : ℕ) → has_query_room n count work places squared ≡ true →
      HasQueryRoom xs ns n count work places squared
  unfolding has_query_room
  query_room_told count work places squared e =
      let a = and_parts _ (leb (most_cells + count) work) e in
      let b = and_parts _ (leb count n) a.0 in
      let d = and_parts (has_room n places) (leb n squared) b.0 in
      let room = room_told places d.0 in
      record {
        grid = room.grid;
        places = room.room;
        squared = leb-true n squared d.1;
        count = leb-true count n b.1;
        work = leb-true (most_cells + count) work a.1;
      }
