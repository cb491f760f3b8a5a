-- What the path and the marks slice hold of a list of steps, of which as many are written as there is room for. Assumes nothing.
use Rattle.std.specs.Prelude.{◌≡◌, refl, ℕ, ◌+◌, ◌*◌, ◌≤◌, ◌<◌, min, Float, length, get_or, take, drop}
use Rattle.std.proofs.Math.Path.{sym, ap}
use Rattle.std.proofs.Common.{◌∙◌, arith, length-take, take-append-drop}
use mathlib.Core.List.{List, [], ◌∷◌, ◌++◌}
use Rattle.std.specs.Float.{nan}
use Rattle.std.proofs.Math.ListN.{set, length-append, get_or-append}
use Rattle.std.proofs.Math.Seq.{take_all, take-append_seam, get_or-append_seam}
use Rattle.std.proofs.lemmas.List.{take-append-le}
use Rattle.rules.specs.HandedOver.{Plate, at, over}
use Rattle.rules.specs.Retrace.{vertex_of, path_points}
use Rattle.rules.specs.Marks.{Step, land, start_kind, coordinates, marks, vertices}
use Rattle.plate_laws.specs.Steps.{vertex_old}
use Rattle.plate_laws.specs.Slices.{coordinates_length, vertices_length, coordinates_at, vertices_at}
use Rattle.history.specs.History as history
use Rattle.history.specs.Points.{points_are}
use Rattle.slices.specs.Pairs.{pairs, pairs_store}

-- ---- steps as pairs

pub marks_pairs : (ss : List Step) → marks ss ≡ pairs (λ s. s.kind) (λ s. s.reference) ss
unfolding marks pairs
marks_pairs [] = refl
marks_pairs (s ∷ ss) = ap (λ (r : List ℕ). s.kind ∷ s.reference ∷ r) (marks_pairs ss)

pub steps_pairs : (xs : List Float) (ss : List Step) →
    coordinates xs (vertices ss) ≡ pairs (λ s. (at xs s.vertex).x) (λ s. (at xs s.vertex).y) ss
unfolding coordinates vertices pairs
steps_pairs xs [] = refl
steps_pairs xs (s ∷ ss) = ap (λ (r : List Float). (at xs s.vertex).x ∷ (at xs s.vertex).y ∷ r) (steps_pairs xs ss)

-- what is written over a slice is read there
over_at : (new slice : List Float) (j : ℕ) → 2 * j + 1 < length new → at (over new slice) j ≡ at new j
unfolding at over
over_at new slice j h =
    rw (get_or-append new (drop (length new) slice) nan (2 * j) (omega arith), get_or-append new (drop (length new) slice) nan (2 * j + 1) h)

-- ---- what is written

-- Of the steps as many as there is room for, over slices that held `was` and `marked`; count is how many they are, or room + 1 where they are more.
pub record Wrote (xs : List Float) (steps : List Step) (room count : ℕ) (was path : List Float) (marked ms : List ℕ) : Type 0 where
  pub counted : count ≡ min (length steps) (room + 1)
  pub points : path ≡ over (coordinates xs (vertices (take room steps))) was
  pub kinds : ms ≡ over (marks (take room steps)) marked
  pub points_room : 2 * room ≤ length was
  pub marks_room : 2 * room ≤ length marked

-- nothing is written yet
pub wrote_none : (xs : List Float) (room : ℕ) (path : List Float) (ms : List ℕ) → 2 * room ≤ length path → 2 * room ≤ length ms →
    Wrote xs [] room 0 path path ms ms
unfolding over coordinates vertices marks
wrote_none xs room path ms l m =
    let e : take {A = Step} room [] ≡ [] = take_all room [] (omega arith) in
    record { counted = omega arith; points = rw e; kinds = rw e; points_room = l; marks_room = m }

module _ (xs : List Float) (steps : List Step) (room count : ℕ) (was path : List Float) (marked ms : List ℕ)
    (w : Wrote xs steps room count was path marked ms) where
  -- where they fill the room, what comes after them is not written
  pub wrote_full : (ss : List Step) → room < count → Wrote xs (steps ++ ss) room count was path marked ms
  wrote_full ss h =
      let c = w.counted in
      let e = take-append-le room steps ss (omega (arith, c)) in
      record {
        counted = omega (arith, c, length-append steps ss);
        points = rw e w.points;
        kinds = rw e w.kinds;
        points_room = w.points_room;
        marks_room = w.marks_room;
      }

  -- where there is room for one more: four stores write it
  module _ (s : Step) (h : count < room) where
    all_steps : List Step
    all_steps = steps ++ s ∷ []

    here : length steps ≡ count
    here = omega (arith, w.counted)

    whole : take room steps ≡ take count all_steps
    unfolding all_steps
    whole = take_all room steps (omega (arith, here)) ∙ sym (rw here at (take-append_seam steps (s ∷ [])))

    next : take room all_steps ≡ take (count + 1) all_steps
    unfolding all_steps
    next =
        let n = length-append steps (s ∷ []) in
        take_all room all_steps (omega (arith, here, n)) ∙ sym (take_all (count + 1) all_steps (omega (arith, here, n)))

    seam : get_or all_steps count (land start_kind 0) ≡ s
    unfolding all_steps
    seam = rw here at (get_or-append_seam steps s [] (land start_kind 0))

    long : count < length all_steps
    unfolding all_steps
    long = omega (arith, here, length-append steps (s ∷ []))

    -- two stores write the step's pair
    stored : {B : Type 0} (f g : Step → B) (old slice : List B) → slice ≡ over (pairs f g (take room steps)) old → 2 * room ≤ length old →
        set (set slice (2 * count) (f s)) (2 * count + 1) (g s) ≡ over (pairs f g (take room (steps ++ s ∷ []))) old
    unfolding all_steps
    stored {B} f g old slice e k =
        ap (λ (x : List B). set (set x (2 * count) (f s)) (2 * count + 1) (g s)) (e ∙ ap (λ (ss : List Step). over (pairs f g ss) old) whole)
        ∙ sym (rw seam at (pairs_store f g (land start_kind 0) all_steps old count long (omega arith)))
        ∙ ap (λ (ss : List Step). over (pairs f g ss) old) (sym next)

    pub wrote_put :
        Wrote xs (steps ++ s ∷ []) room (count + 1)
        was (set (set path (2 * count) (at xs s.vertex).x) (2 * count + 1) (at xs s.vertex).y)
        marked (set (set ms (2 * count) s.kind) (2 * count + 1) s.reference)
    wrote_put =
        record {
          counted = omega (arith, here, length-append steps (s ∷ []));
          points =
              rw (steps_pairs xs (take room (steps ++ s ∷ [])))
              (stored (λ z. (at xs z.vertex).x) (λ z. (at xs z.vertex).y) was path (w.points ∙ ap (λ (r : List Float). over r was) (steps_pairs xs (take room steps))) w.points_room);
          kinds =
              rw (marks_pairs (take room (steps ++ s ∷ [])))
              (stored (λ z. z.kind) (λ z. z.reference) marked ms (w.kinds ∙ ap (λ (r : List ℕ). over r marked) (marks_pairs (take room steps))) w.marks_room);
          points_room = w.points_room;
          marks_room = w.marks_room;
        }

-- ---- reading

-- how many steps there are while they fit
pub wrote_length : (xs : List Float) (steps : List Step) (room count : ℕ) (was path : List Float) (marked ms : List ℕ) →
    Wrote xs steps room count was path marked ms → count ≤ room → length steps ≡ count
wrote_length xs steps room count was path marked ms w l = omega (arith, w.counted)

-- place j holds the coordinates of the step there
pub wrote_at : (xs : List Float) (steps : List Step) (room count : ℕ) (was path : List Float) (marked ms : List ℕ) →
    Wrote xs steps room count was path marked ms → (j : ℕ) → j < length steps → j < room → at path j ≡ at xs (vertex_of steps j)
wrote_at xs steps room count was path marked ms w j l h =
    let vs = vertices (take room steps) in
    let n : length (take room steps) ≡ min room (length steps) = length-take room steps in
    let inside : j < length vs = omega (arith, vertices_length (take room steps), n) in
    ap (λ (z : List Float). at z j) w.points
    ∙ over_at (coordinates xs vs) was j (omega (arith, coordinates_length xs vs, inside))
    ∙ coordinates_at xs vs j inside
    ∙ ap (at xs) (vertices_at (take room steps) j ∙ taken)
  where
    taken : vertex_of (take room steps) j ≡ vertex_of steps j
    taken =
        sym (vertex_old (take room steps) (drop room steps) j (omega (arith, length-take room steps)))
        ∙ ap (λ (ss : List Step). vertex_of ss j) (take-append-drop room steps)

-- the points that the history has are those of the steps
pub points_written : (p : Plate) (steps : List Step) (room count : ℕ) (was path : List Float) (marked ms : List ℕ) →
    Wrote p.points steps room count was path marked ms → count ≤ room → history.points path count ≡ path_points p steps
unfolding over
points_written p steps room count was path marked ms w h =
    let n : length steps ≡ count = omega (arith, w.counted) in
    let all = take_all room steps (omega arith) in
    rw (← n, w.points, all) (points_are p steps (drop (length (coordinates p.points (vertices steps))) was))
