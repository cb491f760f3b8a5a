-- The path while packed contours are written to it, one after the other, as far as there is room. Assumes nothing.
use mathlib.Core.Path.{◌≡◌, refl, sym, ap, ◌∙◌}
use mathlib.Core.List.{List, [], ◌∷◌, ◌++◌, append_assoc, append-nil}
use Prim.Native.Nat.{ℕ, zero, suc, ◌+◌, ◌-◌, ◌*◌, ◌/◌, ◌≤◌, ◌<◌, min}
use native.Mathlib.Nat.{zero-sub, sub-zero, suc-sub-suc}
use native.Mathlib.Numerals.{add-one}
use native.Mathlib.Omega.{arith}
use lib.Ieee.{Float}
use lib.ListN.{length, get_or, take, drop, length-append, length-take, length-drop}
use lib.Seq.{take-nil, take-suc}
use Rattle.rules.specs.HandedOver.{over}
use Rattle.rules.specs.Marks.{coordinates}
use Rattle.plate_laws.specs.Slices.{coordinates_length}
use Rattle.slices.specs.Over.{take_min, over_length, over_part}
use Rattle.slices.specs.Pairs.{coordinates_append}
use Rattle.straight.specs.Runs.{run_of, runs}

-- ---- vertices

take_append : (n : ℕ) (xs ys : List ℕ) → take n (xs ++ ys) ≡ take n xs ++ take (n - length xs) ys
take_append n [] ys = rw (sub-zero, take-nil n)
take_append zero (x ∷ xs) ys = rw (zero-sub)
take_append (suc n) (x ∷ xs) ys = rw (suc-sub-suc) (ap (λ (r : List ℕ). x ∷ r) (take_append n xs ys))

runs_snoc : (ns ws : List ℕ) (w : ℕ) → runs ns (ws ++ (w ∷ [])) ≡ runs ns ws ++ run_of ns w
unfolding runs
runs_snoc ns [] w = append-nil (run_of ns w)
runs_snoc ns (v ∷ ws) w = ap (λ (r : List ℕ). run_of ns v ++ r) (runs_snoc ns ws w) ∙ sym (append_assoc (run_of ns v) (runs ns ws) (run_of ns w))

pub runs_next : (ns ws : List ℕ) (i : ℕ) → i < length ws → runs ns (take (i + 1) ws) ≡ runs ns (take i ws) ++ run_of ns (get_or ws i 0)
runs_next ns ws i h = rw (add-one, take-suc ws i 0 h) (runs_snoc ns (take i ws) (get_or ws i 0))

-- ---- the path

-- `now` is the path slice `base` with the points of the vertices vs, or with as many of them as there is room for
pub record PathSoFar (xs : List Float) (vs : List ℕ) (base now : List Float) (count : ℕ) : Type 0 where
  pub counted : count ≡ min (length vs) (length base / 2)
  pub same : length now ≡ length base
  pub written : now ≡ over (coordinates xs (take (length base / 2) vs)) base

pub drawn_none : (xs base : List Float) → PathSoFar xs [] base base 0
unfolding coordinates over
drawn_none xs base = record { counted = omega arith; same = refl; written = rw (take-nil (length base / 2)) }

module _ (xs : List Float) (vs : List ℕ) (base now : List Float) (count : ℕ) (d : PathSoFar xs vs base now count) where
  abbrev room : ℕ
  room = length base / 2

  -- the part of the path that has room yet
  abbrev rest : List Float
  rest = take (length now - 2 * count) (drop (2 * count) now)

  rest_length : length rest ≡ length base - 2 * count
  rest_length = let f = d.same in omega (arith, length-take (length now - 2 * count) (drop (2 * count) now), length-drop (2 * count) now)

  module _ (new : List ℕ) (r : ℕ) (part : List Float) (many : r ≡ min (length new) (length rest / 2)) (put : part ≡ over (coordinates xs (take r new)) rest) where
    more_vertices : take room vs ++ take r new ≡ take room (vs ++ new)
    more_vertices =
        let e = d.counted in
        let f : r ≡ min (length new) (room - length vs) = omega (arith, rest_length) in
        ap (λ (ys : List ℕ). take room vs ++ ys) (ap (λ (k : ℕ). take k new) f ∙ take_min (room - length vs) new) ∙ sym (take_append room vs new)

    pub drawn_more : PathSoFar xs (vs ++ new) base (take (2 * count) now ++ (part ++ drop (length now - 2 * count) (drop (2 * count) now))) (count + r)
    drawn_more =
        let e = d.counted in
        let m = d.same in
        let old = coordinates xs (take room vs) in
        let k = length now - 2 * count in
        let a : length old ≡ 2 * count = omega (arith, coordinates_length xs (take room vs), length-take room vs) in
        let b : length (coordinates xs (take r new)) ≤ k = omega (arith, coordinates_length xs (take r new), length-take r new, rest_length) in
        let w =
        ap (λ (ys : List Float). take (2 * count) now ++ (ys ++ drop k (drop (2 * count) now))) put
        ∙ ap (λ (ys : List Float). take (2 * count) ys ++ (over (coordinates xs (take r new)) (take k (drop (2 * count) ys)) ++ drop k (drop (2 * count) ys))) d.written
        ∙ over_part old (coordinates xs (take r new)) base (2 * count) k a b (omega arith)
        ∙ ap (λ (ys : List Float). over ys base) (sym (coordinates_append xs (take room vs) (take r new)) ∙ ap (coordinates xs) more_vertices) in
        record {
          counted = omega (arith, length-append vs new, rest_length);
          same = ap length w ∙ over_length (coordinates xs (take room (vs ++ new))) base (omega (arith, coordinates_length xs (take room (vs ++ new)), length-take room (vs ++ new)));
          written = w;
        }
