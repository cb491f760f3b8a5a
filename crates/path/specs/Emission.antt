-- What one contour adds to a path: the walk back and the contour's steps make pairs, and its steps have its vertices. Assumes nothing.
use Rattle.std.specs.Prelude.{◌≡◌, Bool, ℕ, suc, ◌+◌, ◌-◌, ◌≤◌, ◌<◌}
use Rattle.std.proofs.Math.Path.{refl}
use Rattle.std.proofs.Common.{sym, ap}
use Rattle.std.proofs.Math.Bool.{true, false}
use mathlib.Core.List.{List, [], ◌∷◌, ◌++◌, map, append_assoc}
use Rattle.std.proofs.Math.Nat.{zero-add, add-zero, add-suc}
use native.Mathlib.Omega.{arith}
use Rattle.std.proofs.Math.Dec.{eqb}
use Rattle.std.proofs.Math.ListN.{length}
use borrow.Author.Tests.{eqb-true}
use Rattle.rules.specs.Tools.{pick, up_from, down_to}
use Rattle.rules.specs.HandedOver.{Plate, Contour}
use Rattle.rules.specs.Start.{Oriented}
use Rattle.rules.specs.Retrace.{vertex_of, walk_to, walk_back, forward, backward, return_to, both_ways, emit, entry_of, begin}
use Rattle.rules.specs.Marks.{start_kind, Step, land, cut_up, cut_down, back_step}
use Rattle.rules.specs.Contours.{IsContour, Of, OfContour}
use Rattle.plate_laws.specs.Lists.{All, all_append, all_map, all_up_from, all_down_to}
use Rattle.plate_laws.specs.Steps.{entry_in, length_snoc, Ends, ends_snoc, ups_at, ups_length, ups_end}
use Rattle.path.specs.Pairs.{Follows, Chain, chain_append, Divided}
use Rattle.path.specs.Runs.{Segments, ups_chain, downs_chain, back_to, Stand, backs_chain, backs_end}

-- ---- the walk back to place h

module _ (path : List Step) (h : ℕ) (l : h < length path) where
  walk_start : Ends path (vertex_of path (h + (length path - 1 - h)))
  walk_start =
      let e : length path - 1 ≡ h + (length path - 1 - h) = omega arith in record { some = omega arith; last = ap (vertex_of path) e }

  pub walk_chain : (p : Plate) → Chain p path (walk_back path h)
  unfolding walk_back walk_to
  walk_chain p =
      backs_chain p path (vertex_of path) (λ i. i) h (length path - 1 - h)
      (record { next = λ i. refl; held = λ i m. refl; last = omega arith }) walk_start

  pub walk_end : Ends (path ++ walk_back path h) (vertex_of path h)
  unfolding walk_back walk_to
  walk_end = backs_end path (vertex_of path) (λ i. i) h (length path - 1 - h) walk_start

-- ---- the contour's own steps

module _ (p : Plate) (c : Contour) (i : IsContour p c) (path : List Step) where
  whole : Segments p c c.first c.last
  whole = record { of = i; low = omega arith; high = omega arith }

  -- what comes after the landing: upward, and downward
  forward_rest : (kind : ℕ) → Chain p (path ++ land kind c.first ∷ []) (map cut_up (up_from c.first c.last))
  unfolding land
  forward_rest kind = ups_chain p c _ c.first c.last whole (ends_snoc path (land kind c.first))

  backward_rest : (kind : ℕ) → Chain p (path ++ land kind (c.first + c.last) ∷ []) (map cut_down (down_to c.first c.last))
  unfolding land
  backward_rest kind = downs_chain p c _ c.first c.last whole (ends_snoc path (land kind (c.first + c.last)))

-- both ways from an entry e: landed at it, risen to the last vertex, returned to it
module _ (p : Plate) (c : Contour) (i : IsContour p c) (path : List Step) (kind e : ℕ) (h : e ≤ c.last) where
  a : ℕ
  a = c.first + e

  n : ℕ
  n = c.last - e

  up : List Step
  up = map cut_up (up_from a n)

  landed : List Step
  landed = path ++ land kind a ∷ []

  risen : List Step
  risen = landed ++ up

  returned : List Step
  returned = map (back_to (λ k. a + k) (λ k. length path + k)) (down_to 0 n)

  landed_end : Ends landed a
  unfolding land landed
  landed_end = ends_snoc path (land kind a)

  landed_length : length landed ≡ suc (length path)
  unfolding landed
  landed_length = length_snoc path (land kind a)

  -- the vertices from e on stand from the landing on
  risen_stand : Stand risen (λ k. a + k) (λ k. length path + k) (0 + n)
  unfolding risen up
  risen_stand =
      record {
        next = λ k. add-suc (length path) k;
        held = λ k l. rw (← place k) (ups_at landed a n k landed_end (omega arith));
        last = omega (arith, ups_length landed a n, landed_length);
      }
    where
      place : (k : ℕ) → length landed - 1 + k ≡ length path + k
      place k = omega (arith, landed_length)

  risen_end : Ends risen (a + (0 + n))
  unfolding risen up
  risen_end = rw zero-add (ups_end landed a n landed_end)

  returned_end : Ends (risen ++ returned) (c.first + e)
  unfolding returned a
  returned_end = rw add-zero at (backs_end risen (λ k. a + k) (λ k. length path + k) 0 n risen_end)

  both_rest : Chain p landed ((up ++ returned) ++ map cut_down (down_to c.first e))
  unfolding a n up landed risen returned
  both_rest =
      chain_append p landed (up ++ returned) (map cut_down (down_to c.first e))
      (chain_append p landed up returned
      (ups_chain p c landed a n (record { of = i; low = omega arith; high = omega arith }) landed_end)
      (backs_chain p risen (λ k. a + k) (λ k. length path + k) 0 n risen_stand risen_end))
      (rw (sym (append_assoc landed up returned))
      (downs_chain p c (risen ++ returned) c.first e (record { of = i; low = omega arith; high = omega arith }) returned_end))

  -- the contour's steps are the landing, and others that follow it
  emit_as : (Q : List Step → Type 0) → ((rest : List Step) → Chain p (path ++ land kind (c.first + e) ∷ []) rest → Q (land kind (c.first + e) ∷ rest)) →
      Q (emit kind c e (length path))
  unfolding emit pick forward backward both_ways return_to a n up landed returned
  emit_as Q f = go (eqb e 0) refl (eqb e c.last) refl
    where
      go : (s : Bool) → eqb e 0 ≡ s → (t : Bool) → eqb e c.last ≡ t →
          Q (pick s (forward kind c) (pick t (backward kind c) (both_ways kind c e (length path))))
      go true x t y =
          let z : c.first + e ≡ c.first = omega (arith, eqb-true e 0 x) in (rw z at f) _ (forward_rest p c i path kind)
      go false x true y =
          let z : c.first + e ≡ c.first + c.last = omega (arith, eqb-true e c.last y) in (rw z at f) _ (backward_rest p c i path kind)
      go false x false y = f _ both_rest

  -- where the landing makes a pair, all steps do
  pub emit_chain : Follows p path (land kind (c.first + e)) → Chain p path (emit kind c e (length path))
  emit_chain j = emit_as (Chain p path) (λ rest r. (j, r))

-- ---- what all steps of a contour have

-- Q of each step that lands on c, or cuts or takes back a segment of c
pub record Steps (c : Contour) (Q : Step → Type 0) : Type 0 where
  pub landing : (kind v : ℕ) → Of c v → Q (land kind v)
  pub up : (v : ℕ) → Of c v → Of c (suc v) → Q (cut_up v)
  pub down : (v : ℕ) → Of c v → Of c (suc v) → Q (cut_down v)
  pub back : (v k : ℕ) → Of c v → Q (back_step v k)

module _ (c : Contour) (Q : Step → Type 0) (q : Steps c Q) where
  ups_have : (f : ℕ → Step) (a n : ℕ) → ((i : ℕ) → a ≤ i → i < a + n → Q (f i)) → All Q (map f (up_from a n))
  ups_have f a n h = all_map Q f (up_from a n) (all_up_from (λ i. Q (f i)) a n h)

  downs_have : (f : ℕ → Step) (a n : ℕ) → ((i : ℕ) → a ≤ i → i < a + n → Q (f i)) → All Q (map f (down_to a n))
  downs_have f a n h = all_map Q f (down_to a n) (all_down_to (λ i. Q (f i)) a n h)

  forward_has : (kind : ℕ) → All Q (forward kind c)
  unfolding forward
  forward_has kind = (
    q.landing kind c.first (omega arith, omega arith),
    ups_have cut_up c.first c.last (λ i x y. q.up i (omega arith, omega arith) (omega arith, omega arith)),
  )

  backward_has : (kind : ℕ) → All Q (backward kind c)
  unfolding backward
  backward_has kind = (
    q.landing kind (c.first + c.last) (omega arith, omega arith),
    downs_have cut_down c.first c.last (λ i x y. q.down i (omega arith, omega arith) (omega arith, omega arith)),
  )

  both_has : (kind e b : ℕ) → e ≤ c.last → All Q (both_ways kind c e b)
  unfolding both_ways return_to
  both_has kind e b h =
      let a = c.first + e in
      let n = c.last - e in
      all_append Q ((land kind a ∷ map cut_up (up_from a n)) ++ map (return_to a b) (down_to 0 n)) (map cut_down (down_to c.first e))
      (all_append Q (land kind a ∷ map cut_up (up_from a n)) (map (return_to a b) (down_to 0 n))
      (q.landing kind a (omega arith, omega arith), ups_have cut_up a n (λ i x y. q.up i (omega arith, omega arith) (omega arith, omega arith)))
      (downs_have (return_to a b) 0 n (λ i x y. q.back (a + i) (b + i) (omega arith, omega arith))))
      (downs_have cut_down c.first e (λ i x y. q.down i (omega arith, omega arith) (omega arith, omega arith)))

  pub emit_has : (kind e b : ℕ) → e ≤ c.last → All Q (emit kind c e b)
  unfolding emit pick
  emit_has kind e b h = go (eqb e 0) (eqb e c.last)
    where
      go : (s t : Bool) → All Q (pick s (forward kind c) (pick t (backward kind c) (both_ways kind c e b)))
      go true t = forward_has kind
      go false true = backward_has kind
      go false false = both_has kind e b h

pub begin_has : (s : Oriented) (Q : Step → Type 0) → Steps s.contour Q → All Q (begin s)
unfolding begin
begin_has s Q q = emit_has s.contour Q q start_kind (entry_of s) 0 (entry_in s)

-- they have its vertices
abbrev pub StepOf : Contour → Step → Type 0
StepOf c s = Of c s.vertex

steps_of : (c : Contour) → Steps c (StepOf c)
unfolding land cut_up cut_down back_step
steps_of c = record { landing = λ kind v o. o; up = λ v o n. n; down = λ v o n. o; back = λ v k o. o }

pub emit_of : (c : Contour) (kind e b : ℕ) → e ≤ c.last → All (StepOf c) (emit kind c e b)
emit_of c = emit_has c (StepOf c) (steps_of c)

pub begin_of : (s : Oriented) → All (StepOf s.contour) (begin s)
begin_of s = begin_has s (StepOf s.contour) (steps_of s.contour)

-- ---- the start

pub begin_divided : (p : Plate) (s : Oriented) → IsContour p s.contour → Divided p (begin s)
unfolding begin land OfContour
begin_divided p s i =
    let e = entry_in s in
    emit_as p s.contour i [] start_kind (entry_of s) e (Divided p)
    (λ rest r. (record { kind = refl; named = refl; of = (s.contour, i, (omega arith, omega arith)) }, r))
