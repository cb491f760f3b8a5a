-- Along the path: each jump or touch leaves a point than which none before is much nearer, to the end of the joining. For every plate that has its grid and no
-- point below its box's least coordinates. Assumes nothing.
use Rattle.std.specs.Prelude.{◌≡◌, Bool, true, false, ℕ, suc, ◌+◌, ◌-◌, ◌≤◌, ◌<◌, eqb, get_or}
use Rattle.std.proofs.Math.Path.{refl, ap}
use mathlib.Core.List.{List, [], ◌∷◌, ◌++◌, map, append-nil}
use Rattle.std.proofs.Math.Decide.{dec_lt}
use Rattle.std.proofs.Common.{arith, eqb-true}
use Rattle.std.proofs.Math.ListN.{length, length-append}
use Rattle.std.proofs.Math.Seq.{append_snoc}
use Rattle.rules.specs.Tools.{pick, sum, up_from, down_to}
use Rattle.rules.specs.HandedOver.{Plate, Contour, at, contours, vertex_at}
use Rattle.rules.specs.Distances.{distance_squared}
use Rattle.rules.specs.Retrace.{step_at, vertex_of, walk_to, walk_back, forward, backward, return_to, both_ways, emit, entry_of, begin, path_points, entered, retrace}
use Rattle.rules.specs.Marks.{start_kind, Step, land, cut_up, cut_down, back_step, landing_kind}
use Rattle.statement.specs.Division.{IsJumpOrTouch}
use Rattle.rules.specs.Contours.{contour_count, IsContour}
use Rattle.statement.specs.HowNear.{NearlyAtMost}
use Rattle.plate_laws.specs.Lists.{All, all_of, all_give, all_append, all_map, all-places}
use Rattle.plate_laws.specs.AcceptedInput.{OfPlate}
use Rattle.plate_laws.specs.Nearest.{point_of, points_length, points_at, grid_for, found_for, found_in}
use Rattle.plate_laws.specs.Contours.{all_among, contour_in}
use Rattle.plate_laws.specs.Start.{AllTakePart}
use Rattle.path.specs.Induction.{Begins, Enters, retrace_keeps}
use Rattle.path.specs.Blank.{retrace_empty}
use Rattle.path.specs.Pairs.{divided_some}
use Rattle.division_laws.specs.Maps.{no_landing}
use Rattle.plate_laws.specs.Steps.{step_old, step_new, vertex_old, vertex_new, length_snoc}
use Rattle.path.specs.Emission.{walk_end, StepOf, emit_of, begin_of, begin_divided}
use Rattle.path.specs.JumpsAndTouches.{walk_copies, vertex_has, copies_have, Numbered, of_plate}
use Rattle.rounding_errors.specs.BoxGrid.{SoundGrid}
use Rattle.near.specs.RingBounds.{OnAxes}
use Rattle.near.specs.Search.{nearest_near}

-- ---- steps that are no landings

abbrev Plain : Step → Type 0
Plain s = IsJumpOrTouch s.kind → ⊥

plain_up : (v : ℕ) → Plain (cut_up v)
unfolding cut_up
plain_up v = no_landing _ (omega arith)

plain_down : (v : ℕ) → Plain (cut_down v)
unfolding cut_down
plain_down v = no_landing _ (omega arith)

plain_back : (v k : ℕ) → Plain (back_step v k)
unfolding back_step
plain_back v k = no_landing _ (omega arith)

plain_map : (f : ℕ → Step) → ((i : ℕ) → Plain (f i)) → (is : List ℕ) → All Plain (map f is)
plain_map f h is = all_map Plain f is (all_of (λ i. Plain (f i)) h is)

walk_plain : (path : List Step) (h : ℕ) → All Plain (walk_back path h)
unfolding walk_back walk_to
walk_plain path h = plain_map (walk_to path) (λ i. plain_back (vertex_of path i) i) (down_to h (length path - 1 - h))

-- ---- a contour's steps: the first is a landing on vertex v, and none after it is a landing

record OneLanding (kind v : ℕ) (ss : List Step) : Type 0 where
  rest : List Step
  is : ss ≡ land kind v ∷ rest
  plain : All Plain rest

forward_lands : (kind : ℕ) (c : Contour) → OneLanding kind c.first (forward kind c)
unfolding forward
forward_lands kind c = record { rest = _; is = refl; plain = plain_map cut_up plain_up (up_from c.first c.last) }

backward_lands : (kind : ℕ) (c : Contour) → OneLanding kind (c.first + c.last) (backward kind c)
unfolding backward
backward_lands kind c = record { rest = _; is = refl; plain = plain_map cut_down plain_down (down_to c.first c.last) }

both_lands : (kind : ℕ) (c : Contour) (e b : ℕ) → OneLanding kind (c.first + e) (both_ways kind c e b)
unfolding both_ways return_to
both_lands kind c e b =
    let a = c.first + e in
    let up = map cut_up (up_from a (c.last - e)) in
    let back = map (return_to a b) (down_to 0 (c.last - e)) in
    record {
      rest = _;
      is = refl;
      plain =
          all_append Plain (up ++ back) (map cut_down (down_to c.first e))
          (all_append Plain up back (plain_map cut_up plain_up (up_from a (c.last - e))) (plain_map (return_to a b) (λ i. plain_back (a + i) (b + i)) (down_to 0 (c.last - e))))
          (plain_map cut_down plain_down (down_to c.first e));
    }

emit_lands : (kind : ℕ) (c : Contour) (e b : ℕ) → OneLanding kind (c.first + e) (emit kind c e b)
unfolding emit pick
emit_lands kind c e b = go (eqb e 0) refl (eqb e c.last) refl
  where
    go : (s : Bool) → eqb e 0 ≡ s → (t : Bool) → eqb e c.last ≡ t →
        OneLanding kind (c.first + e) (pick s (forward kind c) (pick t (backward kind c) (both_ways kind c e b)))
    go true x t y = let z : c.first + e ≡ c.first = omega (arith, eqb-true e 0 x) in rw z (forward_lands kind c)
    go false x true y = let z : c.first + e ≡ c.first + c.last = omega (arith, eqb-true e c.last y) in rw z (backward_lands kind c)
    go false x false y = both_lands kind c e b

-- ---- a path all of whose landings are near

-- seen from vertex u, vertex v is not much farther than vertex w
abbrev pub NearAt : Plate → ℕ → ℕ → ℕ → Type 0
NearAt p u v w = NearlyAtMost (distance_squared (at p.points u) (at p.points v)) (distance_squared (at p.points u) (at p.points w))

abbrev pub LandsNear : Plate → List Step → Type 0
LandsNear p path =
    (k : ℕ) → suc k < length path → IsJumpOrTouch (step_at path (suc k)).kind →
    (i : ℕ) → i ≤ k → NearAt p (vertex_of path (suc k)) (vertex_of path k) (vertex_of path i)

landed_snoc : (p : Plate) (path : List Step) (s : Step) → LandsNear p path →
    (IsJumpOrTouch s.kind → (i : ℕ) → i < length path → NearAt p s.vertex (vertex_of path (length path - 1)) (vertex_of path i)) →
    LandsNear p (path ++ s ∷ [])
landed_snoc p path s old new k l t i x = go (dec_lt (suc k) (length path))
  where
    go : Dec (suc k < length path) → NearAt p (vertex_of (path ++ s ∷ []) (suc k)) (vertex_of (path ++ s ∷ []) k) (vertex_of (path ++ s ∷ []) i)
    go (yes y) =
        rw (vertex_old path (s ∷ []) (suc k) y, vertex_old path (s ∷ []) k (omega arith), vertex_old path (s ∷ []) i (omega arith))
        (old k y (rw (step_old path (s ∷ []) (suc k) y) at t) i x)
    go (no y) =
        let e : suc k ≡ length path = omega (arith, length_snoc path s) in
        let here : step_at (path ++ s ∷ []) (suc k) ≡ s = rw e (step_new path s []) in
        let last : length path - 1 ≡ k = omega arith in
        let v : vertex_of (path ++ s ∷ []) (suc k) ≡ s.vertex = rw e (vertex_new path s []) in
        rw (v, vertex_old path (s ∷ []) k (omega arith), vertex_old path (s ∷ []) i (omega arith))
        (rw last at (new (rw here at t) i (omega arith)))

landed_plain : (p : Plate) (path ss : List Step) → All Plain ss → LandsNear p path → LandsNear p (path ++ ss)
landed_plain p path [] a h = rw (append-nil path) h
landed_plain p path (s ∷ ss) a h =
    rw (← append_snoc path s ss) (landed_plain p (path ++ s ∷ []) ss a.1 (landed_snoc p path s h (λ t. absurd (a.0 t))))

landed_lands : (p : Plate) (path : List Step) (kind v : ℕ) (ss : List Step) → OneLanding kind v ss → LandsNear p path →
    (IsJumpOrTouch kind → (i : ℕ) → i < length path → NearAt p v (vertex_of path (length path - 1)) (vertex_of path i)) → LandsNear p (path ++ ss)
unfolding land
landed_lands p path kind v ss l h near =
    rw (l.is, ← append_snoc path (land kind v) l.rest)
    (landed_plain p (path ++ land kind v ∷ []) l.rest l.plain (landed_snoc p path (land kind v) h near))

-- ---- a plate that has its grid, and whose points are not below its box's least coordinates

module _ (p : Plate) (grid : 0 < sum p.lengths → SoundGrid p.box (grid_for p)) (inside : (v : ℕ) → OfPlate p v → OnAxes p.box (at p.points v)) where
  -- no point of the path is much nearer to vertex r than the one that is found
  found_near : (path : List Step) → Numbered p path → (r : ℕ) → OfPlate p r → (i : ℕ) → i < length path →
      NearAt p r (vertex_of path (found_for p path (at p.points r))) (vertex_of path i)
  unfolding point_of
  found_near path numbered r hr i l =
      let q = at p.points r in
      let z = at p.points 0 in
      let ps = path_points p path in
      let all_inside : (k : ℕ) → k < length ps → OnAxes p.box (get_or ps k z) =
      λ k x. rw (points_at p path k) (inside (vertex_of path k) (vertex_has (OfPlate p) path numbered k (rw (points_length p path) at x))) in
      rw (points_at p path i, points_at p path (found_for p path q)) at
      (nearest_near p.box (grid_for p) (grid (omega arith)) ps q z (inside r hr) all_inside i (rw (points_length p path) l))

  near_path : (path : List Step) (r : ℕ) → OfPlate p r → Numbered p path →
      All (λ s. NearAt p r (vertex_of path (found_for p path (at p.points r))) s.vertex) path
  near_path path r of_r numbered =
      all-places (λ s. NearAt p r (vertex_of path (found_for p path (at p.points r))) s.vertex) (land start_kind 0) path
      (λ k l. unfold vertex_of step_at in found_near path numbered r of_r k l)

  record NearSoFar (cs : List Contour) (path : List Step) : Type 0 where
    some : 1 ≤ length path
    numbered : Numbered p path
    landed : LandsNear p path

  begins : Begins p NearSoFar
  unfolding begin
  begins s i low =
      record {
        some = divided_some p (begin s) (begin_divided p s i);
        numbered = all_give (StepOf s.contour) _ (λ z o. of_plate p s.contour i z.vertex o) (begin s) (begin_of s);
        landed =
            landed_lands p [] start_kind _ (begin s) (emit_lands start_kind s.contour (entry_of s) 0) (λ k l. absurd (omega arith))
            (no_landing _ (omega arith));
      }

  -- a contour enters at vertex r, from the place h that is found
  enters : Enters p NearSoFar
  unfolding entered vertex_at
  enters cs path c n coming among low e j =
      let i = all_among (IsContour p) cs coming.all c among in
      let r = c.first + n in
      let of_r : OfPlate p r = omega (arith, contour_in p c i) in
      let h = found_for p path (at p.points r) in
      let h_in : h < length path = found_in p path j.some (at p.points r) in
      let kind = landing_kind (at p.points (vertex_of path h)) (at p.points r) in
      let back = path ++ walk_back path h in
      let new = emit kind c n (length back) in
      let left = walk_end path h h_in in
      let copies = walk_copies path h h_in in
      let near : (k : ℕ) → k < length back → NearAt p r (vertex_of back (length back - 1)) (vertex_of back k) =
      λ k l. rw left.last (vertex_has (NearAt p r (vertex_of path h)) back
      (copies_have (NearAt p r (vertex_of path h)) path back (near_path path r of_r j.numbered) copies) k l) in
      record {
        some = omega (arith, length-append back new, left.some);
        numbered =
            all_append (λ s. OfPlate p s.vertex) back new (copies_have (OfPlate p) path back j.numbered copies)
            (all_give (StepOf c) (λ s. OfPlate p s.vertex) (λ s o. of_plate p c i s.vertex o) new (emit_of c kind n (length back) e));
        landed =
            landed_lands p back kind r new (emit_lands kind c n (length back))
            (landed_plain p path (walk_back path h) (walk_plain path h) j.landed) (λ t. near);
      }

  -- the whole path; a plate that has no contour has none
  pub retrace_landed : AllTakePart p → LandsNear p (retrace p)
  unfolding contour_count
  retrace_landed t = go (contours p) refl
    where
      go : (cs : List Contour) → contours p ≡ cs → LandsNear p (retrace p)
      go [] e = rw (retrace_empty p e) (λ k l. absurd (omega arith))
      go (c ∷ cs) e = (retrace_keeps p NearSoFar begins enters t (omega (arith, ap length e))).landed
