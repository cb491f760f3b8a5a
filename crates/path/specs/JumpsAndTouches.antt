-- A contour enters the path by a jump or a touch: to a contour of which the path has no vertex, and from a point than which none in the nine cells is
-- nearer. So a plate's whole path, from its start on, is cuts, back-steps, jumps and touches. Assumes nothing.
use Rattle.std.specs.Prelude.{◌≡◌, refl, List, [], ◌∷◌, ◌++◌, ℕ, suc, ◌+◌, ◌-◌, ◌≤◌, ◌<◌, length}
use Rattle.std.proofs.Math.Path.{ap}
use Rattle.std.proofs.Common.{◌∙◌, inr, arith}
use Rattle.rules.specs.Tools.{down_to}
use Rattle.rules.specs.HandedOver.{Plate, Contour, at, contours, vertex_at}
use Rattle.rules.specs.Distances.{distance_squared}
use Rattle.rules.specs.Retrace.{step_at, vertex_of, walk_to, walk_back, emit, begin, entered, retrace}
use Rattle.rules.specs.Marks.{start_kind, landing_kind, Step, land, back_step}
use Rattle.rules.specs.OrderAndStraight.{contour_number}
use Rattle.statement.specs.Division.{itself, JumpOrTouch, Landing, NotEntered, NoneNearer}
use Rattle.rules.specs.Contours.{contour_count, IsContour, Of, NotOf}
use Rattle.rules.specs.declared.Point.{Point}
use Rattle.plate_laws.specs.Lists.{All, all_give, all_both, all_append, all_map, all-places, all-at, all_down_to, all_without}
use Rattle.plate_laws.specs.FloatOrder.{Plus}
use Rattle.plate_laws.specs.AcceptedInput.{OfPlate, Measurable}
use Rattle.plate_laws.specs.Nearest.{point_of, grid_for, found_for, found_in, found_nearest}
use Rattle.plate_laws.specs.Contours.{all_among, Apart, apart_not_of, others, others_apart, contours_rise, contour_in}
use Rattle.plate_laws.specs.Start.{AllTakePart}
use Rattle.division_laws.specs.Maps.{kind_tells}
use Rattle.path.specs.Induction.{Begins, Enters, retrace_keeps}
use Rattle.path.specs.Pairs.{Divided, divided_append, divided_some}
use Rattle.plate_laws.specs.Steps.{vertex_old, vertex_new, Ends}
use Rattle.path.specs.Emission.{walk_chain, walk_end, emit_chain, StepOf, emit_of, begin_of, begin_divided}

-- ---- the points of a path, and their copies

-- s has the vertex of a point of the path
abbrev pub Copy : List Step → Step → Type 0
Copy path s = (j : ℕ) × (j < length path) × (s.vertex ≡ vertex_of path j)

-- after a walk back there are copies only
pub walk_copies : (path : List Step) (h : ℕ) → h < length path → All (Copy path) (path ++ walk_back path h)
unfolding walk_back walk_to back_step vertex_of step_at
walk_copies path h l =
    all_append (Copy path) path (walk_back path h) (all-places (Copy path) (land start_kind 0) path (λ i x. (i, x, refl)))
    (all_map (Copy path) (walk_to path) (down_to h (length path - 1 - h))
    (all_down_to (λ i. Copy path (walk_to path i)) h (length path - 1 - h) (λ i x y. (i, omega arith, refl))))

-- what holds of all vertices of a path holds at each place, and of copies
pub vertex_has : (P : ℕ → Type 0) (path : List Step) → All (λ s. P s.vertex) path → (k : ℕ) → k < length path → P (vertex_of path k)
unfolding vertex_of step_at
vertex_has P path a k l = all-at (λ s. P s.vertex) (land start_kind 0) path a k l

pub copies_have : (P : ℕ → Type 0) (path back : List Step) → All (λ s. P s.vertex) path → All (Copy path) back → All (λ s. P s.vertex) back
copies_have P path back a = all_give (Copy path) (λ s. P s.vertex) (λ s c. rw c.2 (vertex_has P path a c.0 c.1)) back

-- the path has no vertex of c
abbrev FreeOf : Contour → List Step → Type 0
FreeOf c path = All (λ s. NotOf c s.vertex) path

-- it has vertices of the plate
abbrev pub Numbered : Plate → List Step → Type 0
Numbered p path = All (λ s. OfPlate p s.vertex) path

-- ---- the jump or touch

module _ (p : Plate) (m : Measurable p) (path : List Step) (c : Contour) (n : ℕ) (i : IsContour p c) (e : n ≤ c.last)
    (d : Divided p path) (free : FreeOf c path) (numbered : Numbered p path) where
  -- the vertex that is entered, and its point
  abbrev r : ℕ
  r = c.first + n

  abbrev q : Point
  q = at p.points r

  abbrev h : ℕ
  h = found_for p path q

  abbrev back : List Step
  back = path ++ walk_back path h

  abbrev kind : ℕ
  kind = landing_kind (at p.points (vertex_of path h)) q

  abbrev landed : List Step
  landed = back ++ land kind r ∷ []

  h_in : h < length path
  h_in = found_in p path (divided_some p path d) q

  copies : All (Copy path) back
  copies = walk_copies path h h_in

  left : Ends back (vertex_of path h)
  left = walk_end path h h_in

  -- each point before the landing is one of the path's, and the last of them is the one that was found
  old_point : (k : ℕ) → k < length back → at p.points (vertex_of landed k) ≡ point_of p back k
  unfolding point_of
  old_point k l = ap (at p.points) (vertex_old back (land kind r ∷ []) k l)

  copied : (k : ℕ) → k < length back → (j : ℕ) × (j < length path) × (point_of p back k ≡ point_of p path j)
  unfolding point_of vertex_of step_at
  copied k l = let j = all-at (Copy path) (land start_kind 0) back copies k l in (j.0, j.1, ap (at p.points) j.2)

  left_point : point_of p back (length back - 1) ≡ point_of p path h
  unfolding point_of
  left_point = ap (at p.points) left.last

  measured : (k : ℕ) → k < length path → Plus (distance_squared q (point_of p path k))
  unfolding point_of
  measured k l = m r (vertex_of path k) (omega (arith, contour_in p c i)) (vertex_has (OfPlate p) path numbered k l)

  last_step : suc (length back - 1) ≡ length back
  last_step = let s = left.some in omega arith

  -- where it lands
  lands_on : vertex_of landed (suc (length back - 1)) ≡ r
  unfolding land
  lands_on = rw last_step (vertex_new back (land kind r) [])

  -- which it is: the point left is the one that was found
  tells : JumpOrTouch (at p.points (vertex_of landed (length back - 1))) (at p.points (vertex_of landed (suc (length back - 1)))) kind
  unfolding point_of
  tells =
      let s = left.some in
      rw (old_point (length back - 1) (omega arith) ∙ left_point, lands_on) (kind_tells (at p.points (vertex_of path h)) q)

  lands : Landing (contours p) itself (vertex_of landed) (NotEntered (vertex_of landed) (length back - 1)) (length back - 1) r
  lands =
      let s = left.some in
      record {
        landing = lands_on;
        fresh = (
          c,
          i,
          (omega arith, omega arith),
          λ k l.
              rw (vertex_old back (land kind r ∷ []) k (omega arith))
              (vertex_has (NotOf c) back (copies_have (NotOf c) path back free copies) k (omega arith)),
        );
      }

  none_nearer : NoneNearer (grid_for p) (λ k. at p.points (vertex_of landed k)) (length back - 1) kind
  none_nearer which k l t =
      let s = left.some in
      let j = copied k (omega arith) in
      let a = old_point k (omega arith) ∙ j.2 in
      let b = old_point (length back - 1) (omega arith) ∙ left_point in
      rw (a, b, lands_on) (found_nearest p path (divided_some p path d) q measured j.0 j.1 (rw (a, lands_on) at t))

  pub entered_divided : Divided p (entered p (grid_for p) path c n)
  unfolding entered vertex_at land
  entered_divided =
      divided_append p back (emit kind c n (length back)) (divided_append p path (walk_back path h) d (walk_chain path h h_in p))
      (emit_chain p c i back kind n e (inr (inr (tells, lands)), none_nearer))

  -- what holds of the path's vertices and of the contour's holds afterwards
  entered_has : (P : ℕ → Type 0) → All (λ s. P s.vertex) path → ((v : ℕ) → Of c v → P v) →
      All (λ s. P s.vertex) (entered p (grid_for p) path c n)
  unfolding entered vertex_at
  entered_has P a f =
      let new = emit kind c n (length back) in
      all_append (λ s. P s.vertex) back new (copies_have P path back a copies)
      (all_give (StepOf c) (λ s. P s.vertex) (λ s o. f s.vertex o) new (emit_of c kind n (length back) e))

-- ---- the whole path

-- what is kept while contours enter: of the path, and of the contours still to come
record Joined (p : Plate) (cs : List Contour) (path : List Step) : Type 0 where
  divided : Divided p path
  free : All (λ c. FreeOf c path) cs
  numbered : Numbered p path

pub of_plate : (p : Plate) (c : Contour) → IsContour p c → (v : ℕ) → Of c v → OfPlate p v
of_plate p c i v o = omega (arith, contour_in p c i)

module _ (p : Plate) (m : Measurable p) where
  begins : Begins p (Joined p)
  begins s i low =
      let c = s.contour in
      let free : (x : Contour) → Apart c x → FreeOf x (begin s) =
      λ x a. all_give (StepOf c) _ (λ z o. apart_not_of c x a z.vertex o) (begin s) (begin_of s) in
      record {
        divided = begin_divided p s i;
        free = all_give (Apart c) (λ x. FreeOf x (begin s)) free (others c (contours p)) (others_apart c (contours p) (contours_rise p) i);
        numbered = all_give (StepOf c) _ (λ z o. of_plate p c i z.vertex o) (begin s) (begin_of s);
      }

  enters : Enters p (Joined p)
  enters cs path c n coming a low e j =
      let i = all_among (IsContour p) cs coming.all c a in
      let f = all_among (λ x. FreeOf x path) cs j.free c a in
      let has = entered_has p m path c n i e j.divided f j.numbered in
      let apart = others_apart c cs coming.rising a in
      let free = all_without (λ x. FreeOf x path) contour_number c.number cs j.free in
      record {
        divided = entered_divided p m path c n i e j.divided f j.numbered;
        free =
            all_give _ (λ x. FreeOf x (entered p (grid_for p) path c n)) (λ x k. has (NotOf x) k.1 (apart_not_of c x k.0)) (others c cs)
            (all_both (Apart c) (λ x. FreeOf x path) (others c cs) apart free);
        numbered = has (OfPlate p) j.numbered (of_plate p c i);
      }

  -- the whole path of a plate that has a contour
  pub retrace_divided : AllTakePart p → 1 ≤ contour_count p → Divided p (retrace p)
  retrace_divided t h = (retrace_keeps p (Joined p) begins enters t h).divided

  -- and its path points have vertices of the plate
  pub retrace_numbered : AllTakePart p → 1 ≤ contour_count p → Numbered p (retrace p)
  retrace_numbered t h = (retrace_keeps p (Joined p) begins enters t h).numbered
