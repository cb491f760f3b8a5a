-- A sum over the steps of a path, to which each contour adds its share: for each of its segments, and for its jump or touch. Assumes nothing.
use Rattle.std.specs.Prelude.{◌≡◌, Bool, ℕ, ◌+◌, ◌-◌, ◌≤◌, eqb, length}
use Rattle.std.proofs.Math.Path.{refl, ap}
use Rattle.std.proofs.Math.Bool.{true, false}
use mathlib.Core.List.{List, [], ◌∷◌, ◌++◌, map}
use native.Mathlib.Omega.{arith}
use Rattle.rules.specs.Tools.{pick, sum, up_from, down_to}
use Rattle.rules.specs.HandedOver.{Plate, Contour, at, contours, vertex_at}
use Rattle.rules.specs.Start.{Oriented}
use Rattle.rules.specs.GridAndNearest.{nearest}
use Rattle.rules.specs.Retrace.{vertex_of, walk_to, walk_back, forward, backward, return_to, both_ways, emit, entry_of, begin, path_points, place_in, entered, retrace}
use Rattle.rules.specs.Marks.{start_kind, jump_kind, touch_kind, coincide, landing_kind, Step, land, cut_up, cut_down, back_step}
use Rattle.rules.specs.Contours.{contour_count}
use Rattle.rules.specs.declared.Point.{Point}
use Rattle.rules.specs.declared.SpatialGrid.{SpatialGrid}
use Rattle.plate_laws.specs.Sums.{sum_append, sum_up_from, sum_down_to}
use Rattle.plate_laws.specs.Nearest.{grid_for}
use Rattle.plate_laws.specs.Steps.{entry_in}
use Rattle.plate_laws.specs.Contours.{sum_others, contours_rise}
use Rattle.plate_laws.specs.Start.{AllTakePart}
use Rattle.path.specs.Induction.{retrace_keeps}

-- what each step weighs: a cut by its segment, in either sense, each jump and touch alike, back-steps and the start nothing
pub record Weights (weight : Step → ℕ) (segment : ℕ → ℕ) (jump : ℕ) : Type 0 where
  pub up : (v : ℕ) → weight (cut_up v) ≡ segment v
  pub down : (v : ℕ) → weight (cut_down v) ≡ segment v
  pub back : (v k : ℕ) → weight (back_step v k) ≡ 0
  pub start : (v : ℕ) → weight (land start_kind v) ≡ 0
  pub landing : (v : ℕ) → weight (land jump_kind v) ≡ jump
  pub touch : (v : ℕ) → weight (land touch_kind v) ≡ jump

-- a contour's share: its segments, and its jump or touch
unfoldable pub share : (ℕ → ℕ) → ℕ → Contour → ℕ
share segment jump c = jump + sum (map segment (up_from c.first c.last))

module _ (weight : Step → ℕ) (segment : ℕ → ℕ) (jump : ℕ) (h : Weights weight segment jump) where
  abbrev total : List Step → ℕ
  total path = sum (map weight path)

  -- ---- runs

  ups_total : (xs : List ℕ) → total (map cut_up xs) ≡ sum (map segment xs)
  unfolding sum
  ups_total [] = refl
  ups_total (x ∷ xs) = rw (h.up x, ups_total xs)

  downs_total : (xs : List ℕ) → total (map cut_down xs) ≡ sum (map segment xs)
  unfolding sum
  downs_total [] = refl
  downs_total (x ∷ xs) = rw (h.down x, downs_total xs)

  backs_total : (v k : ℕ → ℕ) (xs : List ℕ) → total (map (λ i. back_step (v i) (k i)) xs) ≡ 0
  unfolding sum
  backs_total v k [] = refl
  backs_total v k (x ∷ xs) = rw (h.back (v x) (k x), backs_total v k xs)

  -- ---- a contour

  -- landed on with a kind that weighs n
  abbrev Lands : ℕ → ℕ → Type 0
  Lands kind n = (v : ℕ) → weight (land kind v) ≡ n

  landing_weighs : (a b : Point) → Lands (landing_kind a b) jump
  unfolding landing_kind pick
  landing_weighs a b v = go (coincide a b)
    where
      go : (t : Bool) → weight (land (pick t touch_kind jump_kind) v) ≡ jump
      go true = h.touch v
      go false = h.landing v

  forward_total : (kind n : ℕ) (c : Contour) → Lands kind n → total (forward kind c) ≡ share segment n c
  unfolding forward share sum
  forward_total kind n c e = rw (e c.first, ups_total (up_from c.first c.last))

  backward_total : (kind n : ℕ) (c : Contour) → Lands kind n → total (backward kind c) ≡ share segment n c
  unfolding backward share sum
  backward_total kind n c e = rw (e (c.first + c.last), downs_total (down_to c.first c.last), sum_down_to segment c.first c.last)

  both_total : (kind n : ℕ) → Lands kind n → (c : Contour) (e b : ℕ) → e ≤ c.last → total (both_ways kind c e b) ≡ share segment n c
  unfolding both_ways return_to share sum
  both_total kind m x c e b l =
      let a = c.first + e in
      let n = c.last - e in
      let up = map cut_up (up_from a n) in
      let back = map (return_to a b) (down_to 0 n) in
      let k : e + n ≡ c.last = omega arith in
      omega (
        arith,
        sum_append weight ((land kind a ∷ up) ++ back) (map cut_down (down_to c.first e)),
        sum_append weight (land kind a ∷ up) back,
        x a,
        ups_total (up_from a n),
        backs_total (λ i. a + i) (λ i. b + i) (down_to 0 n),
        downs_total (down_to c.first e),
        sum_down_to segment c.first e,
        ap (λ (x : ℕ). sum (map segment (up_from c.first x))) k,
        sum_up_from segment c.first e n,
      )

  emit_total : (kind n : ℕ) → Lands kind n → (c : Contour) (e b : ℕ) → e ≤ c.last → total (emit kind c e b) ≡ share segment n c
  unfolding emit pick
  emit_total kind n x c e b l = go (eqb e 0) (eqb e c.last)
    where
      go : (s t : Bool) → total (pick s (forward kind c) (pick t (backward kind c) (both_ways kind c e b))) ≡ share segment n c
      go true t = forward_total kind n c x
      go false true = backward_total kind n c x
      go false false = both_total kind n x c e b l

  -- the start saves a jump
  begin_total : (s : Oriented) → jump + total (begin s) ≡ share segment jump s.contour
  unfolding begin share
  begin_total s = omega (arith, emit_total start_kind 0 h.start s.contour (entry_of s) 0 (entry_in s))

  entered_total : (p : Plate) (g : SpatialGrid) (path : List Step) (c : Contour) (e : ℕ) → e ≤ c.last →
      total (entered p g path c e) ≡ total path + share segment jump c
  unfolding entered walk_back walk_to
  entered_total p g path c e l =
      let q = vertex_at p c e in
      let place = place_in (nearest g (path_points p path) q) in
      let walk = walk_back path place in
      let left = at p.points (vertex_of path place) in
      omega (
        arith,
        sum_append weight (path ++ walk) (emit (landing_kind left q) c e (length (path ++ walk))),
        sum_append weight path walk,
        backs_total (vertex_of path) (λ i. i) (down_to place (length path - 1 - place)),
        emit_total (landing_kind left q) jump (landing_weighs left q) c e (length (path ++ walk)) l,
      )

  -- ---- the whole path

  -- the sum over the path, and the jump that the start saves, is the sum over the contours
  pub retrace_total : (p : Plate) → AllTakePart p → 1 ≤ contour_count p → jump + total (retrace p) ≡ sum (map (share segment jump) (contours p))
  unfolding sum
  retrace_total p t l =
      let f = share segment jump in
      let all = sum (map f (contours p)) in
      let e = retrace_keeps p (λ cs path. jump + total path + sum (map f cs) ≡ all)
      (λ s i low. omega (arith, begin_total s, sum_others f s.contour (contours p) (contours_rise p) i))
      (λ cs path c e coming a low l k. omega (arith, entered_total p (grid_for p) path c e l, sum_others f c cs coming.rising a, k)) t l in
      omega (arith, e)
