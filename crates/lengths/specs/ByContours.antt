-- The length of the cuts along the path of the documents' rules is that of the plate, contour by contour: a cut goes from end to end of its segment, in one of
-- its two senses, and each segment is cut once. And the touches along it have no length. Assumes nothing.
use Rattle.std.specs.Prelude.{◌≡◌, refl, ◌⊎◌, List, [], ◌∷◌, map, ℕ, zero, suc, ◌+◌, ◌-◌, ◌≤◌, ◌<◌, eqb, length, get_or, Float}
use Rattle.std.proofs.Common.{ap, ◌∙◌, inl, inr, zero-add, arith}
use Rattle.std.proofs.Math.Path.{fun_ext}
use Rattle.rules.specs.Tools.{pick, sum, up_from}
use Rattle.rules.specs.HandedOver.{Plate, Contour, at, contours}
use Rattle.rules.specs.Retrace.{step_at, vertex_of, retrace}
use Rattle.rules.specs.Marks.{start_kind, cut_kind, Step, land, cut_up, cut_down, back_step, coordinates, marks, vertices}
use Rattle.rules.specs.Lengths.{pair_length, segment_length, contour_length, plate_length, is_cut, is_touch, counted_length, length_along}
use Rattle.statement.specs.Division.{itself, Cut}
use Rattle.rules.specs.Contours.{contour_count}
use Rattle.plate_laws.specs.Lists.{all_up_from}
use Rattle.plate_laws.specs.Sums.{sum_zeros, sum_same}
use Rattle.plate_laws.specs.AcceptedInput.{Measurable}
use Rattle.plate_laws.specs.Start.{AllTakePart}
use Rattle.path.specs.Pairs.{PlatePair, Divided, divided_some, divided_start, divided_pairs}
use Rattle.path.specs.JumpsAndTouches.{retrace_divided}
use Rattle.path.specs.Shares.{Weights, share, retrace_total}
use Rattle.plate_laws.specs.Slices.{kind_at_lem, point_is}
use Rattle.path.specs.Blank.{retrace_empty}
use Rattle.length_laws.specs.EitherEnd.{pair_swap}
use Rattle.lengths.specs.Touches.{touch_adds_nothing}

-- ---- sums

-- f and g are the same over a run
same_run : (f g : ℕ → ℕ) (a n : ℕ) → ((i : ℕ) → a ≤ i → i < a + n → f i ≡ g i) → sum (map f (up_from a n)) ≡ sum (map g (up_from a n))
same_run f g a n h = sum_same f g (up_from a n) (all_up_from (λ i. f i ≡ g i) a n h)

-- a run from one number on
sum_on : (f : ℕ → ℕ) (a n : ℕ) → sum (map f (up_from (suc a) n)) ≡ sum (map (λ k. f (suc k)) (up_from a n))
unfolding sum
sum_on f a zero = refl
sum_on f a (suc n) = rw (sum_on f (suc a) n)

-- a sum over a list is one over its places: z is what stands beyond the end
sum_places : {A : Type 0} (f : A → ℕ) (z : A) (xs : List A) → sum (map f xs) ≡ sum (map (λ k. f (get_or xs k z)) (up_from 0 (length xs)))
unfolding sum
sum_places f z [] = refl
sum_places f z (x ∷ xs) = omega (arith, sum_places f z xs, sum_on (λ k. f (get_or (x ∷ xs) k z)) 0 (length xs))

-- ---- what a step adds

-- a cut its segment's length, and anything else nothing
abbrev weight : Plate → Step → ℕ
weight p s = pick (eqb s.kind cut_kind) (segment_length p s.reference) 0

weighs : (p : Plate) → Weights (weight p) (segment_length p) 0
unfolding pick land cut_up cut_down back_step
weighs p = record { up = λ v. refl; down = λ v. refl; back = λ v k. refl; start = λ v. refl; landing = λ v. refl; touch = λ v. refl }

-- a cut is as long as its segment
cut_is_segment : (p : Plate) (v : ℕ → ℕ) (k r : ℕ) → Cut (contours p) itself v k r →
    pair_length (at p.points (v k)) (at p.points (v (suc k))) ≡ segment_length p r
unfolding segment_length
cut_is_segment p v k r c = go c.sense
  where
    go : ((v k ≡ r) × (v (suc k) ≡ suc r)) ⊎ ((v k ≡ suc r) × (v (suc k) ≡ r)) →
        pair_length (at p.points (v k)) (at p.points (v (suc k))) ≡ pair_length (at p.points r) (at p.points (suc r))
    go (inl x) = rw (x.0, x.1)
    go (inr x) = rw (x.0, x.1) (pair_swap _ _)

-- of path points k and k + 1
pair_weighs : (p : Plate) (v : ℕ → ℕ) (k kind r : ℕ) → PlatePair p v k kind r →
    pick (is_cut kind) (pair_length (at p.points (v k)) (at p.points (v (suc k)))) 0 ≡ pick (eqb kind cut_kind) (segment_length p r) 0
unfolding pick
pair_weighs p v k kind r (inl (e, c), n) = ap (λ (l : ℕ). pick (eqb kind cut_kind) l 0) (cut_is_segment p v k r c)
pair_weighs p v k kind r (inr (inl (e, c)), n) = rw e
pair_weighs p v k kind r (inr (inr (inl (e, t), c)), n) = rw e
pair_weighs p v k kind r (inr (inr (inr (e, t), c)), n) = rw e

-- a touch goes between equal points, and other kinds are not counted
touch_of : (p : Plate) (v : ℕ → ℕ) (k kind r : ℕ) → PlatePair p v k kind r →
    pick (is_touch kind) (pair_length (at p.points (v k)) (at p.points (v (suc k)))) 0 ≡ 0
unfolding pick
touch_of p v k kind r (inl (e, c), n) = rw e
touch_of p v k kind r (inr (inl (e, c)), n) = rw e
touch_of p v k kind r (inr (inr (inl (e, t), c)), n) = rw e
touch_of p v k kind r (inr (inr (inr (e, t), c)), n) = rw e (touch_adds_nothing (at p.points (v k)) (at p.points (v (suc k))) t)

-- ---- a path of steps

module _ (p : Plate) (path : List Step) (d : Divided p path) where
  abbrev xs : List Float
  xs = coordinates p.points (vertices path)

  counted_weighs : (k : ℕ) → suc k < length path → counted_length is_cut xs (marks path) k ≡ weight p (step_at path (suc k))
  unfolding counted_length
  counted_weighs k h =
      rw (kind_at_lem path (suc k) h, point_is p.points path k (omega arith), point_is p.points path (suc k) h)
      (pair_weighs p (vertex_of path) k _ _ (divided_pairs p path d k h))

  start_weighs : weight p (step_at path 0) ≡ 0
  unfolding pick
  start_weighs = rw (divided_start p path d).kind

  -- the start weighs nothing, and each other step what its pair adds
  cuts_along : length_along is_cut (length path) xs (marks path) ≡ sum (map (weight p) path)
  unfolding length_along sum step_at
  cuts_along =
      let m = length path - 1 in
      let n : length path ≡ suc m = let some = divided_some p path d in omega arith in
      let f : ℕ → ℕ = λ k. weight p (step_at path k) in
      let all : sum (map (weight p) path) ≡ sum (map f (up_from 0 (suc m))) =
      sum_places (weight p) (land start_kind 0) path ∙ ap (λ (i : ℕ). sum (map f (up_from 0 i))) n in
      let later : sum (map f (up_from 1 m)) ≡ sum (map (λ k. f (suc k)) (up_from 0 m)) = sum_on f 0 m in
      let same = same_run (counted_length is_cut xs (marks path)) (λ k. f (suc k)) 0 m (λ k a b. counted_weighs k (omega arith)) in
      omega (arith, all, later, same, start_weighs)

  -- a touch's pair adds nothing, and no other counts
  touch_adds : (k : ℕ) → suc k < length path → counted_length is_touch xs (marks path) k ≡ 0
  unfolding counted_length
  touch_adds k h =
      rw (kind_at_lem path (suc k) h, point_is p.points path k (omega arith), point_is p.points path (suc k) h)
      (touch_of p (vertex_of path) k _ _ (divided_pairs p path d k h))

  touches_along : length_along is_touch (length path) xs (marks path) ≡ 0
  unfolding length_along
  touches_along = sum_zeros _ (up_from 0 (length path - 1)) (all_up_from _ 0 (length path - 1) (λ k a b. touch_adds k (omega arith)))

-- ---- the whole path

-- the cuts of a plate's path are as long as the plate, and its touches have no length
pub record AsLongAsPlate (p : Plate) : Type 0 where
  pub cuts : length_along is_cut (length (retrace p)) (coordinates p.points (vertices (retrace p))) (marks (retrace p)) ≡ plate_length p
  pub touches : length_along is_touch (length (retrace p)) (coordinates p.points (vertices (retrace p))) (marks (retrace p)) ≡ 0

some_contour : (p : Plate) → Measurable p → AllTakePart p → 1 ≤ contour_count p → AsLongAsPlate p
unfolding plate_length contour_length share
some_contour p m t h =
    let d = retrace_divided p m t h in
    let total = retrace_total (weight p) (segment_length p) 0 (weighs p) p t h in
    let same = ap (λ (f : Contour → ℕ). sum (map f (contours p))) (fun_ext (λ c. zero-add (sum (map (segment_length p) (up_from c.first c.last))))) in
    record { cuts = omega (arith, cuts_along p (retrace p) d, total, same); touches = touches_along p (retrace p) d }

no_contour : (p : Plate) → contours p ≡ [] → AsLongAsPlate p
unfolding length_along plate_length sum
no_contour p e = record { cuts = rw (retrace_empty p e, e); touches = rw (retrace_empty p e) }

pub retrace_summed : (p : Plate) → Measurable p → AllTakePart p → AsLongAsPlate p
unfolding contour_count
retrace_summed p m t = go (contours p) refl
  where
    go : (cs : List Contour) → contours p ≡ cs → AsLongAsPlate p
    go [] e = no_contour p e
    go (c ∷ cs) e = some_contour p m t (omega (arith, ap length e))
