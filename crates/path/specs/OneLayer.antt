-- With one layer for all contours the calls answer, and leave in their slices, what they do without layers. The definitions without layers are those of
-- crates/rules/specs with `winner` where those have `foremost`, and without refusal 13. Assumes nothing.
use Rattle.std.specs.Prelude.{◌≡◌, Bool, not, Float, length}
use Rattle.std.proofs.Math.Path.{refl, ap}
use Rattle.std.proofs.Common.{◌∙◌, arith, le-leb, le-ltb, eq-eqb}
use mathlib.Core.List.{List, [], ◌∷◌, ◌++◌, map}
use Rattle.std.proofs.Math.Option.{Option, none, some}
use Prim.Native.Nat.{ℕ, zero, suc, ◌+◌, ◌≤◌, ◌<◌}
use Rattle.rules.specs.Tools.{pick, without, winner, highest_layer, foremost}
use Rattle.rules.specs.HandedOver.{Plate, Contour, contours, vertex_at, layer_at, order_room, straight_room, retrace_room, Answer, gives, first_bad}
use Rattle.rules.specs.HandedOver.{RefusalRow, refused_by, bad_layer_count, bad_layer, too_many_contours, too_many_points, miscounted, off_the_plate, work_short, full, parked_coordinates, input_rows, plate_rows, order_rows, retrace_work, retrace_rows, after}
use Rattle.rules.specs.Start.{measured_from, Oriented, ends, layer_of, beats, start}
use Rattle.rules.specs.GridAndNearest.{grid_of}
use Rattle.rules.specs.SamplesAndCache.{Waiting, waiting, seed, update, keep, cells_around}
use Rattle.rules.specs.Retrace.{begin, path_points, closer, waiting_layer, choose, waiting_number, entered, join_all, retrace_from, retrace_of, retrace}
use Rattle.rules.specs.Marks.{Step, coordinates, marks, vertices}
use Rattle.rules.specs.OrderAndStraight.{last_end, nearer_sense, nearer_end, contour_number, order_after, order_from, order_of, order, entries, straight}
use Rattle.rules.specs.Calls.{start_or, start_call, OrderOutcome, order_call, StraightOutcome, straight_call, path_totals, RetraceOutcome, retrace_call}
use Rattle.rules.specs.declared.SpatialGrid.{SpatialGrid}
use Rattle.plate_laws.specs.Lists.{All, all_give, all-at, all_map, all_without}
use Rattle.plate_laws.specs.Layers.{foremost_all}
use Rattle.plate_laws.specs.Rows.{Passed}
use Rattle.plate_laws.specs.AcceptedInput.{Layered}
use Rattle.plate_laws.specs.Contours.{contours_numbered}
use Rattle.plate_laws.specs.Start.{all_ends}
use Rattle.plate_laws.specs.OrderTotals.{all_nearer}

-- ---- without layers

unfoldable pub plain_start : Plate → Option Oriented
plain_start p = winner (beats p.strategy) (ends p (measured_from p.strategy p.width p.height) (contours p))

unfoldable pub plain_order_after : Plate → ℕ → List Contour → Oriented → List Oriented
plain_order_after p zero cs s = []
plain_order_after p (suc n) cs s =
    elim (winner nearer_end (map (nearer_sense p (last_end p s)) cs)) [
      | none ↦ []
      | some t ↦ t ∷ plain_order_after p n (without contour_number t.contour.number cs) t
    ]

unfoldable pub plain_order_from : Plate → Oriented → List Contour → List Oriented
plain_order_from p s cs = let rest = without contour_number s.contour.number cs in s ∷ plain_order_after p (length rest) rest s

unfoldable pub plain_order_of : Plate → Option Oriented → List Oriented
plain_order_of p none = []
plain_order_of p (some s) = plain_order_from p s (contours p)

unfoldable pub plain_order : Plate → List Oriented
plain_order p = plain_order_of p (plain_start p)

unfoldable pub plain_join_all : Plate → SpatialGrid → ℕ → List Waiting → List Step → List Step
plain_join_all p g zero ws path = path
plain_join_all p g (suc n) ws path =
    elim (winner closer ws) [
      | none ↦ path
      | some w ↦
          let next = entered p g path w.contour w.kept.entry in
          let cells = cells_around (vertex_at p w.contour) g w.contour.last in
          plain_join_all p g n (map (update p g (path_points p next) cells) (without waiting_number (waiting_number w) ws)) next
    ]

unfoldable pub plain_retrace_from : Plate → SpatialGrid → Oriented → List Contour → List Step
plain_retrace_from p g s cs =
    let path = begin s in
    let ws = without waiting_number s.contour.number (map (waiting p g) cs) in
    plain_join_all p g (length ws) (map (seed p g (path_points p path)) ws) path

unfoldable pub plain_retrace_of : Plate → Option Oriented → List Step
plain_retrace_of p none = []
plain_retrace_of p (some s) = plain_retrace_from p (grid_of p.box) s (contours p)

unfoldable pub plain_retrace : Plate → List Step
plain_retrace p = plain_retrace_of p (plain_start p)

unfoldable pub plain_rows : Plate → List RefusalRow
plain_rows p =
    too_many_contours p.lengths
    ∷ too_many_points p.lengths
    ∷ miscounted p.points p.lengths
    ∷ off_the_plate (parked_coordinates p.strategy)
    ∷ off_the_plate p.points
    ∷ []

unfoldable pub plain_start_call : Plate → Answer (ℕ × Bool)
plain_start_call p = refused_by (plain_rows p) (start_or (plain_start p))

unfoldable pub plain_order_call : Plate → List ℕ → ℕ → OrderOutcome
plain_order_call p slice w =
    let c = order_room (length slice) in
    let r = plain_order p in
    let a = refused_by (plain_rows p ++ (work_short w (length p.lengths) 0 ∷ full c (length r) ∷ [])) (gives (length r)) in
    record { answer = a; order = after a c (entries r) slice }

unfoldable pub plain_straight_call : Plate → List Float → ℕ → StraightOutcome
plain_straight_call p path w =
    let c = straight_room (length path) in
    let r = straight (plain_order p) in
    let a = refused_by (plain_rows p ++ (work_short w (length p.lengths) 0 ∷ full c (length r) ∷ [])) (gives (length r)) in
    record { answer = a; path = after a c (coordinates p.points r) path }

unfoldable pub plain_retrace_call : Plate → List Float → List ℕ → ℕ → ℕ → RetraceOutcome
plain_retrace_call p path ms w d =
    let c = retrace_room (length path) (length ms) in
    let r = plain_retrace p in
    let rows = work_short w (retrace_work p c) 0 ∷ work_short d (length p.lengths) 1 ∷ full c (length r) ∷ [] in
    let a = refused_by (plain_rows p ++ rows) (gives (path_totals p r)) in
    record { answer = a; path = after a c (coordinates p.points (vertices r)) path; marks = after a c (marks r) ms }

-- ---- with one layer

-- all contours that are not empty are of layer l
unfoldable pub OneLayer : Plate → ℕ → Type 0
OneLayer p l = All (λ c. layer_at p c ≡ l) (contours p)

one_layer : (p : Plate) (l : ℕ) → length p.layers ≡ length p.lengths → All (λ k. k ≡ l) p.layers → OneLayer p l
unfolding OneLayer contours layer_at
one_layer p l e a =
    all_give (λ c. c.number < length p.lengths) _ (λ c h. all-at (λ k. k ≡ l) 0 p.layers a c.number (omega arith)) (contours p)
    (contours_numbered p)

module _ (p : Plate) (l : ℕ) (low : l ≤ highest_layer) where
  abbrev InLayer : Contour → Type 0
  InLayer c = layer_at p c ≡ l

  order_after_plain : (n : ℕ) (cs : List Contour) (s : Oriented) → All InLayer cs → order_after p n cs s ≡ plain_order_after p n cs s
  unfolding order_after plain_order_after layer_of
  order_after_plain zero cs s a = refl
  order_after_plain (suc n) cs s a =
      go (winner nearer_end (map (nearer_sense p (last_end p s)) cs)) refl (foremost_all (layer_of p) nearer_end l _ low (all_nearer InLayer p (last_end p s) cs a))
      (λ t. order_after_plain n (without contour_number t.contour.number cs) t (all_without InLayer contour_number t.contour.number cs a))
    where
      go : (o : Option Oriented) → winner nearer_end (map (nearer_sense p (last_end p s)) cs) ≡ o →
          foremost (layer_of p) nearer_end (map (nearer_sense p (last_end p s)) cs) ≡ winner nearer_end (map (nearer_sense p (last_end p s)) cs) →
          ((t : Oriented) → order_after p n (without contour_number t.contour.number cs) t ≡ plain_order_after p n (without contour_number t.contour.number cs) t) →
          order_after p (suc n) cs s ≡ plain_order_after p (suc n) cs s
      go none e f rest = rw (f ∙ e, order_after, e, plain_order_after)
      go (some t) e f rest = rw (f ∙ e, order_after, e, plain_order_after) (ap (λ (ss : List Oriented). t ∷ ss) (rest t))

  join_plain : (g : SpatialGrid) (n : ℕ) (ws : List Waiting) (path : List Step) → All (λ w. InLayer w.contour) ws →
      join_all p g n ws path ≡ plain_join_all p g n ws path
  unfolding join_all plain_join_all choose waiting_layer update keep
  join_plain g zero ws path a = refl
  join_plain g (suc n) ws path a =
      go (winner closer ws) refl (foremost_all (waiting_layer p) closer l ws low a)
      (λ vs next b. join_plain g n vs next b)
    where
      go : (o : Option Waiting) → winner closer ws ≡ o → choose p ws ≡ winner closer ws →
          ((vs : List Waiting) (next : List Step) → All (λ w. InLayer w.contour) vs → join_all p g n vs next ≡ plain_join_all p g n vs next) →
          join_all p g (suc n) ws path ≡ plain_join_all p g (suc n) ws path
      go none e f rest = rw (f ∙ e, join_all, e, plain_join_all)
      go (some w) e f rest =
          rw (f ∙ e, join_all, e, plain_join_all)
          (rest _ _ (all_map (λ v. InLayer v.contour) _ (without waiting_number (waiting_number w) ws) (all_without (λ v. InLayer v.contour) waiting_number (waiting_number w) ws a)))

  module _ (one : OneLayer p l) where
    start_plain : start p ≡ plain_start p
    unfolding start plain_start OneLayer layer_of
    start_plain = foremost_all (layer_of p) (beats p.strategy) l _ low (all_ends InLayer p _ (contours p) one)

    order_plain : order p ≡ plain_order p
    unfolding order plain_order order_of plain_order_of order_from plain_order_from OneLayer
    order_plain = ap (order_of p) start_plain ∙ go (plain_start p)
      where
        go : (o : Option Oriented) → order_of p o ≡ plain_order_of p o
        go none = refl
        go (some s) =
            let rest = without contour_number s.contour.number (contours p) in
            ap (λ (ss : List Oriented). s ∷ ss) (order_after_plain (length rest) rest s (all_without InLayer contour_number s.contour.number (contours p) one))

    retrace_plain : retrace p ≡ plain_retrace p
    unfolding retrace plain_retrace retrace_of plain_retrace_of retrace_from plain_retrace_from OneLayer seed keep waiting
    retrace_plain = ap (retrace_of p) start_plain ∙ go (plain_start p)
      where
        go : (o : Option Oriented) → retrace_of p o ≡ plain_retrace_of p o
        go none = refl
        go (some s) =
            let g = grid_of p.box in
            let ws = without waiting_number s.contour.number (map (waiting p g) (contours p)) in
            join_plain g (length ws) (map (seed p g (path_points p (begin s))) ws) (begin s)
            (all_map (λ w. InLayer w.contour) _ ws
            (all_without (λ w. InLayer w.contour) waiting_number s.contour.number _ (all_map (λ w. InLayer w.contour) (waiting p g) (contours p) one)))

-- ---- the calls

none_bad : (i : ℕ) (ls : List ℕ) → All (λ k. k ≤ highest_layer) ls → first_bad i ls ≡ i + length ls
unfolding first_bad pick
none_bad i [] a = omega arith
none_bad i (l ∷ ls) a = rw (le-leb l highest_layer a.0) (omega (arith, none_bad (suc i) ls a.1))

-- layers that refusal 13 lets pass
layered_passes : (m : ℕ) (ls : List ℕ) → Layered m ls → Passed (bad_layer_count m ls ∷ bad_layer ls ∷ [])
unfolding bad_layer_count bad_layer
layered_passes m ls a = (ap not (eq-eqb (length ls) m a.counted), (le-ltb (first_bad 0 ls) (length ls) (omega (arith, none_bad 0 ls a.shallow)), tt))

-- refusal 13 lets a plate's layers pass, and all contours that are not empty are of layer l
pub record OneLayered (p : Plate) (l : ℕ) : Type 0 where
  pub layers : Layered (length p.lengths) p.layers
  pub low : l ≤ highest_layer
  pub one : OneLayer p l

-- so they are if the slice has one number for each contour, each of them l
pub one_layered : (p : Plate) (l : ℕ) → l ≤ highest_layer → length p.layers ≡ length p.lengths → All (λ k. k ≡ l) p.layers → OneLayered p l
one_layered p l low e a =
    record { layers = record { counted = e; shallow = all_give _ _ (λ k f. omega arith) p.layers a }; low = low; one = one_layer p l e a }

module _ (p : Plate) (l : ℕ) (h : OneLayered p l) where
  rows_plain : {A : Type 0} (rs : List RefusalRow) (later : Answer A) → refused_by (plate_rows p ++ rs) later ≡ refused_by (plain_rows p ++ rs) later
  unfolding plain_rows input_rows refused_by pick
  rows_plain rs later = let (n, (b, t)) = layered_passes (length p.lengths) p.layers h.layers in rw (n, b)

  pub start_call_plain : start_call p ≡ plain_start_call p
  unfolding start_call plain_start_call plain_rows input_rows
  start_call_plain = rw (start_plain p l h.low h.one) (rows_plain [] _)

  pub order_call_plain : (slice : List ℕ) (w : ℕ) → order_call p slice w ≡ plain_order_call p slice w
  unfolding order_call plain_order_call order_rows
  order_call_plain slice w =
      let r = plain_order p in
      rw (order_plain p l h.low h.one, rows_plain (work_short w (length p.lengths) 0 ∷ full (order_room (length slice)) (length r) ∷ []) (gives (length r)))

  pub straight_call_plain : (path : List Float) (w : ℕ) → straight_call p path w ≡ plain_straight_call p path w
  unfolding straight_call plain_straight_call order_rows
  straight_call_plain path w =
      let r = straight (plain_order p) in
      rw (order_plain p l h.low h.one, rows_plain (work_short w (length p.lengths) 0 ∷ full (straight_room (length path)) (length r) ∷ []) (gives (length r)))

  pub retrace_call_plain : (path : List Float) (ms : List ℕ) (w d : ℕ) → retrace_call p path ms w d ≡ plain_retrace_call p path ms w d
  unfolding retrace_call plain_retrace_call retrace_rows
  retrace_call_plain path ms w d =
      let r = plain_retrace p in
      let c = retrace_room (length path) (length ms) in
      rw (retrace_plain p l h.low h.one, rows_plain (work_short w (retrace_work p c) 0 ∷ work_short d (length p.lengths) 1 ∷ full c (length r) ∷ []) (gives (path_totals p r)))
