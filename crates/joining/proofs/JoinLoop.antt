-- The loop over the waiting contours: whichever plate's they are, what is left to join gives what was to be joined. Assumes nothing.
use mathlib.Core.Path.{◌≡◌, sym, ap, subst, ◌∙◌}
use mathlib.Core.List.{List, map}
use mathlib.Core.Option.{some}
use Prim.Native.Nat.{ℕ, ◌+◌, ◌-◌, ◌≤◌, ◌<◌}
use native.Mathlib.Omega.{arith}
use lib.Ieee.{Float}
use lib.ListN.{length}
use Rattle.std.specs.Prelude.{Some, None}
use Rattle.std.specs.Prelude as prelude
use Rattle.rules.specs.Limits.{most_cells}
use Rattle.rules.specs.Tools.{without}
use Rattle.rules.specs.HandedOver.{Plate, Contour, vertex_at}
use Rattle.rules.specs.SamplesAndCache.{Waiting, update, cells_around}
use Rattle.rules.specs.Retrace.{choose, waiting_number, entered, join_all}
use Rattle.rules.specs.Marks.{Step}
use Rattle.rules.specs.declared.SpatialGrid.{SpatialGrid}
use Rattle.plate_laws.specs.Lists.{All}
use Rattle.work_layout.specs.Parts.{from, KeptBelow, KeptFrom}
use Rattle.work_layout.specs.declared.Layout.{Layout}
use Rattle.waiting.specs.Holds.{Holds}
use Rattle.prepare.specs.PreparedSlices.{Prepared}
use Rattle.history.specs.History.{points}
use Rattle.caches.specs.QueryNeeds.{Querying}
use Rattle.waiting.specs.WaitingNumbers.{Lined}
use Rattle.waiting.specs.Picks.{Picks}
use Rattle.waiting.specs.declared.Candidate.{Candidate}
use Rattle.contours.specs.ContourOf.{contour_of}
use Rattle.path_points.specs.Pen.{Pen, Grows}
use Rattle.joining.specs.Lines.{Lines}
use Rattle.joining.specs.JoinState.{JoinState, JoinedByRules}
use Rattle.joining.proofs.Candidates.{Entry, InPlate, in_plate, some_waiting}
use Rattle.joining.proofs.NextContour.{drawn_querying, drawn_flags, join_next, full_wrote, joining_next}
use Rattle.joining.proofs.PathPrefix.{path_after, waiting_after, join_none}

-- some plate's joining is at this point
abbrev pub SomeJoining : List Float → List ℕ → SpatialGrid → Layout → ℕ → ℕ → ℕ → List Float → List ℕ → List ℕ → List Float → Type 0
SomeJoining xs ls g lay room turn count path ms work ds =
    (p : Plate) × (ws : List Waiting) × (steps : List Step) × (was : List Float) × (marked : List ℕ) × (p.points ≡ xs) × (p.layers ≡ ls)
    × (lay.contours ≤ length ls) × JoinState p g lay room turn count path ms work ds ws steps was marked

-- what is left of a joining of ws₀ behind steps₀
abbrev pub Left : Plate → SpatialGrid → Layout → ℕ → ℕ → ℕ → List Float → List ℕ → List ℕ → List Float → List Waiting → List Step → List Float → List ℕ → Type 0
Left p g lay room turn count path ms work ds ws₀ steps₀ was marked =
    (ws : List Waiting) × (steps : List Step) × (JoinState p g lay room turn count path ms work ds ws steps was marked)
    × (join_all p g (length ws₀) ws₀ steps₀ ≡ join_all p g (length ws) ws steps)

pub record LoopState (xs : List Float) (ls : List ℕ) (g : SpatialGrid) (lay : Layout) (room count : ℕ) (path : List Float) (ms work : List ℕ) (ds : List Float)
    (turn k : ℕ) (path' : List Float) (ms' work' : List ℕ) (ds' : List Float) : Type 0 where
  pub can : SomeJoining xs ls g lay room turn k path' ms' work' ds'
  pub left : (p : Plate) (ws : List Waiting) (steps : List Step) (was : List Float) (marked : List ℕ) → p.points ≡ xs → p.layers ≡ ls →
      JoinState p g lay room 0 count path ms work ds ws steps was marked → Left p g lay room turn k path' ms' work' ds' ws steps was marked

module _ {xs : List Float} {ls : List ℕ} {g : SpatialGrid} {lay : Layout} {room count : ℕ} {path : List Float} {ms work : List ℕ} {ds : List Float}
    {turn k : ℕ} {path' : List Float} {ms' work' : List ℕ} {ds' : List Float}
    (h : LoopState xs ls g lay room count path ms work ds turn k path' ms' work' ds') where
  -- ---- what is known before a turn

  pub loop_fits : k ≤ room
  loop_fits = let (p, ws, steps, was, marked, e, y, few, j) = h.can in j.fits

  pub loop_some : 1 ≤ k
  loop_some = let (p, ws, steps, was, marked, e, y, few, j) = h.can in j.some

  -- ---- a choice

  -- whatever is chosen by the slices is what the rules choose
  abbrev pub Chooses : prelude.Option Candidate → Type 0
  Chooses r = (p : Plate) (ys : List Float) (f : SpatialGrid) (ws : List Waiting) → p.layers ≡ ls → Lined (from work' lay.waiting) lay.contours ws →
      All (Holds ys f lay ds' work') ws → Picks r (choose p ws)

  -- nobody
  pub loop_ends : Chooses None → JoinedByRules xs ls g lay room count path ms work ds k path' ms'
  loop_ends n p ws steps was marked e y j =
      let (vs, now, i, q) = h.left p ws steps was marked e y j in
      let none_left = n p p.points g vs y i.lines.lined i.lines.held in
      rw (← e) (rw (q, join_none p g (length vs) vs now none_left) i.wrote)

  -- a candidate
  module _ (r : Candidate) (n : Chooses (Some r)) where
    entering : (p : Plate) (ws : List Waiting) (steps : List Step) (was : List Float) (marked : List ℕ) → p.layers ≡ ls →
        JoinState p g lay room turn k path' ms' work' ds' ws steps was marked → (w : Waiting) × (choose p ws ≡ some w) × Entry r.contour r.entry.0 w
    entering p ws steps was marked y j =
        let (w, e, f, a) = n p p.points g ws y j.lines.lined j.lines.held in (w, e, record { contour = f; at = a })

    pub loop_within : InPlate xs lay r.contour r.entry.0
    loop_within =
        let (p, ws, steps, was, marked, e, y, few, j) = h.can in
        let (w, chosen, en) = entering p ws steps was marked y j in
        rw e at (in_plate j chosen en)

    pub loop_turn : turn < lay.contours
    loop_turn =
        let (p, ws, steps, was, marked, e, y, few, j) = h.can in
        let (w, chosen, en) = entering p ws steps was marked y j in
        omega (arith, some_waiting p ws w chosen, j.turns)

    -- it is drawn
    module _ {k'' : ℕ} {path'' : List Float} {ms'' work'' : List ℕ} (pen : Pen g room k'' path'' ms'' work'') (kept : KeptFrom (most_cells + room) work' work'')
        (same_work : length work'' ≡ length work')
        (drawn : (p : Plate) → p.points ≡ xs →
        Grows xs room k k'' path' path'' ms' ms'' (λ ss. entered p g ss (contour_of r.contour) (r.entry.0 - r.contour.first.0))) where
      grown : (p : Plate) (w : Waiting) → p.points ≡ xs → Entry r.contour r.entry.0 w → Grows p.points room k k'' path' path'' ms' ms'' (λ ss. path_after p g ss w)
      unfolding contour_of
      grown p w e en =
          let f : r.contour.first.0 ≡ w.contour.first = ap (λ (z : Contour). z.first) en.contour in
          let a : r.entry.0 - r.contour.first.0 ≡ w.kept.entry = omega (arith, f, en.at) in
          subst (λ (ys : List Float). Grows ys room k k'' path' path'' ms' ms'' (λ ss. path_after p g ss w)) (sym e)
          (subst (λ (c : Contour). Grows xs room k k'' path' path'' ms' ms'' (λ ss. entered p g ss c w.kept.entry)) en.contour (rw a at (drawn p e)))

      -- the path is full
      pub loop_full : room < k'' → JoinedByRules xs ls g lay room count path ms work ds k'' path'' ms''
      loop_full m p ws steps was marked e y j =
          let (vs, now, i, q) = h.left p ws steps was marked e y j in
          let (w, chosen, en) = entering p vs now was marked y i in
          rw (← e) (rw q (full_wrote i chosen (grown p w e en) m))

      pub loop_querying : k'' ≤ room → Querying xs g lay ds' work'' path'' k''
      loop_querying fits =
          let (p, ws, steps, was, marked, e, y, few, j) = h.can in
          rw e at (drawn_querying j pen kept same_work fits)

      pub loop_flags : (f : ℕ) → f < lay.cells → from work'' lay.flags f < turn + 1
      loop_flags f l =
          let (p, ws, steps, was, marked, e, y, few, j) = h.can in
          drawn_flags j pen kept same_work f l

      -- it is settled
      module _ (fits : k'' ≤ room) {ds''' : List Float} {work''' : List ℕ} (same''' : length work''' ≡ length work'')
          (prepared : Prepared xs g lay ds''' work''') (below : KeptBelow lay.flags work'' work''')
          (flags : (f : ℕ) → f < lay.cells → from work''' lay.flags f ≤ turn + 1)
          (settled : (p : Plate) (ws : List Waiting) → p.points ≡ xs → Lines xs g lay ds' work'' ws →
          Lines xs g lay ds''' work'''
          (map (update p g (points path'' k'') (cells_around (vertex_at p (contour_of r.contour)) g r.contour.last)) (without waiting_number r.contour.number ws))) where
        settled_of : Plate → List Waiting → List Waiting
        settled_of p ws =
            map (update p g (points path'' k'') (cells_around (vertex_at p (contour_of r.contour)) g r.contour.last)) (without waiting_number r.contour.number ws)

        next_joining : (p : Plate) (ws : List Waiting) (steps : List Step) (was : List Float) (marked : List ℕ) → p.points ≡ xs →
            (j : JoinState p g lay room turn k path' ms' work' ds' ws steps was marked) (w : Waiting) → choose p ws ≡ some w → Entry r.contour r.entry.0 w →
            JoinState p g lay room (turn + 1) k'' path'' ms'' work''' ds''' (waiting_after p g ws steps w) (path_after p g steps w) was marked
        unfolding settled_of
        next_joining p ws steps was marked e j w chosen en =
            joining_next j chosen (grown p w e en) en fits pen kept same_work
            (subst (λ (ys : List Float). Prepared ys g lay ds''' work''') (sym e) prepared) below flags same'''
            (subst (λ (ys : List Float). Lines ys g lay ds' work'' ws → Lines ys g lay ds''' work''' (settled_of p ws)) (sym e) (settled p ws e))

        pub loop_next : LoopState xs ls g lay room count path ms work ds (turn + 1) k'' path'' ms'' work''' ds'''
        loop_next =
            record {
              can =
                  (let (p, ws, steps, was, marked, e, y, few, j) = h.can in
                  let (w, chosen, en) = entering p ws steps was marked y j in
                  (p, waiting_after p g ws steps w, path_after p g steps w, was, marked, e, y, few, next_joining p ws steps was marked e j w chosen en));
              left = λ p ws steps was marked e y j.
                  let (vs, now, i, q) = h.left p ws steps was marked e y j in
                  let (w, chosen, en) = entering p vs now was marked y i in (
                    waiting_after p g vs now w,
                    path_after p g now w,
                    next_joining p vs now was marked e i w chosen en,
                    q ∙ join_next i chosen,
                  );
            }
