-- One more contour has entered: the joining goes on behind it. Assumes nothing.
use mathlib.Core.Path.{◌≡◌, ap, subst, ◌∙◌}
use mathlib.Core.List.{List, map}
use mathlib.Core.Option.{some}
use Prim.Native.Nat.{ℕ, suc, ◌+◌, ◌≤◌, ◌<◌}
use native.Mathlib.Omega.{arith}
use lib.Ieee.{Float}
use lib.ListN.{length, length-map, length-append}
use Rattle.rules.specs.Limits.{most_cells}
use Rattle.rules.specs.Tools.{without}
use Rattle.rules.specs.HandedOver.{Plate, Contour, vertex_at}
use Rattle.rules.specs.SamplesAndCache.{Waiting, update, cells_around}
use Rattle.rules.specs.Retrace.{path_points, closer, waiting_layer, choose, waiting_number, join_all}
use Rattle.rules.specs.Marks.{Step}
use Rattle.rules.specs.Contours.{Among}
use Rattle.rules.specs.declared.SpatialGrid.{SpatialGrid}
use Rattle.plate_laws.specs.Lists.{map-all, all_without}
use Rattle.plate_laws.specs.Layers.{foremost_has}
use Rattle.plate_laws.specs.Contours.{among_all, others, length_others}
use Rattle.plate_laws.specs.WaitingContours.{Sane, update_caching, contours_cached, contours_without, sane_cached, coming_without}
use Rattle.plate_laws.specs.WaitingContours as laws
use Rattle.work_layout.specs.Parts.{from, KeptBelow, KeptFrom}
use Rattle.work_layout.specs.declared.Layout.{Layout}
use Rattle.prepare.specs.PreparedSlices.{Prepared}
use Rattle.history.specs.History.{points}
use Rattle.caches.specs.QueryNeeds.{Querying}
use Rattle.contours.specs.declared.ContourRange as code
use Rattle.contours.specs.ContourOf.{contour_of}
use Rattle.path_points.specs.Wrote.{Wrote, wrote_full, points_written}
use Rattle.path_points.specs.Pen.{Pen, Grows}
use Rattle.joining.specs.Lines.{Lines}
use Rattle.joining.specs.JoinState.{JoinState}
use Rattle.joining.proofs.FlagsKept.{prepared_still, lines_still, flags_still, pen_still}
use Rattle.joining.proofs.Candidates.{Entry}
use Rattle.joining.proofs.PathPrefix.{path_after, waiting_after, entered_begins, join_some, join_begins}

module _ {p : Plate} {g : SpatialGrid} {lay : Layout} {room turn count : ℕ} {path : List Float} {ms work : List ℕ} {ds : List Float}
    {ws : List Waiting} {steps : List Step} {was : List Float} {marked : List ℕ} (j : JoinState p g lay room turn count path ms work ds ws steps was marked) where
  -- the slices after the contour was drawn: nothing from the flags on is altered
  module _ {k : ℕ} {path' : List Float} {ms' work' : List ℕ} (pen : Pen g room k path' ms' work') (kept : KeptFrom (most_cells + room) work work')
      (same : length work' ≡ length work) where
    above : KeptFrom lay.flags work work'
    above i l = kept i (omega (arith, j.apart))

    pub drawn_querying : k ≤ room → Querying p.points g lay ds work' path' k
    drawn_querying fits =
        record {
          prepared = prepared_still j.prepared above same;
          ready = pen.ready fits;
          apart = omega (arith, j.apart);
        }

    drawn_lines : Lines p.points g lay ds work' ws
    drawn_lines = lines_still j.prepared above j.lines

    pub drawn_flags : (f : ℕ) → f < lay.cells → from work' lay.flags f < turn + 1
    drawn_flags f l = omega (arith, flags_still lay work work' above f l, j.flags f l)

  -- the contour w has entered, and does not wait
  module _ {w : Waiting} (chosen : choose p ws ≡ some w) where
    abbrev next : List Step
    next = path_after p g steps w

    abbrev after : List Waiting
    after = waiting_after p g ws steps w

    abbrev cells : List ℕ
    cells = cells_around (vertex_at p w.contour) g w.contour.last

    among : Among w.contour (map laws.contour_waiting ws)
    unfolding choose
    among =
        foremost_has (waiting_layer p) closer (λ v. Among v.contour (map laws.contour_waiting ws)) ws
        (map-all (λ c. Among c (map laws.contour_waiting ws)) laws.contour_waiting ws (among_all _ (map laws.contour_waiting ws) (λ c m. m))) w chosen

    contours_after : map laws.contour_waiting after ≡ others w.contour (map laws.contour_waiting ws)
    unfolding waiting_number
    contours_after =
        contours_cached (update p g (path_points p next) cells) (update_caching p g (path_points p next) cells) (without waiting_number (waiting_number w) ws)
        ∙ contours_without (waiting_number w) ws

    pub one_less : length ws ≡ suc (length after)
    one_less =
        omega (
          arith,
          length-map after laws.contour_waiting,
          ap length contours_after,
          length_others w.contour (map laws.contour_waiting ws) j.coming.rising among,
          length-map ws laws.contour_waiting,
        )

    pub join_next : join_all p g (length ws) ws steps ≡ join_all p g (length after) after next
    join_next = rw one_less (join_some p g (length after) ws steps w chosen)

    -- all of it begins with what was drawn
    module _ {k : ℕ} {path' : List Float} {ms' : List ℕ} (grows : Grows p.points room count k path path' ms ms' (λ ss. path_after p g ss w)) where
      pub next_wrote : Wrote p.points next room k was path' marked ms'
      next_wrote = grows steps was marked j.wrote

      pub full_wrote : room < k → Wrote p.points (join_all p g (length ws) ws steps) room k was path' marked ms'
      full_wrote m =
          let (rest, e) = join_begins p g (length after) after next in
          rw (join_next, e) (wrote_full p.points next room k was path' marked ms' next_wrote rest m)

      next_some : 1 ≤ k
      next_some =
          let (rest, e) = entered_begins p g steps w.contour w.kept.entry in
          omega (arith, next_wrote.counted, ap length e, length-append steps rest, j.wrote.counted, j.some, j.fits)

      -- the update's points are those of the rules
      seen : k ≤ room → points path' k ≡ path_points p next
      seen fits = points_written p next room k was path' marked ms' next_wrote fits

      module _ {c : code.ContourRange} {v : ℕ} (e : Entry c v w) (fits : k ≤ room) {work' : List ℕ} (pen : Pen g room k path' ms' work')
          (kept : KeptFrom (most_cells + room) work work') (same : length work' ≡ length work) {ds'' : List Float} {work'' : List ℕ}
          (prepared : Prepared p.points g lay ds'' work'') (below : KeptBelow lay.flags work' work'')
          (flags : (f : ℕ) → f < lay.cells → from work'' lay.flags f ≤ turn + 1) (same'' : length work'' ≡ length work')
          (lines : Lines p.points g lay ds work' ws →
          Lines p.points g lay ds'' work''
          (map (update p g (points path' k) (cells_around (vertex_at p (contour_of c)) g c.last)) (without waiting_number c.number ws))) where
        lines_after : Lines p.points g lay ds'' work'' after
        unfolding contour_of waiting_number
        lines_after =
            rw (seen fits)
            at (subst
            (λ (z : Contour). Lines p.points g lay ds'' work'' (map (update p g (points path' k) (cells_around (vertex_at p z) g z.last)) (without waiting_number z.number ws)))
            e.contour (lines (drawn_lines pen kept same)))

        pub joining_next : JoinState p g lay room (turn + 1) k path' ms' work'' ds'' after next was marked
        joining_next =
            let f = update p g (path_points p next) cells in
            record {
              prepared = prepared;
              pen = pen_still pen below j.apart same'';
              fits = fits;
              some = next_some;
              apart = j.apart;
              lines = lines_after;
              sane = sane_cached f (update_caching p g (path_points p next) cells) (without waiting_number (waiting_number w) ws) (all_without Sane waiting_number (waiting_number w) ws j.sane);
              coming = rw contours_after (coming_without p w.contour.number (map laws.contour_waiting ws) j.coming);
              turns = omega (arith, one_less, j.turns);
              flags = flags;
              wrote = next_wrote;
            }
