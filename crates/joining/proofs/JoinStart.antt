-- The start is drawn and the caches are seeded: the joining begins behind it. Assumes nothing.
use mathlib.Core.Path.{◌≡◌, refl, sym, ap, subst, ◌∙◌}
use mathlib.Core.List.{List, [], map}
use Prim.Native.Nat.{ℕ, ◌+◌, ◌-◌, ◌≤◌, ◌<◌}
use native.Mathlib.Omega.{arith}
use lib.Ieee.{Float}
use lib.ListN.{length, length-map}
use Rattle.std.specs.Prelude.{Result, Ok, Err, IsErr}
use Rattle.rules.specs.Limits.{most_cells}
use Rattle.rules.specs.Tools.{pick, without}
use Rattle.rules.specs.HandedOver.{Plate, contours}
use Rattle.rules.specs.Start.{Oriented}
use Rattle.rules.specs.SamplesAndCache.{Waiting, waiting, seed}
use Rattle.rules.specs.Retrace.{entry_of, begin, path_points, waiting_number, join_all, retrace_from}
use Rattle.rules.specs.Marks.{start_kind}
use Rattle.rules.specs.OrderAndStraight.{contour_number}
use Rattle.rules.specs.declared.Point.{Point}
use Rattle.rules.specs.declared.SpatialGrid.{SpatialGrid}
use Rattle.plate_laws.specs.Lists.{all_of, all_map, all_without}
use Rattle.plate_laws.specs.Contours.{contours_rise, all_contours}
use Rattle.plate_laws.specs.WaitingContours.{Sane, waiting_sane, seed_caching, contours_waiting, contours_cached, contours_without, sane_cached, coming_without}
use Rattle.plate_laws.specs.WaitingContours as laws
use Rattle.plate_laws.specs.Steps.{entry_in}
use Rattle.work_layout.specs.Parts.{from, KeptBelow, KeptFrom}
use Rattle.work_layout.specs.declared.Layout.{Layout}
use Rattle.waiting.specs.Holds.{Changed}
use Rattle.prepare.specs.PreparedSlices.{Prepared, prepared_kept}
use Rattle.prepare.specs.SlicesKept.{changed_all}
use Rattle.history.specs.History.{points}
use Rattle.caches.specs.QueryNeeds.{Querying}
use Rattle.waiting.specs.NumberLaws.{lined_same, lined_map, lined_few}
use Rattle.path_points.specs.Wrote.{Wrote, wrote_full, points_written}
use Rattle.path_points.specs.Pen.{Pen}
use Rattle.path_points.specs.WriterState.{reached}
use Rattle.path_points.specs.declared.Full.{Full}
use Rattle.emission.specs.DrawnContour.{drawn, begin_is}
use Rattle.emission.specs.EnteredLength.{emit_length}
use Rattle.joining.specs.Lines.{Lines}
use Rattle.joining.specs.JoinState.{JoinState}
use Rattle.joining.proofs.PathPrefix.{Extends, join_begins}
use Rattle.joining.proofs.FlagsKept.{prepared_still, lines_still, flags_still, pen_still}

-- those that wait when s leads
abbrev pub waiting_first : Plate → SpatialGrid → Oriented → List Waiting
waiting_first p g s = without waiting_number s.contour.number (map (waiting p g) (contours p))

-- with their caches seeded by the start
abbrev pub seeded_first : Plate → SpatialGrid → Oriented → List Waiting
seeded_first p g s = map (seed p g (path_points p (begin s))) (waiting_first p g s)

pub retrace_is : (p : Plate) (g : SpatialGrid) (s : Oriented) →
    join_all p g (length (seeded_first p g s)) (seeded_first p g s) (begin s) ≡ retrace_from p g s (contours p)
unfolding retrace_from
retrace_is p g s = rw (length-map (waiting_first p g s) (seed p g (path_points p (begin s))))

retrace_begins : (p : Plate) (g : SpatialGrid) (s : Oriented) → Extends (begin s) (retrace_from p g s (contours p))
retrace_begins p g s = subst (Extends (begin s)) (retrace_is p g s) (join_begins p g (length (seeded_first p g s)) (seeded_first p g s) (begin s))

-- the start has a point
begin_some : (s : Oriented) → 1 ≤ length (begin s)
unfolding begin
begin_some s = omega (arith, emit_length start_kind s.contour (entry_of s) 0 (entry_in s))

-- the slices when s was drawn; `work` is the slice before that
pub record StartDrawn (xs : List Float) (p : Plate) (g : SpatialGrid) (lay : Layout) (room : ℕ) (s : Oriented) (ds : List Float) (work : List ℕ)
    (count : ℕ) (was path : List Float) (marked ms work' : List ℕ) : Type 0 where
  pub start : lay.flags ≡ most_cells + room
  pub prepared : Prepared xs g lay ds work
  pub flags : (k : ℕ) → k < lay.cells → from work lay.flags k ≡ 0
  pub lines : Lines xs g lay ds work (waiting_first p g s)
  pub pen : Pen g room count path ms work'
  pub kept : KeptFrom (most_cells + room) work work'
  pub same : length work' ≡ length work
  pub wrote : Wrote xs (begin s) room count was path marked ms

module _ {xs : List Float} {p : Plate} {g : SpatialGrid} {lay : Layout} {room : ℕ} {s : Oriented} {ds : List Float} {work : List ℕ}
    {count : ℕ} {was path : List Float} {marked ms work' : List ℕ} (b : StartDrawn xs p g lay room s ds work count was path marked ms work') where
  -- the path is full
  pub start_full : room < count → Wrote xs (retrace_from p g s (contours p)) room count was path marked ms
  start_full m =
      let (rest, e) = retrace_begins p g s in rw e (wrote_full xs (begin s) room count was path marked ms b.wrote rest m)

  above : KeptFrom lay.flags work work'
  above i l = b.kept i (omega (arith, b.start))

  still : Prepared xs g lay ds work'
  still = prepared_still b.prepared above b.same

  pub start_querying : count ≤ room → Querying xs g lay ds work' path count
  start_querying fits = record { prepared = still; ready = b.pen.ready fits; apart = omega (arith, b.start) }

  -- the caches are seeded
  module _ (same_points : p.points ≡ xs) (fits : count ≤ room) (ds'' : List Float) (work'' : List ℕ)
      (changed : Changed xs g lay ds work' ds'' work'' (λ q c. seed q g (points path count) c)) (below : KeptBelow lay.entries work' work'')
      (heads : KeptFrom lay.heads work' work'') (same_ds : length ds'' ≡ length ds) (same'' : length work'' ≡ length work') where
    own : (P : List Float → Type 0) → P xs → P p.points
    own P h = subst P (sym same_points) h

    -- by the points of the start
    seen : points path count ≡ path_points p (begin s)
    seen =
        points_written p (begin s) room count was path marked ms
        (own (λ ys. Wrote ys (begin s) room count was path marked ms) b.wrote) fits

    seeded_lines : Lines xs g lay ds'' work'' (seeded_first p g s)
    seeded_lines =
        let laid = still.plated.laid in
        let h = lines_still b.prepared above b.lines in
        subst (λ (ps : List Point). Lines xs g lay ds'' work'' (map (seed p g ps) (waiting_first p g s))) seen
        record {
          lined =
              lined_map (from work'' lay.waiting) lay.contours (seed p g (points path count)) (waiting_first p g s)
              (seed_caching p g (points path count)).contour
              (lined_same (from work' lay.waiting) (from work'' lay.waiting) lay.contours (waiting_first p g s)
              (λ i l. heads (lay.waiting + i) (omega (arith, laid))) h.lined);
          held =
              changed_all xs g lay ds work' ds'' work'' (λ q c. seed q g (points path count) c) changed p same_points (waiting_first p g s) h.held;
        }

    pub seeded_pen : Pen g room count path ms work''
    seeded_pen = pen_still b.pen below (omega (arith, still.plated.laid, b.start)) same''

    seeded_contours : map laws.contour_waiting (seeded_first p g s) ≡ without contour_number s.contour.number (contours p)
    seeded_contours =
        contours_cached (seed p g (path_points p (begin s))) (seed_caching p g (path_points p (begin s))) (waiting_first p g s)
        ∙ contours_without s.contour.number (map (waiting p g) (contours p))
        ∙ ap (without contour_number s.contour.number) (contours_waiting p g (contours p))

    pub start_joining : JoinState p g lay room 0 count path ms work'' ds'' (seeded_first p g s) (begin s) was marked
    start_joining =
        let laid = still.plated.laid in
        record {
          prepared =
              own (λ ys. Prepared ys g lay ds'' work'') (prepared_kept xs g lay work' work'' laid (λ i l m. heads i l) ds ds'' same_ds same'' still);
          pen = seeded_pen;
          fits = fits;
          some = omega (arith, b.wrote.counted, begin_some s);
          apart = omega (arith, b.start);
          lines = own (λ ys. Lines ys g lay ds'' work'' (seeded_first p g s)) seeded_lines;
          sane =
              sane_cached (seed p g (path_points p (begin s))) (seed_caching p g (path_points p (begin s))) (waiting_first p g s)
              (all_without Sane waiting_number s.contour.number (map (waiting p g) (contours p))
              (all_map Sane (waiting p g) (contours p) (all_of _ (waiting_sane p g) (contours p))));
          coming = rw seeded_contours (coming_without p s.contour.number (contours p) (record { all = all_contours p; rising = contours_rise p }));
          turns = omega (arith, lined_few (from work'' lay.waiting) lay.contours (seeded_first p g s) seeded_lines.lined);
          flags = λ k l.
              omega
              (arith, below (lay.flags + k) (omega (arith, laid)), flags_still lay work work' above k l, b.flags k l);
          wrote = own (λ ys. Wrote ys (begin s) room count was path marked ms) b.wrote;
        }

-- what was drawn from no step is the rules' start
pub start_wrote : {xs : List Float} (s : Oriented) {v room count : ℕ} {was path : List Float} {marked ms : List ℕ} →
    v ≡ s.contour.first + pick s.reversed s.contour.last 0 →
    Wrote xs (drawn start_kind [] s.contour (v - s.contour.first)) room count was path marked ms → Wrote xs (begin s) room count was path marked ms
unfolding entry_of
start_wrote s {v = v} e w =
    let d : v - s.contour.first ≡ pick s.reversed s.contour.last 0 = omega arith in
    rw (begin_is s) (rw d at w)

pub reached_err : (room count : ℕ) (r : Result (Unit {0}) Full) → IsErr r → reached room count r ≡ room + 1
reached_err room count (Ok _) e = absurd cc
reached_err room count (Err _) e = refl
