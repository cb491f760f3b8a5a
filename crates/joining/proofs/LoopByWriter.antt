-- The loop over the waiting contours, in the code's frame and by its writer. Assumes nothing.
use mathlib.Core.Path.{◌≡◌, ap, ◌∙◌}
use mathlib.Core.List.{List, map}
use Prim.Native.Nat.{ℕ, ◌+◌, ◌-◌, ◌≤◌, ◌<◌}
use native.Mathlib.Omega.{arith}
use lib.Ieee.{Float}
use lib.ListN.{length}
use Rattle.std.specs.Prelude.{Result, Ok, Err, IsErr, Some, None}
use Rattle.std.specs.Prelude as prelude
use Rattle.rules.specs.Limits.{most_cells}
use Rattle.rules.specs.Tools.{without}
use Rattle.rules.specs.HandedOver.{Plate, vertex_at}
use Rattle.rules.specs.SamplesAndCache.{Waiting, update, cells_around}
use Rattle.rules.specs.Retrace.{waiting_number, entered}
use Rattle.contours.specs.ContourOf.{contour_of}
use Rattle.grid.specs.declared.Grid.{Grid}
use Rattle.work_layout.specs.Parts.{from, KeptBelow, KeptFrom}
use Rattle.frame.specs.declared.Frame.{Frame}
use Rattle.prepare.specs.PreparedSlices.{Prepared}
use Rattle.history.specs.History.{points}
use Rattle.caches.specs.QueryNeeds.{Querying}
use Rattle.waiting.specs.declared.Candidate.{Candidate}
use Rattle.path_points.specs.Pen.{Pen, Grows}
use Rattle.path_points.specs.WriterState.{reached, SameWriter, WriterAfter, Adds}
use Rattle.path_points.specs.WriterCalls.{same_then}
use Rattle.path_points.specs.declared.Full.{Full}
use Rattle.path_points.specs.declared.PathWriter.{PathWriter}
use Rattle.joining.specs.Lines.{Lines}
use Rattle.joining.specs.JoinState.{JoinedByRules}
use Rattle.joining.proofs.Candidates.{InPlate}
use Rattle.joining.proofs.JoinLoop.{LoopState, Chooses, loop_fits, loop_some, loop_ends, loop_within, loop_turn, loop_full, loop_querying, loop_flags, loop_next}

-- from the writer w, with the distances ds, so many turns have led to w' and ds'
pub record LoopByWriter (f : Frame) (ls : List ℕ) (w : PathWriter) (ds : List Float) (turn : ℕ) (w' : PathWriter) (ds' : List Float) : Type 0 where
  pub grid : w.grid.spatial ≡ f.grid.spatial
  pub same : SameWriter w w'
  pub looping : LoopState f.points.now ls f.grid.spatial f.layout w.room w.count w.path.now w.marks.now w.work.now ds turn w'.count w'.path.now w'.marks.now w'.work.now ds'

-- the path is then that of the rules, of so many points
abbrev pub WriterJoined : Frame → List ℕ → PathWriter → List Float → PathWriter → Result (Unit {0}) Full → Type 0
WriterJoined f ls w ds w' r =
    JoinedByRules f.points.now ls f.grid.spatial f.layout w.room w.count w.path.now w.marks.now w.work.now ds (reached w.room w'.count r) w'.path.now w'.marks.now

joined_err : (f : Frame) (ls : List ℕ) (w : PathWriter) (ds : List Float) (w' : PathWriter) (x : Full) → WriterJoined f ls w ds w' (Err x) →
    (r : Result (Unit {0}) Full) → IsErr r → WriterJoined f ls w ds w' r
joined_err f ls w ds w' x j (Ok _) n = absurd cc
joined_err f ls w ds w' x j (Err _) n = j

module _ {f : Frame} {ls : List ℕ} {w : PathWriter} {ds : List Float} {turn : ℕ} {w' : PathWriter} {ds' : List Float} (h : LoopByWriter f ls w ds turn w' ds') where
  own_grid : w'.grid.spatial ≡ f.grid.spatial
  own_grid = ap (λ (z : Grid). z.spatial) h.same.grid ∙ h.grid

  pub turn_apart : most_cells + w.room ≤ f.layout.flags
  turn_apart = let (p, ws, steps, was, marked, e, y, few, j) = h.looping.can in j.apart

  pub turn_fits : w'.count ≤ w.room
  turn_fits = loop_fits h.looping

  pub turn_some : 1 ≤ w'.count
  turn_some = loop_some h.looping

  -- what the choice promises
  abbrev pub ChoosesNow : prelude.Option Candidate → Type 0
  ChoosesNow r = Chooses h.looping r

  pub turn_ends : ChoosesNow None → WriterJoined f ls w ds w' (Ok tt)
  turn_ends n = loop_ends h.looping n

  module _ (r : Candidate) (n : ChoosesNow (Some r)) where
    pub turn_within : InPlate f.points.now f.layout r.contour r.entry.0
    turn_within = loop_within h.looping r n

    pub turn_left : turn < f.layout.contours
    turn_left = loop_turn h.looping r n

    -- the candidate has entered, or the path was full
    module _ {w'' : PathWriter} {s : Result (Unit {0}) Full} (same : SameWriter w' w'') (written : WriterAfter w' w'' s)
        (adds : (p : Plate) → p.points ≡ f.points.now →
        Adds f.points.now w' w'' s (λ ss. entered p w'.grid.spatial ss (contour_of r.contour) (r.entry.0 - r.contour.first.0))) where
      abbrev k : ℕ
      k = reached w.room w''.count s

      pub turn_same : SameWriter w w''
      turn_same = same_then h.same same

      pen : Pen f.grid.spatial w.room k w''.path.now w''.marks.now w''.work.now
      pen = rw (own_grid, h.same.room) at written.pen

      kept : KeptFrom (most_cells + w.room) w'.work.now w''.work.now
      kept = rw h.same.room at written.kept

      drawn : (p : Plate) → p.points ≡ f.points.now →
          Grows f.points.now w.room w'.count k w'.path.now w''.path.now w'.marks.now w''.marks.now
          (λ ss. entered p f.grid.spatial ss (contour_of r.contour) (r.entry.0 - r.contour.first.0))
      drawn p e = rw (own_grid, h.same.room) at (adds p e)

      joined_full : w.room < k → WriterJoined f ls w ds w'' s
      joined_full m = loop_full h.looping r n pen kept written.same_work drawn m

      module _ (fits : k ≤ w.room) where
        pub turn_querying : Querying f.points.now f.grid.spatial f.layout ds' w''.work.now w''.path.now k
        turn_querying = loop_querying h.looping r n pen kept written.same_work drawn fits

        pub turn_flags : (i : ℕ) → i < f.layout.cells → from w''.work.now f.layout.flags i < turn + 1
        turn_flags = loop_flags h.looping r n pen kept written.same_work drawn

        -- and was settled
        pub turn_next : {work : List ℕ} {ds'' : List Float} → length work ≡ length w''.work.now → Prepared f.points.now f.grid.spatial f.layout ds'' work →
            KeptBelow f.layout.flags w''.work.now work → ((i : ℕ) → i < f.layout.cells → from work f.layout.flags i ≤ turn + 1) →
            ((p : Plate) (ws : List Waiting) → p.points ≡ f.points.now → Lines f.points.now f.grid.spatial f.layout ds' w''.work.now ws →
            Lines f.points.now f.grid.spatial f.layout ds'' work
            (map (update p f.grid.spatial (points w''.path.now k) (cells_around (vertex_at p (contour_of r.contour)) f.grid.spatial r.contour.last))
            (without waiting_number r.contour.number ws))) →
            LoopState f.points.now ls f.grid.spatial f.layout w.room w.count w.path.now w.marks.now w.work.now ds (turn + 1) k w''.path.now w''.marks.now work ds''
        turn_next same_work prepared below flags settled =
            loop_next h.looping r n pen kept written.same_work drawn fits same_work prepared below flags settled

    pub turn_full : {w'' : PathWriter} {x : Full} → SameWriter w' w'' → WriterAfter w' w'' (Err x) →
        ((p : Plate) → p.points ≡ f.points.now →
        Adds f.points.now w' w'' (Err x) (λ ss. entered p w'.grid.spatial ss (contour_of r.contour) (r.entry.0 - r.contour.first.0))) →
        (s : Result (Unit {0}) Full) → IsErr s → WriterJoined f ls w ds w'' s
    turn_full {w'' = w''} {x = x} same written adds s m = joined_err f ls w ds w'' x (joined_full same written adds (omega arith)) s m
