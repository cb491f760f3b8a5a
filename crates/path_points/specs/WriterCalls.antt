-- A writer's slices while its calls add to the path. Assumes nothing.
use Rattle.std.specs.Prelude.{◌≡◌, refl, List, ◌++◌, ◌+◌, ◌*◌, ◌≤◌, Float, length, Result, Ok, Err, IsErr}
use Rattle.std.proofs.Common.{◌∙◌, arith}
use Rattle.rules.specs.Marks.{Step}
use Rattle.path_points.specs.Wrote.{wrote_full}
use Rattle.path_points.specs.WriterState.{SameWriter, WriterAfter, Adds}
use Rattle.path_points.specs.declared.Full.{Full}
use Rattle.path_points.specs.declared.PathWriter.{PathWriter}

-- from a writer to the same writer, whose slices hold f of what they held
pub record Writes (xs : List Float) (w w' : PathWriter) (r : Result (Unit {0}) Full) (f : List Step → List Step) : Type 0 where
  pub same : SameWriter w w'
  pub written : WriterAfter w w' r
  pub adds : Adds xs w w' r f

pub same_then : {w w' w'' : PathWriter} → SameWriter w w' → SameWriter w' w'' → SameWriter w w''
same_then a b =
    record { grid = b.grid ∙ a.grid; room = b.room ∙ a.room; path = b.path ∙ a.path; marks = b.marks ∙ a.marks; work = b.work ∙ a.work }

pub written_then : {w w' w'' : PathWriter} {r : Result (Unit {0}) Full} → SameWriter w w' → WriterAfter w w' (Ok tt) → WriterAfter w' w'' r →
    WriterAfter w w'' r
written_then s a b =
    let more = rw s.room at b.more in
    let kept = rw s.room at b.kept in
    record {
      pen = rw (s.grid, s.room) at b.pen;
      fits = rw s.room at b.fits;
      more = omega (arith, a.more, more);
      kept = λ i l. kept i l ∙ a.kept i l;
      same_path = b.same_path ∙ a.same_path;
      same_marks = b.same_marks ∙ a.same_marks;
      same_work = b.same_work ∙ a.same_work;
    }

pub adds_then : {xs : List Float} {w w' : PathWriter} (w'' : PathWriter) (r : Result (Unit {0}) Full) {f h g : List Step → List Step} → SameWriter w w' →
    Adds xs w w' (Ok tt) f → Adds xs w' w'' r h → ((ss : List Step) → g ss ≡ h (f ss)) → Adds xs w w'' r g
adds_then w'' r {f = f} s a b e steps was marked v = let b' = rw s.room at b in rw (e steps) (b' (f steps) was marked (a steps was marked v))

pub by_then : {xs : List Float} {w w' w'' : PathWriter} {r : Result (Unit {0}) Full} {f h g : List Step → List Step} → Writes xs w w' (Ok tt) f →
    SameWriter w' w'' → WriterAfter w' w'' r → Adds xs w' w'' r h → ((ss : List Step) → g ss ≡ h (f ss)) → Writes xs w w'' r g
by_then {w'' = w''} {r = r} d s b a e = record { same = same_then d.same s; written = written_then d.same d.written b; adds = adds_then w'' r d.same d.adds a e }

-- where the path is full, what comes after is not written
pub adds_full : {xs : List Float} (w w' : PathWriter) {e : Full} {f g : List Step → List Step} (rest : List Step → List Step) → Adds xs w w' (Err e) f →
    ((ss : List Step) → g ss ≡ f ss ++ rest ss) → (r : Result (Unit {0}) Full) → IsErr r → Adds xs w w' r g
adds_full w w' rest a is (Ok _) n steps was marked v = absurd cc
adds_full {xs = xs} w w' {f = f} rest a is (Err _) n steps was marked v =
    rw (is steps) (wrote_full xs (f steps) w.room (w.room + 1) was w'.path.now marked w'.marks.now (a steps was marked v) (rest steps) (omega arith))

-- a call that finds the path full, after more was written
pub by_full : {xs : List Float} {w w' w'' : PathWriter} {e : Full} {f h g : List Step → List Step} (rest : List Step → List Step) → Writes xs w w' (Ok tt) f →
    SameWriter w' w'' → Adds xs w' w'' (Err e) h → ((ss : List Step) → g ss ≡ h (f ss) ++ rest ss) → (r : Result (Unit {0}) Full) → IsErr r →
    Adds xs w w'' r g
by_full {w = w} {w'' = w''} {e = e} {f = f} {h = h} rest d s a is r n =
    adds_full w w'' {f = λ ss. h (f ss)} rest (adds_then w'' (Err e) d.same d.adds a (λ ss. refl)) is r n

-- the path slice has room for the path's points
pub long : (w : PathWriter) → w.count ≤ w.room → 2 * w.count ≤ length w.path.now
long w l = omega (arith, l, w.pen.path_room)
