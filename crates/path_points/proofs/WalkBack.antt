-- The slices while the path is walked back, place by place. Assumes nothing.
use mathlib.Core.Path.{◌≡◌, refl, sym, ap, ◌∙◌}
use mathlib.Core.List.{List, [], ◌∷◌, ◌++◌, map, append_assoc}
use Prim.Native.Nat.{ℕ, suc, ◌+◌, ◌-◌, ◌≤◌, ◌<◌}
use native.Mathlib.Omega.{arith}
use lib.Ieee.{Float}
use lib.ListN.{length, length-append}
use Rattle.std.specs.Prelude.{Result, Ok, Err, IsErr}
use Rattle.rules.specs.Tools.{down_to}
use Rattle.rules.specs.HandedOver.{at}
use Rattle.rules.specs.Retrace.{vertex_of, walk_to, walk_back}
use Rattle.rules.specs.Marks.{Step, back_step}
use Rattle.rules.specs.declared.Point.{Point}
use Rattle.plate_laws.specs.Steps.{vertex_old}
use Rattle.path_points.specs.Wrote.{wrote_length, wrote_at}
use Rattle.path_points.specs.WriterState.{SameWriter, WriterAfter, Adds}
use Rattle.path_points.specs.RunParts.{down_split, down_snoc}
use Rattle.path_points.specs.WriterCalls.{same_then, written_then, adds_full}
use Rattle.path_points.specs.declared.Full.{Full}
use Rattle.path_points.specs.declared.PathWriter.{PathWriter}

-- the path with the walk from its end, place count - 1, down to a place
abbrev pub walked : ℕ → ℕ → List Step → List Step
walked count place steps = steps ++ map (walk_to steps) (down_to place (count - 1 - place))

walked_more : (count place high : ℕ) → suc place ≡ high → high < count → (ss : List Step) →
    walked count place ss ≡ walked count high ss ++ walk_to ss place ∷ []
walked_more count place high l h ss =
    let e : count - 1 - place ≡ suc (count - 1 - high) = omega arith in
    rw e
    (ap (λ (r : List Step). ss ++ r)
    (down_snoc (walk_to ss) place (count - 1 - high) ∙ ap (λ (b : ℕ). map (walk_to ss) (down_to b (count - 1 - high)) ++ walk_to ss place ∷ []) l)
    ∙ sym (append_assoc ss (map (walk_to ss) (down_to high (count - 1 - high))) (walk_to ss place ∷ [])))

-- a walk in two parts
walked_split : (h place : ℕ) (ss : List Step) → h ≤ place → place < length ss →
    ss ++ walk_back ss h ≡ walked (length ss) place ss ++ map (walk_to ss) (down_to h (place - h))
unfolding walk_back
walked_split h place ss l m =
    let e : length ss - 1 - h ≡ place - h + (length ss - 1 - place) = omega arith in
    let a : h + (place - h) ≡ place = omega arith in
    rw e
    (ap (λ (r : List Step). ss ++ r)
    (down_split (walk_to ss) h (place - h) (length ss - 1 - place)
    ∙ ap (λ (b : ℕ). map (walk_to ss) (down_to b (length ss - 1 - place)) ++ map (walk_to ss) (down_to h (place - h))) a)
    ∙ sym (append_assoc ss (map (walk_to ss) (down_to place (length ss - 1 - place))) (map (walk_to ss) (down_to h (place - h)))))

-- ---- the loop

-- from the writer w, whose path is walked back to place h, the walk has led to `place` and the writer w'
pub record WalkedTo (w : PathWriter) (h place : ℕ) (w' : PathWriter) : Type 0 where
  pub low : h ≤ place
  pub high : place < w.count
  pub fits : w.count ≤ w.room
  pub same : SameWriter w w'
  pub written : WriterAfter w w' (Ok tt)
  pub adds : (xs : List Float) → Adds xs w w' (Ok tt) (walked w.count place)

module _ {w : PathWriter} {h place : ℕ} {w' : PathWriter} (d : WalkedTo w h place w') where
  -- the point at place j, read and put
  pub walked_on : {j : ℕ} → suc j ≡ place → {p : Point} → at w'.path.now j ≡ p → (w'' : PathWriter) (r : Result (Unit {0}) Full) →
      ((xs : List Float) (v : ℕ) → at xs v ≡ p → Adds xs w' w'' r (λ ss. ss ++ record { vertex = v; kind = 2; reference = j } ∷ [])) →
      (xs : List Float) → Adds xs w w'' r (walked w.count j)
  unfolding walk_to back_step
  walked_on {j = j} l read w'' r put xs steps was marked v =
      let n = wrote_length xs steps _ _ was _ marked _ v d.fits in
      let hi = d.high in
      let fi = d.fits in
      let mo = d.written.more in
      let ro = d.same.room in
      let all = walked w.count place steps in
      let u = d.adds xs steps was marked v in
      let far : length all ≡ length steps + length (map (walk_to steps) (down_to place (w.count - 1 - place))) = length-append steps _ in
      let e = wrote_at xs all w.room w'.count was w'.path.now marked w'.marks.now u j (omega arith) (omega arith) in
      let old = vertex_old steps (map (walk_to steps) (down_to place (w.count - 1 - place))) j (omega arith) in
      let put' = rw ro at (put xs (vertex_of steps j) (sym (ap (at xs) old) ∙ sym e ∙ read)) in
      rw (walked_more w.count j place l d.high steps) (put' all was marked u)

  -- one place more
  pub walking_on : {j : ℕ} → suc j ≡ place → h ≤ j → {p : Point} → at w'.path.now j ≡ p → {w'' : PathWriter} →
      ((xs : List Float) (v : ℕ) → at xs v ≡ p → Adds xs w' w'' (Ok tt) (λ ss. ss ++ record { vertex = v; kind = 2; reference = j } ∷ [])) →
      SameWriter w' w'' → WriterAfter w' w'' (Ok tt) → WalkedTo w h j w''
  walking_on l below read {w'' = w''} put same more =
      let hi = d.high in
      record {
        low = below;
        high = omega arith;
        fits = d.fits;
        same = same_then d.same same;
        written = written_then d.same d.written more;
        adds = walked_on l read w'' (Ok tt) put;
      }

  -- where place h is reached
  pub walking_done : place ≤ h → (xs : List Float) → Adds xs w w' (Ok tt) (λ ss. ss ++ walk_back ss h)
  unfolding walk_back
  walking_done m xs steps was marked v =
      let n = wrote_length xs steps _ _ was _ marked _ v d.fits in
      let e : h ≡ place = omega (arith, d.low) in
      rw (n, e) (d.adds xs steps was marked v)

-- where the path is full at place j
pub walking_full : (w w' : PathWriter) {e : Full} (h : ℕ) {j : ℕ} → h ≤ j → j < w.count → w.count ≤ w.room → {xs : List Float} →
    Adds xs w w' (Err e) (walked w.count j) → (r : Result (Unit {0}) Full) → IsErr r → Adds xs w w' r (λ ss. ss ++ walk_back ss h)
walking_full w w' h {j = j} l m f {xs = xs} a r is steps was marked v =
    let n = wrote_length xs steps _ _ was _ marked _ v f in
    let rest : List Step → List Step = λ ss. map (walk_to ss) (down_to h (j - h)) in
    let whole = adds_full w w' {g = λ ss. walked w.count j ss ++ rest ss} rest a (λ ss. refl) r is in
    rw (walked_split h j steps l (omega arith), n) (whole steps was marked v)
