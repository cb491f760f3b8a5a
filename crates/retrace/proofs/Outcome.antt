-- The answer and the slices of the retrace call, by the way that it takes: refused by the checks, short of work, full, or whole. Assumes nothing.
use mathlib.Core.Path.{◌≡◌, refl, sym, ap, subst, ◌∙◌}
use mathlib.Core.List.{List, [], ◌∷◌}
use Prim.Native.Nat.{ℕ, zero, suc, ◌*◌, ◌≤◌, ◌<◌}
use native.Mathlib.Omega.{arith}
use lib.Ieee.{Float}
use lib.ListN.{length, take}
use lib.Seq.{take_all, take_at}
use borrow.Author.Tests.{lt-ltb, le-ltb, ne_eqb}
use Rattle.rules.specs.Tools.{pick}
use Rattle.rules.specs.HandedOver.{AllF64, Plate, plate, Answer, gives, refuses, refusal, number_of, RefusalRow, refused_by, work_short, full, plate_rows, retrace_work, retrace_rows, over, after, retrace_room, frees_work, WorkKept}
use Rattle.rules.specs.Retrace.{retrace}
use Rattle.rules.specs.Marks.{Step, coordinates, marks, vertices}
use Rattle.rules.specs.Calls.{totals, path_totals, retrace_call}
use Rattle.rules.specs.declared.Totals.{Totals}
use Rattle.rules.specs.declared.Refusal.{Refusal}
use Rattle.rules.specs.declared.StartPointStrategy.{StartPointStrategy}
use Rattle.statement.specs.PathStatement.{Divides, PathStatement, NeverFall, LayerStatement}
use Rattle.rules.specs.Contours.{contour_count}
use Rattle.rules.specs.Box.{box}
use Rattle.statement.specs.HowNear.{LandingsNear, written_points, HowNear}
use Rattle.statement.specs.Quotation.{Quoted, LengthStatement}
use Rattle.plate_laws.specs.Rows.{Other, rows_give, rows_lack, rows_pass, rows_append, refusal_refuses}
use Rattle.plate_laws.specs.AcceptedInput.{Accepted, input_lacks}
use Rattle.plate_laws.specs.Start.{AllTakePart}
use Rattle.plate_laws.specs.Slices.{coordinates_length, vertices_length, marks_length}
use Rattle.path.specs.Theorem.{path_statement}
use Rattle.path.specs.NeverFall.{layer_statement}
use Rattle.near.specs.Theorem.{how_near}
use Rattle.length_laws.specs.WalkedPath.{Walked}
use Rattle.lengths.specs.Walks.{retrace_walked}
use Rattle.lengths.specs.Theorem.{length_statement}
use Rattle.slices.specs.Pairs.{pairs_take, coordinates_take}
use Rattle.slices.specs.Outcome.{after_rows, work_same}
use Rattle.path_points.specs.Wrote.{Wrote, marks_pairs}
use Rattle.retrace.specs.RetracePromise.{RetracePromise}

-- `a` is the call's answer, and the slices afterwards are path', ms', work' and ds'
abbrev pub RetraceMet : Plate → List Float → List ℕ → List ℕ → List Float → Answer Totals → List Float → List ℕ → List ℕ → List Float → Type 0
RetraceMet p path ms work ds a path' ms' work' ds' =
    let o = retrace_call p path ms (length work) (length ds) in
    (a ≡ o.answer) × (path' ≡ o.path) × (ms' ≡ o.marks) × WorkKept o.answer work work' × WorkKept o.answer ds ds'

-- and what a result has written divides as the path statement says, where there is a contour, its layers never fall, and its lengths are what is told
abbrev pub ResultDivides : Plate → Answer Totals → List Float → List ℕ → Type 0
ResultDivides p a path' ms' =
    (n : Totals) → a ≡ gives n →
    (1 ≤ contour_count p → Divides p n (take (2 * n.points) path') (take (2 * n.points) ms'))
    × NeverFall p n.points (take (2 * n.points) ms')
    × Quoted p n (take (2 * n.points) path') (take (2 * n.points) ms')

divides : (p : Plate) (path : List Float) (ms : List ℕ) (w d : ℕ) (a : Answer Totals) (path' : List Float) (ms' : List ℕ) →
    a ≡ (retrace_call p path ms w d).answer → path' ≡ (retrace_call p path ms w d).path → ms' ≡ (retrace_call p path ms w d).marks → ResultDivides p a path' ms'
unfolding PathStatement LayerStatement LengthStatement
divides p path ms w d a path' ms' x y z n e =
    let given = sym x ∙ e in
    rw (y, z) (λ k. (path_statement p path ms w d n given k).3, layer_statement p path ms w d n given, length_statement p path ms w d n given)

-- and what has been written, by a result or before refusal 6, has near landings
abbrev pub WrittenNear : Answer Totals → List Float → List ℕ → Type 0
WrittenNear a path' ms' = LandingsNear path' ms' (written_points a)

near : (p : Plate) (path : List Float) (ms : List ℕ) (w d : ℕ) (a : Answer Totals) (path' : List Float) (ms' : List ℕ) →
    AllF64 p.points → p.box ≡ box p.points →
    a ≡ (retrace_call p path ms w d).answer → path' ≡ (retrace_call p path ms w d).path → ms' ≡ (retrace_call p path ms w d).marks → WrittenNear a path' ms'
unfolding HowNear
near p path ms w d a path' ms' f64 own x y z = rw (x, y, z) (how_near p path ms w d f64 own)

-- what meets the outcome divides, and its landings are near
pub whole : (xs : List Float) (ns ls : List ℕ) (width height : ℕ) (s : StartPointStrategy) → AllF64 xs →
    {path : List Float} {ms work : List ℕ} {ds : List Float} {a : Answer Totals} {path' : List Float} {ms' work' : List ℕ} {ds' : List Float} →
    RetraceMet (plate xs ns ls width height s) path ms work ds a path' ms' work' ds' →
    RetracePromise (plate xs ns ls width height s) path ms work ds a path' ms' work' ds'
unfolding plate
whole xs ns ls width height s f64 {path = path} {ms = ms} {work = work} {ds = ds} {a = a} {path' = path'} {ms' = ms'} m =
    let p = plate xs ns ls width height s in
    let d = divides p path ms (length work) (length ds) a path' ms' m.0 m.1 m.2 in
    record {
      answer = m.0;
      path_is = m.1;
      marks_are = m.2;
      work_kept = m.3;
      distances_kept = m.4;
      divides = λ n e. (d n e).0;
      never_fall = λ n e. (d n e).1;
      quoted = λ n e. (d n e).2;
      near = near p path ms (length work) (length ds) a path' ms' f64 refl m.0 m.1 m.2;
    }

-- a refusal other than 6 has written nothing
near_none : (n k : ℕ) (path' : List Float) (ms' : List ℕ) → (n ≡ 6 → ⊥) → WrittenNear (refuses n k) path' ms'
unfolding LandingsNear written_points pick
near_none n k path' ms' other = rw (ne_eqb n 6 other) (λ j l. absurd (omega arith))

pub whole_refused : {p : Plate} {path : List Float} {ms work : List ℕ} {ds : List Float} {n k : ℕ} {path' : List Float} {ms' work' : List ℕ} {ds' : List Float} →
    (n ≡ 6 → ⊥) → RetraceMet p path ms work ds (refuses n k) path' ms' work' ds' → RetracePromise p path ms work ds (refuses n k) path' ms' work' ds'
whole_refused {p = p} {path = path} {ms = ms} {work = work} {ds = ds} {n = n} {k = k} {path' = path'} {ms' = ms'} other m =
    let d = divides p path ms (length work) (length ds) (refuses n k) path' ms' m.0 m.1 m.2 in
    record {
      answer = m.0;
      path_is = m.1;
      marks_are = m.2;
      work_kept = m.3;
      distances_kept = m.4;
      divides = λ t e. (d t e).0;
      never_fall = λ t e. (d t e).1;
      quoted = λ t e. (d t e).2;
      near = near_none n k path' ms' other;
    }

-- what the checks refuse is another
pub not_full : (p : Plate) (r : Refusal) (m : ℕ) → refusal r ≡ refused_by (plate_rows p) (gives m) → number_of r ≡ 6 → ⊥
unfolding refusal
not_full p r m h =
    subst {A = Answer ℕ} (Other 6) (sym h) (rows_lack 6 (plate_rows p) (gives m) (input_lacks p.points p.lengths p.layers p.strategy).0 tt)

-- ---- as many as there is room for

vertices_take : (n : ℕ) (ss : List Step) → vertices (take n ss) ≡ take n (vertices ss)
unfolding vertices
vertices_take zero ss = refl
vertices_take (suc n) [] = refl
vertices_take (suc n) (s ∷ ss) = ap (λ (vs : List ℕ). s.vertex ∷ vs) (vertices_take n ss)

path_taken : (xs : List Float) (n : ℕ) (ss : List Step) → coordinates xs (vertices (take n ss)) ≡ take (2 * n) (coordinates xs (vertices ss))
path_taken xs n ss = ap (coordinates xs) (vertices_take n ss) ∙ sym (coordinates_take xs n (vertices ss))

marks_taken : (n : ℕ) (ss : List Step) → marks (take n ss) ≡ take (2 * n) (marks ss)
marks_taken n ss = rw (marks_pairs (take n ss), marks_pairs ss) (sym (pairs_take _ _ n ss))

-- ---- the ways

module _ (p : Plate) (path : List Float) (ms work : List ℕ) (ds : List Float) where
  abbrev pub c : ℕ
  c = retrace_room (length path) (length ms)

  -- n path points, told as `a`, and the rows behind those of the plate
  abbrev rows : ℕ → List RefusalRow
  rows n = work_short (length work) (retrace_work p c) 0 ∷ work_short (length ds) (length p.lengths) 1 ∷ full c n ∷ []

  behind : {A : Type 0} (n : ℕ) (a : A) → refused_by (retrace_rows p (length work) (length ds) c n) (gives a) ≡ refused_by (plate_rows p) (refused_by (rows n) (gives a))
  unfolding retrace_rows
  behind n a = rows_append (plate_rows p) (rows n) (gives a)

  pub met_refused : (r : Refusal) (m : ℕ) → refusal r ≡ refused_by (plate_rows p) (gives m) → RetraceMet p path ms work ds (refusal r) path ms work ds
  unfolding retrace_call
  met_refused r m h =
      let lacks = (input_lacks p.points p.lengths p.layers p.strategy).0 in
      rw (behind (length (retrace p)) (path_totals p (retrace p))) (
        refusal_refuses (plate_rows p) r m _ h,
        after_rows (plate_rows p) lacks r m _ c _ path h,
        after_rows (plate_rows p) lacks r m _ c _ ms h,
        work_same _ work,
        work_same _ ds,
      )

  module _ (m k : ℕ) (sound : refused_by (plate_rows p) (gives m) ≡ gives k) where
    passed : {A : Type 0} (n : ℕ) (a : A) → refused_by (retrace_rows p (length work) (length ds) c n) (gives a) ≡ refused_by (rows n) (gives a)
    passed n a = behind n a ∙ rows_pass (plate_rows p) (rows_give (plate_rows p) _ k sound).0 _

    pub met_short : length work < retrace_work p c → RetraceMet p path ms work ds (refuses 5 0) path ms work ds
    unfolding retrace_call refused_by work_short after pick
    met_short h =
        rw (passed (length (retrace p)) (path_totals p (retrace p)), lt-ltb (length work) (retrace_work p c) h) (refl, refl, refl, work_same _ work, work_same _ ds)

    module _ (enough : retrace_work p c ≤ length work) where
      pub met_short_distances : length ds < length p.lengths → RetraceMet p path ms work ds (refuses 5 1) path ms work ds
      unfolding retrace_call refused_by work_short after pick
      met_short_distances h =
          rw (passed (length (retrace p)) (path_totals p (retrace p)), le-ltb (length work) (retrace_work p c) enough, lt-ltb (length ds) (length p.lengths) h)
          (refl, refl, refl, work_same _ work, work_same _ ds)

      -- the path was joined, in room for c points
      module _ (enough-ds : length p.lengths ≤ length ds) {n : ℕ} {path' : List Float} {ms' : List ℕ} (work' : List ℕ) (ds' : List Float)
          (w : Wrote p.points (retrace p) c n path path' ms ms') where
        pub met_full : c < n → RetraceMet p path ms work ds (refuses 6 c) path' ms' work' ds'
        unfolding retrace_call refused_by work_short full after pick frees_work WorkKept
        met_full h =
            rw (
              passed (length (retrace p)) (path_totals p (retrace p)),
              le-ltb (length work) (retrace_work p c) enough,
              le-ltb (length ds) (length p.lengths) enough-ds,
              lt-ltb c (length (retrace p)) (omega (arith, w.counted)),
              ← path_taken p.points c (retrace p),
              ← marks_taken c (retrace p),
            )
            (refl, w.points, w.kinds, λ t. absurd t, λ t. absurd t)

        pub met_whole : n ≤ c → (r : Totals) → r ≡ path_totals p (retrace p) → RetraceMet p path ms work ds (gives r) path' ms' work' ds'
        unfolding retrace_call refused_by work_short full after pick WorkKept
        met_whole h r e =
            let all = take_all c (retrace p) (omega (arith, w.counted)) in
            rw (
              passed (length (retrace p)) (path_totals p (retrace p)),
              le-ltb (length work) (retrace_work p c) enough,
              le-ltb (length ds) (length p.lengths) enough-ds,
              le-ltb c (length (retrace p)) (omega (arith, w.counted)),
              e,
            )
            (refl, rw all at w.points, rw all at w.kinds, tt, tt)

-- what the written parts of the slices are, where the path has n points
pub parts : (xs : List Float) (steps : List Step) (room n : ℕ) (was path : List Float) (marked ms : List ℕ) → Wrote xs steps room n was path marked ms →
    n ≤ room → (n ≡ length steps) × (take (2 * n) path ≡ coordinates xs (vertices steps)) × (take (2 * n) ms ≡ marks steps)
unfolding over
parts xs steps room n was path marked ms w l =
    let k : n ≡ length steps = omega (arith, w.counted) in
    let all = take_all room steps (omega arith) in (
      k,
      ap (take (2 * n)) (rw all at w.points)
          ∙ take_at (coordinates xs (vertices steps)) _ (2 * n) (omega (arith, coordinates_length xs (vertices steps), vertices_length steps)),
      ap (take (2 * n)) (rw all at w.kinds) ∙ take_at (marks steps) _ (2 * n) (omega (arith, marks_length steps)),
    )

module _ (p : Plate) {room n : ℕ} {was path : List Float} {marked ms : List ℕ} (w : Wrote p.points (retrace p) room n was path marked ms) (l : n ≤ room) where
  -- what these parts come to is what the path comes to
  pub counted : (r : Totals) → r ≡ totals n (take (2 * n) path) (take (2 * n) ms) → r ≡ path_totals p (retrace p)
  unfolding path_totals
  counted r e = let (k, points, kinds) = parts p.points (retrace p) room n was path marked ms w l in rw (e, points, kinds, k)

  -- and they can be added up
  pub walked : Accepted p.points p.lengths → AllTakePart p → Walked (take (2 * n) path) (take (2 * n) ms) n
  walked a t =
      let (k, points, kinds) = parts p.points (retrace p) room n was path marked ms w l in
      rw (points, kinds, k) (retrace_walked p a t)
