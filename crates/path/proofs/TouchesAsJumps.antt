-- Read as jumps, the touches leave the path and the marks that the joining has without touches, so the points are the same. Assumes nothing.
use Rattle.std.specs.Prelude.{◌≡◌, refl, Bool, true, false, List, ◌++◌, map, ℕ, zero, suc, ◌+◌, ◌-◌, eqb, length}
use Rattle.std.proofs.Common.{sym, ap, ◌∙◌}
use Rattle.std.proofs.Math.Path.{fun_ext}
use Rattle.std.proofs.lemmas.List.{map-append, length-map}
use Rattle.std.proofs.lemmas.Simd.{map-map}
use Rattle.std.proofs.Math.Option.{Option, none, some}
use Rattle.std.proofs.Math.ListN.{get_or-map}
use Rattle.rules.specs.Tools.{pick, up_from, down_to}
use Rattle.rules.specs.HandedOver.{Plate, Contour, at, vertex_at}
use Rattle.rules.specs.Start.{Oriented, start}
use Rattle.rules.specs.GridAndNearest.{nearest}
use Rattle.rules.specs.SamplesAndCache.{Waiting}
use Rattle.rules.specs.Retrace.{step_at, vertex_of, walk_to, walk_back, forward, backward, return_to, both_ways, emit, entry_of, begin, path_points, choose, place_in, entered, join_all, retrace_from, retrace_of, retrace}
use Rattle.rules.specs.Marks.{start_kind, jump_kind, touch_kind, coincide, landing_kind, Step, land, cut_up, cut_down, back_step, vertices}
use Rattle.rules.specs.declared.Point.{Point}
use Rattle.rules.specs.declared.SpatialGrid.{SpatialGrid}
use Rattle.path.specs.TouchesAsJumps.{jump_entered, jump_join_all, jump_retrace_from, jump_retrace_of, jump_retrace, kind_as_jump, as_jump}

points_as : (p : Plate) (path : List Step) → path_points p (map as_jump path) ≡ path_points p path
unfolding path_points as_jump
points_as p path = map-map (λ (s : Step). at p.points s.vertex) as_jump path

vertices_as : (path : List Step) → vertices (map as_jump path) ≡ vertices path
unfolding vertices as_jump
vertices_as path = map-map (λ (s : Step). s.vertex) as_jump path

vertex_as : (path : List Step) (k : ℕ) → vertex_of (map as_jump path) k ≡ vertex_of path k
unfolding vertex_of step_at as_jump kind_as_jump land pick
vertex_as path k = ap (λ (s : Step). s.vertex) (get_or-map as_jump path k (land start_kind 0))

walk_as : (path : List Step) (h : ℕ) → map as_jump (walk_back path h) ≡ walk_back (map as_jump path) h
unfolding walk_back walk_to as_jump kind_as_jump back_step pick
walk_as path h = rw (length-map path as_jump) (map-map as_jump (walk_to path) ks ∙ ap (λ (f : ℕ → Step). map f ks) (fun_ext each))
  where
    ks : List ℕ
    ks = down_to h (length path - 1 - h)

    each : (k : ℕ) → as_jump (walk_to path k) ≡ walk_to (map as_jump path) k
    each k = ap (λ (v : ℕ). back_step v k) (sym (vertex_as path k))

emit_as : (kind : ℕ) (c : Contour) (e b : ℕ) → map as_jump (emit kind c e b) ≡ emit (kind_as_jump kind) c e b
unfolding emit forward backward both_ways return_to land cut_up cut_down back_step as_jump kind_as_jump pick
emit_as kind c e b = go (eqb e 0) (eqb e c.last)
  where
    go : (s t : Bool) → map as_jump (pick s (forward kind c) (pick t (backward kind c) (both_ways kind c e b)))
        ≡ pick s (forward (kind_as_jump kind) c) (pick t (backward (kind_as_jump kind) c) (both_ways (kind_as_jump kind) c e b))
    go true t = rw (forward, map-map as_jump)
    go false true = rw (backward, map-map as_jump)
    go false false =
        let vs = up_from (c.first + e) (c.last - e) in
        rw (both_ways, map-append as_jump, map-append as_jump (map cut_up vs), map-map as_jump cut_up vs, map-map as_jump, map-map as_jump)

landing_as : (a b : Point) → kind_as_jump (landing_kind a b) ≡ jump_kind
unfolding kind_as_jump landing_kind pick
landing_as a b = go (coincide a b)
  where
    go : (s : Bool) → kind_as_jump (pick s touch_kind jump_kind) ≡ jump_kind
    go true = refl
    go false = refl

-- the nearest place is found among the same points
entered_as : (p : Plate) (g : SpatialGrid) (path : List Step) (c : Contour) (e : ℕ) → map as_jump (entered p g path c e) ≡ jump_entered p g (map as_jump path) c e
unfolding entered jump_entered
entered_as p g path c e =
    let q = vertex_at p c e in
    let h = place_in (nearest g (path_points p path) q) in
    let back = path ++ walk_back path h in
    let walked : map as_jump back ≡ map as_jump path ++ walk_back (map as_jump path) h = map-append as_jump path (walk_back path h) ∙ rw (walk_as path h) in
    rw (points_as p path, ← walked, length-map back as_jump, ← landing_as (at p.points (vertex_of path h)) q, ← emit_as _ c e (length back))
    (map-append as_jump back _)

join_as : (p : Plate) (g : SpatialGrid) (n : ℕ) (ws : List Waiting) (path : List Step) →
    map as_jump (join_all p g n ws path) ≡ jump_join_all p g n ws (map as_jump path)
unfolding join_all jump_join_all
join_as p g zero ws path = refl
join_as p g (suc n) ws path = go (choose p ws) refl (join_as p g n)
  where
    go : (o : Option Waiting) → choose p ws ≡ o →
        ((vs : List Waiting) (next : List Step) → map as_jump (join_all p g n vs next) ≡ jump_join_all p g n vs (map as_jump next)) →
        map as_jump (join_all p g (suc n) ws path) ≡ jump_join_all p g (suc n) ws (map as_jump path)
    go none e rest = rw (e, join_all, jump_join_all)
    go (some w) e rest = rw (e, join_all, jump_join_all, ← entered_as p g path w.contour w.kept.entry, points_as p (entered p g path w.contour w.kept.entry)) (rest _ (entered p g path w.contour w.kept.entry))

pub retrace_as_jumps : (p : Plate) → map as_jump (retrace p) ≡ jump_retrace p
unfolding retrace jump_retrace retrace_of jump_retrace_of retrace_from jump_retrace_from begin kind_as_jump pick
retrace_as_jumps p = go (start p)
  where
    go : (o : Option Oriented) → map as_jump (retrace_of p o) ≡ jump_retrace_of p o
    go none = refl
    go (some s) = join_as p _ _ _ (begin s) ∙ rw (emit_as start_kind s.contour (entry_of s) 0)

pub same_vertices : (p : Plate) → vertices (retrace p) ≡ vertices (jump_retrace p)
same_vertices p = sym (vertices_as (retrace p)) ∙ ap vertices (retrace_as_jumps p)

pub same_length : (p : Plate) → length (retrace p) ≡ length (jump_retrace p)
same_length p = sym (length-map (retrace p) as_jump) ∙ ap length (retrace_as_jumps p)
