-- The rules' joining begins with the path that it is given. Assumes nothing.
use mathlib.Core.Path.{◌≡◌, refl, sym, ap, ◌∙◌}
use mathlib.Core.List.{List, [], ◌++◌, map, append-nil, append_assoc}
use mathlib.Core.Option.{Option, none, some}
use Prim.Native.Nat.{ℕ, zero, suc}
use Rattle.rules.specs.Tools.{without}
use Rattle.rules.specs.HandedOver.{Plate, Contour, vertex_at}
use Rattle.rules.specs.GridAndNearest.{nearest}
use Rattle.rules.specs.SamplesAndCache.{Waiting, update, cells_around}
use Rattle.rules.specs.Retrace.{path_points, place_in, walk_back, choose, waiting_number, entered, join_all}
use Rattle.rules.specs.Marks.{Step}
use Rattle.rules.specs.declared.SpatialGrid.{SpatialGrid}

-- more is the path with something behind it
abbrev pub Extends : List Step → List Step → Type 0
Extends path more = (rest : List Step) × (more ≡ path ++ rest)

begins_trans : (a b c : List Step) → Extends a b → Extends b c → Extends a c
begins_trans a b c (r, e) (s, f) = (r ++ s, f ∙ ap (λ (z : List Step). z ++ s) e ∙ append_assoc a r s)

pub entered_begins : (p : Plate) (g : SpatialGrid) (path : List Step) (c : Contour) (e : ℕ) → Extends path (entered p g path c e)
unfolding entered
entered_begins p g path c e =
    let h = place_in (nearest g (path_points p path) (vertex_at p c e)) in
    (walk_back path h ++ _, append_assoc path (walk_back path h) _)

-- the path after w has entered, and the contours that wait then
abbrev pub path_after : Plate → SpatialGrid → List Step → Waiting → List Step
path_after p g path w = entered p g path w.contour w.kept.entry

abbrev pub waiting_after : Plate → SpatialGrid → List Waiting → List Step → Waiting → List Waiting
waiting_after p g ws path w =
    map (update p g (path_points p (path_after p g path w)) (cells_around (vertex_at p w.contour) g w.contour.last)) (without waiting_number (waiting_number w) ws)

pub join_some : (p : Plate) (g : SpatialGrid) (n : ℕ) (ws : List Waiting) (path : List Step) (w : Waiting) → choose p ws ≡ some w →
    join_all p g (suc n) ws path ≡ join_all p g n (waiting_after p g ws path w) (path_after p g path w)
unfolding join_all
join_some p g n ws path w e = rw (e, join_all)

pub join_none : (p : Plate) (g : SpatialGrid) (n : ℕ) (ws : List Waiting) (path : List Step) → choose p ws ≡ none → join_all p g n ws path ≡ path
unfolding join_all
join_none p g zero ws path e = refl
join_none p g (suc n) ws path e = rw (e, join_all)

begins_same : (path more : List Step) → more ≡ path → Extends path more
begins_same path more e = ([], e ∙ sym (append-nil path))

begins_step : (p : Plate) (g : SpatialGrid) (n : ℕ) → ((ws : List Waiting) (path : List Step) → Extends path (join_all p g n ws path)) →
    (ws : List Waiting) (path : List Step) (o : Option Waiting) → choose p ws ≡ o → Extends path (join_all p g (suc n) ws path)
begins_step p g n h ws path none e = begins_same path _ (join_none p g (suc n) ws path e)
begins_step p g n h ws path (some w) e =
    rw (join_some p g n ws path w e)
    (begins_trans path (path_after p g path w) _ (entered_begins p g path w.contour w.kept.entry) (h (waiting_after p g ws path w) (path_after p g path w)))

pub join_begins : (p : Plate) (g : SpatialGrid) (n : ℕ) (ws : List Waiting) (path : List Step) → Extends path (join_all p g n ws path)
unfolding join_all
join_begins p g zero ws path = begins_same path _ refl
join_begins p g (suc n) ws path = begins_step p g n (join_begins p g n) ws path (choose p ws) refl
