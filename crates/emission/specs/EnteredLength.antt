-- How many path points a contour takes, and the path after it has entered. Assumes nothing.
use Rattle.std.specs.Prelude.{◌≡◌, Bool, true, false, eqb, List, ◌++◌, map, ℕ, ◌+◌, ◌-◌, ◌≤◌, length}
use Rattle.std.proofs.Common.{refl, arith, length-append, eqb-true}
use Rattle.std.proofs.lemmas.List.{length-map}
use Rattle.rules.specs.Tools.{pick, up_from, down_to}
use Rattle.rules.specs.HandedOver.{Plate, Contour, at, vertex_at}
use Rattle.rules.specs.GridAndNearest.{nearest}
use Rattle.rules.specs.Retrace.{forward, backward, return_to, both_ways, emit, vertex_of, path_points, walk_to, walk_back, place_in, entered}
use Rattle.rules.specs.Marks.{Step, cut_up, cut_down, landing_kind}
use Rattle.rules.specs.declared.SpatialGrid.{SpatialGrid}
use Rattle.plate_laws.specs.Lists.{length_down_to}
use Rattle.plate_laws.specs.Steps.{run_length}

downs : (a n : ℕ) → length (map cut_down (down_to a n)) ≡ n
downs a n = omega (arith, length-map (down_to a n) cut_down, length_down_to a n)

both_length : (kind : ℕ) (c : Contour) (e b : ℕ) → e ≤ c.last → length (both_ways kind c e b) ≡ c.last + 1 + (c.last - e)
unfolding both_ways
both_length kind c e b h =
    let n = c.last - e in
    let ups_of = map cut_up (up_from (c.first + e) n) in
    let back = map (return_to (c.first + e) b) (down_to 0 n) in
    let low = map cut_down (down_to c.first e) in
    omega (
      arith,
      length-append (ups_of ++ back) low,
      length-append ups_of back,
      run_length (c.first + e) n,
      length-map (down_to 0 n) (return_to (c.first + e) b),
      length_down_to 0 n,
      downs c.first e,
    )

-- one landing, a cut for each segment, and from an entry after the first the way back to it
pub emit_length : (kind : ℕ) (c : Contour) (e b : ℕ) → e ≤ c.last → length (emit kind c e b) ≡ c.last + 1 + pick (eqb e 0) 0 (c.last - e)
unfolding emit pick forward backward
emit_length kind c e b h = go (eqb e 0) (eqb e c.last) refl
  where
    go : (s t : Bool) → eqb e c.last ≡ t →
        length (pick s (forward kind c) (pick t (backward kind c) (both_ways kind c e b))) ≡ c.last + 1 + pick s 0 (c.last - e)
    go true t y = omega (arith, run_length c.first c.last)
    go false true y = omega (arith, downs c.first c.last, eqb-true e c.last y)
    go false false y = both_length kind c e b h

back_length : (path : List Step) (h : ℕ) → length (walk_back path h) ≡ length path - 1 - h
unfolding walk_back
back_length path h = omega (arith, length-map (down_to h (length path - 1 - h)) (walk_to path), length_down_to h (length path - 1 - h))

pub entered_length : (p : Plate) (g : SpatialGrid) (path : List Step) (c : Contour) (e : ℕ) → e ≤ c.last →
    let h = place_in (nearest g (path_points p path) (vertex_at p c e)) in
    length (entered p g path c e) ≡ length path + (length path - 1 - h) + c.last + 1 + pick (eqb e 0) 0 (c.last - e)
unfolding entered
entered_length p g path c e l =
    let q = vertex_at p c e in
    let h = place_in (nearest g (path_points p path) q) in
    let back = path ++ walk_back path h in
    let kind = landing_kind (at p.points (vertex_of path h)) q in
    omega (arith, length-append back (emit kind c e (length back)), length-append path (walk_back path h), back_length path h, emit_length kind c e (length back) l)
