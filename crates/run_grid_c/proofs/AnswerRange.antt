-- What a query finds is one of the path's places, also where the path is empty. Assumes nothing.
use mathlib.Core.Path.{◌∙◌}
use mathlib.Core.Bool.{Bool, true, false}
use mathlib.Core.List.{List}
use Prim.Native.Nat.{ℕ, ◌≤◌, ◌<◌, max}
use native.Mathlib.Nat.{zero-add}
use native.Mathlib.Omega.{arith}
use lib.Ieee.{Float}
use lib.ListN.{length, length-map}
use Rattle.rules.specs.Tools.{pick, up_from}
use Rattle.rules.specs.HandedOver.{at}
use Rattle.rules.specs.GridAndNearest.{cell_of, PathPoint, seen_from, found, wins, nearer, nearest}
use Rattle.rules.specs.SamplesAndCache.{ask_path}
use Rattle.rules.specs.declared.Nearest.{Nearest}
use Rattle.rules.specs.declared.Nearest.TheVariants.{Found, Nothing}
use Rattle.rules.specs.declared.Point.{Point}
use Rattle.rules.specs.declared.SpatialGrid.{SpatialGrid}
use Rattle.plate_laws.specs.Lists.{length_up_from}
use Rattle.plate_laws.specs.Nearest.{all_seen}
use Rattle.plate_laws.specs.Rings.{scan_keeps}
use Rattle.history.specs.History.{points}
use Rattle.run_grid_c.specs.Results.{place_number}

nearer_below : (n : ℕ) (b : Nearest) (c : PathPoint) → c.place < n → place_number b ≤ n → place_number (nearer b c) ≤ n
unfolding nearer found pick place_number
nearer_below n Nothing c h f = omega arith
nearer_below n (Found k d) c h f = go (wins c k.0 d)
  where
    go : (t : Bool) → place_number (pick t (found c) (Found k d)) ≤ n
    go true = omega arith
    go false = f

nearest_below : (g : SpatialGrid) (ps : List Point) (q : Point) → place_number (nearest g ps q) ≤ length ps
unfolding nearest place_number
nearest_below g ps q =
    scan_keeps (λ c. c.place < length ps) (λ b. place_number b ≤ length ps) (nearer_below (length ps)) g (cell_of g q) (seen_from g q 0 ps)
    (all_seen (λ c. c.place < length ps) g q q ps 0 (λ k l. rw zero-add l)) (max g.cols g.rows) 0 Nothing (omega arith)

pub answer_below : (g : SpatialGrid) (xs path : List Float) (count v : ℕ) → place_number (ask_path (at xs) g (points path count) v) ≤ count
unfolding ask_path points
answer_below g xs path count v =
    rw (length-map (up_from 0 count) (at path) ∙ length_up_from 0 count) at (nearest_below g (points path count) (at xs v))
