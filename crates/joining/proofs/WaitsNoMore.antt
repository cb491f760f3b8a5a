-- A contour waits no more, and the caches of the others are updated: the slices hold those that are left. Assumes nothing.
use mathlib.Core.Path.{◌≡◌}
use mathlib.Core.List.{List, map}
use Prim.Native.Nat.{ℕ, ◌+◌, ◌<◌}
use native.Mathlib.Omega.{arith}
use lib.Ieee.{Float}
use lib.Seq.{get_or-set_same}
use Rattle.rules.specs.Tools.{without}
use Rattle.rules.specs.HandedOver.{Plate}
use Rattle.rules.specs.SamplesAndCache.{Waiting}
use Rattle.rules.specs.Retrace.{waiting_number}
use Rattle.rules.specs.declared.SpatialGrid.{SpatialGrid}
use Rattle.plate_laws.specs.Lists.{all_give, all_both, all_without}
use Rattle.work_layout.specs.Parts.{from, KeptFrom}
use Rattle.work_layout.specs.declared.Layout.{Layout}
use Rattle.waiting.specs.Waits.{stopped}
use Rattle.waiting.specs.Holds.{Holds, Changed}
use Rattle.prepare.specs.SlicesKept.{holds_left, changed_all}
use Rattle.caches.specs.QueryNeeds.{Querying}
use Rattle.caches.specs.OneStopped.{laid, stopped_other}
use Rattle.waiting.specs.NumberLaws.{lined_same, lined_map, lined_without, without_differs}
use Rattle.joining.specs.Lines.{Lines}

module _ {xs : List Float} {g : SpatialGrid} {lay : Layout} {ds : List Float} {w : List ℕ} {path : List Float} {count j : ℕ}
    (q : Querying xs g lay ds w path count) (l : j < lay.contours) where
  pub left_lines : (ws : List Waiting) → Lines xs g lay ds w ws → Lines xs g lay ds (stopped lay w j) (without waiting_number j ws)
  left_lines ws h =
      record {
        lined =
            lined_without (from w lay.waiting) (from (stopped lay w j) lay.waiting) j (get_or-set_same w (lay.waiting + j) 0 0 (omega (arith, laid q l)))
            lay.contours ws (λ i m d. stopped_other q l (lay.waiting + i) (λ e. d (omega arith))) h.lined;
        held =
            all_give _ _ (λ c z. holds_left xs g lay ds w (laid q l) j l c z.1 z.0) (without waiting_number j ws)
            (all_both _ _ (without waiting_number j ws) (all_without (Holds xs g lay ds w) waiting_number j ws h.held) (without_differs j ws));
      }

  -- the update
  module _ (ds' : List Float) (w' : List ℕ) (f : Plate → Waiting → Waiting) (contour : (p : Plate) (c : Waiting) → (f p c).contour ≡ c.contour)
      (changed : Changed xs g lay ds (stopped lay w j) ds' w' f) (above : KeptFrom lay.heads (stopped lay w j) w') where
    pub settled_lines : (p : Plate) (ws : List Waiting) → p.points ≡ xs → Lines xs g lay ds w ws → Lines xs g lay ds' w' (map (f p) (without waiting_number j ws))
    settled_lines p ws e h =
        let k = left_lines ws h in
        record {
          lined =
              lined_map (from w' lay.waiting) lay.contours (f p) (without waiting_number j ws) (contour p)
              (lined_same (from (stopped lay w j) lay.waiting) (from w' lay.waiting) lay.contours (without waiting_number j ws)
              (λ i m. above (lay.waiting + i) (omega (arith, laid q l))) k.lined);
          held = changed_all xs g lay ds (stopped lay w j) ds' w' f changed p e (without waiting_number j ws) k.held;
        }
