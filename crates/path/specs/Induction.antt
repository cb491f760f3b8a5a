-- Induction over the joining: what holds of the start, and is kept by each contour that enters the path, holds of the whole path. Assumes nothing.
use Rattle.std.specs.Prelude.{◌≡◌}
use Rattle.std.proofs.Math.Path.{ap}
use Rattle.std.proofs.Common.{◌∙◌, arith}
use mathlib.Core.List.{List, [], ◌∷◌, map}
use Rattle.std.proofs.Math.Option.{some}
use Prim.Native.Nat.{ℕ, zero, suc, ◌≤◌}
use Rattle.std.proofs.Math.ListN.{length, length-map}
use Rattle.rules.specs.Tools.{without, highest_layer}
use Rattle.rules.specs.HandedOver.{Plate, Contour, contours, vertex_at, layer_at}
use Rattle.rules.specs.Start.{Oriented}
use Rattle.rules.specs.SamplesAndCache.{Waiting, waiting, seed, update, cells_around}
use Rattle.rules.specs.Retrace.{begin, path_points, closer, waiting_layer, choose, waiting_number, entered, join_all, retrace_from, retrace_of, retrace}
use Rattle.rules.specs.Marks.{Step}
use Rattle.rules.specs.OrderAndStraight.{contour_number}
use Rattle.rules.specs.Contours.{contour_count, Among, IsContour}
use Rattle.plate_laws.specs.Lists.{All, all_of, all_map, map-all, all_without}
use Rattle.plate_laws.specs.Layers.{foremost_has, foremost_some, foremost_low}
use Rattle.plate_laws.specs.Nearest.{grid_for}
use Rattle.plate_laws.specs.Contours.{among_all, others, length_others, contours_rise, all_contours}
use Rattle.plate_laws.specs.WaitingContours.{Sane, waiting_sane, seed_caching, update_caching, contour_waiting, Coming, contours_waiting, contours_without, contours_cached, part_cached, sane_cached, coming_without}
use Rattle.plate_laws.specs.Start.{AllTakePart, start_some, NoneLower, start_low, start_is}

-- P says something of the contours still to come and of the path so far. It holds of the start, whichever contour that is, if none
-- is of a lower layer;
abbrev pub Begins : Plate → (List Contour → List Step → Type 0) → Type 0
Begins p P = (s : Oriented) → IsContour p s.contour → NoneLower p s.contour (contours p) → P (others s.contour (contours p)) (begin s)

-- and it is kept where one of those contours enters the path, none being of a lower layer, at whichever of its vertices.
abbrev pub Enters : Plate → (List Contour → List Step → Type 0) → Type 0
Enters p P =
    (cs : List Contour) (path : List Step) (c : Contour) (e : ℕ) → Coming p cs → Among c cs → NoneLower p c cs → e ≤ c.last →
    P cs path → P (others c cs) (entered p (grid_for p) path c e)

-- ---- the joining

module _ (p : Plate) (P : List Contour → List Step → Type 0) (begins : Begins p P) (enters : Enters p P) where
  -- n more contours, which are all that wait
  abbrev Keeps : ℕ → List Waiting → List Step → Type 0
  Keeps n ws path =
      length ws ≡ n → All (λ w. layer_at p w.contour ≤ highest_layer) ws → All Sane ws → Coming p (map contour_waiting ws) → P (map contour_waiting ws) path → P [] (join_all p (grid_for p) n ws path)

  -- w is chosen: one contour less waits afterwards
  join_one : (n : ℕ) → ((ws : List Waiting) (path : List Step) → Keeps n ws path) → (ws : List Waiting) (path : List Step) (w : Waiting) →
      choose p ws ≡ some w → Keeps (suc n) ws path
  unfolding join_all choose waiting_number waiting_layer
  join_one n join ws path w chosen l part sane coming h =
      let cs = map contour_waiting ws in
      let All-among = map-all (λ c. Among c cs) contour_waiting ws (among_all _ cs (λ c m. m)) in
      let among = foremost_has (waiting_layer p) closer (λ v. Among v.contour cs) ws All-among w chosen in
      let low = all_map (λ d. layer_at p w.contour ≤ layer_at p d) contour_waiting ws (foremost_low (waiting_layer p) closer ws w chosen) in
      let next = entered p (grid_for p) path w.contour w.kept.entry in
      let cells = cells_around (vertex_at p w.contour) (grid_for p) w.contour.last in
      let f = update p (grid_for p) (path_points p next) cells in
      let caching = update_caching p (grid_for p) (path_points p next) cells in
      let rest = without waiting_number (waiting_number w) ws in
      let q : map contour_waiting (map f rest) ≡ others w.contour cs = contours_cached f caching rest ∙ contours_without (waiting_number w) ws in
      let m : length (map f rest) ≡ n =
      omega (arith, length-map (map f rest) contour_waiting, ap length q, length_others w.contour cs coming.rising among, length-map ws contour_waiting) in
      rw (chosen, join_all)
      (join (map f rest) next m (part_cached f caching p rest (all_without _ waiting_number (waiting_number w) ws part)) (sane_cached f caching rest (all_without Sane waiting_number (waiting_number w) ws sane))
      (rw q (coming_without p w.contour.number cs coming))
      (rw q (enters cs path w.contour w.kept.entry coming among low (foremost_has (waiting_layer p) closer Sane ws sane w chosen).entry h)))

  join_keeps : (n : ℕ) (ws : List Waiting) (path : List Step) → Keeps n ws path
  unfolding join_all choose waiting_layer
  join_keeps zero [] path l part sane coming h = h
  join_keeps zero (w ∷ ws) path l part sane coming h = absurd (omega arith)
  join_keeps (suc n) ws path l part sane coming h =
      let c = foremost_some (waiting_layer p) closer ws (omega arith) part in join_one n (join_keeps n) ws path c.0 c.1 l part sane coming h

  from_keeps : AllTakePart p → (s : Oriented) → IsContour p s.contour → NoneLower p s.contour (contours p) → P [] (retrace_from p (grid_for p) s (contours p))
  unfolding retrace_from waiting
  from_keeps t s i low =
      let n = s.contour.number in
      let all = map (waiting p (grid_for p)) (contours p) in
      let ws = without waiting_number n all in
      let f = seed p (grid_for p) (path_points p (begin s)) in
      let caching = seed_caching p (grid_for p) (path_points p (begin s)) in
      let sane = all_map Sane (waiting p (grid_for p)) (contours p) (all_of _ (waiting_sane p (grid_for p)) (contours p)) in
      let q : map contour_waiting (map f ws) ≡ others s.contour (contours p) =
      contours_cached f caching ws ∙ contours_without n all ∙ ap (without contour_number n) (contours_waiting p (grid_for p) (contours p)) in
      join_keeps (length ws) (map f ws) (begin s) (length-map ws f)
      (part_cached f caching p ws (all_without _ waiting_number n all (all_map (λ w. layer_at p w.contour ≤ highest_layer) (waiting p (grid_for p)) (contours p) t)))
      (sane_cached f caching ws (all_without Sane waiting_number n all sane))
      (rw q (coming_without p n (contours p) (record { all = all_contours p; rising = contours_rise p }))) (rw q (begins s i low))

  -- a plate that has a contour, all taking part: P holds of the whole path, with no contour to come
  pub retrace_keeps : AllTakePart p → 1 ≤ contour_count p → P [] (retrace p)
  unfolding retrace retrace_of
  retrace_keeps t h = let (s, e) = start_some p t h in rw (e, retrace_of) (from_keeps t s (start_is p s e) (start_low p s e))
