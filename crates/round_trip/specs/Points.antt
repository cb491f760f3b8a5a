-- What divides gives back the points: its vertices are the plate's, none is missing, and each has its point where it is landed on. Assumes nothing.
use Rattle.std.specs.Prelude.{◌≡◌, refl, true, List, [], ◌∷◌, map, ℕ, zero, suc, ◌+◌, ◌-◌, ◌*◌, ◌≤◌, ◌<◌, length, drop, Float}
use Rattle.std.proofs.Common.{sym, ap, ◌∙◌, subst, arith, drop-cons, drop_of_length-le}
use Rattle.std.proofs.Math.Decide.{dec_le}
use Rattle.std.specs.Float.{nan}
use Rattle.rules.specs.Tools.{sum, up_from}
use Rattle.rules.specs.HandedOver.{Plate, at}
use Rattle.rules.specs.Marks.{coordinates, vertices_after, vertex_in}
use Rattle.statement.specs.PathStatement.{Divides}
use Rattle.contour_recovery.specs.ContourRecovery.{landed, vertex_count, landing_place, recovered_points}
use Rattle.rules.specs.declared.Totals.{Totals}
use Rattle.plate_laws.specs.Lists.{All, all_map, all_up_from}
use Rattle.plate_laws.specs.FiniteDistances.{OnPlate}
use Rattle.plate_laws.specs.AcceptedInput.{Accepted, point_on}
use Rattle.recovery_laws.specs.LandedVertices.{lands_there, landed_at, count_above, count_landed, place_lands}
use Rattle.round_trip.specs.LandingCounts.{landed_counts}
use Rattle.round_trip.specs.Landings.{vertex_below, landed_once}

-- ---- coordinates of points that are found one by one

coordinates_same : (xs ys : List Float) (f : ℕ → ℕ) (a n : ℕ) → ((k : ℕ) → a ≤ k → k < a + n → at xs (f k) ≡ at ys k) →
    coordinates xs (map f (up_from a n)) ≡ coordinates ys (up_from a n)
unfolding coordinates
coordinates_same xs ys f a zero h = refl
coordinates_same xs ys f a (suc n) h =
    rw (h a (omega arith) (omega arith), coordinates_same xs ys f (suc a) n (λ k x y. h k (omega arith) (omega arith)))

coordinates_all : (ys : List Float) (a n : ℕ) → length ys ≡ 2 * (a + n) → coordinates ys (up_from a n) ≡ drop (2 * a) ys
unfolding coordinates at
coordinates_all ys a zero l = sym (drop_of_length-le ys (omega arith))
coordinates_all ys a (suc n) l =
    let e : 2 * suc a ≡ suc (suc (2 * a)) = omega arith in
    let g : 2 * a + 1 ≡ suc (2 * a) = omega arith in
    let x = drop-cons ys (2 * a) nan (omega arith) in
    let y = drop-cons ys (suc (2 * a)) nan (omega arith) in
    rw (coordinates_all ys (suc a) n (omega arith), g, e, x, y)

-- ys has n points, each of which is one of xs
points_found : (xs ys : List Float) (f : ℕ → ℕ) (n : ℕ) → length ys ≡ 2 * n → ((k : ℕ) → k < n → at xs (f k) ≡ at ys k) →
    coordinates xs (map f (up_from 0 n)) ≡ ys
points_found xs ys f n l h = coordinates_same xs ys f 0 n (λ k x y. h k (omega arith)) ∙ coordinates_all ys 0 n (omega arith)

pub coordinates_on : (xs : List Float) (vs : List ℕ) → All OnPlate xs → All (λ v. 2 * v + 1 < length xs) vs → All OnPlate (coordinates xs vs)
unfolding coordinates
coordinates_on xs [] on a = tt
coordinates_on xs (v ∷ vs) on a = let (x, y) = point_on xs v on a.0 in (x, (y, coordinates_on xs vs on a.1))

module _ {p : Plate} {c : Totals} {path : List Float} {ms : List ℕ} (d : Divides p c path ms) (accepted : Accepted p.points p.lengths) where
  abbrev n : ℕ
  n = c.points

  abbrev vs : List ℕ
  vs = vertices_after [] ms

  abbrev m : ℕ
  m = sum p.lengths

  pub all_landed : (u : ℕ) → u < m → landed ms vs n u ≡ true
  all_landed u l = rw (landed_counts ms vs u n, landed_once d u l) refl

  -- the highest vertex landed on is the plate's last
  pub count_is : vertex_count ms vs n ≡ m
  unfolding vertex_in
  count_is = go (vertex_count ms vs n) refl (dec_le 1 m)
    where
      go : (k : ℕ) → vertex_count ms vs n ≡ k → Dec (1 ≤ m) → k ≡ m
      go zero e (yes some) = absurd (omega (arith, e, count_above ms vs (m - 1) n (all_landed (m - 1) (omega (arith, some)))))
      go zero e (no none) = omega (arith, none)
      go (suc u) e some =
          let (j, l, t) = landed_at ms vs u n (count_landed ms vs u n e) in
          let below : u < m = omega (arith, vertex_below d j l, lands_there ms vs j u t) in
          omega (arith, e, below, count_above ms vs (m - 1) n (all_landed (m - 1) (omega (arith, below))))

  pub points_are : recovered_points path ms vs n m ≡ p.points
  unfolding recovered_points vertex_in at
  points_are = points_found path p.points (landing_place ms vs n) m accepted.counted found
    where
      found : (u : ℕ) → u < m → at path (landing_place ms vs n u) ≡ at p.points u
      found u l =
          let (h, t) = place_lands ms vs u n (all_landed u l) in
          d.coordinates (landing_place ms vs n u) h ∙ ap (at p.points) (lands_there ms vs (landing_place ms vs n u) u t)

  -- path points are points of the plate
  pub path_on : All OnPlate path
  path_on =
      let v : ℕ → ℕ = vertex_in ms in
      let same = points_found p.points path v n d.whole (λ k l. sym (d.coordinates k l)) in
      let inside = all_up_from (λ k. 2 * v k + 1 < length p.points) 0 n
      (λ k a b. omega (arith, b, vertex_below d k (omega (arith, b)), accepted.counted)) in
      subst (All OnPlate) same (coordinates_on p.points (map v (up_from 0 n)) accepted.on_plate (all_map _ v (up_from 0 n) inside))
