-- The recovered points: how many coordinates they have, and which point of the path each is. Assumes nothing.
use Rattle.std.specs.Prelude.{◌≡◌, List, ℕ, zero, suc, ◌+◌, ◌*◌, ◌<◌, Float, length, get_or, map}
use Rattle.std.proofs.Common.{arith, ◌∙◌, ap}
use Rattle.std.proofs.lemmas.List.{length-map}
use Rattle.rules.specs.Tools.{up_from}
use Rattle.rules.specs.HandedOver.{at}
use Rattle.plate_laws.specs.Lists.{length_up_from}
use Rattle.plate_laws.specs.Slices.{coordinates_length, coordinates_at}
use Rattle.contour_recovery.specs.ContourRecovery.{landing_place, recovered_points}

-- a run of numbers, through a function
map_up_from : (f : ℕ → ℕ) (a n i d : ℕ) → i < n → get_or (map f (up_from a n)) i d ≡ f (a + i)
map_up_from f a zero i d h = absurd (omega arith)
map_up_from f a (suc n) zero d h = ap f (omega arith)
map_up_from f a (suc n) (suc i) d h = map_up_from f (suc a) n i d (omega arith) ∙ ap f (omega arith)

module _ (path : List Float) (ms vs : List ℕ) (n m : ℕ) where
  abbrev place : ℕ → ℕ
  place = landing_place ms vs n

  pub points_length : length (recovered_points path ms vs n m) ≡ 2 * m
  unfolding recovered_points
  points_length = coordinates_length path (map place (up_from 0 m)) ∙ ap (λ k. 2 * k) (length-map (up_from 0 m) place ∙ length_up_from 0 m)

  pub point_at : (u : ℕ) → u < m → at (recovered_points path ms vs n m) u ≡ at path (landing_place ms vs n u)
  unfolding recovered_points
  point_at u h =
      let long : length (map place (up_from 0 m)) ≡ m = length-map (up_from 0 m) place ∙ length_up_from 0 m in
      let z : 0 + u ≡ u = omega arith in
      coordinates_at path (map place (up_from 0 m)) u (omega (arith, h, long)) ∙ ap (at path) (map_up_from place 0 m u 0 h ∙ ap place z)
