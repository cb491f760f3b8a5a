-- The vertices that path points land on which keep the rules of marks: that each has one place, and that none is above 65,535. Assumes nothing.
use Rattle.std.specs.Prelude.{◌≡◌, true, List, ℕ, zero, suc, ◌<◌, ◌≤◌, Float, length, get_or}
use Rattle.std.proofs.Common.{arith}
use Rattle.std.proofs.lemmas.List.{get_or_past}
use Rattle.std.proofs.Math.Decide.{dec_le}
use Rattle.rules.specs.Limits.{highest_vertex}
use Rattle.contour_recovery.specs.ContourRecovery.{landed, consistent, vertex_count}
use Rattle.recovery_laws.specs.ByKind.{rule_within}
use Rattle.recovery_laws.specs.LandedVertices.{at_landed, count_above, place_lands, landing_place_is}
use Rattle.recovery_parts.specs.PointPlaces.{LandedOnce}
use Rattle.recovery_laws.specs.FirstFailing.{PassBefore}

module _ (ms vs : List ℕ) where
  pub count_none : (n : ℕ) → 0 < vertex_count ms vs n → 0 < n
  unfolding vertex_count
  count_none zero h = absurd (omega (arith, h))
  count_none (suc n) h = omega arith

  -- each vertex is landed on, and in one place
  pub landed_once : (path : List Float) → ((i : ℕ) → i < length vs → consistent path ms vs i ≡ true) →
      PassBefore (landed ms vs (length vs)) (vertex_count ms vs (length vs)) → LandedOnce ms vs (vertex_count ms vs (length vs))
  unfolding PassBefore
  landed_once path kept all =
      let n = length vs in
      record {
        all = λ v h. place_lands ms vs v n (all v h);
        once = λ i v h e. (count_above ms vs v n (at_landed ms vs v n i h e), landing_place_is ms vs path n kept i v h e);
      }

-- of path points that keep the rules no vertex is above 65,535
pub kept_within : (path : List Float) (ms vs : List ℕ) → ((i : ℕ) → i < length vs → consistent path ms vs i ≡ true) → (j : ℕ) → get_or vs j 0 ≤ highest_vertex
kept_within path ms vs kept j = go (dec_le (length vs) j)
  where
    go : Dec (length vs ≤ j) → get_or vs j 0 ≤ highest_vertex
    go (yes h) = let z : ℕ = 0 in omega (arith, get_or_past vs j z h)
    go (no h) = rule_within path ms vs j (kept j (omega (arith, h)))
