-- What makes the words safe to read: chains fall.
use Rattle.std.specs.Prelude.{◌≡◌, List, ℕ, ◌≤◌, length, get_or}
use Rattle.std.specs.Coded.{le_prop}
use native.Mathlib.Nat.{ℕ_set}

-- the parts are of one length; a head is one more than a path place, and a link one more than an earlier place than its own, or they are 0
pub record Falling (vertices flags heads links : List ℕ) : Type 0 where
  pub flags_long : length flags ≡ length vertices
  pub heads_long : length heads ≡ length vertices
  pub links_long : length links ≡ length vertices
  pub heads_within : (r : ℕ) → get_or heads r 0 ≤ length vertices
  pub links_fall : (k : ℕ) → get_or links k 0 ≤ k

pub falling_prop : (vertices flags heads links : List ℕ) → IsProp (Falling vertices flags heads links)
falling_prop vertices flags heads links a b =
    λ i. record {
      flags_long = ℕ_set _ _ a.flags_long b.flags_long i;
      heads_long = ℕ_set _ _ a.heads_long b.heads_long i;
      links_long = ℕ_set _ _ a.links_long b.links_long i;
      heads_within = λ r. le_prop (a.heads_within r) (b.heads_within r) i;
      links_fall = λ k. le_prop (a.links_fall k) (b.links_fall k) i;
    }
