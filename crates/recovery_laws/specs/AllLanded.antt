-- As many places as there are numbers that each have one: where every vertex below m is landed on, there are m path points or more. Assumes nothing.
use Rattle.std.specs.Prelude.{◌≡◌, refl, Bool, true, false, ◌||◌, List, [], ◌∷◌, map, ℕ, zero, suc, ◌+◌, ◌≤◌, ◌<◌, eqb, get_or}
use Rattle.std.proofs.Common.{arith, eq-eqb}
use Rattle.std.proofs.Math.Decide.{dec_le}
use Rattle.rules.specs.Tools.{pick, sum, any, up_from}
use Rattle.contour_recovery.specs.ContourRecovery.{lands_on, landed}
use Rattle.plate_laws.specs.Lists.{All, all_of, all_up_from, length_up_from}
use Rattle.plate_laws.specs.Sums.{sum_zeros, sum_ones, indicator, sum_absent, sum_once, sum_same}
use Rattle.recovery_laws.specs.LandedVertices.{any_more, lands_there}

sum_under : {A : Type 0} (f g h : A → ℕ) (xs : List A) → All (λ x. f x ≤ g x + h x) xs → sum (map f xs) ≤ sum (map g xs) + sum (map h xs)
unfolding sum
sum_under f g h [] a = omega arith
sum_under f g h (x ∷ xs) a = omega (arith, a.0, sum_under f g h xs a.1)

one_number : (u m : ℕ) → sum (map (indicator u) (up_from 0 m)) ≤ 1
one_number u m = go (dec_le (suc u) m)
  where
    go : Dec (u < m) → sum (map (indicator u) (up_from 0 m)) ≤ 1
    go (yes h) = let z : 0 + u ≡ u = omega arith in omega (arith, rw z at (sum_once 0 m u h))
    go (no h) = omega (arith, sum_absent u 0 m (λ i x y e. omega (arith, h, y, e)))

-- ---- places that hit one number each

module _ (hit : ℕ → ℕ → Bool) (u : ℕ → ℕ) (one : (v i : ℕ) → hit v i ≡ true → u i ≡ v) where
  abbrev hit_below : ℕ → ℕ → ℕ
  hit_below n v = pick (any (hit v) (up_from 0 n)) 1 0

  one_more : (n v : ℕ) → hit_below (suc n) v ≤ hit_below n v + indicator (u n) v
  unfolding pick
  one_more n v =
      let z : 0 + n ≡ n = omega arith in
      rw (any_more (hit v) 0 n, z) (go (any (hit v) (up_from 0 n)) (hit v n) (one v n))
    where
      go : (a b : Bool) → (b ≡ true → u n ≡ v) → pick {X = ℕ} (a || b) 1 0 ≤ pick a 1 0 + pick (eqb v (u n)) 1 0
      go true b h = omega arith
      go false true h = let e : v ≡ u n = omega (arith, h refl) in rw (eq-eqb v (u n) e) (omega arith)
      go false false h = omega arith

  -- n places hit n numbers at most
  pub hit_most : (n m : ℕ) → sum (map (λ v. pick (any (hit v) (up_from 0 n)) 1 0) (up_from 0 m)) ≤ n
  unfolding any pick
  hit_most zero m = omega (arith, sum_zeros (hit_below 0) (up_from 0 m) (all_of _ (λ v. refl) (up_from 0 m)))
  hit_most (suc n) m =
      omega (
        arith,
        hit_most n m,
        one_number (u n) m,
        sum_under (hit_below (suc n)) (hit_below n) (indicator (u n)) (up_from 0 m) (all_of _ (one_more n) (up_from 0 m)),
      )

  pub all_hit : (n m : ℕ) → ((v : ℕ) → v < m → any (hit v) (up_from 0 n) ≡ true) → m ≤ n
  unfolding pick
  all_hit n m h =
      let full = sum_same (hit_below n) (λ v. 1) (up_from 0 m) (all_up_from _ 0 m (λ v a b. rw (h v (omega (arith, b))) refl)) in
      omega (arith, full, hit_most n m, sum_ones (up_from 0 m), length_up_from 0 m)

pub all_landed : (ms vs : List ℕ) (n m : ℕ) → ((v : ℕ) → v < m → landed ms vs n v ≡ true) → m ≤ n
unfolding landed
all_landed ms vs n m h = all_hit (lands_on ms vs) (λ i. get_or vs i 0) (λ v i. lands_there ms vs i v) n m h
