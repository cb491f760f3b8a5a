-- The first number that fails is where `position` finds it. Assumes nothing.
use Rattle.std.proofs.Common.{◌≡◌, refl, ℕ, suc, ◌+◌, ◌<◌, ◌≤◌, Bool, true, false, not, cond, ltb, List, [], ◌∷◌, length, Option, Some, None, arith, ltb-true, ltb-false}
use Rattle.std.specs.Prelude.{Float, leb, IfSome, IsNone}
use Rattle.std.specs.List.{position_or_len}
use Rattle.std.proofs.lemmas.List.Sums.{prefix_len-le-length}
use Rattle.rules.specs.Tools.{pick, highest_layer}
use Rattle.rules.specs.HandedOver.{in_range, first_off, first_bad}

pub off_place : (limit : Float) (i : ℕ) (xs : List Float) → first_off limit i xs ≡ i + position_or_len (λ x. not (in_range limit x)) xs
unfolding first_off pick
off_place limit i [] = omega arith
off_place limit i (x ∷ xs) = go (in_range limit x) (off_place limit (suc i) xs)
  where
    go : (t : Bool) → first_off limit (suc i) xs ≡ suc i + position_or_len (λ x. not (in_range limit x)) xs →
        pick t (first_off limit (suc i) xs) i ≡ i + cond (not (not t)) (1 + position_or_len (λ x. not (in_range limit x)) xs) 0
    go true e = omega (arith, e)
    go false e = omega arith

pub bad_place : (i : ℕ) (ls : List ℕ) → first_bad i ls ≡ i + position_or_len (λ l. not (leb l highest_layer)) ls
unfolding first_bad pick
bad_place i [] = omega arith
bad_place i (l ∷ ls) = go (leb l highest_layer) (bad_place (suc i) ls)
  where
    go : (t : Bool) → first_bad (suc i) ls ≡ suc i + position_or_len (λ l. not (leb l highest_layer)) ls →
        pick t (first_bad (suc i) ls) i ≡ i + cond (not (not t)) (1 + position_or_len (λ l. not (leb l highest_layer)) ls) 0
    go true e = omega (arith, e)
    go false e = omega arith

module _ {X : Type 0} (test : X → Bool) (xs : List X) (k : ℕ) (r : Option ℕ) (e : k ≡ 0 + position_or_len test xs)
    (is : r ≡ cond (ltb (position_or_len test xs) (length xs)) (Some (position_or_len test xs)) None) where
  abbrev p : ℕ
  p = position_or_len test xs

  abbrev n : ℕ
  n = length xs

  most : p ≤ n
  most = prefix_len-le-length _ xs

  found_by : (t : Bool) → ltb p n ≡ t → r ≡ cond t (Some p) None → IfSome r (λ i. (i < n) × (i ≡ k))
  found_by true b h = rw h (ltb-true p n b, omega arith)
  found_by false b h = rw h tt

  pub found : IfSome r (λ i. (i < n) × (i ≡ k))
  found = found_by (ltb p n) refl is

  none_by : (t : Bool) → ltb p n ≡ t → r ≡ cond t (Some p) None → IsNone r → k ≡ n
  none_by true b h = rw h (λ f. absurd (cc))
  none_by false b h = λ _. omega (arith, ltb-false p n b, most)

  pub none : IsNone r → k ≡ n
  none = none_by (ltb p n) refl is
