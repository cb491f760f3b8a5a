-- A loop that writes f of each of n vertices to a slice, one after another. Assumes nothing.
use mathlib.Core.Path.{◌≡◌, refl, sym, ap, ap₂, ◌∙◌}
use mathlib.Core.List.{List, [], ◌∷◌, ◌++◌, map}
use Prim.Native.Nat.{ℕ, zero, suc, ◌+◌, ◌≤◌, ◌<◌}
use native.Mathlib.Nat.{add-zero, add-suc, suc-add, zero-add}
use native.Mathlib.Numerals.{add-one}
use native.Mathlib.Omega.{arith}
use lib.ListN.{length, set, length-map}
use Rattle.rules.specs.Tools.{up_from}
use Rattle.rules.specs.HandedOver.{over}
use Rattle.plate_laws.specs.Lists.{length_up_from}
use Rattle.slices.specs.Over.{over_snoc}
use Rattle.run_grid_c.specs.Results.{written}

map_snoc : {A : Type 0} (f : ℕ → A) (a n : ℕ) → map f (up_from a (suc n)) ≡ map f (up_from a n) ++ (f (a + n) ∷ [])
map_snoc f a zero = rw (add-zero)
map_snoc {A} f a (suc n) = ap {B = List A} (λ r. f a ∷ r) (map_snoc f (suc a) n ∙ rw (add-suc, suc-add))

module _ {A : Type 0} (f : ℕ → A) (slice : List A) where
  -- one more is a store behind the last
  written_next : (n : ℕ) → n < length slice → written f (n + 1) slice ≡ set (written f n slice) n (f n)
  unfolding written
  written_next n h =
      let e : length (map f (up_from 0 n)) ≡ n = length-map (up_from 0 n) f ∙ length_up_from 0 n in
      rw (add-one, map_snoc f 0 n, zero-add) (over_snoc (map f (up_from 0 n)) slice (f n) (omega (arith, e)) ∙ rw e)

-- the slice as it is now: the first v are written
pub record WrittenBefore {A : Type 0} (f : ℕ → A) (n : ℕ) (slice now : List A) (v : ℕ) : Type 0 where
  pub most : v ≤ n
  pub so_far : now ≡ written f v slice

module _ {A : Type 0} (f : ℕ → A) (n : ℕ) (slice : List A) where
  pub writing_start : WrittenBefore f n slice slice 0
  unfolding written over
  writing_start = record { most = omega arith; so_far = refl }

  module _ (now : List A) (v : ℕ) (w : WrittenBefore f n slice now v) where
    pub writing_next : n ≤ length slice → v < n → (x : A) → x ≡ f v → WrittenBefore f n slice (set now v x) (v + 1)
    writing_next h l x e =
        record {
          most = omega arith;
          so_far = ap₂ (λ (ys : List A) (y : A). set ys v y) w.so_far e ∙ sym (written_next f slice v (omega arith));
        }
