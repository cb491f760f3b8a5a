-- One more path point, by the tests that the code makes: it is passed over, or it wins. Assumes nothing.
use mathlib.Core.Path.{◌≡◌, refl}
use mathlib.Core.Bool.{Bool, true, false, cond}
use Prim.Native.Nat.{ℕ}
use lib.Dec.{ltb, eqb}
use lib.Ieee.{Float}
use Rattle.std.proofs.Common.{Less, Equal, Greater, is_lt, nat_cmp}
use Rattle.rules.specs.Tools.{pick}
use Rattle.rules.specs.GridAndNearest.{PathPoint, found, wins, nearer}
use Rattle.rules.specs.declared.PathPlace.{PathPlace}
use Rattle.rules.specs.declared.Nearest.{Nearest}
use Rattle.rules.specs.declared.Nearest.TheVariants.{Found, Nothing}

pub first_found : (best : Nearest) (c : PathPoint) → best ≡ Nothing → found c ≡ nearer best c
unfolding nearer
first_found best c e = rw e

module _ (best : Nearest) (i : PathPlace) (d : Float) (c : PathPoint) (e : best ≡ Found i d) where
  pub passed_over : wins c i.0 d ≡ false → Found i d ≡ nearer best c
  unfolding nearer pick
  passed_over h = rw (e, h)

  pub wins_over : wins c i.0 d ≡ true → found c ≡ nearer best c
  unfolding nearer pick
  wins_over h = rw (e, h)

-- the derived order of places is that of their numbers
pub place_before : (a b : ℕ) → is_lt (nat_cmp a b) ≡ ltb a b
place_before a b = go (ltb a b) (eqb a b)
  where
    go : (t e : Bool) → is_lt (cond t Less (cond e Equal Greater)) ≡ t
    go true e = refl
    go false true = refl
    go false false = refl
