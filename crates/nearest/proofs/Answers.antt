-- Answers of the search, counted in whole numbers: the nearer of two is the better of the two. Assumes nothing.
use mathlib.Core.Path.{◌≡◌, refl, ap}
use mathlib.Core.Bool.{Bool, true, false, cond, ◌&&◌, beq}
use Prim.Native.Nat.{ℕ, suc, ◌+◌, ◌-◌}
use native.Mathlib.Omega.{arith}
use lib.Dec.{T, ltb}
use lib.Ieee.{Float, nan, inf, fin, binary64, sum, fits}
use lib.Ieee.Fits.{nan-fits, inf-fits, add-fits, round-fits, cond-fits}
use Rattle.rules.specs.Tools.{pick}
use Rattle.rules.specs.Distances.{mul_add, distance_squared}
use Rattle.rules.specs.GridAndNearest.{PathPoint, found, wins, nearer}
use Rattle.rules.specs.declared.Point.{Point}
use Rattle.rules.specs.declared.PathPlace.{PathPlace}
use Rattle.rules.specs.declared.Nearest.{Nearest}
use Rattle.rules.specs.declared.Nearest.TheVariants.{Found, Nothing}
use Rattle.plate_laws.specs.FloatOrder.{Plus}
use Rattle.plate_laws.specs.FiniteDistances.{OnPlate, distance_plus}
use Rattle.chains.specs.Hits.{Hit, miss, hit, hit_beats, better}
use Rattle.nearest.proofs.Rank.{rank, lt_rank, eq_rank, rank_one}

-- a squared distance: finite, its sign plus, and an f64
pub record SquaredDistance (x : Float) : Type 0 where
  pub plus : Plus x
  pub holds : T (fits binary64 x)

abbrev pub SquaredBest : Nearest → Type 0
SquaredBest Nothing = Unit {0}
SquaredBest (Found k d) = SquaredDistance d

unfoldable pub ranked : Nearest → Hit
ranked Nothing = miss
ranked (Found k d) = hit k.0 (rank binary64 d)

-- ---- squared distances of points on the plate

sum_fits : (s t : Bool) (a b c : ℕ) → T (fits binary64 (sum binary64 s a t b c))
unfolding sum
sum_fits s t a b c =
    cond-fits binary64 (beq s t) _ _ (round-fits binary64 s (a + b) c)
    (cond-fits binary64 (ltb a b) _ _ (round-fits binary64 t (b - a) c) (round-fits binary64 (s && ltb b a) (a - b) c))

fused_fits : (x y : Float) → T (fits binary64 (mul_add binary64 x x y))
unfolding mul_add
fused_fits nan y = nan-fits binary64
fused_fits (inf s) y = add-fits binary64 _ y
fused_fits (fin s m e) nan = nan-fits binary64
fused_fits (fin s m e) (inf u) = inf-fits binary64 u
fused_fits (fin s m e) (fin u k c) = sum_fits _ _ _ _ _

pub distance_squared_lem : (q p : Point) → OnPlate q.x × OnPlate q.y → OnPlate p.x × OnPlate p.y → SquaredDistance (distance_squared q p)
distance_squared_lem q p hq hp = record { plus = distance_plus q p hq.0 hq.1 hp.0 hp.1; holds = unfold distance_squared in fused_fits _ _ }

-- ---- one more path point

wins_beats : (c : PathPoint) (i : ℕ) (d : Float) → SquaredDistance c.squared → SquaredDistance d →
    wins c i d ≡ hit_beats c.place (rank binary64 c.squared) i (rank binary64 d)
unfolding wins hit_beats
wins_beats c i d hc hd =
    rw (lt_rank binary64 c.squared d hc.plus hd.plus hc.holds hd.holds, eq_rank binary64 c.squared d hc.plus hd.plus hc.holds hd.holds)

pub nearer_ranked : (b : Nearest) (c : PathPoint) → SquaredBest b → SquaredDistance c.squared →
    (ranked (nearer b c) ≡ better (ranked b) (hit c.place (rank binary64 c.squared))) × SquaredBest (nearer b c)
unfolding nearer found pick ranked better
nearer_ranked Nothing c hb hc = (refl, hc)
nearer_ranked (Found i d) c hb hc = rw (← wins_beats c i.0 d hc hb) (go (wins c i.0 d))
  where
    go : (t : Bool) →
        (ranked (pick t (found c) (Found i d)) ≡ cond t (hit c.place (rank binary64 c.squared)) (hit i.0 (rank binary64 d)))
        × SquaredBest (pick t (found c) (Found i d))
    go true = (refl, hc)
    go false = (refl, hb)

-- ---- an answer is known by its place and its count

abbrev place_of : Hit → ℕ
place_of miss = 0
place_of (hit p d) = suc p

abbrev key_of : Hit → ℕ
key_of miss = 0
key_of (hit p d) = d

found_same : (i j : PathPlace) (d e : Float) → i.0 ≡ j.0 → d ≡ e → Found i d ≡ Found j e
found_same i j d e h k = λ t. Found (record { 0 = h t }) (k t)

pub ranked_one : (x y : Nearest) → SquaredBest x → SquaredBest y → ranked x ≡ ranked y → x ≡ y
unfolding ranked
ranked_one Nothing Nothing hx hy h = refl
ranked_one Nothing (Found j e) hx hy h = absurd (let w : 0 ≡ suc j.0 = ap place_of h in omega arith)
ranked_one (Found i d) Nothing hx hy h = absurd (let w : suc i.0 ≡ 0 = ap place_of h in omega arith)
ranked_one (Found i d) (Found j e) hx hy h =
    let w : suc i.0 ≡ suc j.0 = ap place_of h in
    found_same i j d e (omega arith) (rank_one binary64 d e hx.plus hy.plus hx.holds hy.holds (ap key_of h))
