-- The ring search: what it keeps, and that no path point in the nine cells is nearer than what it finds. Assumes nothing.
use Rattle.std.specs.Prelude.{◌≡◌, refl, Bool, not, ◌||◌, ◌&&◌, List, [], ◌∷◌, T, leb, ltb, Float}
use Rattle.std.proofs.Math.Bool.{true, false}
use Rattle.std.proofs.Common.{⊎_elim, arith, T_not}
use Prim.Native.Nat.{ℕ, zero, suc, ◌-◌, ◌≤◌, ◌<◌, max}
use Rattle.std.proofs.Math.Dec.{not_T}
use Rattle.std.specs.Float.Ieee.{lt, eq, le}
use Rattle.std.proofs.Math.Facts.{or_no}
use Rattle.std.proofs.lemmas.Float.{lt_of_lt_of_le}
use Rattle.rules.specs.Tools.{pick}
use Rattle.rules.specs.GridAndNearest.{Cell, square, within, on_border, PathPoint, found, wins, nearer, scan_ring, beyond, scan_from}
use Rattle.rules.specs.declared.SpatialGrid.{SpatialGrid}
use Rattle.rules.specs.declared.Nearest.{Nearest}
use Rattle.rules.specs.declared.Nearest.TheVariants.{Found, Nothing}
use Rattle.plate_laws.specs.Lists.{All, all_of, all_give, all_both, foldl-keeps}
use Rattle.plate_laws.specs.FloatOrder.{Plus, lt_self}
use Rattle.plate_laws.specs.Squares.{nine_cells}

-- ---- what the search keeps

-- ring r, at one path point
abbrev visit : SpatialGrid → Cell → ℕ → Nearest → PathPoint → Nearest
visit g q r b c = pick (on_border (square g q r) c.cell) (nearer b c) b

-- a ring that is not beyond the bound is scanned
pub scan_next : (g : SpatialGrid) (q : Cell) (cs : List PathPoint) (n r : ℕ) (b : Nearest) → beyond g r b ≡ false →
    scan_from g q cs (suc n) r b ≡ scan_from g q cs n (suc r) (scan_ring g q cs r b)
unfolding scan_from
scan_next g q cs n r b e = rw (e, scan_from)

-- I holds to the end, where all path points have P and one that has P keeps it
module _ (P : PathPoint → Type 0) (I : Nearest → Type 0) (keeps : (b : Nearest) (c : PathPoint) → P c → I b → I (nearer b c))
    (g : SpatialGrid) (q : Cell) where
  visit_keeps : (r : ℕ) (b : Nearest) (c : PathPoint) → P c → I b → I (visit g q r b c)
  unfolding pick
  visit_keeps r b c h i = go (on_border (square g q r) c.cell)
    where
      go : (t : Bool) → I (pick t (nearer b c) b)
      go true = keeps b c h i
      go false = i

  pub ring_keeps : (cs : List PathPoint) → All P cs → (r : ℕ) (b : Nearest) → I b → I (scan_ring g q cs r b)
  unfolding scan_ring
  ring_keeps cs a r b i = foldl-keeps P I (visit g q r) (visit_keeps r) cs a b i

  pub scan_keeps : (cs : List PathPoint) → All P cs → (n r : ℕ) (b : Nearest) → I b → I (scan_from g q cs n r b)
  unfolding scan_from
  scan_keeps cs a zero r b i = i
  scan_keeps cs a (suc n) r b i = go (beyond g r b) (scan_keeps cs a n (suc r) (scan_ring g q cs r b) (ring_keeps cs a r b i))
    where
      go : (t : Bool) → I (scan_from g q cs n (suc r) (scan_ring g q cs r b)) →
          I (elim t [ true ↦ b | false ↦ scan_from g q cs n (suc r) (scan_ring g q cs r b) ])
      go true rest = i
      go false rest = rest

-- ---- what it settles, where all squared distances are finite and their signs plus

abbrev pub Measured : PathPoint → Type 0
Measured c = Plus c.squared

abbrev pub MeasuredBest : Nearest → Type 0
MeasuredBest Nothing = Unit {0}
MeasuredBest (Found i d) = Plus d

-- c is not nearer than what was found
abbrev pub Settled : PathPoint → Nearest → Type 0
Settled c Nothing = ⊥
Settled c (Found i d) = T (not (lt c.squared d))

pub nearer_measured : (b : Nearest) (c : PathPoint) → Measured c → MeasuredBest b → MeasuredBest (nearer b c)
unfolding nearer found pick
nearer_measured Nothing c h m = h
nearer_measured (Found i d) c h m = go (wins c i.0 d)
  where
    go : (t : Bool) → MeasuredBest (pick t (found c) (Found i d))
    go true = h
    go false = m

-- a path point is not nearer than itself, nor than what it does not win against
nearer_settles : (b : Nearest) (c : PathPoint) → Settled c (nearer b c)
unfolding nearer found pick wins
nearer_settles Nothing c = rw (lt_self c.squared) tt
nearer_settles (Found i d) c = go (wins c i.0 d) (λ t. t)
  where
    go : (t : Bool) → (T (not t) → T (not (wins c i.0 d))) → Settled c (pick t (found c) (Found i d))
    go true h = rw (lt_self c.squared) tt
    go false h = (or_no (lt c.squared d) _ (h tt)).0

wins_le : (c : PathPoint) (i : ℕ) (d : Float) → T (wins c i d) → T (le c.squared d)
unfolding wins le
wins_le c i d t = go (lt c.squared d) (eq c.squared d) t
  where
    go : (a b : Bool) → T (a || (b && ltb i c.place)) → T (a || b)
    go true b t = tt
    go false true t = tt
    go false false t = t

-- what is settled stays settled: a later best is not farther
abbrev pub Kept : PathPoint → Nearest → Type 0
Kept c b = MeasuredBest b × Settled c b

pub nearer_keeps : (c : PathPoint) → Measured c → (b : Nearest) (n : PathPoint) → Measured n → Kept c b → Kept c (nearer b n)
unfolding nearer found pick
nearer_keeps c h Nothing n m k = absurd k.1
nearer_keeps c h (Found i d) n m k = go (wins n i.0 d) (λ w. w)
  where
    go : (w : Bool) → (T w → T (wins n i.0 d)) → Kept c (pick w (found n) (Found i d))
    go true w = (
      m,
      not_T (lt c.squared n.squared)
          (λ l. T_not (lt c.squared d) k.1 (lt_of_lt_of_le c.squared n.squared d l (wins_le n i.0 d (w tt)))),
    )
    go false w = k

visit_settles : (g : SpatialGrid) (q : Cell) (r : ℕ) (b : Nearest) (c : PathPoint) → T (on_border (square g q r) c.cell) →
    Settled c (visit g q r b c)
unfolding pick
visit_settles g q r b c t = go (on_border (square g q r) c.cell) t
  where
    go : (x : Bool) → T x → Settled c (pick x (nearer b c) b)
    go true t = nearer_settles b c
    go false t = elim t [ ]

-- a ring settles what lies on it
pub ring_settles : (g : SpatialGrid) (q : Cell) (cs : List PathPoint) → All Measured cs → (r : ℕ) (b : Nearest) → MeasuredBest b →
    All (λ c. T (on_border (square g q r) c.cell) → Settled c (scan_ring g q cs r b)) cs
unfolding scan_ring
ring_settles g q [] a r b m = tt
ring_settles g q (c ∷ cs) a r b m =
    let next = visit g q r b c in
    let mn = visit_keeps Measured MeasuredBest nearer_measured g q r b c a.0 m in (
      λ t. (ring_keeps Measured (Kept c) (nearer_keeps c a.0) g q cs a.1 r next (mn, visit_settles g q r b c t)).1,
      ring_settles g q cs a.1 r next mn,
    )

-- ---- the whole search

-- no bound is looked at before ring 2
early : (g : SpatialGrid) (r : ℕ) (b : Nearest) → leb 2 r ≡ false → beyond g r b ≡ false
unfolding beyond
early g r Nothing e = refl
early g r (Found i d) e = rw e

module _ (g : SpatialGrid) (q : Cell) (cs : List PathPoint) (a : All Measured cs) where
  -- what ring r has settled is settled at the end
  then_settled : (r n : ℕ) (b : Nearest) → MeasuredBest b →
      All (λ c. T (on_border (square g q r) c.cell) → Settled c (scan_from g q cs n (suc r) (scan_ring g q cs r b))) cs
  then_settled r n b m =
      all_give _ _
      (λ c h t. (scan_keeps Measured (Kept c) (nearer_keeps c h.0) g q cs a n (suc r) (scan_ring g q cs r b)
      (ring_keeps Measured MeasuredBest nearer_measured g q cs a r b m, h.1 t)).1)
      cs (all_both Measured _ cs a (ring_settles g q cs a r b m))

  -- in a search of n rings from ring 0 on: ring 0, and ring 1 if it is one of them
  zeroth : (n : ℕ) → 0 < n → All (λ c. T (on_border (square g q 0) c.cell) → Settled c (scan_from g q cs n 0 Nothing)) cs
  zeroth zero h = absurd (omega arith)
  zeroth (suc n) h = rw (scan_next g q cs n 0 Nothing (early g 0 Nothing refl)) (then_settled 0 n Nothing tt)

  first : (n : ℕ) → All (λ c. T (on_border (square g q 1) c.cell) × (1 < n) → Settled c (scan_from g q cs n 0 Nothing)) cs
  first zero = all_of _ (λ c h. absurd (omega arith)) cs
  first (suc zero) = all_of _ (λ c h. absurd (omega arith)) cs
  first (suc (suc n)) =
      let best = scan_ring g q cs 0 Nothing in
      rw (scan_next g q cs (suc n) 0 Nothing (early g 0 Nothing refl), scan_next g q cs n 1 best (early g 1 best refl))
      (all_give _ _ (λ c h t. h t.0) cs (then_settled 1 n best (ring_keeps Measured MeasuredBest nearer_measured g q cs a 0 Nothing tt)))

  -- A search of all rings of a grid from a cell q of it: no path point in the nine cells around q is nearer than what is found.
  pub search_settles : q.col ≤ g.cols - 1 → q.row ≤ g.rows - 1 → 0 < max g.cols g.rows →
      All (λ c. T (within (square g q 1) c.cell) → Settled c (scan_from g q cs (max g.cols g.rows) 0 Nothing)) cs
  search_settles hc hr h =
      let n = max g.cols g.rows in
      all_give _ _ (λ c s t. ⊎_elim s.0 s.1 (nine_cells g q c.cell hc hr t)) cs (all_both _ _ cs (zeroth n h) (first n))
