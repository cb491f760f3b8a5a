-- The definitions' search, ring by ring: what it makes of a ring is the best of the ring's places. Assumes nothing.
use mathlib.Core.Path.{◌≡◌, refl, sym, ap, subst, ◌∙◌}
use mathlib.Core.Bool.{Bool, true, false, cond, false≢true}
use mathlib.Core.List.{List, map}
use Prim.Native.Nat.{ℕ, zero, suc, ◌+◌, ◌-◌, ◌*◌, ◌≤◌, ◌<◌}
use native.Mathlib.Decide.{ℕ_discrete}
use native.Mathlib.Numerals.{add-one}
use native.Mathlib.Omega.{arith}
use lib.Dec.{T}
use lib.Ieee.{Float, binary64}
use lib.Ieee.Bits.{is_true}
use Rattle.rules.specs.Tools.{pick, foldl, up_from}
use Rattle.rules.specs.HandedOver.{at}
use Rattle.rules.specs.Distances.{distance_squared}
use Rattle.rules.specs.GridAndNearest.{Cell, Square, square, on_border, PathPoint, seen_from, nearer, scan_ring, beyond, scan_from}
use Rattle.rules.specs.declared.Point.{Point}
use Rattle.rules.specs.declared.SpatialGrid.{SpatialGrid}
use Rattle.rules.specs.declared.Nearest.{Nearest}
use Rattle.plate_laws.specs.FiniteDistances.{OnPlate}
use Rattle.plate_laws.specs.Nearest.{seen}
use Rattle.plate_laws.specs.Rings.{scan_next}
use Rattle.chains.specs.Hits.{miss, hit, better, better_miss}
use Rattle.chains.specs.Best.{best_of, same_test, best_in, best_out, best_none}
use Rattle.chains.specs.Sweeps.{level, upward, level_is, is_level, sweep_start, sweep_turn, sweep_done}
use Rattle.history.specs.History.{points, Ready}
use Rattle.nearest.proofs.Rank.{rank}
use Rattle.nearest.proofs.Answers.{SquaredDistance, SquaredBest, ranked, distance_squared_lem, nearer_ranked, ranked_one}
use Rattle.nearest.proofs.Border.{on_ring}

-- a path place's key: its squared distance from q, counted
unfoldable pub key_at : List Float → Point → ℕ → ℕ
key_at path q k = rank binary64 (distance_squared q (at path k))

pub place_squared : (g : SpatialGrid) (path : List Float) (work : List ℕ) (count : ℕ) (q : Point) → Ready g path work count →
    OnPlate q.x × OnPlate q.y → (k : ℕ) → k < count → SquaredDistance (distance_squared q (at path k))
unfolding at
place_squared g path work count q r hq k l = distance_squared_lem q _ hq (r.coords (2 * k) (omega arith), r.coords (2 * k + 1) (omega arith))

-- ---- one place

single : (P : ℕ → Bool) (key : ℕ → ℕ) (i n : ℕ) → i < n → best_of (level P (λ k. k) i) key n ≡ cond (P i) (hit i (key i)) miss
single P key i zero h = elim h [ ]
single P key i (suc n) h = go (ℕ_discrete n i) (λ l. single P key i n l)
  where
    others : (k : ℕ) → (k ≡ i → ⊥) → T (level P (λ j. j) i k) → ⊥
    others k w t = w (level_is P (λ j. j) i k t).1

    rest : (m : ℕ) → m ≤ i → best_of (level P (λ k. k) i) key m ≡ miss
    rest m l = best_none key (level P (λ k. k) i) m (λ k j. others k (omega arith))

    here : (b : Bool) → P i ≡ b → best_of (level P (λ k. k) i) key (suc i) ≡ cond b (hit i (key i)) miss
    here true w =
        best_in key (level P (λ k. k) i) i (is_true _ (is_level P (λ k. k) i i (rw w tt) refl))
        ∙ ap (better (hit i (key i))) (rest i (omega arith)) ∙ better_miss (hit i (key i))
    here false w =
        best_none key (level P (λ k. k) i) (suc i)
        (λ k j t. let a = level_is P (λ k. k) i k t in subst T w (subst (λ (j : ℕ). T (P j)) a.1 a.0))

    go : Dec (n ≡ i) → (i < n → best_of (level P (λ k. k) i) key n ≡ cond (P i) (hit i (key i)) miss) →
        best_of (level P (λ k. k) i) key (suc n) ≡ cond (P i) (hit i (key i)) miss
    go (yes e) r = rw e (here (P i) refl)
    go (no e) r = best_out key (level P (λ k. k) i) n (same_test _ false (others n e) absurd) ∙ r (omega arith)

-- ---- one ring

module _ (g : SpatialGrid) (path : List Float) (q : Point) (count : ℕ) (squared : (k : ℕ) → k < count → SquaredDistance (distance_squared q (at path k)))
    (s : Square) where
  -- the fold of a ring, at one path point
  abbrev visit : Nearest → PathPoint → Nearest
  visit b c = pick (on_border s c.cell) (nearer b c) b

  -- what it makes of the places from i on: the better of what was before and their best
  abbrev Makes : ℕ → Nearest → Nearest → Type 0
  Makes i b r = (ranked r ≡ better (ranked b) (best_of (upward (on_ring g path s) (λ k. k) i) (key_at path q) count)) × SquaredBest r

  visit_ranked : (i : ℕ) (b : Nearest) → i < count → SquaredBest b →
      (ranked (visit b (seen g q i (at path i))) ≡ better (ranked b) (best_of (level (on_ring g path s) (λ k. k) i) (key_at path q) count))
      × SquaredBest (visit b (seen g q i (at path i)))
  unfolding pick on_ring key_at
  visit_ranked i b l h = rw (single (on_ring g path s) (key_at path q) i count l) (go (on_ring g path s i))
    where
      go : (t : Bool) → (ranked (pick t (nearer b (seen g q i (at path i))) b) ≡ better (ranked b) (cond t (hit i (key_at path q i)) miss))
          × SquaredBest (pick t (nearer b (seen g q i (at path i))) b)
      go true = nearer_ranked b (seen g q i (at path i)) h (squared i l)
      go false = (sym (better_miss (ranked b)), h)

  fold_ranked : (n i : ℕ) (b : Nearest) → i + n ≡ count → SquaredBest b → Makes i b (foldl visit b (seen_from g q i (map (at path) (up_from i n))))
  unfolding seen_from
  fold_ranked zero i b e h = (sweep_done (on_ring g path s) (λ k. k) (key_at path q) count _ (ranked b) i refl (λ k l t. omega arith), h)
  fold_ranked (suc n) i b e h =
      let w = visit_ranked i b (omega arith) h in
      let r = fold_ranked n (suc i) (visit b (seen g q i (at path i))) (omega arith) w.1 in
      (r.0 ∙ sweep_turn (on_ring g path s) (λ k. k) (key_at path q) count _ (ranked b) _ i (suc i) refl w.0 (omega arith) (λ k l t m. omega arith), r.1)

-- what the code has found of a ring is what the definition makes of it
pub ring_is : (g : SpatialGrid) (path : List Float) (q : Point) (count : ℕ) → ((k : ℕ) → k < count → SquaredDistance (distance_squared q (at path k))) →
    (c : Cell) (r : ℕ) (b best : Nearest) → SquaredBest b → SquaredBest best →
    ranked best ≡ better (ranked b) (best_of (on_ring g path (square g c r)) (key_at path q) count) →
    scan_ring g c (seen_from g q 0 (points path count)) r b ≡ best
unfolding scan_ring points
ring_is g path q count squared c r b best hb h e =
    let s = square g c r in
    let w = fold_ranked g path q count squared s count 0 b (omega arith) hb in
    ranked_one _ best w.1 h
    (w.0 ∙ sweep_start (on_ring g path s) (λ k. k) (key_at path q) count (ranked b) 0 (λ k l t. omega arith) ∙ sym e)

-- ---- ring after ring, as the code's loop has it

module _ (g : SpatialGrid) (c : Cell) (cs : List PathPoint) (rings ring : ℕ) (best total : Nearest)
    (h : scan_from g c cs (rings - ring) ring best ≡ total) where
  more : ring < rings → scan_from g c cs (suc (rings - suc ring)) ring best ≡ total
  more l = let w : rings - ring ≡ suc (rings - suc ring) = omega arith in rw w at h

  pub rings_turn : (r : Nearest) → ring < rings → beyond g ring best ≡ false → scan_ring g c cs ring best ≡ r →
      scan_from g c cs (rings - (ring + 1)) (ring + 1) r ≡ total
  rings_turn r l s e = rw (← e, add-one) (sym (scan_next g c cs (rings - suc ring) ring best s) ∙ more l)

  pub rings_stop : ring < rings → beyond g ring best ≡ true → best ≡ total
  unfolding scan_from
  rings_stop l s = go (beyond g ring best) s (more l)
    where
      go : (b : Bool) → b ≡ true →
          elim b [ true ↦ best | false ↦ scan_from g c cs (rings - suc ring) (suc ring) (scan_ring g c cs ring best) ] ≡ total → best ≡ total
      go true t k = k
      go false t k = absurd (false≢true t)

  pub rings_done : rings ≤ ring → best ≡ total
  unfolding scan_from
  rings_done l = let w : rings - ring ≡ 0 = omega arith in rw w at h
