-- The ring search: no path point is much nearer than what it finds. Assumes nothing.
use Rattle.std.proofs.Math.Path.{subst}
use Rattle.std.specs.Prelude.{Bool, true, false, List, ◌⊎◌, leb, Float, length, get_or}
use Rattle.std.proofs.Common.{inl, inr, le_trans, arith, leb→le, lit≤}
use Rattle.std.proofs.Math.Logic.{⊎_elim}
use Prim.Native.Nat.{ℕ, zero, suc, ◌+◌, ◌-◌, ◌≤◌, ◌<◌, max}
use Rattle.std.proofs.Math.Decide.{dec_lt}
use Rattle.std.proofs.Math.Dec.{T}
use Rattle.std.specs.Float.Ieee.{lt}
use Rattle.std.proofs.Math.Facts.{and_yes}
use Rattle.rules.specs.Distances.{distance_squared}
use Rattle.rules.specs.GridAndNearest.{Cell, cell_of, square, on_border, PathPoint, seen_from, scan_ring, bound, beyond, scan_from, nearest}
use Rattle.rules.specs.Retrace.{place_in}
use Rattle.rules.specs.declared.Point.{Point}
use Rattle.rules.specs.declared.BoundingBox.{BoundingBox}
use Rattle.rules.specs.declared.SpatialGrid.{SpatialGrid}
use Rattle.rules.specs.declared.Nearest.{Nearest}
use Rattle.rules.specs.declared.Nearest.TheVariants.{Found, Nothing}
use Rattle.plate_laws.specs.Lists.{All, all_of, all_give, all_both}
use Rattle.plate_laws.specs.Squares.{InSquare, OnSide, is_border}
use Rattle.plate_laws.specs.Rings.{ring_keeps, Measured, MeasuredBest, Settled, nearer_measured, Kept, nearer_keeps, ring_settles}
use Rattle.plate_laws.specs.Nearest.{seen, all_seen, seen_at, FoundWith, OfPath, nearest_found, col_in, row_in}
use Rattle.rounding_errors.specs.BoxGrid.{SoundGrid}
use Rattle.statement.specs.HowNear.{NearlyAtMost}
use Rattle.near.specs.Ratios.{ratio_near, not_lt_near, lt_ratio}
use Rattle.near.specs.AlongAxis.{CellsApart}
use Rattle.near.specs.RingBounds.{OnAxes, axes_plus, Clear, far_bound}

-- ---- how far a cell is from another

-- less than r columns and rows, or r or more columns or rows
record Closer (r : ℕ) (q c : Cell) : Type 0 where
  right : c.col < q.col + r
  left : q.col < c.col + r
  below : c.row < q.row + r
  above : q.row < c.row + r

abbrev Off : ℕ → Cell → Cell → Type 0
Off r q c = CellsApart r q.col c.col ⊎ CellsApart r q.row c.row

closer? : (r : ℕ) (q c : Cell) → Closer r q c ⊎ Off r q c
closer? r q c = go (dec_lt c.col (q.col + r)) (dec_lt q.col (c.col + r)) (dec_lt c.row (q.row + r)) (dec_lt q.row (c.row + r))
  where
    go : Dec (c.col < q.col + r) → Dec (q.col < c.col + r) → Dec (c.row < q.row + r) → Dec (q.row < c.row + r) → Closer r q c ⊎ Off r q c
    go (yes h) (yes i) (yes j) (yes k) = inl (record { right = h; left = i; below = j; above = k })
    go (no h) i j k = inr (inl (inl (omega arith)))
    go (yes h) (no i) j k = inr (inl (inr (omega arith)))
    go (yes h) (yes i) (no j) k = inr (inr (inl (omega arith)))
    go (yes h) (yes i) (yes j) (no k) = inr (inr (inr (omega arith)))

abbrev WithinGrid : SpatialGrid → Cell → Type 0
WithinGrid g c = (c.col ≤ g.cols - 1) × (c.row ≤ g.rows - 1)

-- a cell of the grid that is r away, and no more, is on ring r
on_ring : (g : SpatialGrid) (q c : Cell) (r : ℕ) → WithinGrid g c → Closer (suc r) q c → Off r q c → T (on_border (square g q r) c)
unfolding square
on_ring g q c r i h o = is_border (square g q r) c inside (side o)
  where
    inside : InSquare (square g q r) c
    inside =
        let h1 = h.right in
        let h2 = h.left in
        let h3 = h.below in
        let h4 = h.above in
        record { first_col = omega arith; last_col = omega arith; first_row = omega arith; last_row = omega arith }

    side : Off r q c → OnSide (square g q r) c
    side (inl (inl e)) = let k = h.right in inr (inl (omega arith))
    side (inl (inr e)) = let k = h.left in inl (omega arith)
    side (inr (inl e)) = let k = h.below in inr (inr (inr (omega arith)))
    side (inr (inr e)) = let k = h.above in inr (inr (inl (omega arith)))

-- all cells of a grid are closer than its greater side
all_closer : (g : SpatialGrid) (q c : Cell) (r : ℕ) → 1 ≤ g.cols → 1 ≤ g.rows → g.cols ≤ r → g.rows ≤ r → WithinGrid g q → WithinGrid g c → Closer r q c
all_closer g q c r hc hr kc kr iq ic = record { right = omega arith; left = omega arith; below = omega arith; above = omega arith }

-- ---- what is found

-- c is not much nearer than what is found
abbrev NotMuchNearer : PathPoint → Nearest → Type 0
NotMuchNearer c Nothing = ⊥
NotMuchNearer c (Found i d) = NearlyAtMost d c.squared

-- what is asked of a path point: far from q it is not much nearer than the bounds
record Fit (g : SpatialGrid) (q : Cell) (c : PathPoint) : Type 0 where
  measured : Measured c
  inside : WithinGrid g c.cell
  far : (r : ℕ) → 2 ≤ r → Off r q c.cell → Clear (bound g r) c.squared

settled_near : (b : Nearest) (c : PathPoint) → MeasuredBest b → Measured c → Settled c b → NotMuchNearer c b
settled_near Nothing c m h s = absurd s
settled_near (Found i d) c m h s = not_lt_near d c.squared m h s

left_near : (g : SpatialGrid) (q : Cell) (r : ℕ) (b : Nearest) (c : PathPoint) → MeasuredBest b → Fit g q c → T (beyond g r b) → Off r q c.cell → NotMuchNearer c b
unfolding beyond
left_near g q r Nothing c m f t o = absurd t
left_near g q r (Found i d) c m f t o =
    let h = and_yes (leb 2 r) (lt d (bound g r)) t in
    let w = f.far r (leb→le 2 r h.0) o in
    ratio_near d c.squared m f.measured (lt_ratio d (bound g r) c.squared m w.fine h.1 w.ratio)

module _ (g : SpatialGrid) (q : Cell) (cs : List PathPoint) (some_cols : 1 ≤ g.cols) (some-rows : 1 ≤ g.rows) (iq : WithinGrid g q)
    (fit : All (Fit g q) cs) where
  all_measured : All Measured cs
  all_measured = all_give (Fit g q) Measured (λ c f. f.measured) cs fit

  -- before ring r: all that is closer is settled
  record SearchedTo (r : ℕ) (b : Nearest) : Type 0 where
    best : MeasuredBest b
    settled : All (λ c. Closer r q c.cell → Settled c b) cs

  next : (r : ℕ) (b : Nearest) → SearchedTo r b → SearchedTo (suc r) (scan_ring g q cs r b)
  next r b h =
      record {
        best = ring_keeps Measured MeasuredBest nearer_measured g q cs all_measured r b h.best;
        settled =
            all_give _ _ (λ c f. one c f.0 f.1.0 f.1.1) cs
            (all_both (Fit g q) _ cs fit (all_both _ _ cs h.settled (ring_settles g q cs all_measured r b h.best)));
      }
    where
      one : (c : PathPoint) → Fit g q c → (Closer r q c.cell → Settled c b) → (T (on_border (square g q r) c.cell) → Settled c (scan_ring g q cs r b)) →
          Closer (suc r) q c.cell → Settled c (scan_ring g q cs r b)
      one c f old new k =
          ⊎_elim (λ x. (ring_keeps Measured (Kept c) (nearer_keeps c f.measured) g q cs all_measured r b (h.best, old x)).1)
          (λ o. new (on_ring g q c.cell r f.inside k o)) (closer? r q c.cell)

  -- n more rings, which are all that there are
  scan_near : (n r : ℕ) (b : Nearest) → g.cols ≤ n + r → g.rows ≤ n + r → SearchedTo r b → All (λ c. NotMuchNearer c (scan_from g q cs n r b)) cs
  unfolding scan_from
  scan_near zero r b kc kr h =
      all_give _ _
      (λ c f. settled_near b c h.best f.0.measured (f.1 (all_closer g q c.cell r some_cols some-rows (omega arith) (omega arith) iq f.0.inside)))
      cs (all_both (Fit g q) _ cs fit h.settled)
  scan_near (suc n) r b kc kr h =
      go (beyond g r b) (λ t. t) (scan_near n (suc r) (scan_ring g q cs r b) (omega arith) (omega arith) (next r b h))
    where
      left : (c : PathPoint) → T (beyond g r b) → Fit g q c → (Closer r q c.cell → Settled c b) → NotMuchNearer c b
      left c t f old =
          ⊎_elim (λ k. settled_near b c h.best f.measured (old k)) (λ o. left_near g q r b c h.best f t o) (closer? r q c.cell)

      go : (x : Bool) → (T x → T (beyond g r b)) → All (λ c. NotMuchNearer c (scan_from g q cs n (suc r) (scan_ring g q cs r b))) cs →
          All (λ c. NotMuchNearer c (elim x [ true ↦ b | false ↦ scan_from g q cs n (suc r) (scan_ring g q cs r b) ])) cs
      go true t rest = all_give _ _ (λ c f. left c (t tt) f.0 f.1) cs (all_both (Fit g q) _ cs fit h.settled)
      go false t rest = rest

  search_near : All (λ c. NotMuchNearer c (scan_from g q cs (max g.cols g.rows) 0 Nothing)) cs
  search_near =
      scan_near (max g.cols g.rows) 0 Nothing (omega arith) (omega arith)
      (record { best = tt; settled = all_of _ (λ c k. absurd (none c k)) cs })
    where
      none : (c : PathPoint) → Closer 0 q c.cell → ⊥
      none c k = let h = k.right in let i = k.left in omega arith

-- ---- the query over the points of a path, all of them the plate's; z is what stands beyond the end

module _ (b : BoundingBox) (g : SpatialGrid) (G : SoundGrid b g) (ps : List Point) (q z : Point) (hq : OnAxes b q)
    (hps : (i : ℕ) → i < length ps → OnAxes b (get_or ps i z)) where
  fits_all : All (Fit g (cell_of g q)) (seen_from g q 0 ps)
  fits_all =
      all_seen (Fit g (cell_of g q)) g q z ps 0
      (λ k l.
      let p = get_or ps k z in
      record {
        measured = axes_plus b q p hq (hps k l);
        inside = (col_in g p, row_in g p);
        far = λ r h o. far_bound b g G q p hq (hps k l) r h o;
      })

  near_at : (i : ℕ) → i < length ps → NotMuchNearer (seen g q (0 + i) (get_or ps i z)) (nearest g ps q)
  unfolding nearest
  near_at =
      seen_at _ g q z ps 0
      (search_near g (cell_of g q) (seen_from g q 0 ps) (le_trans (lit≤ tt) G.x.cells_least) (le_trans (lit≤ tt) G.y.cells_least)
      (col_in g q, row_in g q) fits_all)

  pub nearest_near : (i : ℕ) → i < length ps →
      NearlyAtMost (distance_squared q (get_or ps (place_in (nearest g ps q)) z)) (distance_squared q (get_or ps i z))
  unfolding place_in
  nearest_near i l = go (nearest g ps q) (nearest_found g ps q z) (near_at i l)
    where
      go : (n : Nearest) → FoundWith (OfPath g ps q z) n → NotMuchNearer (seen g q (0 + i) (get_or ps i z)) n →
          NearlyAtMost (distance_squared q (get_or ps (place_in n) z)) (distance_squared q (get_or ps i z))
      go Nothing f e = absurd e
      go (Found k d) f e = subst (λ (x : Float). NearlyAtMost x (distance_squared q (get_or ps i z))) f.1 e
