-- A point whose cell is r or more from another's, r at least 2, is not much nearer than the bound of ring r. Assumes nothing.
use Rattle.std.proofs.Common.{subst, inl, inr, le_trans, lt_of_le_of_lt, mul_right_comm, mul-le-mul, mul-le-mul_left, mul-le-mul_right, lit≤, lit<, pow_pos}
use Rattle.std.specs.Prelude.{◌⊎◌, ℕ, ◌-◌, ◌*◌, ◌^◌, ◌≤◌, ◌<◌, T, pos, Float}
use native.Mathlib.Omega.{arith}
use Rattle.std.specs.Float.Ieee.{binary64, sub, mul, of_int}
use Rattle.std.specs.Float.Ieee.Scale.{finite}
use Rattle.rules.specs.Distances.{mul_add, distance_squared}
use Rattle.rules.specs.GridAndNearest.{cell_of, bound}
use Rattle.rules.specs.declared.Point.{Point}
use Rattle.rules.specs.declared.BoundingBox.{BoundingBox}
use Rattle.rules.specs.declared.SpatialGrid.{SpatialGrid}
use Rattle.plate_laws.specs.FloatOrder.{Plus}
use Rattle.plate_laws.specs.FiniteDistances.{on_plate_most, sub_most, square_most, plus_of, distance_plus}
use Rattle.rounding_errors.specs.NearFraction.{Most, most_cancel}
use Rattle.rounding_errors.specs.Units.{At}
use Rattle.rounding_errors.specs.Coords.{coord_of}
use Rattle.rounding_errors.specs.BoxGrid.{SoundGrid}
use Rattle.statement.specs.HowNear.{Slack}
use Rattle.near.specs.Ratios.{most_trans, most_mul, most_40, most_half, Ratio, units_ratio}
use Rattle.near.specs.Products.{whole_at, mul_up, half_normal, squared_at}
use Rattle.near.specs.Differences.{difference}
use Rattle.near.specs.AlongAxis.{CellsApart, one_less, OnAxis, FarAlong, far_along}

-- ---- the bound of a ring: q is r - 1, S the cell size, E their product rounded, and B its square rounded

record Bounded (d : Float) (S q : ℕ) : Type 0 where
  E : ℕ
  B : ℕ
  at : At binary64 d B 0
  one : Most (2 ^ 53) 1 E (q * S)
  two : Most (2 ^ 53) 1 (B * 2 ^ 1074) (E * E)

product_normal : (L S q : ℕ) → 1 ≤ q → L ≤ 51 * S → 2 ^ 60 ≤ L → 2 ^ 52 * L ≤ q * L * S
product_normal L S q k h g = go (mul-le-mul_right (L * S) k) (mul-le-mul_left L h) (mul-le-mul_left L g)
  where
    go : 1 * (L * S) ≤ q * (L * S) → L * L ≤ L * (51 * S) → L * 2 ^ 60 ≤ L * L → 2 ^ 52 * L ≤ q * L * S
    go a b c = omega arith

product_small : (L S q : ℕ) → q ≤ 53 → S ≤ 40001 * L → q * L * S ≤ 2 ^ 100 * (L * L)
product_small L S q h g = le_trans (go (mul-le-mul_right (L * S) h) (mul-le-mul_left L g)) (mul-le-mul_right (L * L) (lit≤ tt))
  where
    go : q * (L * S) ≤ 53 * (L * S) → L * S ≤ L * (40001 * L) → q * L * S ≤ 2 ^ 40 * (L * L)
    go a b = omega arith

E_least : (L S q E : ℕ) → 1 ≤ q → L ≤ 51 * S → Most (2 ^ 53) 1 (q * S) E → L ≤ E * 102
E_least L S q E k h g = go (q * S) (most_half (q * S) E g) (mul-le-mul_right S k)
  where
    go : (Q : ℕ) → Q ≤ E * 2 → 1 * S ≤ Q → L ≤ E * 102
    go Q a b = omega arith

E_most : (L S q E : ℕ) → q ≤ 53 → S ≤ 40001 * L → Most (2 ^ 53) 1 E (q * S) → E ≤ 2 ^ 30 * L
E_most L S q E k h g = go (q * S) (most_half E (q * S) g) (mul-le-mul_right S k)
  where
    go : (Q : ℕ) → E ≤ Q * 2 → Q ≤ 53 * S → E ≤ 2 ^ 30 * L
    go Q a b = omega arith

normal_go : (L E : ℕ) → L * L ≤ E * 102 * (E * 102) → 2 ^ 70 * L ≤ L * L → 2 ^ 53 * L ≤ E * E
normal_go L E a b = omega arith

square_normal : (L E : ℕ) → L ≤ E * 102 → 2 ^ 70 ≤ L → 2 ^ 53 * L ≤ E * E
square_normal L E h g = normal_go L E (mul-le-mul h h) (mul-le-mul_right L g)

square_small : (L E : ℕ) → E ≤ 2 ^ 30 * L → E * E ≤ 2 ^ 100 * (L * L)
square_small L E h = le_trans (go (mul-le-mul h h)) (mul-le-mul_right (L * L) (lit≤ tt))
  where
    go : E * E ≤ 2 ^ 30 * L * (2 ^ 30 * L) → E * E ≤ 2 ^ 60 * (L * L)
    go a = omega arith

bound_of : (s : Float) (S q : ℕ) → At binary64 s S 0 → 2 ^ 1074 ≤ 51 * S → S ≤ 40001 * 2 ^ 1074 → 1 ≤ q → q ≤ 53 →
    Bounded (let d = mul binary64 (of_int binary64 (pos q)) s in mul binary64 d d) S q
bound_of s S q h lo hi ql qh =
    let L = 2 ^ 1074 in
    let l = pow_pos 1074 in
    let d = mul binary64 (of_int binary64 (pos q)) s in
    let x = mul_up (of_int binary64 (pos q)) s (q * L) S (whole_at q (lt_of_le_of_lt qh (lit< tt))) h (product_normal L S q ql lo (lit≤ tt)) (product_small L S q qh hi) in
    let E = x.0 in
    let over = most_cancel (2 ^ 53) 1 E (q * S) L l (subst (λ (i : ℕ). Most (2 ^ 53) 1 (E * L) i) (mul_right_comm q L S) x.2.over) in
    let under = most_cancel (2 ^ 53) 1 (q * S) E L l (subst (λ (i : ℕ). Most (2 ^ 53) 1 i (E * L)) (mul_right_comm q L S) x.2.under) in
    let y = mul_up d d E E x.1 x.1 (half_normal L (E * E) (square_normal L E (E_least L S q E ql lo under) (lit≤ tt))) (square_small L E (E_most L S q E qh hi over)) in
    record { E = E; B = y.0; at = y.1; one = over; two = y.2.over }

-- ---- all together: D is the difference along the axis, F the squared distance

combine : (L S q D E B F : ℕ) → 0 < L → Most (2 ^ 40) 3 (q * S) D → Most (2 ^ 53) 1 E (q * S) → Most (2 ^ 53) 1 (B * L) (E * E) →
    Most (2 ^ 53) 3 (D * D) (F * L) → Most (2 ^ 40) 17 B F
combine L S q D E B F l h one two last =
    let a : Most (2 ^ 40) 5 E D = most_trans (2 ^ 40) 1 3 E (q * S) D (lit≤ tt) (lit≤ tt) (most_40 1 E (q * S) (lit≤ tt) one) h in
    let b : Most (2 ^ 40) 11 (E * E) (D * D) = most_mul (2 ^ 40) 5 5 E D E D (lit≤ tt) (lit≤ tt) a a in
    let c : Most (2 ^ 40) 13 (B * L) (D * D) = most_trans (2 ^ 40) 1 11 (B * L) (E * E) (D * D) (lit≤ tt) (lit≤ tt) (most_40 1 (B * L) (E * E) (lit≤ tt) two) b in
    let d : Most (2 ^ 40) 17 (B * L) (F * L) = most_trans (2 ^ 40) 13 3 (B * L) (D * D) (F * L) (lit≤ tt) (lit≤ tt) c (most_40 3 (D * D) (F * L) (lit≤ tt) last) in
    most_cancel (2 ^ 40) 17 B F L l d

slack : (B F : ℕ) → Most (2 ^ 40) 17 B F → Slack B F
slack B F h = omega arith

D_least : (L S q D : ℕ) → 1 ≤ q → L ≤ 51 * S → Most (2 ^ 40) 3 (q * S) D → L ≤ D * 102
D_least L S q D k h m = go (q * S) (half_40 (q * S) D m) (mul-le-mul_right S k)
  where
    half_40 : (a b : ℕ) → Most (2 ^ 40) 3 a b → a ≤ b * 2
    half_40 a b h = omega arith

    go : (Q : ℕ) → Q ≤ D * 2 → 1 * S ≤ Q → L ≤ D * 102
    go Q a b = omega arith

-- ---- two points of the plate, in its grid

pub record OnAxes (b : BoundingBox) (q : Point) : Type 0 where
  pub x : OnAxis b.min_x q.x
  pub y : OnAxis b.min_y q.y

pub axes_plus : (b : BoundingBox) (P Q : Point) → OnAxes b P → OnAxes b Q → Plus (distance_squared P Q)
axes_plus b P Q hP hQ = distance_plus P Q hP.x.on_plate hP.y.on_plate hQ.x.on_plate hQ.y.on_plate

-- the bound of a ring is finite, and nearly at most f
pub record Clear (bnd f : Float) : Type 0 where
  pub fine : T (finite bnd)
  pub ratio : Ratio bnd f

module _ (b : BoundingBox) (g : SpatialGrid) (G : SoundGrid b g) (P Q : Point) (hP : OnAxes b P) (hQ : OnAxes b Q) where
  dx : Float
  dx = sub binary64 P.x Q.x

  dy : Float
  dy = sub binary64 P.y Q.y

  squared_plus : Plus (mul binary64 dy dy)
  unfolding dy
  squared_plus =
      let z = square_most _ (sub_most P.y Q.y (on_plate_most P.y hP.y.on_plate) (on_plate_most Q.y hQ.y.on_plate)) in
      plus_of (2 ^ 42) (mul binary64 (sub binary64 P.y Q.y) (sub binary64 P.y Q.y)) z.1 z.0

  sum_plus : Plus (mul_add binary64 dx dx (mul binary64 dy dy))
  unfolding dx dy distance_squared
  sum_plus = axes_plus b P Q hP hQ

  -- z is the difference along the axis on which the cells are r apart
  clear : (r : ℕ) (z : Float) → 2 ≤ r → (z' : FarAlong z G.S r) (F : ℕ) → At binary64 (mul_add binary64 dx dx (mul binary64 dy dy)) F 0 →
      (2 ^ 53 * 2 ^ 1074 ≤ z'.D * z'.D → Most (2 ^ 53) 3 (z'.D * z'.D) (F * 2 ^ 1074)) → Clear (bound g r) (distance_squared P Q)
  unfolding bound distance_squared dx dy
  clear r z hr z' F at by =
      let L = 2 ^ 1074 in
      let q = r - 1 in
      let bo = bound_of g.cell_size G.S q G.size G.size_least G.size_most (one_less r hr) (under r z'.rings) in
      let far = by (square_normal L z'.D (D_least L G.S q z'.D (one_less r hr) G.size_least z'.far) (lit≤ tt)) in
      record {
        fine = bo.at.0;
        ratio = units_ratio (bound g r) (distance_squared P Q) bo.B F bo.at at
            (slack bo.B F (combine L G.S q z'.D bo.E bo.B F (pow_pos 1074) z'.far bo.one bo.two far));
      }
    where
      under : (r : ℕ) → r ≤ 53 → r - 1 ≤ 53
      under r h = omega arith

  pub far_bound : (r : ℕ) → 2 ≤ r → CellsApart r (cell_of g P).col (cell_of g Q).col ⊎ CellsApart r (cell_of g P).row (cell_of g Q).row →
      Clear (bound g r) (distance_squared P Q)
  unfolding cell_of dx dy
  far_bound r hr (inl h) =
      let z = far_along b.min_x b.max_x g.origin_x g.inv_cell_size G.S G.I g.cols G.x G.inverse G.near G.size_least G.size_most
      P.x Q.x hP.x hQ.x r hr h in
      let u = coord_of P.y hP.y.f64 hP.y.on_plate in
      let v = coord_of Q.y hQ.y.f64 hQ.y.on_plate in
      let d = difference P.y Q.y u.0 u.1 v.0 v.1 u.2 v.2 in
      let s = squared_at dx dy z.D d.D z.mag d.mag squared_plus sum_plus in
      clear r dx hr z s.F s.at s.by_x
  far_bound r hr (inr h) =
      let z = far_along b.min_y b.max_y g.origin_y g.inv_cell_size G.S G.I g.rows G.y G.inverse G.near G.size_least G.size_most
      P.y Q.y hP.y hQ.y r hr h in
      let u = coord_of P.x hP.x.f64 hP.x.on_plate in
      let v = coord_of Q.x hQ.x.f64 hQ.x.on_plate in
      let d = difference P.x Q.x u.0 u.1 v.0 v.1 u.2 v.2 in
      let s = squared_at dx dy d.D z.D d.mag z.mag squared_plus sum_plus in
      clear r dy hr z s.F s.at s.by_y
