-- Where a coordinate lies on the grid, along one axis; and that coordinates in cells r apart are nearly r - 1 cells apart. Assumes nothing.
use Rattle.std.specs.Prelude.{◌≡◌, true, false, ◌⊎◌, ℕ, suc, ◌+◌, ◌-◌, ◌*◌, ◌/◌, ◌^◌, ◌≤◌, ◌<◌, min, Float}
use Rattle.std.proofs.Common.{sym, subst, inl, inr, le_refl, le_trans, le_of_eq, le_of_lt, add-sub_of_le, mul_assoc, mul_right_comm, mul-le-mul_left, mul-le-mul_right, mul-lt-mul_of_pos_right, le_of_mul-le-mul_right, lt_of_mul-lt-mul_right, le-div_iff_mul-le, div-lt_iff_lt-mul, arith, lit≤, pow_pos}
use Rattle.std.specs.Float.{nan, inf, fin, binary64}
use Rattle.std.specs.Float.Ieee.{up, down, sub, mul, to_unsigned}
use Rattle.std.specs.Float.Ieee.Fits.{down_pos}
use Rattle.rules.specs.GridAndNearest.{index_along}
use Rattle.rules.specs.HandedOver.{IsF64}
use Rattle.plate_laws.specs.FiniteDistances.{OnPlate}
use Rattle.rounding_errors.specs.NearFraction.{Most, most_cancel, Near}
use Rattle.rounding_errors.specs.Units.{At}
use Rattle.rounding_errors.specs.Order.{InOrder, under_at}
use Rattle.rounding_errors.specs.Sums.{sub_up}
use Rattle.rounding_errors.specs.Coords.{Coord, coord_of}
use Rattle.rounding_errors.specs.Cells.{origin_below}
use Rattle.rounding_errors.specs.BoxGrid.{Axis}
use Rattle.near.specs.Ratios.{most_up, most_trans, most_mul, most_by, most_40, most_half, at_num}
use Rattle.near.specs.Products.{mul_up, Mag}
use Rattle.near.specs.Differences.{gap, difference}

-- ---- the whole part of a number that is not negative, of p units

floor_at : (x : Float) (p : ℕ) → At binary64 x p 0 →
    (to_unsigned 32 x * 2 ^ 1074 ≤ p) × (to_unsigned 32 x < 2 ^ 32 - 1 → p < suc (to_unsigned 32 x) * 2 ^ 1074)
unfolding to_unsigned
floor_at nan p h = absurd h.0
floor_at (inf s) p h = absurd h.0
floor_at (fin true m e) p h = (no_le (2 ^ 1074), λ g. one (2 ^ 1074) (pow_pos 1074) (none (m * up e) (2 ^ 1074) (down e) (down_pos e) h.1))
  where
    no_le : (l : ℕ) → 0 * l ≤ p
    no_le l = omega arith

    one : (l : ℕ) → 0 < l → p ≡ 0 → p < 1 * l
    one l h e = omega arith

    none : (X l a : ℕ) → 0 < a → 0 * l + 0 * a ≡ X * l + p * a → p ≡ 0
    none X l a A h = let z : p ≤ 0 = le_of_mul-le-mul_right (omega arith) A in omega arith
floor_at (fin false m e) p h =
    let L = 2 ^ 1074 in
    let c = m * up e / down e in
    let x : m * up e * L ≡ p * down e = at_num (fin false m e) p h in
    let lo : c * down e ≤ m * up e = (le-div_iff_mul-le (down_pos e)).0 (le_refl c) in
    let hi : m * up e < suc c * down e = (div-lt_iff_lt-mul (down_pos e)).0 (le_refl (suc c)) in
    let A : c * L ≤ p = le_of_mul-le-mul_right (first (m * up e) (down e) L c (mul-le-mul_right L lo) x) (down_pos e) in
    let B : p < suc c * L = lt_of_mul-lt-mul_right (down e) (second (m * up e) (down e) L c (mul-lt-mul_of_pos_right hi (pow_pos 1074)) x) in
    (le_trans (mul-le-mul_right L (least c (2 ^ 32 - 1))) A, λ g. subst (λ (i : ℕ). p < suc i * L) (sym (exact c (2 ^ 32 - 1) g)) B)
  where
    first : (X a l c : ℕ) → c * a * l ≤ X * l → X * l ≡ p * a → c * l * a ≤ p * a
    first X a l c h e = omega arith

    second : (X a l c : ℕ) → X * l < suc c * a * l → X * l ≡ p * a → p * a < suc c * l * a
    second X a l c h e = omega arith

    least : (c t : ℕ) → min c t ≤ c
    least c t = omega arith

    exact : (c t : ℕ) → min c t < t → min c t ≡ c
    exact c t h = omega arith

-- ---- three roundings: X is A rounded, I * S nearly L * L, and U is X * I / L rounded. So U cells are nearly A.

chain_over : (L S I A X U : ℕ) → 0 < L → Most (2 ^ 53) 1 (U * L) (X * I) → Most (2 ^ 53) 1 X A → Most (2 ^ 53) 1 (I * S) (L * L) →
    Most (2 ^ 53) 5 (U * S) (A * L)
chain_over L S I A X U l h g k =
    let u : Most (2 ^ 53) 1 (U * L * S) (X * (I * S)) =
    subst (λ (z : ℕ). Most (2 ^ 53) 1 (U * L * S) z) (mul_assoc X I S) (most_by (2 ^ 53) 1 (U * L) (X * I) S h) in
    let v : Most (2 ^ 53) 3 (X * (I * S)) (A * (L * L)) = most_mul (2 ^ 53) 1 1 X A (I * S) (L * L) (lit≤ tt) (lit≤ tt) g k in
    let w : Most (2 ^ 53) 5 (U * L * S) (A * (L * L)) = most_trans (2 ^ 53) 1 3 (U * L * S) (X * (I * S)) (A * (L * L)) (lit≤ tt) (lit≤ tt) u v in
    most_cancel (2 ^ 53) 5 (U * S) (A * L) L l
    (subst (λ (z : ℕ). Most (2 ^ 53) 5 z (A * L * L)) (mul_right_comm U L S) (subst (λ (z : ℕ). Most (2 ^ 53) 5 (U * L * S) z) (sym (mul_assoc A L L)) w))

chain_under : (L S I A X U : ℕ) → 0 < L → Most (2 ^ 53) 1 (X * I) (U * L) → Most (2 ^ 53) 1 A X → Most (2 ^ 53) 1 (L * L) (I * S) →
    Most (2 ^ 53) 5 (A * L) (U * S)
chain_under L S I A X U l h g k =
    let u : Most (2 ^ 53) 1 (X * (I * S)) (U * L * S) =
    subst (λ (z : ℕ). Most (2 ^ 53) 1 z (U * L * S)) (mul_assoc X I S) (most_by (2 ^ 53) 1 (X * I) (U * L) S h) in
    let v : Most (2 ^ 53) 3 (A * (L * L)) (X * (I * S)) = most_mul (2 ^ 53) 1 1 A X (L * L) (I * S) (lit≤ tt) (lit≤ tt) g k in
    let w : Most (2 ^ 53) 5 (A * (L * L)) (U * L * S) = most_trans (2 ^ 53) 3 1 (A * (L * L)) (X * (I * S)) (U * L * S) (lit≤ tt) (lit≤ tt) v u in
    most_cancel (2 ^ 53) 5 (A * L) (U * S) L l
    (subst (λ (z : ℕ). Most (2 ^ 53) 5 (A * L * L) z) (mul_right_comm U L S) (subst (λ (z : ℕ). Most (2 ^ 53) 5 z (U * L * S)) (sym (mul_assoc A L L)) w))

-- ---- a coordinate, q - k, that is not below the box's least one, p - n; the origin is a - b. It is A beyond the origin: half a cell at least.

at_least : (p n q k S a b A : ℕ) → p + k ≤ q + n → (a + n + S) * 2 ^ 26 ≤ (p + b) * 2 ^ 26 + S → k + a + A ≡ q + b → S ≤ A * 2
at_least p n q k S a b A u h e = omega arith

at_most : (L p n q k S a b A : ℕ) → n ≤ 1000000 * L → q ≤ 1000000 * L → S ≤ 40001 * L → (p + b) * 2 ^ 26 ≤ (a + n + S) * 2 ^ 26 + S →
    k + a + A ≡ q + b → A ≤ 2 ^ 22 * L
at_most L p n q k S a b A hn hq h_s h e = let z : b ≤ a + n + S * 2 = lem h in go z e
  where
    lem : (p + b) * 2 ^ 26 ≤ (a + n + S) * 2 ^ 26 + S → b ≤ a + n + S * 2
    lem h = omega arith

    go : b ≤ a + n + S * 2 → k + a + A ≡ q + b → A ≤ 2 ^ 22 * L
    go z e = omega arith

room : (L A : ℕ) → A ≤ 2 ^ 22 * L → A ≤ 2 ^ 100 * L
room L A h = le_trans h (mul-le-mul_right L (lit≤ tt))

-- X * I is in the normal range, and far below 2 ^ 100
normal : (L S I A X : ℕ) → S ≤ A * 2 → A ≤ X * 2 → L * L ≤ I * S * 2 → 2 ^ 60 ≤ L → 2 ^ 52 * L ≤ X * I
normal L S I A X h g k l = go (mul-le-mul_left I h) (mul-le-mul_left I g) k (mul-le-mul_right L l)
  where
    go : I * S ≤ I * (A * 2) → I * A ≤ I * (X * 2) → L * L ≤ I * S * 2 → 2 ^ 60 * L ≤ L * L → 2 ^ 52 * L ≤ X * I
    go a b c d = omega arith

small : (L S I A X : ℕ) → 0 < L → X ≤ A * 2 → A ≤ 2 ^ 22 * L → L ≤ 51 * S → I * S ≤ L * L * 2 → X * I ≤ 2 ^ 100 * (L * L)
small L S I A X l h g k m =
    le_trans (le_of_mul-le-mul_right (go (mul-le-mul_left (X * I) k) (mul-le-mul_left X m) (mul-le-mul_right (L * L) h) (mul-le-mul_right (L * L) g)) l)
    (mul-le-mul_right (L * L) (lit≤ tt))
  where
    go : X * I * L ≤ X * I * (51 * S) → X * (I * S) ≤ X * (L * L * 2) → X * (L * L) ≤ A * 2 * (L * L) → A * (L * L) ≤ 2 ^ 22 * L * (L * L) →
        X * I * L ≤ 2 ^ 40 * (L * L) * L
    go a b c d = omega arith

-- ---- columns: y's is r or more above x's

columns : (o i x y : Float) (C r U W : ℕ) → C ≤ 54 → 1 ≤ r → At binary64 (mul binary64 (sub binary64 x o) i) U 0 →
    At binary64 (mul binary64 (sub binary64 y o) i) W 0 → index_along o i C x + r ≤ index_along o i C y →
    (c : ℕ) × (c + r ≤ 53) × (U < suc c * 2 ^ 1074) × ((c + r) * 2 ^ 1074 ≤ W)
unfolding index_along
columns o i x y C r U W hC hr hx hy h =
    let fx = to_unsigned 32 (mul binary64 (sub binary64 x o) i) in
    let fy = to_unsigned 32 (mul binary64 (sub binary64 y o) i) in
    let a = floor_at (mul binary64 (sub binary64 x o) i) U hx in
    let b = floor_at (mul binary64 (sub binary64 y o) i) W hy in
    (fx, below fx fy C r hC hr h, a.1 (less fx fy C r hC hr h), le_trans (mul-le-mul_right (2 ^ 1074) (order fx fy C r hr h)) b.0)
  where
    below : (x y C r : ℕ) → C ≤ 54 → 1 ≤ r → min x (C - 1) + r ≤ min y (C - 1) → x + r ≤ 53
    below x y C r h k g = omega arith

    less : (x y C r : ℕ) → C ≤ 54 → 1 ≤ r → min x (C - 1) + r ≤ min y (C - 1) → x < 2 ^ 32 - 1
    less x y C r h k g = omega arith

    order : (x y C r : ℕ) → 1 ≤ r → min x (C - 1) + r ≤ min y (C - 1) → x + r ≤ y
    order x y C r k g = omega arith

-- ---- the distance along the axis: (r - 1) * S is at most d but for a 2 ^ 40th. K is 2 ^ 53.

apart_law : (K e f A d : ℕ) → 0 < K → 25 ≤ K → (e + f) * K ≤ (A + d) * (K + 5) → A * K ≤ e * (K + 5) → f * K ≤ 11 * e + d * (K + 5)
apart_law K e f A d k b h g = le_of_mul-le-mul_right (go (mul-le-mul_right K h) (mul-le-mul_right (K + 5) g) (mul-le-mul_left e b)) k
  where
    go : (e + f) * K * K ≤ (A + d) * (K + 5) * K → A * K * (K + 5) ≤ e * (K + 5) * (K + 5) → e * 25 ≤ e * K → f * K * K ≤ (11 * e + d * (K + 5)) * K
    go x y z = omega arith

apart_40 : (e f d : ℕ) → f * 2 ^ 53 ≤ 11 * e + d * (2 ^ 53 + 5) → e ≤ 52 * f → f * 2 ^ 40 ≤ d * (2 ^ 40 + 1)
apart_40 e f d h g = let z : f * 2 ^ 53 ≤ 572 * f + d * (2 ^ 53 + 5) = lem e f d h g in go f d z
  where
    lem : (e f d : ℕ) → f * 2 ^ 53 ≤ 11 * e + d * (2 ^ 53 + 5) → e ≤ 52 * f → f * 2 ^ 53 ≤ 572 * f + d * (2 ^ 53 + 5)
    lem e f d h g = omega arith

    go : (f d : ℕ) → f * 2 ^ 53 ≤ 572 * f + d * (2 ^ 53 + 5) → f * 2 ^ 40 ≤ d * (2 ^ 40 + 1)
    go f d h = omega arith

-- c is x's column, q is r - 1; x is A beyond the origin, y is A + d
apart : (L S c q A d U W : ℕ) → 0 < L → 1 ≤ q → c + suc q ≤ 53 → U < suc c * L → (c + suc q) * L ≤ W → Most (2 ^ 53) 5 (A * L) (U * S) →
    Most (2 ^ 53) 5 (W * S) ((A + d) * L) → Most (2 ^ 40) 1 (q * S) d
apart L S c q A d U W l Q C u v h g =
    let x : Most (2 ^ 53) 5 A (suc c * S) =
    most_cancel (2 ^ 53) 5 A (suc c * S) L l (most_up (2 ^ 53) 5 (A * L) (U * S) (suc c * S * L) (le_trans (mul-le-mul_right S (le_of_lt u)) (le_of_eq (mul_right_comm (suc c) L S))) h) in
    let y : Most (2 ^ 53) 5 ((c + suc q) * S) (A + d) =
    most_cancel (2 ^ 53) 5 ((c + suc q) * S) (A + d) L l
    (le_trans (mul-le-mul_right (2 ^ 53) (le_trans (le_of_eq (mul_right_comm (c + suc q) S L)) (mul-le-mul_right S v))) g) in
    apart_40 (suc c * S) (q * S) d
    (apart_law (2 ^ 53) (suc c * S) (q * S) A d (lit≤ tt) (lit≤ tt) (subst (λ (i : ℕ). i * 2 ^ 53 ≤ (A + d) * (2 ^ 53 + 5)) (split c q S) y) x)
    (le_trans (mul-le-mul_right S (few c q C Q)) (le_of_eq (mul_assoc 52 q S)))
  where
    split : (c q S : ℕ) → (c + suc q) * S ≡ suc c * S + q * S
    split c q S = omega arith

    few : (c q : ℕ) → c + suc q ≤ 53 → 1 ≤ q → suc c ≤ 52 * q
    few c q h g = omega arith

-- ---- two coordinates on one axis

pub one_less : (r : ℕ) → 2 ≤ r → 1 ≤ r - 1
one_less r h = omega arith

-- cells c and d are r or more apart
abbrev pub CellsApart : ℕ → ℕ → ℕ → Type 0
CellsApart r c d = (c + r ≤ d) ⊎ (d + r ≤ c)

-- a coordinate of the plate, not below the least one, lo
pub record OnAxis (lo x : Float) : Type 0 where
  pub f64 : IsF64 x
  pub on_plate : OnPlate x
  pub least : InOrder lo x

-- x is p - n; A is its exact distance from the origin, a - b, and U the quotient that its cell is the whole part of
record AxisPlace (x o i : Float) (S a b : ℕ) : Type 0 where
  p : ℕ
  n : ℕ
  A : ℕ
  U : ℕ
  coord : Coord x p n
  exact : n + a + A ≡ p + b
  at : At binary64 (mul binary64 (sub binary64 x o) i) U 0
  over : Most (2 ^ 53) 5 (U * S) (A * 2 ^ 1074)
  under : Most (2 ^ 53) 5 (A * 2 ^ 1074) (U * S)

-- the rounded difference of two coordinates whose cells are r apart: r - 1 cells are at most that but for three 2 ^ 40ths
pub record FarAlong (z : Float) (S r : ℕ) : Type 0 where
  pub D : ℕ
  pub mag : Mag z D
  pub far : Most (2 ^ 40) 3 ((r - 1) * S) D
  pub rings : r ≤ 53

module _ (lo hi o i : Float) (S I C : ℕ) (g : Axis lo hi o S C) (inverse : At binary64 i I 0) (near : Near binary64 (I * S) (2 ^ 1074 * 2 ^ 1074))
    (size_least : 2 ^ 1074 ≤ 51 * S) (size_most : S ≤ 40001 * 2 ^ 1074) where
  placed : (x : Float) → OnAxis lo x → AxisPlace x o i S g.a g.b
  placed x h =
      let L = 2 ^ 1074 in
      let c = coord_of x h.f64 h.on_plate in
      let q = c.0 in
      let k = c.1 in
      let a = g.a in
      let b = g.b in
      let w = g.origin in
      let u = under_at binary64 lo x g.p g.n q k g.least.at c.2.at h.least in
      let A = q + b - (k + a) in
      let e : k + a + A ≡ q + b = add-sub_of_le (origin_below g.p g.n q k S a b (omega (arith, u)) w.over) in
      let SA = at_least g.p g.n q k S a b A u w.over e in
      let AL = at_most L g.p g.n q k S a b A g.least.minus c.2.plus size_most w.under e in
      let X = sub_up binary64 x o q k a b A c.2.at w.at e (room L A AL) in
      let AX = most_half A X.0 X.2.under in
      let XA = most_half X.0 A X.2.over in
      let LI = most_half (L * L) (I * S) near.under in
      let IL = most_half (I * S) (L * L) near.over in
      let U = mul_up (sub binary64 x o) i X.0 I X.1 inverse (normal L S I A X.0 SA AX LI (lit≤ tt))
      (small L S I A X.0 (pow_pos 1074) XA AL size_least IL) in
      record {
        p = q;
        n = k;
        A = A;
        U = U.0;
        coord = c.2;
        exact = e;
        at = U.1;
        over = chain_over L S I A X.0 U.0 (pow_pos 1074) U.2.over X.2.over near.over;
        under = chain_under L S I A X.0 U.0 (pow_pos 1074) U.2.under X.2.under near.under;
      }

  -- y's cell is r above x's, and t is at least what y is beyond x
  one_way : (x y : Float) (X : AxisPlace x o i S g.a g.b) (Y : AxisPlace y o i S g.a g.b) (r t : ℕ) → 2 ≤ r →
      index_along o i C x + r ≤ index_along o i C y → Y.A - X.A ≤ t → Most (2 ^ 40) 1 ((r - 1) * S) t × (r ≤ 53)
  one_way x y X Y r t hr h le =
      let L = 2 ^ 1074 in
      let c = columns o i x y C r X.U Y.U g.cells_most (le_trans (lit≤ tt) hr) X.at Y.at h in
      let e : r ≡ suc (r - 1) = pred r hr in
      let A = X.A in
      let B = Y.A in (
        most_up (2 ^ 40) 1 ((r - 1) * S) (B - A) t le
            (apart L S c.0 (r - 1) A (B - A) X.U Y.U (pow_pos 1074) (one_less r hr) (subst (λ (j : ℕ). c.0 + j ≤ 53) e c.1) c.2
            (subst (λ (j : ℕ). (c.0 + j) * L ≤ Y.U) e c.3) X.under
            (most_up (2 ^ 53) 5 (Y.U * S) (B * L) ((A + (B - A)) * L) (mul-le-mul_right L (more A B)) Y.over)),
        few c.0 r c.1,
      )
    where
      pred : (r : ℕ) → 2 ≤ r → r ≡ suc (r - 1)
      pred r h = omega arith

      more : (A B : ℕ) → B ≤ A + (B - A)
      more A B = omega arith

      few : (c r : ℕ) → c + r ≤ 53 → r ≤ 53
      few c r h = omega arith

  pub far_along : (x y : Float) → OnAxis lo x → OnAxis lo y → (r : ℕ) → 2 ≤ r → CellsApart r (index_along o i C x) (index_along o i C y) →
      FarAlong (sub binary64 x y) S r
  far_along x y hx hy r hr h =
      let X = placed x hx in
      let Y = placed y hy in
      let d = difference x y X.p X.n Y.p Y.n X.coord Y.coord in
      let t = gap (X.p + Y.n) (X.n + Y.p) in
      let z = within X.p X.n Y.p Y.n g.a g.b X.A Y.A X.exact Y.exact in
      let w : Most (2 ^ 40) 1 ((r - 1) * S) t × (r ≤ 53) =
      elim h [ inl l ↦ one_way x y X Y r t hr l z.1 | inr l ↦ one_way y x Y X r t hr l z.0 ] in
      record {
        D = d.D;
        mag = d.mag;
        far = most_trans (2 ^ 40) 1 1 ((r - 1) * S) t d.D (lit≤ tt) (lit≤ tt) w.0 (most_40 1 t d.D (lit≤ tt) d.near);
        rings = w.1;
      }
    where
      within : (p n q k a b A B : ℕ) → n + a + A ≡ p + b → k + a + B ≡ q + b → (A - B ≤ gap (p + k) (n + q)) × (B - A ≤ gap (p + k) (n + q))
      within p n q k a b A B e f = (omega arith, omega arith)
