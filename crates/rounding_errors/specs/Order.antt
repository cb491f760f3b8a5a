-- The order of finite floats, as one of fractions and of numbers of units. Assumes nothing.
use Rattle.std.specs.Prelude.{◌≡◌, Bool, false, not, ◌&&◌, ◌||◌, ℕ, ◌+◌, ◌*◌, ◌^◌, ◌≤◌, ltb, eqb, Float}
use Rattle.std.proofs.Common.{ap, inl, inr, mul-pos, mul-le-mul_right, le_of_mul-le-mul_right, arith, ltb→lt, nltb→le, eqb→eq}
use Rattle.std.proofs.Math.Bool.{true}
use Rattle.std.proofs.Math.Dec.{T}
use Rattle.std.specs.Float.{nan, inf, fin, Format}
use Rattle.std.specs.Float.Ieee.{low, up, down, below, level, lt, eq, le}
use Rattle.std.specs.Float.Ieee.Fits.{eq→eqb, and_i}
use Rattle.std.specs.Float.Ieee.Positive.{den, den_pos}
use Rattle.std.specs.Float.Ieee.Scale.{finite}
use Rattle.std.proofs.Math.Facts.{and_yes, or_yes}
use Rattle.rules.specs.Tools.{pick, lesser, greater}
use Rattle.plate_laws.specs.FloatOrder.{le_cross}
use Rattle.rounding_errors.specs.Units.{plus_part, minus_part, num_plus, num_minus, At}

-- x is at most y
pub record InOrder (x y : Float) : Type 0 where
  pub first : T (finite x)
  pub second : T (finite y)
  pub cross : num_plus x * den y + num_minus y * den x ≤ num_plus y * den x + num_minus x * den y

-- ---- what the tests of a comparison say of ±a / c and ±b / d

-- their order, over the common denominator
abbrev Cross : Bool → ℕ → ℕ → Bool → ℕ → ℕ → Type 0
Cross s a c t b d = plus_part s a * d + minus_part t b * c ≤ plus_part t b * c + minus_part s a * d

le_tested : (s : Bool) (a c : ℕ) (t : Bool) (b d : ℕ) → T (below s (a * d) t (b * c) || level s (a * d) t (b * c)) → Cross s a c t b d
le_tested false a c false b d h = omega (arith, le_cross (a * d) (b * c) h)
le_tested false a c true b d h =
    let w = and_yes (eqb (a * d) (b * c)) (eqb (a * d) 0) h in
    omega (arith, eqb→eq (a * d) (b * c) w.0, eqb→eq (a * d) 0 w.1)
le_tested true a c false b d h = omega arith
le_tested true a c true b d h =
    elim (or_yes (ltb (b * c) (a * d)) (eqb (a * d) (b * c) && true) h) [
      | inl l ↦ omega (arith, ltb→lt (b * c) (a * d) l)
      | inr e ↦ omega (arith, eqb→eq (a * d) (b * c) (and_yes (eqb (a * d) (b * c)) true e).0)
    ]

not_lt_tested : (s : Bool) (a c : ℕ) (t : Bool) (b d : ℕ) → T (not (below s (a * d) t (b * c))) → Cross t b d s a c
not_lt_tested false a c false b d h = omega (arith, nltb→le (a * d) (b * c) h)
not_lt_tested false a c true b d h = omega arith
not_lt_tested true a c false b d h = omega (arith, nltb→le 0 (a * d + b * c) h)
not_lt_tested true a c true b d h = omega (arith, nltb→le (b * c) (a * d) h)

-- and back: one test or the other passes
either : (a b : Bool) → (T (not a) → T b) → T (a || b)
either true b h = tt
either false b h = h tt

equal : (a b : ℕ) → a ≡ b → T (eqb a b && true)
equal a b e = and_i (eqb a b) true (eq→eqb e) tt

both_zero : (a b : ℕ) → a + b ≤ 0 → T (eqb a b && eqb a 0)
both_zero a b h = let x : a ≡ b = omega arith in let y : a ≡ 0 = omega arith in and_i (eqb a b) (eqb a 0) (eq→eqb x) (eq→eqb y)

le_passes : (s : Bool) (a c : ℕ) (t : Bool) (b d : ℕ) → Cross s a c t b d → T (below s (a * d) t (b * c) || level s (a * d) t (b * c))
le_passes false a c false b d h = either (ltb (a * d) (b * c)) _ (λ t. equal (a * d) (b * c) (omega (arith, nltb→le (a * d) (b * c) t)))
le_passes false a c true b d h = both_zero (a * d) (b * c) (omega arith)
le_passes true a c false b d h = either (ltb 0 (a * d + b * c)) _ (λ t. both_zero (a * d) (b * c) (nltb→le 0 (a * d + b * c) t))
le_passes true a c true b d h = either (ltb (b * c) (a * d)) _ (λ t. equal (a * d) (b * c) (omega (arith, nltb→le (b * c) (a * d) t)))

-- ---- the comparisons

pub le_under : (x y : Float) → T (finite x) → T (finite y) → T (le x y) → InOrder x y
unfolding le lt eq
le_under nan y fx fy h = absurd fx
le_under (inf s) y fx fy h = absurd fx
le_under (fin s m e) nan fx fy h = absurd fy
le_under (fin s m e) (inf t) fx fy h = absurd fy
le_under (fin s m e) (fin t n d) fx fy h = record { first = tt; second = tt; cross = le_tested s (m * up e) (down e) t (n * up d) (down d) h }

pub under_le : (x y : Float) → InOrder x y → T (le x y)
unfolding le lt eq
under_le nan y u = absurd u.first
under_le (inf s) y u = absurd u.first
under_le (fin s m e) nan u = absurd u.second
under_le (fin s m e) (inf t) u = absurd u.second
under_le (fin s m e) (fin t n d) u = le_passes s (m * up e) (down e) t (n * up d) (down d) u.cross

pub not_lt_under : (x y : Float) → T (finite x) → T (finite y) → T (not (lt x y)) → InOrder y x
unfolding lt
not_lt_under nan y fx fy h = absurd fx
not_lt_under (inf s) y fx fy h = absurd fx
not_lt_under (fin s m e) nan fx fy h = absurd fy
not_lt_under (fin s m e) (inf t) fx fy h = absurd fy
not_lt_under (fin s m e) (fin t n d) fx fy h = record { first = tt; second = tt; cross = not_lt_tested s (m * up e) (down e) t (n * up d) (down d) h }

pub lt_under : (x y : Float) → T (finite x) → T (finite y) → T (lt x y) → InOrder x y
lt_under x y fx fy h = le_under x y fx fy (unfold le in or_first (lt x y) (eq x y) h)
  where
    or_first : (a b : Bool) → T a → T (a || b)
    or_first false b t = elim t [ ]
    or_first true b t = tt

-- ---- an order

pub under_refl : (x : Float) → T (finite x) → InOrder x x
under_refl x f = record { first = f; second = f; cross = omega arith }

pub under_trans : (x y z : Float) → InOrder x y → InOrder y z → InOrder x z
under_trans x y z u v =
    record {
      first = u.first;
      second = v.second;
      cross = le_of_mul-le-mul_right
          (go (num_plus x) (num_minus x) (den x) (num_plus y) (num_minus y) (den y) (num_plus z) (num_minus z) (den z)
          (mul-le-mul_right (den z) u.cross) (mul-le-mul_right (den x) v.cross))
          (den_pos y);
    }
  where
    go : (a b c i j k p q r : ℕ) → (a * k + j * c) * r ≤ (i * c + b * k) * r → (i * r + q * k) * c ≤ (p * k + j * r) * c →
        (a * r + q * c) * k ≤ (p * c + b * r) * k
    go a b c i j k p q r h g = omega arith

-- ---- in units

pub under_at : (f : Format) (x y : Float) (p n q k : ℕ) → At f x p n → At f y q k → InOrder x y → p + k ≤ q + n
under_at f x y p n q k a b u =
    le_of_mul-le-mul_right
    (go (num_plus x) (num_minus x) (den x) (num_plus y) (num_minus y) (den y) (2 ^ low f)
    (mul-le-mul_right (2 ^ low f) u.cross) (ap (λ (i : ℕ). i * den y) a.1) (ap (λ (i : ℕ). i * den x) b.1))
    (mul-pos (den_pos x) (den_pos y))
  where
    go : (a b c i j d l : ℕ) → (a * d + j * c) * l ≤ (i * c + b * d) * l →
        (a * l + n * c) * d ≡ (b * l + p * c) * d → (i * l + k * d) * c ≡ (j * l + q * d) * c →
        (p + k) * (c * d) ≤ (q + n) * (c * d)
    go a b c i j d l h u v = omega arith

-- ---- the lesser and the greater of two

pub lesser_first : (x y : Float) → T (finite x) → T (finite y) → InOrder (lesser x y) x
unfolding lesser pick
lesser_first x y fx fy = go (lt y x) (lt_under y x fy fx)
  where
    go : (t : Bool) → (T t → InOrder y x) → InOrder (pick t y x) x
    go true h = h tt
    go false h = under_refl x fx

pub greater_first : (x y : Float) → T (finite x) → T (finite y) → InOrder x (greater x y)
unfolding greater pick
greater_first x y fx fy = go (lt x y) (lt_under x y fx fy)
  where
    go : (t : Bool) → (T t → InOrder x y) → InOrder x (pick t y x)
    go true h = h tt
    go false h = under_refl x fx
