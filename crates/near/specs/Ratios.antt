-- Comparisons of floats and of numbers of units by `Ratio`, and what gives `NearlyAtMost`. Assumes nothing.
use Rattle.std.specs.Prelude.{◌≡◌, true, false, not, ℕ, ◌+◌, ◌*◌, ◌^◌, ◌≤◌, ◌<◌, T, Float}
use Rattle.std.proofs.Common.{sym, ap, le_trans, le_of_lt, mul-le-mul, mul-le-mul_left, mul-le-mul_right, mul_right_comm, le_of_eq, le_of_mul-le-mul_right, arith, ltb→lt, nltb→le, pow_pos}
use Rattle.std.specs.Float.{nan, inf, fin, binary64}
use Rattle.std.specs.Float.Ieee.{up, down, lt}
use Rattle.std.specs.Float.Ieee.Positive.{num, den, den_pos}
use Rattle.std.specs.Float.Ieee.Scale.{finite}
use Rattle.plate_laws.specs.FloatOrder.{Plus}
use Rattle.rounding_errors.specs.NearFraction.{Most}
use Rattle.rounding_errors.specs.Units.{At}
use Rattle.statement.specs.HowNear.{Slack, NearlyAtMost}

-- ---- factors 1 + i / K: `Most K i a b` says that a ≤ b * (1 + i / K)

pub most_weak : (K i j a b : ℕ) → i ≤ j → Most K i a b → Most K j a b
most_weak K i j a b h m = omega (arith, mul-le-mul_left b h)

pub most_up : (K i a b c : ℕ) → b ≤ c → Most K i a b → Most K i a c
most_up K i a b c h m = le_trans m (mul-le-mul_right (K + i) h)

-- one after another
pub most_trans : (K i j a b c : ℕ) → 0 < K → i * j ≤ K → Most K i a b → Most K j b c → Most K (i + j + 1) a c
most_trans K i j a b c k ij h g = le_of_mul-le-mul_right (omega (arith, mul-le-mul_right K h, mul-le-mul_right (K + i) g, mul-le-mul_left c ij)) k

-- a product of two
pub most_mul : (K i j a b c d : ℕ) → 0 < K → i * j ≤ K → Most K i a b → Most K j c d → Most K (i + j + 1) (a * c) (b * d)
most_mul K i j a b c d k ij h g = le_of_mul-le-mul_right (omega (arith, mul-le-mul h g, mul-le-mul_left (b * d) ij)) k

pub most_by : (K i a b c : ℕ) → Most K i a b → Most K i (a * c) (b * c)
most_by K i a b c h = le_trans (le_of_eq (mul_right_comm a c K)) (le_trans (mul-le-mul_right c h) (le_of_eq (mul_right_comm b (K + i) c)))

-- from 2 ^ 53 to numbers that are easier to work with
pub most_40 : (i a b : ℕ) → i ≤ 3 → Most (2 ^ 53) i a b → Most (2 ^ 40) i a b
most_40 i a b k h = omega (arith, mul-le-mul_left b k)

pub most_half : (a b : ℕ) → Most (2 ^ 53) 1 a b → a ≤ b * 2
most_half a b h = omega arith

-- ---- `Slack`, of whole numbers

slack_between : (x x' y y' : ℕ) → x' ≤ x → y ≤ y' → Slack x y → Slack x' y'
slack_between x x' y y' h g s = omega arith

slack_by : (x y c : ℕ) → Slack x y → Slack (x * c) (y * c)
slack_by x y c s = omega (arith, mul-le-mul_right c s)

slack_cancel : (x y c : ℕ) → 0 < c → Slack (x * c) (y * c) → Slack x y
slack_cancel x y c C s = le_of_mul-le-mul_right (omega arith) C

-- ---- and of the magnitudes of floats

abbrev pub Ratio : Float → Float → Type 0
Ratio d f = Slack (num d * den f) (num f * den d)

pub ratio_near : (d f : Float) → Plus d → Plus f → Ratio d f → NearlyAtMost d f
unfolding NearlyAtMost
ratio_near nan f hd hf r = elim hd [ ]
ratio_near (inf _) f hd hf r = elim hd [ ]
ratio_near (fin false m e) nan hd hf r = elim hf [ ]
ratio_near (fin false m e) (inf _) hd hf r = elim hf [ ]
ratio_near (fin false m e) (fin true n g) hd hf r = elim hf [ ]
ratio_near (fin true m e) f hd hf r = elim hd [ ]
ratio_near (fin false m e) (fin false n g) hd hf r = r

-- f is not below d
pub not_lt_near : (d f : Float) → Plus d → Plus f → T (not (lt f d)) → NearlyAtMost d f
unfolding NearlyAtMost lt
not_lt_near nan f hd hf t = elim hd [ ]
not_lt_near (inf _) f hd hf t = elim hd [ ]
not_lt_near (fin false m e) nan hd hf t = elim hf [ ]
not_lt_near (fin false m e) (inf _) hd hf t = elim hf [ ]
not_lt_near (fin false m e) (fin true n g) hd hf t = elim hf [ ]
not_lt_near (fin true m e) f hd hf t = elim hd [ ]
not_lt_near (fin false m e) (fin false n g) hd hf t = omega (arith, nltb→le (n * up g * down e) (m * up e * down g) t)

-- d is below b, and the ratio holds of b
lt_num : (d b : Float) → Plus d → T (finite b) → T (lt d b) → num d * den b ≤ num b * den d
unfolding lt
lt_num nan b hd hb t = elim hd [ ]
lt_num (inf _) b hd hb t = elim hd [ ]
lt_num (fin false m e) nan hd hb t = elim hb [ ]
lt_num (fin false m e) (inf _) hd hb t = elim hb [ ]
lt_num (fin false m e) (fin true n g) hd hb t = elim t [ ]
lt_num (fin true m e) b hd hb t = elim hd [ ]
lt_num (fin false m e) (fin false n g) hd hb t = le_of_lt (ltb→lt (m * up e * down g) (n * up g * down e) t)

pub lt_ratio : (d b f : Float) → Plus d → T (finite b) → T (lt d b) → Ratio b f → Ratio d f
lt_ratio d b f hd hb t r =
    slack_cancel (num d * den f) (num f * den d) (den b) (den_pos b)
    (slack_between (num b * den f * den d) (num d * den f * den b) (num f * den b * den d) (num f * den d * den b)
    (left (num d) (den d) (num b) (den b) (den f) (mul-le-mul_right (den f) (lt_num d b hd hb t))) (le_of_eq (mul_right_comm (num f) (den b) (den d)))
    (slack_by (num b * den f) (num f * den b) (den d) r))
  where
    left : (x a y b c : ℕ) → x * b * c ≤ y * a * c → x * c * b ≤ y * c * a
    left x a y b c h = omega arith

-- ---- by units of 2 ^ -1074

pub at_num : (x : Float) (p : ℕ) → At binary64 x p 0 → num x * 2 ^ 1074 ≡ p * den x
at_num nan p h = absurd h.0
at_num (inf s) p h = absurd h.0
at_num (fin true m e) p h = go (m * up e * 2 ^ 1074) (2 ^ 1074) (p * down e) (down e) h.1
  where
    go : (x l y d : ℕ) → 0 * l + 0 * d ≡ x + y → x ≡ y
    go x l y d e = omega arith
at_num (fin false m e) p h = go (m * up e * 2 ^ 1074) (2 ^ 1074) (p * down e) (down e) h.1
  where
    go : (x l y d : ℕ) → x + 0 * d ≡ 0 * l + y → x ≡ y
    go x l y d e = omega arith

pub units_ratio : (d f : Float) (D F : ℕ) → At binary64 d D 0 → At binary64 f F 0 → Slack D F → Ratio d f
units_ratio d f D F hd hf s =
    let L = 2 ^ 1074 in
    let a = den d in
    let b = den f in
    slack_cancel (num d * b) (num f * a) L (pow_pos 1074)
    (slack_between (D * (a * b)) (num d * b * L) (F * (a * b)) (num f * a * L) (le_of_eq (one (num d) D a b L (at_num d D hd)))
    (le_of_eq (sym (two (num f) F a b L (at_num f F hf)))) (slack_by D F (a * b) s))
  where
    one : (x D a b l : ℕ) → x * l ≡ D * a → x * b * l ≡ D * (a * b)
    one x D a b l e = omega (arith, ap (λ (i : ℕ). i * b) e)

    two : (x F a b l : ℕ) → x * l ≡ F * b → x * a * l ≡ F * (a * b)
    two x F a b l e = omega (arith, ap (λ (i : ℕ). i * a) e)
