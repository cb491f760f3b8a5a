-- The difference of two coordinates of a plate in units of 2 ^ -1074, with either sign. Assumes nothing.
use Rattle.std.specs.Prelude.{◌≡◌, true, false, ℕ, ◌+◌, ◌-◌, ◌*◌, ◌^◌, ◌≤◌, ◌<◌, Float}
use Rattle.std.proofs.Math.Decide.{dec_lt}
use Rattle.std.proofs.Common.{arith}
use Rattle.std.specs.Float.{nan, inf, fin, binary64}
use Rattle.std.specs.Float.Ieee.{up, down, sub}
use Rattle.rounding_errors.specs.NearFraction.{Most}
use Rattle.rounding_errors.specs.Units.{At}
use Rattle.rounding_errors.specs.Sums.{sub_up, sub_down}
use Rattle.rounding_errors.specs.Coords.{Coord}
use Rattle.near.specs.Ratios.{at_num}
use Rattle.near.specs.Products.{Mag}

-- one of the two differences is 0
abbrev pub gap : ℕ → ℕ → ℕ
gap a b = (a - b) + (b - a)

pub record Difference (z : Float) (p n q k : ℕ) : Type 0 where
  pub D : ℕ
  pub mag : Mag z D
  pub near : Most (2 ^ 53) 1 (gap (p + k) (n + q)) D

mag_plus : (x : Float) (D : ℕ) → At binary64 x D 0 → Mag x D
mag_plus x D h = record { fine = h.0; size = at_num x D h }

mag_minus : (x : Float) (D : ℕ) → At binary64 x 0 D → Mag x D
mag_minus nan D h = absurd h.0
mag_minus (inf s) D h = absurd h.0
mag_minus (fin true m e) D h = record { fine = h.0; size = go (m * up e * 2 ^ 1074) (2 ^ 1074) (D * down e) (down e) h.1 }
  where
    go : (x l y d : ℕ) → 0 * l + y ≡ x + 0 * d → x ≡ y
    go x l y d e = omega arith
mag_minus (fin false m e) D h = record { fine = h.0; size = go (m * up e * 2 ^ 1074) (2 ^ 1074) (D * down e) (down e) h.1 }
  where
    go : (x l y d : ℕ) → x + y ≡ 0 * l + 0 * d → x ≡ y
    go x l y d e = omega arith

room : (L a b n q : ℕ) → n ≤ 1000000 * L → q ≤ 1000000 * L → b ≤ n + q → b - a ≤ 2 ^ 100 * L
room L a b n q h g k = omega arith

pub difference : (x y : Float) (p n q k : ℕ) → Coord x p n → Coord y q k → Difference (sub binary64 x y) p n q k
difference x y p n q k cx cy = go (dec_lt (p + k) (n + q))
  where
    self : (a : ℕ) → a ≤ a
    self a = omega arith

    less : (a b : ℕ) → a < b → (a + (b - a) ≡ b) × (gap a b ≡ b - a)
    less a b h = (omega arith, omega arith)

    more : (a b : ℕ) → (a < b → ⊥) → (b + (a - b) ≡ a) × (gap a b ≡ a - b)
    more a b h = let g : b ≤ a = omega arith in (omega arith, omega arith)

    go : Dec (p + k < n + q) → Difference (sub binary64 x y) p n q k
    go (yes l) =
        let d = n + q - (p + k) in
        let e = less (p + k) (n + q) l in
        let r = sub_down binary64 x y p n q k d cx.at cy.at e.0 (room (2 ^ 1074) (p + k) (n + q) n q cx.minus cy.plus (self (n + q))) in
        record { D = r.0; mag = mag_minus (sub binary64 x y) r.0 r.1; near = rw e.1 r.2.under }
    go (no l) =
        let d = p + k - (n + q) in
        let e = more (p + k) (n + q) l in
        let r = sub_up binary64 x y p n q k d cx.at cy.at e.0 (room (2 ^ 1074) (n + q) (p + k) p k cx.plus cy.minus (self (p + k))) in
        record { D = r.0; mag = mag_plus (sub binary64 x y) r.0 r.1; near = rw e.1 r.2.under }
