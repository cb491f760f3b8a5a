-- What is read off a packed contour in its sense is the contour; so of all that an order has. Assumes nothing.
use Rattle.std.specs.Prelude.{◌≡◌, Bool, true, false, List, ℕ, ◌+◌, ◌*◌, ◌/◌, ◌<◌, eqb}
use Rattle.std.proofs.Common.{refl, arith}
use Rattle.rules.specs.Tools.{pick}
use Rattle.rules.specs.Limits.{most_contours, most_points}
use Rattle.rules.specs.HandedOver.{Plate}
use Rattle.rules.specs.Start.{Oriented}
use Rattle.rules.specs.OrderAndStraight.{order}
use Rattle.plate_laws.specs.Lists.{All, all_give}
use Rattle.plate_laws.specs.AcceptedInput.{Accepted}
use Rattle.plate_laws.specs.OrderTotals.{order_has}
use Rattle.packed_contours.specs.PackedNumbers.{number_unit, sense_unit, packed, packed_sense, number_in, first_in, InLengths}
use Rattle.packed_contours.specs.Contours.{all_placed}

-- 1 if it is reversed, else 0
abbrev pub sense_in : ℕ → ℕ
sense_in word = word / sense_unit

-- whether it is
abbrev pub reversed_in : ℕ → Bool
reversed_in word = eqb (sense_in word) 1

-- a number, a first vertex and a sense are those of a word
pub record UnpackedFrom (word n v : ℕ) (b : Bool) : Type 0 where
  pub number : n ≡ number_in word
  pub first : v ≡ first_in word
  pub reversed : b ≡ reversed_in word

pub sense_is : (b : Bool) → eqb (pick b 1 0) 1 ≡ b
unfolding pick
sense_is true = refl
sense_is false = refl

pub record Unpacked (ns : List ℕ) (s : Oriented) : Type 0 where
  pub placed : InLengths ns s.contour
  pub number : number_in (packed_sense s) ≡ s.contour.number
  pub first : first_in (packed_sense s) ≡ s.contour.first
  pub sense : sense_in (packed_sense s) ≡ pick s.reversed 1 0

-- in either sense
either : (b : Bool) (n v : ℕ) → n < most_contours → v < most_points →
    let word = n * number_unit + v + pick b sense_unit 0 in
    (number_in word ≡ n) × (first_in word ≡ v) × (sense_in word ≡ pick b 1 0)
unfolding pick
either true n v h l = omega arith
either false n v h l = omega arith

unpacked : (ns : List ℕ) (s : Oriented) → InLengths ns s.contour → Unpacked ns s
unfolding packed_sense packed
unpacked ns s h =
    let e = either s.reversed s.contour.number s.contour.first h.few (omega (arith, h.small)) in
    record { placed = h; number = e.0; first = e.1; sense = e.2 }

pub order_unpacked : (p : Plate) → Accepted p.points p.lengths → All (Unpacked p.lengths) (order p)
order_unpacked p a = all_give _ _ (unpacked p.lengths) (order p) (order_has (InLengths p.lengths) p (all_placed p a))
