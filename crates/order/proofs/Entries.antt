-- What the packed contours of an order say is its entries. Assumes nothing.
use mathlib.Core.Path.{◌≡◌, refl, sym, ap, ◌∙◌}
use mathlib.Core.List.{List, [], ◌∷◌, map}
use Prim.Native.Nat.{ℕ, ◌*◌, ◌≤◌, min}
use native.Mathlib.Omega.{arith}
use lib.ListN.{length, take, length-map}
use lib.Seq.{take-take}
use Rattle.rules.specs.Limits.{most_contours}
use Rattle.rules.specs.HandedOver.{Plate}
use Rattle.rules.specs.Start.{Oriented}
use Rattle.rules.specs.OrderAndStraight.{order, entries}
use Rattle.plate_laws.specs.Lists.{All}
use Rattle.plate_laws.specs.AcceptedInput.{Accepted, Layered}
use Rattle.plate_laws.specs.Start.{layered_part}
use Rattle.plate_laws.specs.OrderTotals.{order_few}
use Rattle.slices.specs.Over.{take_min}
use Rattle.slices.specs.Pairs.{pairs, pairs_take}
use Rattle.packed_contours.specs.PackedNumbers.{packed_sense, number_in}
use Rattle.packed_contours.specs.UnpackedNumbers.{sense_is, Unpacked, order_unpacked}
use Rattle.order.specs.Senses.{told_sense}

entries_packed : (ns : List ℕ) (ss : List Oriented) → All (Unpacked ns) ss → pairs number_in told_sense (map packed_sense ss) ≡ entries ss
unfolding pairs entries
entries_packed ns [] a = refl
entries_packed ns (s ∷ ss) a = rw (a.0.number, a.0.sense, sense_is s.reversed, entries_packed ns ss a.1)

pub entries_length : (ss : List Oriented) → length (entries ss) ≡ 2 * length ss
unfolding entries
entries_length [] = refl
entries_length (s ∷ ss) = omega (arith, entries_length ss)

-- what a work slice holds once the contours are ordered
pub record EntriesInOrder (p : Plate) (count : ℕ) (work : List ℕ) : Type 0 where
  pub accepted : Accepted p.points p.lengths
  pub layered : Layered (length p.lengths) p.layers
  pub counted : count ≡ length (order p)
  pub words : take count work ≡ map packed_sense (order p)

module _ {p : Plate} {count : ℕ} {work : List ℕ} (o : EntriesInOrder p count work) where
  pub count_few : count ≤ most_contours
  count_few = omega (arith, order_few p (layered_part p o.layered), o.counted, o.accepted.contours)

  -- the entries of as many words as have room
  pub entries_first : (n room : ℕ) → n ≡ min count room → pairs number_in told_sense (take n work) ≡ take (2 * room) (entries (order p))
  entries_first n room e =
      let h : n ≤ count = omega arith in
      let ws = map packed_sense (order p) in
      let f : n ≡ min (length ws) room = omega (arith, length-map (order p) packed_sense, o.counted) in
      ap (pairs number_in told_sense) (sym (take-take n count work h) ∙ ap (take n) o.words ∙ ap (λ (k : ℕ). take k ws) f ∙ take_min room ws)
      ∙ sym (pairs_take number_in told_sense room ws)
      ∙ ap (take (2 * room)) (entries_packed p.lengths (order p) (order_unpacked p o.accepted))
