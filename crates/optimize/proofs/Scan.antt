-- A packed contour read back, and the scan over the waiting contours, one at a time. Assumes nothing.
use mathlib.Core.Path.{◌≡◌, refl, sym, ap, ◌∙◌}
use mathlib.Core.List.{List, map}
use mathlib.Core.Option.{Option}
use Prim.Native.Nat.{ℕ, suc, ◌+◌, ◌<◌}
use native.Mathlib.Numerals.{add-one}
use native.Mathlib.Omega.{arith}
use lib.ListN.{length, get_or, drop, length-map}
use Rattle.std.proofs.lemmas.List.{get_or-map}
use lib.Seq.{drop-cons}
use Rattle.rules.specs.Tools.{foldl}
use Rattle.rules.specs.HandedOver.{Plate, Contour}
use Rattle.rules.specs.Start.{Oriented, layer_of}
use Rattle.rules.specs.OrderAndStraight.{nearer_sense, nearer_end}
use Rattle.rules.specs.declared.Point.{Point}
use Rattle.plate_laws.specs.Lists.{All, all-at}
use Rattle.plate_laws.specs.Layers.{leads_in}
use Rattle.contours.specs.ContourOf.{contour_of}
use Rattle.contours.specs.declared.ContourRange as code
use Rattle.packed_contours.specs.PackedNumbers.{packed, number_in, first_in, InLengths}

-- what stands where no contour does
abbrev pub blank : Contour
blank = record { number = 0; first = 0; last = 0 }

number_is : {ns : List ℕ} {c : Contour} → InLengths ns c → number_in (packed c) ≡ c.number
unfolding packed
number_is h = let a = h.few in let b = h.small in omega arith

first_is : {ns : List ℕ} {c : Contour} → InLengths ns c → first_in (packed c) ≡ c.first
unfolding packed
first_is h = let a = h.few in let b = h.small in omega arith

-- the word at place i of the waiting contours
module _ (ns : List ℕ) {words : List ℕ} (cs : List Contour) (e : words ≡ map packed cs) (a : All (InLengths ns) cs) {i : ℕ} (h : i < length words) where
  abbrev here : Contour
  here = get_or cs i blank

  pub word_in : i < length cs
  word_in = omega (arith, ap length e, length-map cs packed)

  pub word_is : get_or words i 0 ≡ packed here
  word_is = ap (λ (ws : List ℕ). get_or ws i 0) e ∙ get_or-map packed cs i blank 0 word_in

  pub word_placed : InLengths ns here
  word_placed = all-at (InLengths ns) blank cs a i word_in

  pub word_number : number_in (get_or words i 0) ≡ here.number
  word_number = ap number_in word_is ∙ number_is word_placed

  pub word_first : first_in (get_or words i 0) ≡ here.first
  word_first = ap first_in word_is ∙ first_is word_placed

  pub word_length : get_or ns (number_in (get_or words i 0)) 0 ≡ here.last + 1
  word_length = ap (λ (k : ℕ). get_or ns k 0) word_number ∙ word_placed.long

  pub word_contour : (r : code.ContourRange) → r.number ≡ number_in (get_or words i 0) → r.first.0 ≡ first_in (get_or words i 0) →
      r.last + 1 ≡ get_or ns (number_in (get_or words i 0)) 0 → contour_of r ≡ here
  unfolding contour_of
  word_contour r x y z =
      let l : r.last ≡ here.last = omega (arith, word_length) in
      rw (x ∙ word_number, y ∙ word_first, l) refl

-- ---- the scan

abbrev pub scanned : Plate → Point → Option Oriented → List Contour → Option Oriented
scanned p q b cs = foldl (leads_in (layer_of p) nearer_end) b (map (nearer_sense p q) cs)

pub scan_step : (p : Plate) (q : Point) (b c : Option Oriented) (cs : List Contour) (i : ℕ) → i < length cs →
    c ≡ leads_in (layer_of p) nearer_end b (nearer_sense p q (get_or cs i blank)) → scanned p q b (drop i cs) ≡ scanned p q c (drop (i + 1) cs)
scan_step p q b c cs i h e =
    ap (λ (xs : List Contour). scanned p q b xs) (drop-cons cs i blank h)
    ∙ ap (λ (x : Option Oriented). scanned p q x (drop (suc i) cs)) (sym e)
    ∙ ap (λ (k : ℕ). scanned p q c (drop k cs)) (sym (add-one i))
