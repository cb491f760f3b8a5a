-- The start's contour is among those listed.
use Rattle.std.proofs.Common.{◌≡◌, List, [], ◌++◌, ◌∷◌, map, ℕ, ◌+◌, ◌-◌, ◌<◌, length, get_or, take, drop, refl, sym, ap, ◌∙◌, arith, append-nil}
use Rattle.std.proofs.lemmas.List.{length-map}
use Rattle.rules.specs.HandedOver.{Contour, contours}
use Rattle.rules.specs.Contours.{Among}
use Rattle.plate_laws.specs.Start.{start_is}
use Rattle.start.specs.OrientedContours.{oriented_of}
use Rattle.contours.specs.ContourOf.{contour_of}
use Rattle.packed_contours.specs.PackedNumbers.{packed}
use Rattle.packed_contours.specs.Contours.{start_placed}
use Rattle.packed_contours.proofs.Words.{word_forward, word_in_sense}
use Rattle.optimize.proofs.Steps.{before_end, first_state}
use Rattle.optimize.proofs.put_first.Goals as goal

-- a contour among those listed is found
missed : (cs : List Contour) (c : Contour) (words : List ℕ) (word : ℕ) → words ≡ map packed cs → Among c cs → word ≡ packed c →
    ((j : ℕ) → j < length words → get_or words j 0 ≡ word → ⊥) → ⊥
missed cs c words word e m f g =
    let h = before_end c cs (length words) m (λ j h x. g j h (ap (λ (ws : List ℕ). get_or ws j 0) e ∙ x ∙ sym f)) in
    absurd (omega (arith, ap length e, length-map cs packed))

pub of-requires : goal.of-requires
unfolding oriented_of contour_of
of-requires c =
    let w = c.requires in
    let k = start_placed w.0 _ w.3 w.2 in
    record { few = k.few; small = omega (arith, k.small) }

pub returns-in-Some : goal.returns-in-Some
unfolding oriented_of contour_of
returns-in-Some c = λ p e b a.
    let work = c.args.work.now in
    let f = c.in-Some.ensures.found in
    let k = c.in-Some.k in
    let plain = c.of.ensures in
    let turned = c.of-in-Some.ensures in
    first_state [] a (e ∙ sym (append-nil (map packed (contours p)))) (ap length e ∙ length-map (contours p) packed) b (start_placed p _ a b)
    (omega (arith, f.0, ap length e, length-map (contours p) packed))
    (ap (λ (ws : List ℕ). get_or ws k 0) (sym e) ∙ f.1 ∙ word_forward _ plain.number plain.first plain.reversed c.into.ensures)
    (c.move_down.ensures
    ∙ ap (λ (z : ℕ). take 0 work ++ (z ∷ (take (k - 0) (drop 0 work) ++ drop (k + 1) work))) (word_in_sense _ turned.number turned.first turned.reversed c.into-in-Some.ensures))

pub returns-in_default : goal.returns-in_default
unfolding oriented_of contour_of
returns-in_default c =
    let plain = c.of.ensures in
    λ p e b a. absurd (missed (contours p) _ _ _ e (start_is p _ b) (word_forward _ plain.number plain.first plain.reversed c.into.ensures) (c.in_default.ensures.missing refl))
