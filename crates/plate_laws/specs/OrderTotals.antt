-- The order of a plate whose contours all take part has each of them once, so as many points as the plate. Assumes nothing.
use Rattle.std.specs.Prelude.{◌≡◌, refl, Bool, true, false, List, [], ◌∷◌, map, ℕ, zero, suc, ◌+◌, ◌≤◌, length}
use Rattle.std.proofs.Common.{sym, ap, ◌∙◌, subst, arith, length-append}
use Rattle.std.proofs.Math.Option.{Option, none, some}
use Rattle.std.specs.Float.Ieee.{le}
use Rattle.std.proofs.lemmas.List.{length-map}
use Rattle.rules.specs.Tools.{pick, sum, up_from, down_to, highest_layer, foremost}
use Rattle.rules.specs.HandedOver.{Plate, Contour, contours_from, contours, layer_at}
use Rattle.rules.specs.Start.{Oriented, oriented, ends, layer_of, start}
use Rattle.rules.specs.OrderAndStraight.{last_end, nearer_sense, nearer_end, contour_number, order_after, order_from, order_of, order, straight}
use Rattle.rules.specs.Contours.{contour_count, Among}
use Rattle.rules.specs.declared.Point.{Point}
use Rattle.plate_laws.specs.Lists.{All, all_without, length_up_from, length_down_to}
use Rattle.plate_laws.specs.Sums.{sum_ones}
use Rattle.plate_laws.specs.Layers.{foremost_empty, foremost_has, foremost_some}
use Rattle.plate_laws.specs.Contours.{all_among, among_all, Rising, others, rising_without, sum_others, length_others, contours_rise, sum_segments}
use Rattle.plate_laws.specs.Start.{AllTakePart, start_some, start_is}

-- ---- one step

pub nearer_contour : (p : Plate) (q : Point) (c : Contour) → (nearer_sense p q c).contour ≡ c
unfolding nearer_sense oriented pick
nearer_contour p q c = go (le (oriented p q false c).squared (oriented p q true c).squared)
  where
    go : (b : Bool) → (pick b (oriented p q false c) (oriented p q true c)).contour ≡ c
    go true = refl
    go false = refl

-- the next of the order is one of the contours that are left
pub all_nearer : (P : Contour → Type 0) (p : Plate) (q : Point) (cs : List Contour) → All P cs → All (λ s. P s.contour) (map (nearer_sense p q) cs)
all_nearer P p q [] a = tt
all_nearer P p q (c ∷ cs) a = (subst P (sym (nearer_contour p q c)) a.0, all_nearer P p q cs a.1)

-- the next of the order after s, where contours are left and take part
next : (p : Plate) (cs : List Contour) (s : Oriented) → All (λ c. layer_at p c ≤ highest_layer) cs → 1 ≤ length cs → (t : Oriented) × (foremost (layer_of p) nearer_end (map (nearer_sense p (last_end p s)) cs) ≡ some t)
unfolding layer_of
next p cs s a h =
    foremost_some (layer_of p) nearer_end (map (nearer_sense p (last_end p s)) cs) (omega (arith, length-map cs (nearer_sense p (last_end p s))))
    (all_nearer (λ c. layer_at p c ≤ highest_layer) p (last_end p s) cs a)

next_among : (p : Plate) (cs : List Contour) (s t : Oriented) → foremost (layer_of p) nearer_end (map (nearer_sense p (last_end p s)) cs) ≡ some t → Among t.contour cs
next_among p cs s t e =
    foremost_has (layer_of p) nearer_end (λ u. Among u.contour cs) _ (all_nearer (λ c. Among c cs) p (last_end p s) cs (among_all (λ c. Among c cs) cs (λ c m. m))) t e

pub after_next : (p : Plate) (n : ℕ) (cs : List Contour) (s t : Oriented) → foremost (layer_of p) nearer_end (map (nearer_sense p (last_end p s)) cs) ≡ some t →
    order_after p (suc n) cs s ≡ t ∷ order_after p n (others t.contour cs) t
unfolding order_after
after_next p n cs s t e = rw (e, order_after)

-- ---- each contour once

-- what f says of the contours, summed up
abbrev total : (Contour → ℕ) → List Oriented → ℕ
total f ss = sum (map (λ s. f s.contour) ss)

after_total : (f : Contour → ℕ) (p : Plate) (n : ℕ) (cs : List Contour) (s : Oriented) → length cs ≡ n → Rising cs →
    All (λ c. layer_at p c ≤ highest_layer) cs → total f (order_after p n cs s) ≡ sum (map f cs)
unfolding order_after sum
after_total f p zero [] s h r a = refl
after_total f p zero (c ∷ cs) s h r a = absurd (omega arith)
after_total f p (suc n) cs s h r a =
    let w = next p cs s a (omega arith) in
    let t = w.0 in
    let m = next_among p cs s t w.1 in
    let l : length (others t.contour cs) ≡ n = omega (arith, length_others t.contour cs r m) in
    ap (total f) (after_next p n cs s t w.1)
    ∙ ap (λ (k : ℕ). f t.contour + k) (after_total f p n (others t.contour cs) t l (rising_without t.contour.number cs r) (all_without _ contour_number t.contour.number cs a))
    ∙ sym (sum_others f t.contour cs r m)

from_total : (f : Contour → ℕ) (p : Plate) (s : Oriented) (cs : List Contour) → Rising cs → All (λ c. layer_at p c ≤ highest_layer) cs → Among s.contour cs →
    total f (order_from p s cs) ≡ sum (map f cs)
unfolding order_from sum
from_total f p s cs r a m =
    let rest = others s.contour cs in
    ap (λ (k : ℕ). f s.contour + k) (after_total f p (length rest) rest s refl (rising_without s.contour.number cs r) (all_without _ contour_number s.contour.number cs a)) ∙ sym (sum_others f s.contour cs r m)

-- a plate without a contour has no start
pub no_start : (p : Plate) → contours p ≡ [] → start p ≡ none
unfolding start ends
no_start p e = rw e (foremost_empty (layer_of p) _)

pub order_total : (f : Contour → ℕ) (p : Plate) → AllTakePart p → sum (map (λ s. f s.contour) (order p)) ≡ sum (map f (contours p))
unfolding order order_of contour_count
order_total f p t = go (contours p) refl
  where
    go : (cs : List Contour) → contours p ≡ cs → total f (order p) ≡ sum (map f (contours p))
    go [] e = rw (no_start p e, e)
    go (c ∷ cs) e =
        let w = start_some p t (omega (arith, ap length e)) in
        rw w.1 (from_total f p w.0 (contours p) (contours_rise p) t (start_is p w.0 w.1))

pub order_length : (p : Plate) → AllTakePart p → length (order p) ≡ length (contours p)
order_length p t = omega (arith, order_total (λ c. 1) p t, sum_ones (order p), sum_ones (contours p))

-- ---- what all contours have, those of the order have

after_has : (P : Contour → Type 0) (p : Plate) (n : ℕ) (cs : List Contour) (s : Oriented) → All P cs → All (λ t. P t.contour) (order_after p n cs s)
unfolding order_after
after_has P p zero cs s a = tt
after_has P p (suc n) cs s a =
    go (foremost (layer_of p) nearer_end (map (nearer_sense p (last_end p s)) cs)) refl
    (λ t. after_has P p n (others t.contour cs) t (all_without P contour_number t.contour.number cs a))
  where
    go : (o : Option Oriented) → foremost (layer_of p) nearer_end (map (nearer_sense p (last_end p s)) cs) ≡ o →
        ((t : Oriented) → All (λ u. P u.contour) (order_after p n (others t.contour cs) t)) →
        All (λ t. P t.contour) (order_after p (suc n) cs s)
    go none e rest = rw (e, order_after) tt
    go (some t) e rest =
        rw (after_next p n cs s t e) (foremost_has (layer_of p) nearer_end (λ u. P u.contour) _ (all_nearer P p (last_end p s) cs a) t e, rest t)

pub order_has : (P : Contour → Type 0) (p : Plate) → All P (contours p) → All (λ s. P s.contour) (order p)
unfolding order order_of order_from
order_has P p a = go (start p) refl
  where
    go : (o : Option Oriented) → start p ≡ o → All (λ s. P s.contour) (order p)
    go none e = rw e tt
    go (some s) e =
        let rest = others s.contour (contours p) in
        rw e (all_among P (contours p) a s.contour (start_is p s e), after_has P p (length rest) rest s (all_without P contour_number s.contour.number (contours p) a))

-- ---- how many there are

pub few_contours : (j v : ℕ) (ns : List ℕ) → length (contours_from j v ns) ≤ length ns
unfolding contours_from
few_contours j v [] = omega arith
few_contours j v (zero ∷ ns) = omega (arith, few_contours (suc j) v ns)
few_contours j v (suc n ∷ ns) = omega (arith, few_contours (suc j) (v + suc n) ns)

pub order_few : (p : Plate) → AllTakePart p → length (order p) ≤ length p.lengths
unfolding contours
order_few p t = omega (arith, order_length p t, few_contours 0 0 p.lengths)

-- a run of vertices in either sense
pub run_length : (b : Bool) (a n : ℕ) → length (pick b (down_to a n) (up_from a n)) ≡ n
unfolding pick
run_length true a n = length_down_to a n
run_length false a n = length_up_from a n

points_of : (ss : List Oriented) → length (straight ss) ≡ sum (map (λ s. s.contour.last) ss) + length ss
unfolding straight sum
points_of [] = refl
points_of (s ∷ ss) = simp length-append (omega (arith, run_length s.reversed s.contour.first (suc s.contour.last), points_of ss))

pub straight_length : (p : Plate) → AllTakePart p → length (straight (order p)) ≡ sum p.lengths
straight_length p t = omega (arith, points_of (order p), order_total (λ c. c.last) p t, order_length p t, sum_segments p)
