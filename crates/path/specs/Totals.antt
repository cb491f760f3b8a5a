-- The path of a plate whose contours all take part has S cuts, and n − 1 jumps and touches together, and cuts each segment of each contour once. Assumes nothing.
use Rattle.std.specs.Prelude.{◌≡◌, refl, Bool, true, false, ◌||◌, List, [], ◌∷◌, map, ℕ, ◌+◌, ◌≤◌, ◌<◌, eqb}
use Rattle.std.proofs.Common.{sym, ap, ◌∙◌, inl, inr, zero-add, arith, eqb-true, ne_eqb}
use Rattle.std.proofs.Math.Path.{fun_ext}
use Rattle.rules.specs.Tools.{pick, sum, up_from}
use Rattle.rules.specs.HandedOver.{Plate, Contour, contours}
use Rattle.rules.specs.Retrace.{retrace}
use Rattle.rules.specs.Marks.{cut_kind, jump_kind, touch_kind, Step, land, cut_up, cut_down, back_step, marks, count_marks, marks_of, cuts_of}
use Rattle.rules.specs.Contours.{contour_count, segments_of, segment_count, IsContour}
use Rattle.plate_laws.specs.Lists.{all_of, all_give, length_up_from}
use Rattle.plate_laws.specs.Sums.{sum_ones, sum_zeros, indicator, sum_absent, sum_once}
use Rattle.plate_laws.specs.Contours.{Apart, others, others_apart, sum_others, contours_rise}
use Rattle.plate_laws.specs.Start.{AllTakePart}
use Rattle.division_laws.specs.MarkCounts.{cutting}
use Rattle.path.specs.Shares.{Weights, share, retrace_total}

-- 1 for a step whose mark passes a test of kind and reference
abbrev passes : (ℕ → ℕ → Bool) → Step → ℕ
passes test s = pick (test s.kind s.reference) 1 0

-- counting marks is a sum over the steps
count_is : (test : ℕ → ℕ → Bool) (path : List Step) → count_marks test (marks path) ≡ sum (map (passes test) path)
unfolding count_marks marks sum
count_is test [] = refl
count_is test (s ∷ path) = rw (count_is test path)

-- the marks that pass a test, summed up contour by contour
counted : (test : ℕ → ℕ → Bool) (segment : ℕ → ℕ) (jump : ℕ) → Weights (passes test) segment jump →
    (f : Contour → ℕ) → ((c : Contour) → share segment jump c ≡ f c) → (p : Plate) → AllTakePart p → 1 ≤ contour_count p →
    jump + count_marks test (marks (retrace p)) ≡ sum (map f (contours p))
counted test segment jump w f e p t h =
    let same = ap (λ (k : Contour → ℕ). sum (map k (contours p))) (fun_ext e) in
    omega (arith, count_is test (retrace p), retrace_total (passes test) segment jump w p t h, same)

-- ---- S cuts, n − 1 jumps and touches

pub retrace_cuts : (p : Plate) → AllTakePart p → 1 ≤ contour_count p → marks_of cut_kind (marks (retrace p)) ≡ segment_count p
unfolding marks_of segments_of segment_count contour_count share pick land cut_up cut_down back_step
retrace_cuts p t h =
    let n = counted (λ kind r. eqb kind cut_kind) (λ v. 1) 0
    (record { up = λ v. refl; down = λ v. refl; back = λ v k. refl; start = λ v. refl; landing = λ v. refl; touch = λ v. refl }) (λ c. c.last)
    (λ c. omega (arith, sum_ones (up_from c.first c.last), length_up_from c.first c.last)) p t h in
    omega (arith, n)

-- a mark of one kind is not of another
either : (a b kind : ℕ) → (a ≡ b → ⊥) → pick (eqb kind a || eqb kind b) 1 0 ≡ pick (eqb kind a) 1 0 + pick (eqb kind b) 1 0
unfolding pick
either a b kind d = go (eqb kind a) refl
  where
    go : (s : Bool) → eqb kind a ≡ s → pick (s || eqb kind b) 1 0 ≡ pick s 1 0 + pick (eqb kind b) 1 0
    go true x = rw (ne_eqb kind b (λ y. d (sym (eqb-true kind a x) ∙ y)))
    go false x = sym (zero-add _)

pub count_either : (a b : ℕ) → (a ≡ b → ⊥) → (path : List Step) →
    count_marks (λ kind r. eqb kind a || eqb kind b) (marks path) ≡ marks_of a (marks path) + marks_of b (marks path)
unfolding marks_of count_marks marks
count_either a b d [] = refl
count_either a b d (s ∷ path) = omega (arith, either a b s.kind d, count_either a b d path)

pub retrace_jumps : (p : Plate) → AllTakePart p → 1 ≤ contour_count p →
    marks_of jump_kind (marks (retrace p)) + marks_of touch_kind (marks (retrace p)) + 1 ≡ contour_count p
unfolding contour_count share pick land cut_up cut_down back_step
retrace_jumps p t h =
    let n = counted (λ kind r. eqb kind jump_kind || eqb kind touch_kind) (λ v. 0) 1
    (record { up = λ v. refl; down = λ v. refl; back = λ v k. refl; start = λ v. refl; landing = λ v. refl; touch = λ v. refl }) (λ c. 1)
    (λ c. omega (arith, sum_zeros (λ v. 0) (up_from c.first c.last) (all_of _ (λ v. refl) (up_from c.first c.last)))) p t h in
    omega (arith, n, sum_ones (contours p), count_either jump_kind touch_kind (λ e. omega arith) (retrace p))

-- ---- each segment once

-- how often segment v is a segment of c
abbrev pub segment_of : ℕ → Contour → ℕ
segment_of v c = sum (map (indicator v) (up_from c.first c.last))

-- a segment of one of a plate's contours is a segment of no other
pub one_segment : (p : Plate) (c : Contour) → IsContour p c → (i : ℕ) → i < c.last → sum (map (segment_of (c.first + i)) (contours p)) ≡ 1
one_segment p c m i h =
    let v = c.first + i in
    let rest = others c (contours p) in
    let absent : (d : Contour) → Apart c d → segment_of v d ≡ 0 =
    λ d a. sum_absent v d.first d.last (λ j x y z. elim a [ inl b ↦ omega arith | inr b ↦ omega arith ]) in
    let none = all_give (Apart c) (λ d. segment_of v d ≡ 0) absent rest (others_apart c (contours p) (contours_rise p) m) in
    omega (arith, sum_others (segment_of v) c (contours p) (contours_rise p) m, sum_once c.first c.last i h, sum_zeros (segment_of v) rest none)

pub retrace_once : (p : Plate) → AllTakePart p → 1 ≤ contour_count p → (c : Contour) → IsContour p c → (i : ℕ) → i < c.last →
    cuts_of (c.first + i) (marks (retrace p)) ≡ 1
unfolding cuts_of share pick land cut_up cut_down back_step
retrace_once p t h c m i l =
    let v = c.first + i in
    let n = counted (cutting v) (indicator v) 0
    (record { up = λ u. refl; down = λ u. refl; back = λ u k. refl; start = λ u. refl; landing = λ u. refl; touch = λ u. refl }) (segment_of v) (λ d. zero-add _) p t h in
    omega (arith, n, one_segment p c m i l)
