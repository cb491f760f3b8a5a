-- Along the path the layers never fall: `layer_statement : LayerStatement` below, which is defined in crates/statement/specs/PathStatement.antt. By the induction
-- over the joining: what the path draws is of no higher layer than any contour still to come. Assumes nothing.
use Rattle.std.specs.Prelude.{◌≡◌, refl}
use Rattle.std.proofs.Common.{sym, ap, ◌∙◌, subst, arith}
use mathlib.Core.List.{List, [], ◌∷◌, ◌++◌, append_assoc}
use Prim.Native.Nat.{ℕ, zero, suc, ◌+◌, ◌-◌, ◌≤◌, ◌<◌}
use Rattle.std.proofs.Math.ListN.{length}
use Rattle.rules.specs.Tools.{down_to}
use Rattle.rules.specs.HandedOver.{Plate, Contour, at, contours, vertex_at, layer_at}
use Rattle.rules.specs.GridAndNearest.{nearest}
use Rattle.rules.specs.Retrace.{step_at, vertex_of, walk_to, walk_back, emit, begin, path_points, place_in, entered, retrace}
use Rattle.rules.specs.Marks.{back_step_kind, cut_kind, kind_at, reference_at, Step, land, cut_up, cut_down, back_step, landing_kind, marks}
use Rattle.rules.specs.OrderAndStraight.{contour_number}
use Rattle.statement.specs.PathStatement.{Draws, NeverFall, LayerStatement}
use Rattle.rules.specs.Contours.{contour_count, IsContour, Of}
use Rattle.plate_laws.specs.Lists.{All, all_of, all_give, all_both, all_append, all_map, all-at, all_without}
use Rattle.plate_laws.specs.Nearest.{grid_for}
use Rattle.plate_laws.specs.Contours.{all_among, others, contour_one}
use Rattle.plate_laws.specs.Start.{AllTakePart}
use Rattle.path.specs.Blank.{retrace_empty}
use Rattle.path.specs.Induction.{Begins, Enters, retrace_keeps}
use Rattle.path.specs.Emission.{Steps, emit_has, begin_has}
use Rattle.plate_laws.specs.Slices.{kind_at_lem, reference_at_lem}
use Rattle.path.specs.Theorem.{retrace_gives, retrace_leaves}

module _ (p : Plate) where
  -- s is new on contour c
  record NewOn (s : Step) (c : Contour) : Type 0 where
    contour : IsContour p c
    new : s.kind ≡ back_step_kind → ⊥
    of : Of c s.reference

  -- s is new on no contour of a higher layer than c
  abbrev Under : Contour → Step → Type 0
  Under c s = (d : Contour) → NewOn s d → layer_at p d ≤ layer_at p c

  -- and t, which comes later, on none of a lower layer
  abbrev Before : Step → Step → Type 0
  Before s t = (d : Contour) → NewOn t d → Under d s

  abbrev Rises : List Step → Type 0
  Rises [] = Unit {0}
  Rises (s ∷ ss) = All (Before s) ss × Rises ss

  -- s is new on no other contour than c
  abbrev Only : Contour → Step → Type 0
  Only c s = (d : Contour) → NewOn s d → d ≡ c

  -- ---- one contour's steps

  only_before : (c : Contour) (s t : Step) → Under c s → Only c t → Before s t
  only_before c s t u o d n = subst (λ (x : Contour). Under x s) (sym (o d n)) u

  only_under : (c d : Contour) → layer_at p c ≤ layer_at p d → (s : Step) → Only c s → Under d s
  only_under c d l s o e n = subst (λ (x : Contour). layer_at p x ≤ layer_at p d) (sym (o e n)) l

  only_rise : (c : Contour) (ss : List Step) → All (Only c) ss → Rises ss
  only_rise c [] a = tt
  only_rise c (s ∷ ss) a =
      (all_give (Only c) (Before s) (λ t. only_before c s t (only_under c c (omega arith) s a.0)) ss a.1, only_rise c ss a.1)

  -- after a path that draws nothing of a higher layer
  more_rise : (c : Contour) (path ss : List Step) → Rises path → All (Under c) path → All (Only c) ss → Rises (path ++ ss)
  more_rise c [] ss r u a = only_rise c ss a
  more_rise c (s ∷ path) ss r u a = (
    all_append (Before s) path ss r.0 (all_give (Only c) (Before s) (λ t. only_before c s t u.0) ss a),
    more_rise c path ss r.1 u.1 a,
  )

  steps_only : (c : Contour) → IsContour p c → Steps c (Only c)
  unfolding land cut_up cut_down back_step
  steps_only c i =
      record {
        landing = λ kind v o d n. contour_one p d c v n.contour i n.of o;
        up = λ v o _ d n. contour_one p d c v n.contour i n.of o;
        down = λ v o _ d n. contour_one p d c v n.contour i n.of o;
        back = λ v k o d n. absurd (n.new refl);
      }

  walk_only : (c : Contour) (path : List Step) (h : ℕ) → All (Only c) (walk_back path h)
  unfolding walk_back walk_to back_step
  walk_only c path h =
      all_map (Only c) (walk_to path) (down_to h (length path - 1 - h)) (all_of _ (λ k d n. absurd (n.new refl)) (down_to h (length path - 1 - h)))

  -- ---- the whole path

  record Layers (cs : List Contour) (path : List Step) : Type 0 where
    rises : Rises path
    below : All (λ c. All (Under c) path) cs

  begins : Begins p Layers
  begins s i low =
      let c = s.contour in
      let a = begin_has s (Only c) (steps_only c i) in
      record {
        rises = only_rise c (begin s) a;
        below =
            all_give (λ d. layer_at p c ≤ layer_at p d) (λ d. All (Under d) (begin s)) (λ d l. all_give (Only c) (Under d) (only_under c d l) (begin s) a)
            (others c (contours p)) (all_without _ contour_number c.number (contours p) low);
      }

  -- what a contour that enters the path adds is new on it only
  entered_more : (path : List Step) (c : Contour) (n : ℕ) → IsContour p c → n ≤ c.last →
      (ss : List Step) × All (Only c) ss × (entered p (grid_for p) path c n ≡ path ++ ss)
  unfolding entered
  entered_more path c n i e =
      let q = vertex_at p c n in
      let h = place_in (nearest (grid_for p) (path_points p path) q) in
      let kind = landing_kind (at p.points (vertex_of path h)) q in
      let b = length (path ++ walk_back path h) in
      let new = emit kind c n b in (
        walk_back path h ++ new,
        all_append (Only c) (walk_back path h) new (walk_only c path h) (emit_has c (Only c) (steps_only c i) kind n b e),
        append_assoc path (walk_back path h) new,
      )

  enters : Enters p Layers
  enters cs path c n coming a low e j =
      let i = all_among (IsContour p) cs coming.all c a in
      let (ss, only, same) = entered_more path c n i e in
      let u = all_among (λ x. All (Under x) path) cs j.below c a in
      let more : (d : Contour) → layer_at p c ≤ layer_at p d → All (Under d) path → All (Under d) (path ++ ss) =
      λ d l v. all_append (Under d) path ss v (all_give (Only c) (Under d) (only_under c d l) ss only) in
      rw same
      (record {
        rises = more_rise c path ss j.rises u only;
        below =
            all_without (λ d. All (Under d) (path ++ ss)) contour_number c.number cs
            (all_give _ _ (λ d k. more d k.0 k.1) cs (all_both (λ d. layer_at p c ≤ layer_at p d) (λ d. All (Under d) path) cs low j.below));
      })

  rises_at : (path : List Step) → Rises path → (i j : ℕ) → i < j → j < length path → Before (step_at path i) (step_at path j)
  unfolding step_at
  rises_at [] r i j l m = absurd (omega arith)
  rises_at (s ∷ path) r i zero l m = absurd (omega arith)
  rises_at (s ∷ path) r zero (suc j) l m = all-at (Before s) (land 0 0) path r.0 j (omega arith)
  rises_at (s ∷ path) r (suc i) (suc j) l m = rises_at path r.1 i j (omega arith) (omega arith)

  news : (path : List Step) (k : ℕ) (c : Contour) → k < length path → Draws p (marks path) k c → NewOn (step_at path k) c
  news path k c l d =
      record {
        contour = d.contour;
        new = λ e. d.new (kind_at_lem path k l ∙ e);
        of = rw (reference_at_lem path k l) at d.of;
      }

  some_never_falls : AllTakePart p → 1 ≤ contour_count p → NeverFall p (length (retrace p)) (marks (retrace p))
  unfolding NeverFall
  some_never_falls t h i j l m c d x y =
      let path = retrace p in
      rises_at path (retrace_keeps p Layers begins enters t h).rises i j l m d (news path j d m y) c (news path i c (omega arith) x)

-- a cut draws: the lower vertex number of its segment is a vertex of its contour
pub cut_draws : (p : Plate) (ms : List ℕ) (k : ℕ) (c : Contour) → IsContour p c → kind_at ms k ≡ cut_kind → c.first ≤ reference_at ms k →
    reference_at ms k < c.first + c.last → Draws p ms k c
cut_draws p ms k c i e l h = record { contour = i; new = λ f. omega arith; of = (l, omega arith) }

retrace_never_falls : (p : Plate) → AllTakePart p → NeverFall p (length (retrace p)) (marks (retrace p))
unfolding contour_count NeverFall
retrace_never_falls p t = go (contours p) refl
  where
    go : (cs : List Contour) → contours p ≡ cs → NeverFall p (length (retrace p)) (marks (retrace p))
    go [] e = λ i j l m c d x y. let n = ap length (retrace_empty p e) in absurd (omega arith)
    go (c ∷ cs) e = some_never_falls p t (omega (arith, ap length e))

pub layer_statement : LayerStatement
unfolding LayerStatement
layer_statement p path ms w d c e =
    let (accepted, part, counted) = retrace_gives p path ms w d c e in
    let l = retrace_leaves p path ms w d c e in
    rw (l.marks_front, l.points) (retrace_never_falls p part)
