-- The path of the documents' rules is one whose lengths can be added up: its points are accepted ones, its first mark is a start, and each back-step reverses an
-- earlier pair. Assumes nothing.
use Rattle.std.specs.Prelude.{◌≡◌, refl, List, [], ◌∷◌, ℕ, suc, ◌≤◌, ◌<◌, length, Float}
use Rattle.std.proofs.Common.{sym, ap, ◌∙◌, inl, inr, arith}
use Rattle.rules.specs.HandedOver.{Plate, Contour, at, contours}
use Rattle.rules.specs.Retrace.{vertex_of, retrace}
use Rattle.rules.specs.Marks.{back_step_kind, Step, coordinates, marks, vertices}
use Rattle.statement.specs.Division.{BackStep}
use Rattle.rules.specs.Contours.{contour_count}
use Rattle.plate_laws.specs.AcceptedInput.{Accepted, accepted_measurable, point_on, OfPlate}
use Rattle.plate_laws.specs.Start.{AllTakePart}
use Rattle.path.specs.Pairs.{PlatePair, Divided, divided_start, divided_pairs}
use Rattle.path.specs.JumpsAndTouches.{vertex_has, Numbered, retrace_divided, retrace_numbered}
use Rattle.plate_laws.specs.Slices.{coordinates_length, marks_length, vertices_length, kind_at_lem, reference_at_lem, point_is}
use Rattle.path.specs.Blank.{retrace_empty}
use Rattle.length_laws.specs.WalkedPath.{PointOnPlate, Walked}

-- ---- a path of steps

module _ (p : Plate) (accepted : Accepted p.points p.lengths) (path : List Step) (d : Divided p path) (numbered : Numbered p path) where
  abbrev xs : List Float
  xs = coordinates p.points (vertices path)

  point_on_plate : (k : ℕ) → k < length path → PointOnPlate (at xs k)
  point_on_plate k h =
      let v = vertex_of path k in
      let of_p : OfPlate p v = vertex_has (OfPlate p) path numbered k h in
      rw (point_is p.points path k h) (point_on p.points v accepted.on_plate (omega (arith, accepted.counted)))

  reversed : (k r : ℕ) → suc k < length path → BackStep (vertex_of path) k r → BackStep (at xs) k r
  reversed k r h b =
      let l = b.earlier in
      record {
        earlier = l;
        from = point_is p.points path k (omega arith) ∙ ap (at p.points) b.from ∙ sym (point_is p.points path (suc r) (omega arith));
        to = point_is p.points path (suc k) h ∙ ap (at p.points) b.to ∙ sym (point_is p.points path r (omega arith));
      }

  back_of : (k kind r : ℕ) → suc k < length path → kind ≡ back_step_kind → PlatePair p (vertex_of path) k kind r → BackStep (at xs) k r
  back_of k kind r h e (inl (f, c), n) = absurd (omega (arith, e, f))
  back_of k kind r h e (inr (inl (f, b)), n) = reversed k r h b
  back_of k kind r h e (inr (inr (inl (f, t), j)), n) = absurd (omega (arith, e, f))
  back_of k kind r h e (inr (inr (inr (f, t), j)), n) = absurd (omega (arith, e, f))

  divided_walked : Walked xs (marks path) (length path)
  divided_walked =
      record {
        whole = (omega (arith, coordinates_length p.points (vertices path), vertices_length path), marks_length path);
        on_plate = point_on_plate;
        start = λ h. kind_at_lem path 0 h ∙ (divided_start p path d).kind;
        back = λ k h e.
            rw (reference_at_lem path (suc k) h) (back_of k _ _ h (sym (kind_at_lem path (suc k) h) ∙ e) (divided_pairs p path d k h));
      }

-- ---- the path of the rules

abbrev RetraceWalked : Plate → Type 0
RetraceWalked p = Walked (coordinates p.points (vertices (retrace p))) (marks (retrace p)) (length (retrace p))

blank_walked : Walked [] [] 0
blank_walked =
    record { whole = (refl, refl); on_plate = λ k h. absurd (omega arith); start = λ h. absurd (omega arith); back = λ k h e. absurd (omega arith) }

no_contour : (p : Plate) → contours p ≡ [] → RetraceWalked p
unfolding coordinates vertices marks
no_contour p e = rw (retrace_empty p e) blank_walked

pub retrace_walked : (p : Plate) → Accepted p.points p.lengths → AllTakePart p →
    Walked (coordinates p.points (vertices (retrace p))) (marks (retrace p)) (length (retrace p))
unfolding contour_count
retrace_walked p a t = go (contours p) refl
  where
    go : (cs : List Contour) → contours p ≡ cs → RetraceWalked p
    go [] e = no_contour p e
    go (c ∷ cs) e =
        let m = accepted_measurable p a in
        let some : 1 ≤ length (contours p) = omega (arith, ap length e) in
        divided_walked p a (retrace p) (retrace_divided p m t some) (retrace_numbered p m t some)
