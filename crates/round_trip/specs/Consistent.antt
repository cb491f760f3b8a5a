-- What divides keeps the rules of marks at each path point. Assumes nothing.
use Rattle.std.specs.Prelude.{◌≡◌, refl, ◌⊎◌, true, false, ◌||◌, List, [], ℕ, zero, suc, ◌≤◌, ◌<◌, leb, eqb, get_or, Float}
use Rattle.std.proofs.Common.{sym, ap, ◌∙◌, inl, inr, arith, le-leb, eq-eqb, ne_eqb, lt-ltb}
use Rattle.std.proofs.Math.Bool.{or-true}
use Rattle.rules.specs.Limits.{highest_vertex, most_points}
use Rattle.rules.specs.Tools.{sum}
use Rattle.rules.specs.HandedOver.{Plate, at, contours}
use Rattle.rules.specs.Marks.{cut_kind, back_step_kind, landing_kind, kind_at, reference_at, vertices_after, vertex_in}
use Rattle.statement.specs.PathStatement.{Divides}
use Rattle.statement.specs.Division.{itself, Cut, BackStep, JumpOrTouch, PairOf, NotEntered}
use Rattle.contour_recovery.specs.ContourRecovery.{lands_on, consistent}
use Rattle.rules.specs.declared.Point.{Point}
use Rattle.rules.specs.declared.Totals.{Totals}
use Rattle.plate_laws.specs.Slices.{suc_minus_one}
use Rattle.division_laws.specs.SameBits.{says_point}
use Rattle.division_laws.specs.Rules.{kind_is}
use Rattle.division.specs.Kinds.{start_enters, landing_enters}
use Rattle.recovery_laws.specs.ByKind.{fresh, start_rule, cut_rule, back_rule, landing_rule}
use Rattle.round_trip.specs.LandingCounts.{landings_first, landed_counts}
use Rattle.recovery_laws.specs.LandedVertices.{entry_lands, cut_lands}
use Rattle.round_trip.specs.Landings.{vertex_below, landed_once}

one_end : (a r : ℕ) → (a ≡ r) ⊎ (a ≡ suc r) → (eqb a r || eqb a (suc r)) ≡ true
one_end a r (inl e) = rw (eq-eqb a r e) refl
one_end a r (inr e) = rw (eq-eqb a (suc r) e) (or-true (eqb a r))

module _ {p : Plate} {c : Totals} {path : List Float} {ms : List ℕ} (d : Divides p c path ms) (few : sum p.lengths ≤ most_points) where
  abbrev n : ℕ
  n = c.points

  abbrev v : ℕ → ℕ
  v = vertex_in ms

  abbrev vs : List ℕ
  vs = vertices_after [] ms

  abbrev point : ℕ → Point
  point i = at p.points (vertex_in ms i)

  within : (i : ℕ) → i < n → leb (get_or vs i 0) highest_vertex ≡ true
  unfolding vertex_in
  within i l = le-leb (get_or vs i 0) highest_vertex (omega (arith, few, vertex_below d i l))

  -- where a path point lands, none did before
  new : (i : ℕ) → i < n → lands_on ms vs (get_or vs i 0) i ≡ true → fresh ms vs i (get_or vs i 0) ≡ true
  unfolding fresh vertex_in
  new i l t =
      let u = get_or vs i 0 in
      let z = landings_first ms vs u i n l (landed_once d u (vertex_below d i l)) t in
      rw (within i l, landed_counts ms vs u i, z) refl

  keeps_start : 0 < n → consistent path ms vs 0 ≡ true
  keeps_start l =
      let e = (d.division.start l).0 in
      start_rule path ms vs 0 e ∙ rw (new 0 l (entry_lands ms vs 0 (start_enters e))) refl

  module _ (k : ℕ) (l : suc k < n) where
    abbrev r : ℕ
    r = reference_at ms (suc k)

    no_start : eqb (suc k) 0 ≡ false
    no_start = ne_eqb (suc k) 0 (λ e. omega (arith, e))

    keeps_cut : kind_at ms (suc k) ≡ cut_kind → Cut (contours p) itself v k r → consistent path ms vs (suc k) ≡ true
    unfolding vertex_in
    keeps_cut e x =
        cut_rule path ms vs (suc k) e
        ∙ rw (suc_minus_one k, no_start, one_end (get_or vs k 0) r ends, new (suc k) l (cut_lands ms vs (suc k) e)) refl
      where
        ends : (get_or vs k 0 ≡ r) ⊎ (get_or vs k 0 ≡ suc r)
        ends = elim x.sense [ inl f ↦ inl f.0 | inr f ↦ inr f.0 ]

    -- both are the plate's point of the same vertex
    keeps_back : kind_at ms (suc k) ≡ back_step_kind → BackStep v k r → consistent path ms vs (suc k) ≡ true
    unfolding vertex_in
    keeps_back e x =
        let h = x.earlier in
        let same = d.coordinates (suc k) l ∙ ap (at p.points) x.to ∙ sym (d.coordinates r (omega arith)) in
        let told = (says_point (at path (suc k)) (at path r)).told same in
        back_rule path ms vs (suc k) e
        ∙ rw (suc_minus_one k, lt-ltb (suc r) (suc k) (omega arith), eq-eqb (get_or vs k 0) (get_or vs (suc r) 0) x.from, within (suc k) l)
        (grind (arith, told))

    -- the path's points differ or not as the plate's do
    keeps_landing : JumpOrTouch (point k) (point (suc k)) (kind_at ms (suc k)) → consistent path ms vs (suc k) ≡ true
    keeps_landing j =
        let kind = kind_at ms (suc k) in
        let named : kind ≡ landing_kind (at path k) (at path (suc k)) =
        rw (d.coordinates k (omega arith), d.coordinates (suc k) l) (kind_is (point k) (point (suc k)) kind j) in
        let lands = entry_lands ms vs (suc k) (landing_enters _ _ j) in
        landing_rule path ms vs (suc k) (elim j [ inl e ↦ inl e.0 | inr e ↦ inr e.0 ])
        ∙ rw (suc_minus_one k, no_start, new (suc k) l lands, ← named, eq-eqb kind kind refl) refl

  -- by the kind of a pair
  keeps_pair : (k : ℕ) → suc k < n → PairOf (contours p) point itself v (NotEntered v k) k (kind_at ms (suc k)) (reference_at ms (suc k)) →
      consistent path ms vs (suc k) ≡ true
  keeps_pair k l (inl (e, x)) = keeps_cut k l e x
  keeps_pair k l (inr (inl (e, x))) = keeps_back k l e x
  keeps_pair k l (inr (inr (j, x))) = keeps_landing k l j

  pub divides_consistent : (i : ℕ) → i < n → consistent path ms vs i ≡ true
  divides_consistent zero l = keeps_start l
  divides_consistent (suc k) l = keeps_pair k l (d.division.pairs k l)
