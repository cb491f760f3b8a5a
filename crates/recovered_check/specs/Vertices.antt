-- Path points that keep the rules of marks: how each pair of neighbours goes from vertex to vertex, that each path point's vertex is landed on there or before,
-- and that its point is the one landed on. Assumes nothing.
use Rattle.std.specs.Prelude.{◌≡◌, refl, ◌⊎◌, Bool, true, false, ◌||◌, List, [], ℕ, zero, suc, ◌*◌, ◌≤◌, ◌<◌, eqb, length, get_or, Float}
use Rattle.std.proofs.Common.{sym, ◌∙◌, inl, inr, arith, eqb-true}
use Rattle.rules.specs.Tools.{pick}
use Rattle.rules.specs.HandedOver.{at}
use Rattle.rules.specs.Bits.{same_point}
use Rattle.rules.specs.Marks.{start_kind, cut_kind, back_step_kind, touch_kind, landing_kind, kind_at, reference_at, vertices_after}
use Rattle.statement.specs.Division.{BackStep, JumpOrTouch, IsJumpOrTouch}
use Rattle.contour_recovery.specs.ContourRecovery.{lands_on, landed, consistent, vertex_count, landing_place, recovered_points}
use Rattle.plate_laws.specs.Slices.{suc_minus_one}
use Rattle.division_laws.specs.Maps.{kind_tells}
use Rattle.division_laws.specs.SameBits.{says_point}
use Rattle.division.specs.Kinds.{start_enters, landing_enters}
use Rattle.recovery_laws.specs.Vertices.{vertex_landed, vertex_cut, vertex_back}
use Rattle.recovery_laws.specs.ByKind.{start_rule, cut_rule, back_rule, landing_rule, rule_known}
use Rattle.recovery_laws.specs.Points.{point_at}
use Rattle.recovery_laws.specs.LandedVertices.{entry_lands, cut_lands, landed_at, at_landed, count_above, landing_place_is}

-- each kind that a mark may have
kind_case : (kind : ℕ) → kind ≤ touch_kind → (kind ≡ start_kind) ⊎ (kind ≡ cut_kind) ⊎ (kind ≡ back_step_kind) ⊎ IsJumpOrTouch kind
kind_case zero l = inl refl
kind_case (suc zero) l = inr (inl refl)
kind_case (suc (suc zero)) l = inr (inr (inl refl))
kind_case (suc (suc (suc zero))) l = inr (inr (inr (inl refl)))
kind_case (suc (suc (suc (suc zero)))) l = inr (inr (inr (inr refl)))
kind_case (suc (suc (suc (suc (suc k))))) l = absurd (omega (arith, l))

-- a cut of segment r that leaves from one of its ends, vertex a, goes to the other, vertex b
cut_ends : (a b r : ℕ) → (eqb a r || eqb a (suc r)) ≡ true → b ≡ pick (eqb a r) (suc r) r → ((a ≡ r) × (b ≡ suc r)) ⊎ ((a ≡ suc r) × (b ≡ r))
unfolding pick
cut_ends a b r e h = go (eqb a r) refl (eqb a (suc r)) refl e h
  where
    go : (s : Bool) → eqb a r ≡ s → (t : Bool) → eqb a (suc r) ≡ t → s || t ≡ true → b ≡ pick s (suc r) r →
        ((a ≡ r) × (b ≡ suc r)) ⊎ ((a ≡ suc r) × (b ≡ r))
    go true x t y e h = inl (eqb-true a r x, h)
    go false x true y e h = inr (eqb-true a (suc r) y, h)
    go false x false y e h = absurd (grind (arith, e))

-- n path points that keep the rules of marks
pub record MarksKept (path : List Float) (ms : List ℕ) (n : ℕ) : Type 0 where
  pub whole : length ms ≡ 2 * n
  pub rules : (i : ℕ) → i < n → consistent path ms (vertices_after [] ms) i ≡ true

module _ {path : List Float} {ms : List ℕ} {n : ℕ} (kept : MarksKept path ms n) where
  abbrev vs : List ℕ
  vs = vertices_after [] ms

  abbrev v : ℕ → ℕ
  v i = get_or (vertices_after [] ms) i 0

  -- ---- pairs of neighbours

  pub start : 0 < n → (kind_at ms 0 ≡ start_kind) × (v 0 ≡ reference_at ms 0)
  start l = go (kind_case (kind_at ms 0) (rule_known path ms vs 0 (kept.rules 0 l)))
    where
      go : (kind_at ms 0 ≡ start_kind) ⊎ (kind_at ms 0 ≡ cut_kind) ⊎ (kind_at ms 0 ≡ back_step_kind) ⊎ IsJumpOrTouch (kind_at ms 0) →
          (kind_at ms 0 ≡ start_kind) × (v 0 ≡ reference_at ms 0)
      go (inl e) = (e, vertex_landed ms n 0 kept.whole l (λ f. omega (arith, e, f)) (λ f. omega (arith, e, f)))
      go (inr (inl e)) = absurd (grind (arith, sym (cut_rule path ms vs 0 e) ∙ kept.rules 0 l))
      go (inr (inr (inl e))) = absurd (grind (arith, sym (back_rule path ms vs 0 e) ∙ kept.rules 0 l))
      go (inr (inr (inr j))) = absurd (grind (arith, sym (landing_rule path ms vs 0 j) ∙ kept.rules 0 l))

  -- path points k and k + 1 are the two ends of segment r
  abbrev pub CutEnds : ℕ → ℕ → Type 0
  CutEnds k r = ((v k ≡ r) × (v (suc k) ≡ suc r)) ⊎ ((v k ≡ suc r) × (v (suc k) ≡ r))

  -- path points k and k + 1, the mark of path point k + 1 having this kind and the reference r
  abbrev pub VertexPair : ℕ → ℕ → ℕ → Type 0
  VertexPair k kind r =
      ((kind ≡ cut_kind) × CutEnds k r)
      ⊎ ((kind ≡ back_step_kind) × BackStep v k r × (at path (suc k) ≡ at path r))
      ⊎ (JumpOrTouch (at path k) (at path (suc k)) kind × (v (suc k) ≡ r))

  module _ (k : ℕ) (l : suc k < n) where
    abbrev kind : ℕ
    kind = kind_at ms (suc k)

    abbrev r : ℕ
    r = reference_at ms (suc k)

    pub goes_cut : kind ≡ cut_kind → CutEnds k r
    goes_cut e =
        let rule = rw (suc_minus_one k) at (sym (cut_rule path ms vs (suc k) e) ∙ kept.rules (suc k) l) in
        let named = rw (suc_minus_one k) at (vertex_cut ms n (suc k) kept.whole l e (omega arith)) in
        cut_ends (v k) (v (suc k)) r (grind (arith, rule)) named

    goes_back : kind ≡ back_step_kind → BackStep v k r × (at path (suc k) ≡ at path r)
    goes_back e =
        let rule = rw (suc_minus_one k) at (sym (back_rule path ms vs (suc k) e) ∙ kept.rules (suc k) l) in
        let same : same_point (at path (suc k)) (at path r) ≡ true = grind (arith, rule) in
        let before : suc r < suc k = grind (arith, rule) in (
          record {
            earlier = omega (arith, before);
            from = eqb-true (v k) (v (suc r)) (grind (arith, rule));
            to = vertex_back ms n (suc k) kept.whole l e (omega (arith, before));
          },
          (says_point (at path (suc k)) (at path r)).tells (rw same tt),
        )

    goes_landing : IsJumpOrTouch kind → JumpOrTouch (at path k) (at path (suc k)) kind × (v (suc k) ≡ r)
    goes_landing j =
        let rule = rw (suc_minus_one k) at (sym (landing_rule path ms vs (suc k) j) ∙ kept.rules (suc k) l) in
        let named : kind ≡ landing_kind (at path k) (at path (suc k)) = eqb-true _ _ (grind (arith, rule)) in (
          rw named (kind_tells (at path k) (at path (suc k))),
          vertex_landed ms n (suc k) kept.whole l
              (λ e. elim j [ inl f ↦ omega (arith, e, f) | inr f ↦ omega (arith, e, f) ])
              (λ e. elim j [ inl f ↦ omega (arith, e, f) | inr f ↦ omega (arith, e, f) ]),
        )

    pub goes : VertexPair k kind r
    goes = go (kind_case kind (rule_known path ms vs (suc k) (kept.rules (suc k) l)))
      where
        go : (kind ≡ start_kind) ⊎ (kind ≡ cut_kind) ⊎ (kind ≡ back_step_kind) ⊎ IsJumpOrTouch kind → VertexPair k kind r
        go (inl e) = absurd (grind (arith, sym (start_rule path ms vs (suc k) e) ∙ kept.rules (suc k) l))
        go (inr (inl e)) = inl (e, goes_cut e)
        go (inr (inr (inl e))) = let (b, p) = goes_back e in inr (inl (e, b, p))
        go (inr (inr (inr j))) = inr (inr (goes_landing j))

  -- ---- landings

  pub later : (u a b : ℕ) → a ≤ b → landed ms vs a u ≡ true → landed ms vs b u ≡ true
  later u a b h e = let (j, l, t) = landed_at ms vs u a e in at_landed ms vs u b j (omega (arith, l, h)) t

  -- path point i has a vertex that it, or one before it, lands on, and has the point of the one that does
  abbrev HasLanding : ℕ → Type 0
  HasLanding i = (landed ms vs (suc i) (v i) ≡ true) × (at path i ≡ at path (landing_place ms vs n (v i)))

  here : (i : ℕ) → i < n → lands_on ms vs (v i) i ≡ true → HasLanding i
  here i l e = (at_landed ms vs (v i) (suc i) i (omega arith) e, rw (landing_place_is ms vs path n kept.rules i (v i) l e) refl)

  met_step : (k : ℕ) → suc k < n → ((j : ℕ) → j ≤ k → HasLanding j) → HasLanding (suc k)
  met_step k l before = go (goes k l)
    where
      r : ℕ
      r = reference_at ms (suc k)

      go : VertexPair k (kind_at ms (suc k)) r → HasLanding (suc k)
      go (inl (e, x)) = here (suc k) l (cut_lands ms vs (suc k) e)
      go (inr (inl (e, x, same))) =
          let h = x.earlier in
          let (m, p) = before r (omega (arith, h)) in
          (later (v (suc k)) (suc r) (suc (suc k)) (omega (arith, h)) (rw x.to m), same ∙ p ∙ rw x.to refl)
      go (inr (inr (j, e))) = here (suc k) l (entry_lands ms vs (suc k) (landing_enters _ _ j))

  -- b counts down
  met : (b i : ℕ) → i < b → i < n → HasLanding i
  met zero i h l = absurd (omega (arith, h))
  met (suc b) zero h l = here 0 l (entry_lands ms vs 0 (start_enters (start l).0))
  met (suc b) (suc k) h l = met_step k l (λ j x. met b j (omega (arith, x, h)) (omega (arith, x, l)))

  pub vertex_met : (i : ℕ) → i < n → landed ms vs (suc i) (v i) ≡ true
  vertex_met i l = (met (suc i) i (omega arith) l).0

  pub vertex_under : (i : ℕ) → i < n → v i < vertex_count ms vs n
  vertex_under i l = count_above ms vs (v i) n (later (v i) (suc i) n (omega (arith, l)) (vertex_met i l))

  -- ---- points

  -- each path point has the recovered point of its vertex
  pub has_point : (i : ℕ) → i < n → at path i ≡ at (recovered_points path ms vs n (vertex_count ms vs n)) (v i)
  has_point i l = (met (suc i) i (omega arith) l).1 ∙ sym (point_at path ms vs n (vertex_count ms vs n) (v i) (vertex_under i l))
