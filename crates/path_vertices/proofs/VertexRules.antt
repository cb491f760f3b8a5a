-- Whether a path point keeps the rules of marks, and its vertex, by what the words of the path points before it say. Assumes nothing.
use Rattle.std.specs.Prelude.{◌≡◌, refl, Bool, true, false, not, ◌&&◌, ◌||◌, List, [], ℕ, zero, suc, ◌-◌, ◌*◌, ◌≤◌, ◌<◌, ltb, eqb, length, get_or, Float}
use Rattle.std.proofs.Common.{sym, ◌∙◌, inl, inr, arith, eq-eqb}
use Rattle.std.proofs.Math.Decide.{dec_le}
use Rattle.rules.specs.Limits.{highest_vertex}
use Rattle.rules.specs.Tools.{pick}
use Rattle.rules.specs.HandedOver.{at}
use Rattle.rules.specs.Bits.{same_point}
use Rattle.rules.specs.Marks.{start_kind, cut_kind, back_step_kind, touch_kind, landing_kind, kind_at, reference_at, vertices_after}
use Rattle.statement.specs.Division.{IsJumpOrTouch}
use Rattle.contour_recovery.specs.ContourRecovery.{consistent}
use Rattle.recovery_laws.specs.Vertices.{vertex_landed, vertex_cut, vertex_back}
use Rattle.recovery_laws.specs.ByKind.{fresh, start_rule, cut_rule, back_rule_after, landing_rule, no_rule, rule_within}
use Rattle.landings.specs.declared.words.Landings.{Landings}
use Rattle.landings.specs.LandedBefore.{count_of}
use Rattle.path_vertices.specs.ReadTo.{ReadTo}

fails : (b : Bool) → (b ≡ true → ⊥) → b ≡ false
fails true h = absurd (h refl)
fails false h = refl

pub not_first : (i : ℕ) (b : Bool) → not (eqb i 0) && b ≡ true → 0 < i
not_first zero b e = absurd (grind (arith, e))
not_first (suc i) b e = omega arith

above_cut : {kind : ℕ} → IsJumpOrTouch kind → kind ≡ cut_kind → ⊥
above_cut (inl e) x = omega (arith, e, x)
above_cut (inr e) x = omega (arith, e, x)

above_back : {kind : ℕ} → IsJumpOrTouch kind → kind ≡ back_step_kind → ⊥
above_back (inl e) x = omega (arith, e, x)
above_back (inr e) x = omega (arith, e, x)

module _ (w : Landings) (path : List Float) (ms : List ℕ) (i : ℕ) (whole : length ms ≡ 2 * count_of w) (inside : i < count_of w)
    (read : ReadTo w path ms i) where
  abbrev vs : List ℕ
  vs = vertices_after [] ms

  abbrev word : ℕ → ℕ
  word j = get_or w.vertices.now j 0

  pub word_within : 0 < i → word (i - 1) ≤ highest_vertex
  word_within h =
      let l : i - 1 < i = omega (arith, h) in
      omega (arith, read.vertices (i - 1) l, rule_within path ms vs (i - 1) (read.kept (i - 1) l))

  -- ---- a mark that has kind and reference r

  pub no_kind : (kind_at ms i ≤ touch_kind → ⊥) → consistent path ms vs i ≡ false
  no_kind h = no_rule path ms vs i (omega (arith, h))

  module _ (r : ℕ) (named : r ≡ reference_at ms i) where
    pub start_vertex : kind_at ms i ≡ start_kind → r ≡ get_or vs i 0
    start_vertex e = named ∙ sym (vertex_landed ms (count_of w) i whole inside (λ x. omega (arith, e, x)) (λ x. omega (arith, e, x)))

    pub start_keeps : kind_at ms i ≡ start_kind → i ≡ 0 → fresh ms vs i r ≡ consistent path ms vs i
    start_keeps e z = sym (start_rule path ms vs i e ∙ rw (eq-eqb i 0 z, start_vertex e) refl)

    pub late_start : kind_at ms i ≡ start_kind → 0 < i → consistent path ms vs i ≡ false
    late_start e h = start_rule path ms vs i e ∙ grind (arith, h)

    pub cut_vertex : kind_at ms i ≡ cut_kind → 0 < i → pick (eqb (word (i - 1)) r) (suc r) r ≡ get_or vs i 0
    cut_vertex e h =
        let b = read.vertices (i - 1) (omega (arith, h)) in rw (b, named) (sym (vertex_cut ms (count_of w) i whole inside e h))

    pub cut_keeps : kind_at ms i ≡ cut_kind → not (eqb i 0) && (eqb (word (i - 1)) r || eqb (word (i - 1)) (suc r)) ≡ true → (u : ℕ) →
        u ≡ pick (eqb (word (i - 1)) r) (suc r) r → fresh ms vs i u ≡ consistent path ms vs i
    cut_keeps e t u p =
        let h = not_first i _ t in
        let b = read.vertices (i - 1) (omega (arith, h)) in
        sym (cut_rule path ms vs i e ∙ rw (← named, ← b, t, p, cut_vertex e h) refl)

    pub cut_off : kind_at ms i ≡ cut_kind → (not (eqb i 0) && (eqb (word (i - 1)) r || eqb (word (i - 1)) (suc r)) ≡ true → ⊥) →
        consistent path ms vs i ≡ false
    cut_off e t = go (dec_le 1 i)
      where
        go : Dec (0 < i) → consistent path ms vs i ≡ false
        go (yes h) =
            let b = read.vertices (i - 1) (omega (arith, h)) in
            cut_rule path ms vs i e ∙ rw (← named, ← b, fails _ t) refl
        go (no h) = cut_rule path ms vs i e ∙ grind (arith, h)

    pub back_keeps : kind_at ms i ≡ back_step_kind →
        ltb (suc r) i && eqb (word (i - 1)) (word (suc r)) && same_point (at path i) (at path r) ≡ consistent path ms vs i
    back_keeps e = go (dec_le (suc (suc r)) i)
      where
        go : Dec (suc (suc r) ≤ i) → ltb (suc r) i && eqb (word (i - 1)) (word (suc r)) && same_point (at path i) (at path r) ≡ consistent path ms vs i
        go (yes h) =
            let a = read.vertices (i - 1) (omega (arith, h)) in
            let b = read.vertices (suc r) (omega (arith, h)) in
            sym (back_rule_after path ms (count_of w) i whole inside read.kept e ∙ rw (← named, a, b) refl)
        go (no h) = sym (back_rule_after path ms (count_of w) i whole inside read.kept e ∙ rw (← named) (grind (arith, h)))

    pub back_vertex : kind_at ms i ≡ back_step_kind → r < i → word r ≡ get_or vs i 0
    back_vertex e h =
        read.vertices r h ∙ sym (rw (← named) at (vertex_back ms (count_of w) i whole inside e (omega (arith, named, h))))

    module _ (jump : IsJumpOrTouch (kind_at ms i)) where
      pub landing_vertex : r ≡ get_or vs i 0
      landing_vertex = named ∙ sym (vertex_landed ms (count_of w) i whole inside (above_cut jump) (above_back jump))

      pub landing_keeps : not (eqb i 0) && eqb (kind_at ms i) (landing_kind (at path (i - 1)) (at path i)) ≡ true →
          fresh ms vs i r ≡ consistent path ms vs i
      landing_keeps t = sym (landing_rule path ms vs i jump ∙ rw (← landing_vertex) (grind (arith, t)))

      pub landing_off : not (eqb i 0) && eqb (kind_at ms i) (landing_kind (at path (i - 1)) (at path i)) ≡ false → consistent path ms vs i ≡ false
      landing_off t = landing_rule path ms vs i jump ∙ grind (arith, t)
