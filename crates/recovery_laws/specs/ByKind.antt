-- Whether a path point keeps the rules of marks, by the kind of its mark. Assumes nothing.
use Rattle.std.specs.Prelude.{length, [], ◌≡◌, refl, Bool, true, false, not, ◌&&◌, ◌||◌, List, ℕ, suc, ◌-◌, ◌*◌, ◌≤◌, ◌<◌, leb, ltb, eqb, get_or, Float}
use Rattle.std.proofs.Common.{◌∙◌, inl, inr, arith, eq-eqb}
use Rattle.std.proofs.lemmas.Bool.{lt-leb, le-leb}
use Rattle.std.proofs.Math.Decide.{dec_le}
use Rattle.rules.specs.Limits.{highest_vertex}
use Rattle.rules.specs.Tools.{pick}
use Rattle.rules.specs.HandedOver.{at}
use Rattle.rules.specs.Bits.{same_point}
use Rattle.rules.specs.Marks.{start_kind, cut_kind, back_step_kind, touch_kind, landing_kind, kind_at, reference_at, vertices_after, enters}
use Rattle.statement.specs.Division.{IsJumpOrTouch}
use Rattle.contour_recovery.specs.ContourRecovery.{lands_on, landed, only_where, known_kind, vertex_in_range, cuts_from_an_end, returns_over_a_pair, starts_first, lands_once, returns_to_bits, jumps_apart, consistent}
use Rattle.recovery_laws.specs.Vertices.{vertex_back}

-- Vertex v may be landed on by path point i: it is not above 65,535, and not landed on before.
unfoldable pub fresh : List ℕ → List ℕ → ℕ → ℕ → Bool
fresh ms vs i v = leb v highest_vertex && not (landed ms vs i v)

module _ (path : List Float) (ms vs : List ℕ) (i : ℕ) where
  abbrev v : ℕ
  v = get_or vs i 0

  abbrev before : ℕ
  before = get_or vs (i - 1) 0

  abbrev r : ℕ
  r = reference_at ms i

  pub start_rule : kind_at ms i ≡ start_kind → consistent path ms vs i ≡ eqb i 0 && fresh ms vs i v
  unfolding fresh consistent known_kind vertex_in_range cuts_from_an_end returns_over_a_pair starts_first lands_once returns_to_bits jumps_apart
      only_where lands_on enters
  start_rule e = rw (e, eq-eqb v v refl) (grind arith)

  pub cut_rule : kind_at ms i ≡ cut_kind → consistent path ms vs i ≡ not (eqb i 0) && (eqb before r || eqb before (suc r)) && fresh ms vs i v
  unfolding fresh consistent known_kind vertex_in_range cuts_from_an_end returns_over_a_pair starts_first lands_once returns_to_bits jumps_apart
      only_where lands_on enters
  cut_rule e = rw (e, eq-eqb v v refl) (grind arith)

  -- a back-step's path point k + 1 is an earlier one, so it is not the first itself
  pub back_rule : kind_at ms i ≡ back_step_kind →
      consistent path ms vs i ≡ ltb (suc r) i && eqb before (get_or vs (suc r) 0) && leb v highest_vertex && same_point (at path i) (at path r)
  unfolding fresh consistent known_kind vertex_in_range cuts_from_an_end returns_over_a_pair starts_first lands_once returns_to_bits jumps_apart
      only_where lands_on enters
  back_rule e = rw e (grind arith)

  pub landing_rule : IsJumpOrTouch (kind_at ms i) →
      consistent path ms vs i ≡ not (eqb i 0) && fresh ms vs i v && eqb (kind_at ms i) (landing_kind (at path (i - 1)) (at path i))
  unfolding fresh consistent known_kind vertex_in_range cuts_from_an_end returns_over_a_pair starts_first lands_once returns_to_bits jumps_apart
      only_where lands_on enters landing_kind pick
  landing_rule (inl e) = rw (e, eq-eqb v v refl) (grind arith)
  landing_rule (inr e) = rw (e, eq-eqb v v refl) (grind arith)

  -- there is no such kind
  pub no_rule : touch_kind < kind_at ms i → consistent path ms vs i ≡ false
  unfolding consistent known_kind
  no_rule h = rw (lt-leb (kind_at ms i) touch_kind h) refl

  -- ---- what a path point has that keeps the rules

  pub rule_known : consistent path ms vs i ≡ true → kind_at ms i ≤ touch_kind
  unfolding consistent known_kind
  rule_known e = grind arith

  pub rule_within : consistent path ms vs i ≡ true → v ≤ highest_vertex
  unfolding consistent vertex_in_range
  rule_within e = grind arith

  pub rule_lands : consistent path ms vs i ≡ true → lands_on ms vs v i ≡ true → landed ms vs i v ≡ false
  unfolding consistent lands_once only_where
  rule_lands e l = grind arith

-- ---- a back-step after path points that keep the rules

module _ (path : List Float) (ms : List ℕ) (n i : ℕ) (whole : length ms ≡ 2 * n) (inside : i < n)
    (earlier : (j : ℕ) → j < i → consistent path ms (vertices_after [] ms) j ≡ true) where
  -- its vertex is an earlier path point's
  pub back_within : kind_at ms i ≡ back_step_kind → reference_at ms i < i → get_or (vertices_after [] ms) i 0 ≤ highest_vertex
  back_within e h =
      let k = reference_at ms i in
      rw (vertex_back ms n i whole inside e h) (rule_within path ms (vertices_after [] ms) k (earlier k h))

  pub back_rule_after : kind_at ms i ≡ back_step_kind →
      let vs = vertices_after [] ms in
      let k = reference_at ms i in
      consistent path ms vs i ≡ ltb (suc k) i && eqb (get_or vs (i - 1) 0) (get_or vs (suc k) 0) && same_point (at path i) (at path k)
  back_rule_after e = go (dec_le (suc (suc (reference_at ms i))) i)
    where
      vs : List ℕ
      vs = vertices_after [] ms

      go : Dec (suc (suc (reference_at ms i)) ≤ i) →
          consistent path ms vs i
          ≡ ltb (suc (reference_at ms i)) i && eqb (get_or vs (i - 1) 0) (get_or vs (suc (reference_at ms i)) 0) && same_point (at path i) (at path (reference_at ms i))
      go (yes h) = let l = le-leb _ _ (back_within e (omega (arith, h))) in back_rule path ms vs i e ∙ rw l (grind arith)
      go (no h) = back_rule path ms vs i e ∙ grind (arith, h)
