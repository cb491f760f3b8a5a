-- Which vertices are landed on among the first path points, and where. Assumes nothing.
use Rattle.std.specs.Prelude.{◌⊎◌, ◌-◌, ◌≡◌, refl, Bool, true, false, not, ◌||◌, List, ℕ, zero, suc, ◌+◌, ◌≤◌, ◌<◌, T, max, eqb, get_or, Float}
use Rattle.std.proofs.Common.{inl, inr, subst, ◌∙◌, arith, eqb-true, eq-eqb}
use Rattle.std.proofs.Math.Bool.{and-true, or-true}
use Rattle.std.specs.Float.Ieee.Bits.{is_true}
use Rattle.std.proofs.Math.Decide.{dec_le}
use Rattle.rules.specs.Limits.{highest_vertex, most_points}
use Rattle.rules.specs.Tools.{pick, any, up_from, first_failing}
use Rattle.rules.specs.Marks.{cut_kind, back_step_kind, touch_kind, kind_at, enters}
use Rattle.division_laws.specs.Rules.{first_failing_lem}
use Rattle.contour_recovery.specs.ContourRecovery.{lands_on, landed, consistent, vertex_count, landing_place}
use Rattle.recovery_laws.specs.ByKind.{rule_lands}

pub any_more : (test : ℕ → Bool) (a n : ℕ) → any test (up_from a (suc n)) ≡ any test (up_from a n) || test (a + n)
unfolding any
any_more test a zero = let z : a + 0 ≡ a = omega arith in rw z (grind arith)
any_more test a (suc n) =
    let e : a + suc n ≡ suc a + n = omega arith in
    rw (e, any_more test (suc a) n) (grind arith)

-- path point i lands on its vertex
unfoldable pub lands : List ℕ → ℕ → Bool
lands ms i = enters (kind_at ms i) || eqb (kind_at ms i) cut_kind

pub lands_on_it : (ms vs : List ℕ) (i v : ℕ) → v ≡ get_or vs i 0 → lands_on ms vs v i ≡ lands ms i
unfolding lands_on lands
lands_on_it ms vs i v e = rw (e, eq-eqb (get_or vs i 0) (get_or vs i 0) refl) (and-true (enters (kind_at ms i) || eqb (kind_at ms i) cut_kind))

-- what enters or cuts, lands on its own vertex
pub entry_lands : (ms vs : List ℕ) (i : ℕ) → T (enters (kind_at ms i)) → lands_on ms vs (get_or vs i 0) i ≡ true
unfolding lands
entry_lands ms vs i t = lands_on_it ms vs i (get_or vs i 0) refl ∙ (rw (is_true (enters (kind_at ms i)) t) refl)

pub cut_lands : (ms vs : List ℕ) (i : ℕ) → kind_at ms i ≡ cut_kind → lands_on ms vs (get_or vs i 0) i ≡ true
unfolding lands
cut_lands ms vs i e = lands_on_it ms vs i (get_or vs i 0) refl ∙ (rw (eq-eqb (kind_at ms i) cut_kind e) (or-true (enters (kind_at ms i))))

module _ (ms vs : List ℕ) where
  -- ---- one path point more

  pub landed_none : (v : ℕ) → landed ms vs 0 v ≡ false
  unfolding landed any
  landed_none v = refl

  pub landed_more : (i v : ℕ) → landed ms vs (suc i) v ≡ landed ms vs i v || lands_on ms vs v i
  unfolding landed
  landed_more i v = let z : 0 + i ≡ i = omega arith in rw z at (any_more (lands_on ms vs v) 0 i)

  -- a back-step lands on nothing, and every other mark on the path point's vertex
  pub landed_back : (i v : ℕ) → kind_at ms i ≡ back_step_kind → landed ms vs (suc i) v ≡ landed ms vs i v
  unfolding lands_on enters
  landed_back i v e = landed_more i v ∙ rw e (grind arith)

  pub landed_here : (i v : ℕ) → kind_at ms i ≤ touch_kind → (kind_at ms i ≡ back_step_kind → ⊥) →
      landed ms vs (suc i) v ≡ landed ms vs i v || eqb (get_or vs i 0) v
  unfolding lands_on enters
  landed_here i v l n = landed_more i v ∙ grind (arith, l, n)

  pub lands_there : (i v : ℕ) → lands_on ms vs v i ≡ true → get_or vs i 0 ≡ v
  unfolding lands_on
  lands_there i v e = eqb-true (get_or vs i 0) v (grind (arith, e))

  -- ---- where

  -- before path point n, or there
  earlier_or_here : (v n : ℕ) → landed ms vs (suc n) v ≡ true → (landed ms vs n v ≡ true) ⊎ (lands_on ms vs v n ≡ true)
  earlier_or_here v n e = go (landed ms vs n v) refl
    where
      go : (b : Bool) → landed ms vs n v ≡ b → (landed ms vs n v ≡ true) ⊎ (lands_on ms vs v n ≡ true)
      go true h = inl h
      go false h = inr (grind (arith, e, h, landed_more n v))

  pub landed_at : (v n : ℕ) → landed ms vs n v ≡ true → (j : ℕ) × (j < n) × (lands_on ms vs v j ≡ true)
  landed_at v zero e = absurd (grind (arith, e, landed_none v))
  landed_at v (suc n) e =
      elim (earlier_or_here v n e) [
        | inl h ↦ let (j, l, t) = landed_at v n h in (j, omega (arith, l), t)
        | inr h ↦ (n, omega arith, h)
      ]

  landed_later : (v n d : ℕ) → landed ms vs n v ≡ true → landed ms vs (n + d) v ≡ true
  landed_later v n zero e = let z : n + 0 ≡ n = omega arith in rw z e
  landed_later v n (suc d) e =
      let s : n + suc d ≡ suc (n + d) = omega arith in
      let h = landed_later v n d e in
      rw (s, landed_more (n + d) v, h) refl

  pub at_landed : (v n j : ℕ) → j < n → lands_on ms vs v j ≡ true → landed ms vs n v ≡ true
  at_landed v n j l e =
      let s : suc j + (n - suc j) ≡ n = omega (arith, l) in
      rw s at (landed_later v (suc j) (n - suc j) (landed_more j v ∙ grind (arith, e)))

  -- ---- the number of vertices

  pub count_above : (v n : ℕ) → landed ms vs n v ≡ true → v < vertex_count ms vs n
  unfolding vertex_count pick
  count_above v zero e = absurd (grind (arith, e, landed_none v))
  count_above v (suc n) e = go (earlier_or_here v n e) (count_above v n)
    where
      go : (landed ms vs n v ≡ true) ⊎ (lands_on ms vs v n ≡ true) → (landed ms vs n v ≡ true → v < vertex_count ms vs n) →
          v < vertex_count ms vs (suc n)
      go (inl h) below = omega (arith, below h)
      go (inr h) below = let u = lands_there n v h in rw (u, h) (omega arith)

  -- it is one more than a vertex landed on, or 0
  pub count_landed : (v n : ℕ) → vertex_count ms vs n ≡ suc v → landed ms vs n v ≡ true
  unfolding vertex_count pick
  count_landed v zero e = absurd (omega (arith, e))
  count_landed v (suc n) e = go (lands_on ms vs u n) refl (dec_le (suc u) (vertex_count ms vs n)) (count_landed v n) e
    where
      u : ℕ
      u = get_or vs n 0

      go : (b : Bool) → lands_on ms vs u n ≡ b → Dec (u < vertex_count ms vs n) → (vertex_count ms vs n ≡ suc v → landed ms vs n v ≡ true) →
          max (vertex_count ms vs n) (pick b (suc u) 0) ≡ suc v → landed ms vs (suc n) v ≡ true
      go true h (yes d) below c = landed_more n v ∙ rw (below (omega (arith, c, d))) refl
      go true h (no d) below c = let same : u ≡ v = omega (arith, c, d) in landed_more n v ∙ (rw (← same, h) (grind arith))
      go false h d below c = landed_more n v ∙ rw (below (omega (arith, c))) refl

  -- there are few, where no vertex is above 65,535
  pub count_small : (n : ℕ) → ((j : ℕ) → j < n → get_or vs j 0 ≤ highest_vertex) → vertex_count ms vs n ≤ most_points
  count_small n h = go (vertex_count ms vs n) refl
    where
      go : (k : ℕ) → vertex_count ms vs n ≡ k → k ≤ most_points
      go zero e = omega arith
      go (suc u) e = let (j, l, t) = landed_at u n (count_landed u n e) in omega (arith, lands_there j u t, h j l)

  -- ---- the landing place

  pub place_lands : (v n : ℕ) → landed ms vs n v ≡ true → (landing_place ms vs n v < n) × (lands_on ms vs v (landing_place ms vs n v) ≡ true)
  unfolding landing_place
  place_lands v n e =
      let other : ℕ → Bool = λ j. not (lands_on ms vs v j) in
      let place = first_failing other 0 n in
      let first = first_failing_lem other 0 n in
      let (j, l, t) = landed_at v n e in
      let early : place ≤ j = here place j first.before t (dec_le place j) in
      (omega (arith, early, l), stands (lands_on ms vs v place) (first.fails (omega (arith, early, l))))
    where
      here : (place j : ℕ) → ((i : ℕ) → 0 ≤ i → i < place → T (not (lands_on ms vs v i))) → lands_on ms vs v j ≡ true → Dec (place ≤ j) → place ≤ j
      here place j before t (yes h) = h
      here place j before t (no h) = absurd (subst (λ (b : Bool). T (not b)) t (before j (omega arith) (omega (arith, h))))

      stands : (b : Bool) → (T (not b) → ⊥) → b ≡ true
      stands true h = refl
      stands false h = absurd (h tt)

  -- where the path points keep the rules, each vertex is landed on in one place
  module _ (path : List Float) (n : ℕ) (kept : (i : ℕ) → i < n → consistent path ms vs i ≡ true) where
    pub new_landing : (i v : ℕ) → i < n → lands_on ms vs v i ≡ true → landed ms vs i v ≡ false
    new_landing i v l e = let u = lands_there i v e in rw u at (rule_lands path ms vs i (kept i l) (rw u e))

    pub one_landing : (i j v : ℕ) → i < n → j < n → lands_on ms vs v i ≡ true → lands_on ms vs v j ≡ true → i ≡ j
    one_landing i j v l m e f = go (dec_le (suc i) j) (dec_le (suc j) i)
      where
        twice : (i j : ℕ) → i < j → j < n → lands_on ms vs v i ≡ true → lands_on ms vs v j ≡ true → ⊥
        twice i j h m e f = grind (arith, at_landed v j i h e, new_landing j v m f)

        go : Dec (suc i ≤ j) → Dec (suc j ≤ i) → i ≡ j
        go (yes h) d = absurd (twice i j h m e f)
        go (no h) (yes g) = absurd (twice j i g l f e)
        go (no h) (no g) = omega (arith, h, g)

    pub landing_place_is : (i v : ℕ) → i < n → lands_on ms vs v i ≡ true → landing_place ms vs n v ≡ i
    landing_place_is i v l e =
        let (m, f) = place_lands v n (at_landed v n i l e) in one_landing (landing_place ms vs n v) i v m l f e
