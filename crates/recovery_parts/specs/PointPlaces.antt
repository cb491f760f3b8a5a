-- Where the path points of a path that keeps the rules land, and the points that are written for that. Assumes nothing.
use Rattle.std.specs.Prelude.{◌≡◌, refl, true, false, List, ℕ, ◌+◌, ◌-◌, ◌*◌, ◌/◌, ◌<◌, ◌≤◌, Float, length, get_or, set, drop}
use Rattle.std.specs.Float.{nan}
use Rattle.std.proofs.Common.{arith, ◌∙◌, ap, ap₂, sym, eqb-true, length-set, get_or-set_same, get_or-set_other}
use Rattle.std.proofs.lemmas.List.{ext_get_or, get_or_append_left, get_or-append_right, get_or-drop}
use Rattle.std.proofs.Math.Decide.{ℕ_discrete, dec_le}
use Rattle.std.proofs.lemmas.Bool.{and_parts, false≢true}
use Rattle.rules.specs.declared.Point.{Point}
use Rattle.rules.specs.HandedOver.{at, over}
use Rattle.slices.specs.Over.{over_length}
use Rattle.contour_recovery.specs.ContourRecovery.{lands_on, landing_place, recovered_points}
use Rattle.recovery_laws.specs.Points.{points_length, point_at}
use Rattle.recovery_laws.specs.LandedVertices.{lands, lands_on_it}

-- each of the first m vertices, and no other, is landed on, and in one place
pub record LandedOnce (ms vs : List ℕ) (m : ℕ) : Type 0 where
  pub all : (v : ℕ) → v < m → let k = landing_place ms vs (length vs) v in (k < length vs) × (lands_on ms vs v k ≡ true)
  pub once : (i v : ℕ) → i < length vs → lands_on ms vs v i ≡ true → (v < m) × (landing_place ms vs (length vs) v ≡ i)

module _ (path : List Float) (ms vs : List ℕ) (m : ℕ) (before : List Float) where
  abbrev place : ℕ → ℕ
  place = landing_place ms vs (length vs)

  -- the first m vertices that are landed on before path point i have their points
  pub record PutTo (i : ℕ) (after : List Float) : Type 0 where
    pub kept : length after ≡ length before
    pub placed : (v : ℕ) → v < m → place v < i → at after v ≡ at path (place v)
    pub beyond : (k : ℕ) → 2 * m ≤ k → get_or after k nan ≡ get_or before k nan

  pub put_none : PutTo 0 before
  put_none = record { kept = refl; placed = λ v h l. absurd (omega arith); beyond = λ k h. refl }

  module _ (once : LandedOnce ms vs m) (i : ℕ) (h : i < length vs) (after : List Float) (p : PutTo i after) where
    abbrev v : ℕ
    v = get_or vs i 0

    vertex_there : (u : ℕ) → u < m → place u ≡ i → lands_on ms vs u i ≡ true
    vertex_there u l e = rw (← e) (once.all u l).1

    -- path point i lands on nothing
    pub put_passing : lands ms i ≡ false → PutTo (i + 1) after
    unfolding lands_on lands
    put_passing e = record { kept = p.kept; placed = λ u l s. p.placed u l (go u l s (dec_le i (place u))); beyond = p.beyond }
      where
        go : (u : ℕ) → u < m → place u < i + 1 → Dec (i ≤ place u) → place u < i
        go u l s (yes g) =
            let t = vertex_there u l (omega (arith, s, g)) in
            absurd (false≢true (sym e ∙ (and_parts _ _ t).0))
        go u l s (no g) = omega (arith, g)

    -- path point i lands on v
    module _ (e : lands ms i ≡ true) where
      landed_below : (v < m) × (place v ≡ i)
      landed_below = once.once i v h (lands_on_it ms vs i v refl ∙ e)

      abbrev x : Float
      x = get_or path (2 * i) nan

      abbrev y : Float
      y = get_or path (2 * i + 1) nan

      abbrev after_x : List Float
      after_x = set after (2 * v) x

      module _ (room : 2 * m ≤ length before) where
        pub room_x : 2 * v < length after
        room_x = omega (arith, room, landed_below.0, p.kept)

        pub room_y : 2 * v + 1 < length after_x
        room_y = omega (arith, room, landed_below.0, p.kept, length-set after (2 * v) x)

        abbrev after_y : List Float
        after_y = set after_x (2 * v + 1) y

        here : at after_y v ≡ at path i
        unfolding at
        here =
            ap₂ (λ (a b : Float). record { x = a; y = b })
            (get_or-set_other after_x (2 * v + 1) (2 * v) y nan (λ e. omega (arith, e)) ∙ get_or-set_same after (2 * v) x nan room_x)
            (get_or-set_same after_x (2 * v + 1) y nan room_y)

        same : (k : ℕ) → (k ≡ 2 * v → ⊥) → (k ≡ 2 * v + 1 → ⊥) → get_or after_y k nan ≡ get_or after k nan
        same k a b = get_or-set_other after_x (2 * v + 1) k y nan b ∙ get_or-set_other after (2 * v) k x nan a

        other : (u : ℕ) → (u ≡ v → ⊥) → at after_y u ≡ at after u
        unfolding at
        other u n =
            ap₂ (λ (a b : Float). record { x = a; y = b })
            (same (2 * u) (λ e. n (omega (arith, e))) (λ e. omega (arith, e)))
            (same (2 * u + 1) (λ e. omega (arith, e)) (λ e. n (omega (arith, e))))

        earlier : (u : ℕ) → u < m → place u < i + 1 → (u ≡ v → ⊥) → Dec (i ≤ place u) → place u < i
        unfolding lands_on
        earlier u l s n (yes g) =
            let t = vertex_there u l (omega (arith, s, g)) in
            absurd (n (sym (eqb-true v u (and_parts _ _ t).1)))
        earlier u l s n (no g) = omega (arith, g)

        placed_now : (u : ℕ) → u < m → place u < i + 1 → Dec (u ≡ v) → at after_y u ≡ at path (place u)
        placed_now u l s (yes e) = rw (e, landed_below.1) here
        placed_now u l s (no n) = other u n ∙ p.placed u l (earlier u l s n (dec_le i (place u)))

        pub put_landing : PutTo (i + 1) after_y
        put_landing =
            record {
              kept = length-set after_x (2 * v + 1) y ∙ length-set after (2 * v) x ∙ p.kept;
              placed = λ u l s. placed_now u l s (ℕ_discrete u v);
              beyond = λ k b. same k (λ e. omega (arith, e, b, landed_below.0)) (λ e. omega (arith, e, b, landed_below.0)) ∙ p.beyond k b;
            }

  module _ (once : LandedOnce ms vs m) (room : 2 * m ≤ length before) (after : List Float) (p : PutTo (length vs) after) where
    abbrev all : List Float
    all = recovered_points path ms vs (length vs) m

    all_length : length all ≡ 2 * m
    all_length = points_length path ms vs (length vs) m

    both_at : (u : ℕ) → u < m → at after u ≡ at all u
    both_at u h = p.placed u h (once.all u h).0 ∙ sym (point_at path ms vs (length vs) m u h)

    -- within the point of vertex u
    within : (k u : ℕ) → u < m → Dec (k ≡ 2 * u) → k < 2 * u + 2 → 2 * u ≤ k → get_or after k nan ≡ get_or all k nan
    unfolding at
    within k u h (yes e) a b = rw e (ap (λ (q : Point). q.x) (both_at u h))
    within k u h (no n) a b = let e : k ≡ 2 * u + 1 = omega (arith, n, a, b) in rw e (ap (λ (q : Point). q.y) (both_at u h))

    same_at : (k : ℕ) → Dec (2 * m ≤ k) → get_or after k nan ≡ get_or (over all before) k nan
    unfolding over
    same_at k (no l) =
        within k (k / 2) (omega (arith, l)) (ℕ_discrete k (2 * (k / 2))) (omega arith) (omega arith)
        ∙ sym (get_or_append_left all (drop (length all) before) nan k (omega (arith, l, all_length)))
    same_at k (yes g) =
        let e : length all + (k - length all) ≡ k = omega (arith, g, all_length) in
        p.beyond k g
        ∙ sym
        (get_or-append_right all (drop (length all) before) (length all) k nan refl (omega (arith, g, all_length))
        ∙ get_or-drop (length all) before (k - length all) nan
        ∙ ap (λ j. get_or before j nan) e)

    pub put_all : after ≡ over all before
    put_all =
        ext_get_or nan after (over all before) (p.kept ∙ sym (over_length all before (omega (arith, room, all_length))))
        (λ k h. same_at k (dec_le (2 * m) k))
