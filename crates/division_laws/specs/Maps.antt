-- A path that divides by vertices divides by what stands at them: pairs, the division and the nine cells, where path points are compared by another thing that
-- agrees. Assumes nothing.
use Rattle.std.specs.Prelude.{◌≡◌, refl, ◌⊎◌, Bool, true, false, not, List, ℕ, suc, ◌<◌, T}
use Rattle.std.proofs.Common.{sym, ap, ◌∙◌, inl, inr, arith}
use Rattle.rules.specs.Tools.{pick}
use Rattle.rules.specs.HandedOver.{Contour}
use Rattle.rules.specs.Marks.{jump_kind, touch_kind, coincide, landing_kind, kind_at, reference_at}
use Rattle.statement.specs.Division.{JumpOrTouch, IsJumpOrTouch, PairOf, Division, NineCells}
use Rattle.rules.specs.declared.Point.{Point}
use Rattle.rules.specs.declared.SpatialGrid.{SpatialGrid}

-- the kind of a landing says whether its points are equal
pub kind_tells : (a b : Point) → JumpOrTouch a b (landing_kind a b)
unfolding landing_kind pick
kind_tells a b = go (coincide a b)
  where
    go : (t : Bool) → ((pick t touch_kind jump_kind ≡ jump_kind) × T (not t)) ⊎ ((pick t touch_kind jump_kind ≡ touch_kind) × T t)
    go true = inr (refl, tt)
    go false = inl (refl, tt)

-- a cut or a back-step is no jump or touch
pub no_landing : {A : Type 0} (kind : ℕ) → kind < jump_kind → IsJumpOrTouch kind → A
no_landing kind h (inl e) = absurd (omega (arith, e))
no_landing kind h (inr e) = absurd (omega (arith, e))

-- Of the first n path points and of vertices, what is compared: f makes the second of the first. x and y are the path points' coordinates.
pub record Agrees {A B : Type 0} (f : A → B) (u v : ℕ → A) (u' v' : ℕ → B) (x y : ℕ → Point) (n : ℕ) : Type 0 where
  pub vertex : (r : ℕ) → u' r ≡ f (u r)
  pub point : (i : ℕ) → i < n → v' i ≡ f (v i)
  pub coordinates : (i : ℕ) → i < n → y i ≡ x i

module _ {A B : Type 0} (f : A → B) (cs : List Contour) (u v : ℕ → A) (u' v' : ℕ → B) (x y : ℕ → Point) (n : ℕ) (a : Agrees f u v u' v' x y n) where
  -- a landing may be new in another sense too
  pub pair_maps : (New New' : Contour → Type 0) → ((c : Contour) → New c → New' c) → (k kind r : ℕ) → suc k < n →
      PairOf cs x u v New k kind r → PairOf cs y u' v' New' k kind r
  pair_maps New New' g k kind r h (inl (e, c)) =
      inl (
        e,
        record {
          segment = c.segment;
          sense =
              rw (a.point k (omega arith), a.point (suc k) h, a.vertex r, a.vertex (suc r))
              (elim c.sense [ inl s ↦ inl (ap f s.0, ap f s.1) | inr s ↦ inr (ap f s.0, ap f s.1) ]);
        },
      )
  pair_maps New New' g k kind r h (inr (inl (e, b))) =
      let l = b.earlier in
      inr (inl (
        e,
        record {
          earlier = l;
          from = a.point k (omega arith) ∙ ap f b.from ∙ sym (a.point (suc r) (omega arith));
          to = a.point (suc k) h ∙ ap f b.to ∙ sym (a.point r (omega arith));
        },
      ))
  pair_maps New New' g k kind r h (inr (inr (e, j))) =
      let s = j.fresh in
      inr (inr (
        rw (a.coordinates k (omega arith), a.coordinates (suc k) h) e,
        record { landing = a.point (suc k) h ∙ ap f j.landing ∙ sym (a.vertex r); fresh = (s.0, s.1, s.2, g s.0 s.3) },
      ))

  pub division_maps : (New New' : ℕ → Contour → Type 0) → ((k : ℕ) → suc k < n → (c : Contour) → New k c → New' k c) → (ms : List ℕ) →
      Division cs x u v New n ms → Division cs y u' v' New' n ms
  division_maps New New' g ms d =
      record {
        whole = d.whole;
        start = λ h. let s = d.start h in (s.0, s.1, a.point 0 h ∙ ap f s.2 ∙ sym (a.vertex (reference_at ms 0)));
        pairs = λ k h. pair_maps (New k) (New' k) (g k h) k (kind_at ms (suc k)) (reference_at ms (suc k)) h (d.pairs k h);
        cuts = d.cuts;
        jumps = d.jumps;
        points = d.points;
        once = d.once;
      }

-- the same coordinates, the same nine cells
pub cells_same : (g : SpatialGrid) (x y : ℕ → Point) (n : ℕ) (ms : List ℕ) → ((i : ℕ) → i < n → y i ≡ x i) → NineCells g x n ms → NineCells g y n ms
cells_same g x y n ms same near k h lands i l = rw (same i (omega arith), same k (omega arith), same (suc k) h) (near k h lands i l)
