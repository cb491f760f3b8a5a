-- The runs of vertices with flags, vertex by vertex. Assumes nothing.
use Rattle.std.specs.Prelude.{◌≡◌, refl, Bool, true, false, not, ◌&&◌, ◌||◌, List, [], ◌∷◌, ℕ, suc, ◌+◌, ◌-◌, ◌<◌, ◌≤◌, length, eqb, ltb}
use Rattle.std.proofs.Common.{arith, ◌∙◌, sym, add-one, eqb-true}
use Rattle.std.proofs.Math.Bool.{or-false}
use Rattle.std.proofs.lemmas.Bool.{not-false, or_parts, eqb-false, le-ltb, lt-ltb}
use Rattle.rules.specs.Tools.{pick}
use Rattle.contour_recovery.specs.ContourRecovery.{runs}
use Rattle.recovery_laws.specs.Runs.{pending, pending_none, pending_joined, pending_apart, pending_end, runs_count}

module _ (joined : ℕ → Bool) where
  -- the runs of the vertices from v up to m, with k vertices in front of the first
  unfoldable pub runs_to : ℕ → ℕ → ℕ → List ℕ
  runs_to m v k = pending k (runs joined v (m - v))

  -- vertex v ends its run
  unfoldable pub ends : ℕ → ℕ → Bool
  ends m v = eqb (v + 1) m || not (joined v)

  pub on_before_last : (m v : ℕ) → ends m v ≡ false → v + 1 ≡ m → ⊥
  unfolding ends
  on_before_last m v e = eqb-false (v + 1) m (or_parts _ _ e).0

  on_joined : (m v : ℕ) → ends m v ≡ false → joined v ≡ true
  unfolding ends
  on_joined m v e = not-false _ (or_parts _ _ e).1

  pub runs_end : (m v : ℕ) → m ≤ v → runs_to m v 0 ≡ []
  unfolding runs_to runs
  runs_end m v h = let e : m - v ≡ 0 = omega arith in rw e (pending_none [])

  pub count_end : (m v : ℕ) → m ≤ v → length (runs joined v (m - v)) ≡ 0
  unfolding runs
  count_end m v h = let e : m - v ≡ 0 = omega arith in rw e refl

  module _ (m v : ℕ) (h : v < m) where
    abbrev left : ℕ
    left = m - suc v

    whole : m - v ≡ suc left
    whole = omega arith

    after : v + 1 ≡ suc v
    after = omega arith

    -- it is the last
    last : (b : Bool) → joined v ≡ b → b ≡ true → ends m v ≡ true → left ≡ 0
    unfolding ends
    last b j t e =
        let f : eqb (v + 1) m ≡ true = sym (or-false (eqb (v + 1) m)) ∙ (rw (j, t) at e) in
        omega (arith, eqb-true (v + 1) m f)

    -- the run goes on
    pub runs_on : (k : ℕ) → ends m v ≡ false → runs_to m v k ≡ runs_to m (v + 1) (k + 1)
    unfolding runs_to
    runs_on k e = rw (whole, after, add-one k) (pending_joined joined k v left (on_joined m v e))

    -- the run ends
    pub runs_out : (k : ℕ) → ends m v ≡ true → runs_to m v k ≡ (k + 1) ∷ runs_to m (v + 1) 0
    unfolding runs_to runs
    runs_out k e = rw (whole, after, add-one k, pending_none (runs joined (suc v) left)) (go (joined v) refl)
      where
        go : (b : Bool) → joined v ≡ b → pending k (runs joined v (suc left)) ≡ suc k ∷ runs joined (suc v) left
        go true j = let z = last true j refl e in rw z (pending_joined joined k v 0 j ∙ pending_end joined k (suc v))
        go false j = pending_apart joined k v left j

    count_next : length (runs joined v (m - v)) ≡ pick (joined v && ltb 0 left) 0 1 + length (runs joined (v + 1) (m - (v + 1)))
    count_next = rw (whole, after) (runs_count joined v left)

    pub count_on : ends m v ≡ false → length (runs joined v (m - v)) ≡ length (runs joined (v + 1) (m - (v + 1)))
    unfolding pick
    count_on e =
        let more : 0 < left = omega (arith, on_before_last m v e) in
        let step = rw (on_joined m v e, lt-ltb 0 left more) at count_next in
        omega (arith, step)

    pub count_out : ends m v ≡ true → length (runs joined v (m - v)) ≡ suc (length (runs joined (v + 1) (m - (v + 1))))
    unfolding pick
    count_out e = go (joined v) refl
      where
        go : (b : Bool) → joined v ≡ b → length (runs joined v (m - v)) ≡ suc (length (runs joined (v + 1) (m - (v + 1))))
        go true j =
            let z = last true j refl e in
            let none : ltb 0 left ≡ false = le-ltb 0 left (omega (arith, z)) in
            let step = rw (j, none) at count_next in
            omega (arith, step)
        go false j = let step = rw j at count_next in omega (arith, step)
