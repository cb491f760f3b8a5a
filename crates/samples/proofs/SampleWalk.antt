-- A walk along a contour marks its samples. Assumes nothing.
use mathlib.Core.Path.{◌≡◌, refl, sym, ap, ◌∙◌}
use mathlib.Core.Bool.{Bool, false, ◌||◌}
use mathlib.Core.List.{List, ◌∷◌}
use Prim.Native.Nat.{ℕ, zero, suc, ◌+◌, ◌-◌, ◌≤◌, ◌<◌}
use native.Mathlib.Decide.{ℕ_discrete}
use native.Mathlib.Nat.{add-zero}
use native.Mathlib.Numerals.{add-one}
use native.Mathlib.Omega.{arith}
use lib.Dec.{eqb}
use lib.IntN.{pos}
use lib.Ieee.{Float, fin, binary64, add, rem, le}
use lib.ListN.{length, get_or, drop, set, length-set}
use lib.Seq.{get_or-drop, drop-drop, get_or-set_same, get_or-set_other}
use Rattle.rules.specs.Tools.{pick}
use Rattle.rules.specs.HandedOver.{at}
use Rattle.rules.specs.Distances.{distance}
use Rattle.rules.specs.SamplesAndCache.{sampled_after, sampled}
use Rattle.rules.specs.declared.Point.{Point}
use Rattle.contours.specs.ContourOf.{contour_of}
use Rattle.contours.specs.declared.ContourRange.{ContourRange}
use Rattle.samples.specs.Vertices.{vertex_from}
use Rattle.samples.specs.Owners.{MarkedContour}

drop_head : {A : Type 0} (l : List A) (k : ℕ) (x d : A) (ys : List A) → drop k l ≡ x ∷ ys → (get_or l k d ≡ x) × (drop (k + 1) l ≡ ys)
drop_head l k x d ys e = (
  ap (λ (i : ℕ). get_or l i d) (sym (add-zero k)) ∙ sym (get_or-drop k l 0 d) ∙ ap (λ (m : List _). get_or m 0 d) e,
  sym (drop-drop 1 k l) ∙ ap (drop 1) e,
)

-- one vertex more, of n
after_step : (vertex : ℕ → Point) (s : Float) (i : ℕ) (total : Float) (n : ℕ) → 0 < n →
    let t = add binary64 total (distance (vertex i) (vertex (i + 1))) in
    sampled_after vertex s i total n ≡ (le s t || eqb (n - 1) 0) ∷ sampled_after vertex s (i + 1) (pick (le s t) (rem binary64 t s) t) (n - 1)
unfolding sampled_after
after_step vertex s i total zero g = absurd (omega arith)
after_step vertex s i total (suc n) g = let y : suc n - 1 ≡ n = omega arith in rw (add-one, y)

-- the state of the walk, i vertices after the first
pub record Walk (xs : List Float) (owners₀ owners : List ℕ) (s : Float) (first last owner : ℕ) (total : Float) (i : ℕ) : Type 0 where
  pub i_le : i ≤ last
  pub same : length owners ≡ length owners₀
  pub rest : drop (i + 1) (sampled (vertex_from xs first) s last) ≡ sampled_after (vertex_from xs first) s i total (last - i)
  pub inside : (k : ℕ) → k ≤ i → get_or owners (first + k) 0 ≡ pick (get_or (sampled (vertex_from xs first) s last) k false) owner 0
  pub before : (v : ℕ) → v < first → get_or owners v 0 ≡ get_or owners₀ v 0
  pub after : (v : ℕ) → first + i < v → get_or owners v 0 ≡ get_or owners₀ v 0

module _ {xs : List Float} {owners₀ : List ℕ} {s : Float} {first last owner : ℕ} (room : first + last < length owners₀) where
  pub walk_start : get_or owners₀ first 0 ≡ owner → Walk xs owners₀ owners₀ s first last owner (fin false 0 (pos 0)) 0
  unfolding sampled pick
  walk_start q =
      record {
        i_le = omega arith;
        same = refl;
        rest = let y : last - 0 ≡ last = omega arith in rw y;
        inside = λ k l. let e : k ≡ 0 = omega arith in rw (e, add-zero first) q;
        before = λ v l. refl;
        after = λ v l. refl;
      }

  pub walk_step : {owners : List ℕ} {total t carried : Float} {i mark : ℕ} {b : Bool} → Walk xs owners₀ owners s first last owner total i → i < last →
      t ≡ add binary64 total (distance (at xs (first + i)) (at xs (first + i + 1))) → b ≡ (le s t || eqb (last - i - 1) 0) →
      carried ≡ pick (le s t) (rem binary64 t s) t → mark ≡ pick b owner 0 →
      Walk xs owners₀ (set owners (first + i + 1) mark) s first last owner carried (i + 1)
  unfolding vertex_from
  walk_step {owners = owners} {total = total} {t = t} {i = i} {mark = mark} {b = b} w g et eb ec em =
      let fi : first + (i + 1) ≡ first + i + 1 = omega arith in
      let li : last - (i + 1) ≡ last - i - 1 = omega arith in
      let flags = sampled (vertex_from xs first) s last in
      let d = drop_head flags (i + 1) _ false _ (w.rest ∙ after_step (vertex_from xs first) s i total (last - i) (omega arith)) in
      record {
        i_le = omega arith;
        same = length-set owners (first + i + 1) mark ∙ w.same;
        rest = rw (li, ec, et, ← fi) d.1;
        inside = λ k h. at_most k h (ℕ_discrete k (i + 1)) (rw fi at d.0);
        before = λ v h. get_or-set_other owners (first + i + 1) v mark 0 (λ e. omega arith) ∙ w.before v h;
        after = λ v h. get_or-set_other owners (first + i + 1) v mark 0 (λ e. omega arith) ∙ w.after v (omega arith);
      }
    where
      flags : List Bool
      flags = sampled (vertex_from xs first) s last

      at_most : (k : ℕ) → k ≤ i + 1 → Dec (k ≡ i + 1) →
          get_or flags (i + 1) false ≡ (le s (add binary64 total (distance (at xs (first + i)) (at xs (first + i + 1)))) || eqb (last - i - 1) 0) →
          get_or (set owners (first + i + 1) mark) (first + k) 0 ≡ pick (get_or flags k false) owner 0
      at_most k h (yes e) q =
          let f : first + k ≡ first + i + 1 = omega arith in
          rw (f, e, q)
          (get_or-set_same owners (first + i + 1) mark 0 (omega (arith, w.same)) ∙ em
          ∙ ap (λ (c : Bool). pick c owner 0) (eb ∙ ap (λ (u : Float). le s u || eqb (last - i - 1) 0) et))
      at_most k h (no e) q = get_or-set_other owners (first + i + 1) (first + k) mark 0 (λ f. e (omega arith)) ∙ w.inside k (omega arith)

-- the first vertex was marked before the walk
pub walk_done : (xs : List Float) (owners₀ owners : List ℕ) (s : Float) (c : ContourRange) (total : Float) (i : ℕ) →
    Walk xs (set owners₀ c.first.0 (c.number + 1)) owners s c.first.0 c.last (c.number + 1) total i → c.last ≤ i →
    MarkedContour xs s (contour_of c) owners₀ owners
unfolding contour_of
walk_done xs owners₀ owners s c total i w g =
    record {
      inside = λ k l. rw add-one at (w.inside k (omega (arith, w.i_le)));
      before = λ v l. w.before v l ∙ get_or-set_other owners₀ c.first.0 v (c.number + 1) 0 (λ e. omega arith);
      after = λ v l. w.after v (omega (arith, w.i_le)) ∙ get_or-set_other owners₀ c.first.0 v (c.number + 1) 0 (λ e. omega arith);
    }
