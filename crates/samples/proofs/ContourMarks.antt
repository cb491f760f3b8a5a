-- Contour after contour is marked. Assumes nothing.
use mathlib.Core.Path.{◌≡◌, refl, sym, subst, ◌∙◌}
use mathlib.Core.Bool.{Bool, true, false}
use mathlib.Core.List.{List, [], ◌∷◌, ◌++◌, append-nil, append_assoc}
use Prim.Native.Nat.{ℕ, zero, suc, ◌+◌, ◌-◌, ◌≤◌, ◌<◌}
use native.Mathlib.Decide.{dec_lt}
use native.Mathlib.Omega.{arith}
use lib.Ieee.{Float}
use lib.ListN.{length, get_or}
use Rattle.rules.specs.Tools.{pick, sum}
use Rattle.rules.specs.HandedOver.{Contour, contours_from, contours_of}
use Rattle.rules.specs.SamplesAndCache.{sampled}
use Rattle.plate_laws.specs.Lists.{All, all_give, all_both, all_append}
use Rattle.samples.specs.Vertices.{vertex_from}
use Rattle.samples.specs.Owners.{OwnedBy, MarkedContour, MarkedAll}
use Rattle.samples.specs.OwnerLaws.{sampled_length, owned_more}

-- of m contours with n vertices, those from contour j and vertex v on: each begins behind the one before
abbrev pub Ahead : ℕ → ℕ → ℕ → ℕ → List Contour → Type 0
Ahead m n j v [] = (j ≤ m) × (v ≡ n)
Ahead m n j v (c ∷ cs) =
    (j ≤ c.number) × (c.number < m) × (c.first ≡ v) × (c.first + c.last < n) × Ahead m n (suc c.number) (v + suc c.last) cs

ahead_later : (m n j v : ℕ) (cs : List Contour) → Ahead m n (suc j) v cs → Ahead m n j v cs
ahead_later m n j v [] a = (omega (arith, a.0), a.1)
ahead_later m n j v (c ∷ cs) a = (omega (arith, a.0), a.1, a.2, a.3, a.4)

ahead_from : (m n j v : ℕ) (ns : List ℕ) → m ≡ j + length ns → n ≡ v + sum ns → Ahead m n j v (contours_from j v ns)
unfolding contours_from sum
ahead_from m n j v [] k s = (omega arith, omega arith)
ahead_from m n j v (zero ∷ ns) k s = ahead_later m n j v _ (ahead_from m n (suc j) v ns (omega arith) (omega arith))
ahead_from m n j v (suc i ∷ ns) k s =
    (omega arith, omega arith, refl, omega arith, ahead_from m n (suc j) (v + suc i) ns (omega arith) (omega arith))

-- the contours that are not left are marked
pub record SoFar (xs : List Float) (s : Float) (lengths owners : List ℕ) (left : List Contour) : Type 0 where
  pub first : ℕ
  pub j : ℕ
  pub ahead : Ahead (length lengths) (sum lengths) j first left
  pub done : List Contour
  pub list : done ++ left ≡ contours_of lengths
  pub owned : All (OwnedBy xs s (λ v. get_or owners v 0) first) done
  pub numbers : All (λ c. c.number < j) done
  pub most : (v : ℕ) → v < first → get_or owners v 0 ≤ j

pub so_far_none : (xs : List Float) (s : Float) (lengths owners : List ℕ) (left : List Contour) → left ≡ contours_of lengths → SoFar xs s lengths owners left
so_far_none xs s lengths owners left e =
    record {
      first = 0;
      j = 0;
      ahead = subst (Ahead (length lengths) (sum lengths) 0 0) (sym e) (ahead_from (length lengths) (sum lengths) 0 0 lengths (omega arith) (omega arith));
      done = [];
      list = e;
      owned = tt;
      numbers = tt;
      most = λ v l. absurd (omega arith);
    }

module _ (xs : List Float) (s : Float) (lengths owners owners' : List ℕ) (c : Contour) (cs : List Contour) (f : SoFar xs s lengths owners (c ∷ cs))
    (r : MarkedContour xs s c owners owners') where
  abbrev flag : ℕ → Bool
  flag v = get_or (sampled (vertex_from xs c.first) s c.last) (v - c.first) false

  -- a vertex of this contour is its own or nobody's
  held : (v : ℕ) → f.first ≤ v → v < f.first + suc c.last → get_or owners' v 0 ≡ pick (flag v) (suc c.number) 0
  held v g h =
      let e : c.first + (v - c.first) ≡ v = omega (arith, f.ahead.2) in
      subst (λ (i : ℕ). get_or owners' i 0 ≡ pick (flag v) (suc c.number) 0) e (r.inside (v - c.first) (omega (arith, f.ahead.2)))

  upto : (b : Bool) (x : ℕ) → x ≡ pick b (suc c.number) 0 → x ≤ suc c.number
  unfolding pick
  upto true x h = omega arith
  upto false x h = omega arith

  other : (b : Bool) (x k : ℕ) → x ≡ pick b (suc c.number) 0 → k < c.number → x ≡ suc k → ⊥
  unfolding pick
  other true x k h l e = omega arith
  other false x k h l e = omega arith

  same : (v : ℕ) → v < f.first → get_or owners' v 0 ≡ get_or owners v 0
  same v g = r.before v (omega (arith, f.ahead.2))

  olds : All (OwnedBy xs s (λ v. get_or owners' v 0) (f.first + suc c.last)) f.done
  olds =
      all_give _ _
      (λ d h.
      owned_more _ _ f.first (f.first + suc c.last) _ _ _ h.0 (omega arith) same
      (λ v g u q. other (flag v) _ d.number (held v g u) (omega (arith, h.1, f.ahead.0)) q))
      f.done (all_both _ _ f.done f.owned f.numbers)

  new : OwnedBy xs s (λ v. get_or owners' v 0) (f.first + suc c.last) c
  new =
      let k = sampled_length (vertex_from xs c.first) s c.last in
      record {
        fits = omega (arith, k, f.ahead.2);
        inside = λ i g. r.inside i (omega (arith, k));
        before = λ v g u. omega (arith, r.before v g, f.most v (omega (arith, f.ahead.2)), f.ahead.0);
        after = λ v g h u. omega (arith, k, f.ahead.2);
      }

  pub so_far_next : SoFar xs s lengths owners' cs
  so_far_next =
      record {
        first = f.first + suc c.last;
        j = suc c.number;
        ahead = f.ahead.4;
        done = f.done ++ (c ∷ []);
        list = append_assoc f.done (c ∷ []) cs ∙ f.list;
        owned = all_append _ f.done (c ∷ []) olds (new, tt);
        numbers = all_append _ f.done (c ∷ []) (all_give _ _ (λ d h. omega (arith, f.ahead.0)) f.done f.numbers) (omega arith, tt);
        most = λ v g. bounds v g (dec_lt v f.first);
      }
    where
      bounds : (v : ℕ) → v < f.first + suc c.last → Dec (v < f.first) → get_or owners' v 0 ≤ suc c.number
      bounds v g (yes w) = omega (arith, same v w, f.most v w, f.ahead.0)
      bounds v g (no w) = upto (flag v) _ (held v (omega arith) g)

pub so_far_done : (xs : List Float) (s : Float) (lengths owners : List ℕ) → SoFar xs s lengths owners [] → MarkedAll xs s lengths owners
so_far_done xs s lengths owners f =
    let e : f.done ≡ contours_of lengths = sym (append-nil f.done) ∙ f.list in
    record { owned = rw (← e, ← f.ahead.1) f.owned; most = λ v g. omega (arith, f.most v (omega (arith, f.ahead.1)), f.ahead.0) }
