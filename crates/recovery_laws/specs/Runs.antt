-- The runs of joined vertices, which are the contours' lengths: by what joins them, one vertex at a time, and how many there are. Assumes nothing.
use Rattle.std.specs.Prelude.{◌≡◌, refl, Bool, true, false, ◌&&◌, List, [], ◌∷◌, map, ℕ, zero, suc, ◌+◌, ◌≤◌, ◌<◌, ltb, length}
use Rattle.std.proofs.Common.{ap, inl, inr, ◌∙◌, zero-add, arith}
use Rattle.std.proofs.lemmas.Bool.{lt-ltb}
use Rattle.rules.specs.Tools.{pick, sum}
use Rattle.rules.specs.HandedOver.{Plate, Contour, contours_from, contours}
use Rattle.rules.specs.Contours.{Among, IsContour}
use Rattle.contour_recovery.specs.ContourRecovery.{lengthen, runs}

-- functions that agree on the vertices have the same runs
pub runs_same : (joined other : ℕ → Bool) (v m : ℕ) → ((u : ℕ) → v ≤ u → u < v + m → joined u ≡ other u) → runs joined v m ≡ runs other v m
unfolding runs
runs_same joined other v zero h = refl
runs_same joined other v (suc m) h =
    rw (h v (omega arith) (omega arith), runs_same joined other (suc v) m (λ u a b. h u (omega arith) (omega arith))) refl

-- ---- one vertex at a time

-- k vertices more in front of the first run
unfoldable pub pending : ℕ → List ℕ → List ℕ
pending zero ns = ns
pending (suc k) ns = lengthen (pending k ns)

pub pending_none : (ns : List ℕ) → pending 0 ns ≡ ns
unfolding pending
pending_none ns = refl

module _ (joined : ℕ → Bool) where
  pub pending_joined : (k v m : ℕ) → joined v ≡ true → pending k (runs joined v (suc m)) ≡ pending (suc k) (runs joined (suc v) m)
  unfolding runs pick pending
  pending_joined zero v m t = rw t refl
  pending_joined (suc k) v m t = rw (pending_joined k v m t) refl

  pub pending_apart : (k v m : ℕ) → joined v ≡ false → pending k (runs joined v (suc m)) ≡ suc k ∷ runs joined (suc v) m
  unfolding runs pick pending lengthen
  pending_apart zero v m t = rw t refl
  pending_apart (suc k) v m t = rw (pending_apart k v m t) refl

  -- no vertex is left
  pub pending_end : (k v : ℕ) → pending (suc k) (runs joined v 0) ≡ suc k ∷ []
  unfolding runs pending lengthen
  pending_end zero v = refl
  pending_end (suc k) v = rw (pending_end k v) refl

  -- ---- how many runs there are

  some_run : (v m : ℕ) → 1 ≤ length (runs joined v (suc m))
  unfolding runs pick lengthen
  some_run v m = go (joined v) (runs joined (suc v) m)
    where
      go : (b : Bool) (rest : List ℕ) → 1 ≤ length (pick b (lengthen rest) (1 ∷ rest))
      go true [] = omega arith
      go true (n ∷ ns) = omega arith
      go false rest = omega arith

  -- a run ends in each vertex that is not joined to the next, and in the last
  pub runs_count : (v m : ℕ) → length (runs joined v (suc m)) ≡ pick (joined v && ltb 0 m) 0 1 + length (runs joined (suc v) m)
  unfolding runs pick lengthen
  runs_count v zero = go (joined v)
    where
      go : (b : Bool) → length {A = ℕ} (pick b (1 ∷ []) (1 ∷ [])) ≡ pick (b && false) 0 1 + 0
      go true = refl
      go false = refl
  runs_count v (suc m) = rw (lt-ltb 0 (suc m) (omega arith)) (go (joined v) (runs joined (suc v) (suc m)) (some_run (suc v) m))
    where
      go : (b : Bool) (rest : List ℕ) → 1 ≤ length rest → length (pick b (lengthen rest) (1 ∷ rest)) ≡ pick (b && true) 0 1 + length rest
      go true [] h = absurd (omega (arith, h))
      go true (n ∷ ns) h = omega arith
      go false rest h = omega arith

  pub runs_most : (v m : ℕ) → length (runs joined v m) ≤ m
  unfolding runs pick
  runs_most v zero = omega arith
  runs_most v (suc m) = go (joined v && ltb 0 m) (runs_count v m) (runs_most (suc v) m)
    where
      go : (b : Bool) → length (runs joined v (suc m)) ≡ pick b 0 1 + length (runs joined (suc v) m) → length (runs joined (suc v) m) ≤ m →
          length (runs joined v (suc m)) ≤ suc m
      go true e l = omega (arith, e, l)
      go false e l = omega (arith, e, l)

  -- they have all vertices
  pub runs_sum : (v m : ℕ) → sum (runs joined v m) ≡ m
  unfolding runs sum pick lengthen
  runs_sum v zero = refl
  runs_sum v (suc m) = go (joined v) (runs joined (suc v) m) (runs_sum (suc v) m)
    where
      go : (b : Bool) (rest : List ℕ) → sum rest ≡ m → sum (pick b (lengthen rest) (1 ∷ rest)) ≡ suc m
      go true [] e = omega (arith, e)
      go true (n ∷ ns) e = omega (arith, e)
      go false rest e = omega (arith, e)

  -- ---- runs that are known

  one_run : (v n m : ℕ) → ((i : ℕ) → i < n → joined (v + i) ≡ true) → joined (v + n) ≡ false →
      runs joined v (suc n + m) ≡ suc n ∷ runs joined (v + suc n) m
  unfolding runs pick lengthen
  one_run v zero m t f =
      let e : 1 + m ≡ suc m = omega arith in
      let g : v + 1 ≡ suc v = omega arith in
      let z : v + 0 ≡ v = omega arith in
      rw (e, g, rw z at f) refl
  one_run v (suc n) m t f =
      let e : suc (suc n) + m ≡ suc (suc n + m) = omega arith in
      let z : v + 0 ≡ v = omega arith in
      let g : v + suc n ≡ suc v + n = omega arith in
      let k : v + suc (suc n) ≡ suc v + suc n = omega arith in
      let rest = one_run (suc v) n m (λ i h. let q : v + suc i ≡ suc v + i = omega arith in rw q at (t (suc i) (omega arith))) (rw g at f) in
      rw (e, k, rw z at (t 0 (omega arith)), rest) refl

  -- each vertex of a contour but the last is joined to the next
  pub record Joins (c : Contour) : Type 0 where
    pub inside : (i : ℕ) → i < c.last → joined (c.first + i) ≡ true
    pub end : joined (c.first + c.last) ≡ false

  runs_from : (j v : ℕ) (ns : List ℕ) → ((c : Contour) → Among c (contours_from j v ns) → Joins c) →
      runs joined v (sum ns) ≡ map (λ c. suc c.last) (contours_from j v ns)
  unfolding contours_from sum runs
  runs_from j v [] h = refl
  runs_from j v (zero ∷ ns) h = rw (zero-add (sum ns)) (runs_from (suc j) v ns h)
  runs_from j v (suc n ∷ ns) h =
      let c = h (record { number = j; first = v; last = n }) (inl refl) in
      one_run v n (sum ns) c.inside c.end ∙ ap {B = List ℕ} (λ r. suc n ∷ r) (runs_from (suc j) (v + suc n) ns (λ d m. h d (inr m)))

  pub runs_are : (p : Plate) → ((c : Contour) → IsContour p c → Joins c) → runs joined 0 (sum p.lengths) ≡ map (λ c. suc c.last) (contours p)
  unfolding contours
  runs_are p h = runs_from 0 0 p.lengths h
