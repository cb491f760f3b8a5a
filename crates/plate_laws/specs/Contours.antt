-- The contours of a plate: their numbers and their vertices rise, their vertices are the plate's, and one of them is taken out. Assumes nothing.
use Rattle.std.specs.Prelude.{◌≡◌, refl, Bool, true, false, List, [], ◌∷◌, ◌++◌, map, ◌⊎◌, ℕ, zero, suc, ◌+◌, ◌-◌, ◌≤◌, ◌<◌, eqb, length, get_or, take, drop}
use Rattle.std.proofs.Common.{sym, ap, ◌∙◌, subst, inl, inr, zero-add, arith, eq-eqb, ne_eqb}
use Rattle.std.proofs.Math.Decide.{dec_le}
use Rattle.rules.specs.Tools.{pick, sum, without}
use Rattle.rules.specs.HandedOver.{Plate, Contour, contours_from, contours_of, contours}
use Rattle.rules.specs.OrderAndStraight.{contour_number}
use Rattle.rules.specs.Contours.{Among, IsContour, Of, OfOne, NotOf}
use Rattle.plate_laws.specs.Lists.{All, all_give, all-at, all_without}
use Rattle.plate_laws.specs.Sums.{sum_ones}

-- ---- one of a list of contours

pub all_among : (P : Contour → Type 0) (cs : List Contour) → All P cs → (c : Contour) → Among c cs → P c
all_among P [] a c m = absurd m
all_among P (d ∷ ds) a c (inl e) = subst P e a.0
all_among P (d ∷ ds) a c (inr m) = all_among P ds a.1 c m

pub among_all : (P : Contour → Type 0) (cs : List Contour) → ((c : Contour) → Among c cs → P c) → All P cs
among_all P [] h = tt
among_all P (c ∷ cs) h = (h c (inl refl), among_all P cs (λ d m. h d (inr m)))

-- ---- contours that rise

-- d comes after c, by number and by vertices
pub record After (c d : Contour) : Type 0 where
  pub numbers : c.number < d.number
  pub vertices : c.first + c.last < d.first

-- each comes after all before it
abbrev pub Rising : List Contour → Type 0
Rising [] = Unit {0}
Rising (c ∷ cs) = All (After c) cs × Rising cs

-- no vertex in common
abbrev pub Apart : Contour → Contour → Type 0
Apart c d = (c.first + c.last < d.first) ⊎ (d.first + d.last < c.first)

pub apart_not_of : (c d : Contour) → Apart c d → (v : ℕ) → Of c v → NotOf d v
apart_not_of c d (inl a) v o = inl (omega arith)
apart_not_of c d (inr a) v o = inr (omega arith)

-- ---- one is taken out

-- a list of contours without c
abbrev pub others : Contour → List Contour → List Contour
others c cs = without contour_number c.number cs

-- none has the number n
absent : (n : ℕ) (cs : List Contour) → All (λ c. n < c.number) cs → without contour_number n cs ≡ cs
unfolding without pick contour_number
absent n [] a = refl
absent n (c ∷ cs) a = let h = a.0 in rw (ne_eqb c.number n (λ e. omega arith), absent n cs a.1)

others_head : (c : Contour) (cs : List Contour) → All (After c) cs → others c (c ∷ cs) ≡ cs
unfolding without pick contour_number
others_head c cs a = rw (eq-eqb c.number c.number refl) (absent c.number cs (all_give _ _ (λ d h. h.numbers) cs a))

others_tail : (d c : Contour) (ds : List Contour) → After d c → others c (d ∷ ds) ≡ d ∷ others c ds
unfolding without pick contour_number
others_tail d c ds h = rw (ne_eqb d.number c.number (λ e. omega (arith, h.numbers)))

pub rising_without : (n : ℕ) (cs : List Contour) → Rising cs → Rising (without contour_number n cs)
unfolding without pick contour_number
rising_without n [] r = tt
rising_without n (c ∷ cs) r = go (eqb c.number n) (rising_without n cs r.1)
  where
    go : (b : Bool) → Rising (without contour_number n cs) → Rising (pick b (without contour_number n cs) (c ∷ without contour_number n cs))
    go true s = s
    go false s = (all_without (After c) contour_number n cs r.0, s)

-- the one at place k is taken out: those before it and those after it are left
pub others_at : (z : Contour) (cs : List Contour) (k : ℕ) → Rising cs → k < length cs → others (get_or cs k z) cs ≡ take k cs ++ drop (suc k) cs
others_at z [] k r h = absurd (omega arith)
others_at z (c ∷ cs) zero r h = others_head c cs r.0
others_at z (c ∷ cs) (suc k) r h =
    let g : k < length cs = omega arith in
    others_tail c (get_or cs k z) cs (all-at (After c) z cs r.0 k g) ∙ ap (λ (ds : List Contour). c ∷ ds) (others_at z cs k r.1 g)

-- the others have no vertex in common with it
pub others_apart : (c : Contour) (cs : List Contour) → Rising cs → Among c cs → All (Apart c) (others c cs)
others_apart c [] r m = absurd m
others_apart c (d ∷ ds) r (inl e) =
    subst (λ (x : Contour). All (Apart x) (others x (d ∷ ds))) e
    (rw (others_head d ds r.0) (all_give (After d) (Apart d) (λ x a. inl a.vertices) ds r.0))
others_apart c (d ∷ ds) r (inr m) =
    let a = all_among (After d) ds r.0 c m in
    rw (others_tail d c ds a) (inr a.vertices, others_apart c ds r.1 m)

-- a sum over contours is its share and that of the others
pub sum_others : (f : Contour → ℕ) (c : Contour) (cs : List Contour) → Rising cs → Among c cs → sum (map f cs) ≡ f c + sum (map f (others c cs))
unfolding sum
sum_others f c [] r m = absurd m
sum_others f c (d ∷ ds) r (inl e) =
    subst (λ (x : Contour). sum (map f (d ∷ ds)) ≡ f x + sum (map f (others x (d ∷ ds)))) e (rw (others_head d ds r.0))
sum_others f c (d ∷ ds) r (inr m) =
    let a = all_among (After d) ds r.0 c m in
    rw (others_tail d c ds a) (omega (arith, sum_others f c ds r.1 m))

pub length_others : (c : Contour) (cs : List Contour) → Rising cs → Among c cs → length cs ≡ suc (length (others c cs))
length_others c cs r m = omega (arith, sum_others (λ d. 1) c cs r m, sum_ones cs, sum_ones (others c cs))

-- a vertex is of one contour only
pub one_of : (cs : List Contour) → Rising cs → (c d : Contour) (v : ℕ) → Among c cs → Among d cs → Of c v → Of d v → c ≡ d
one_of [] r c d v m n a b = absurd m
one_of (x ∷ xs) r c d v (inl e) (inl f) a b = sym e ∙ f
one_of (x ∷ xs) r c d v (inl e) (inr n) a b =
    let h = subst (λ (y : Contour). After y d) e (all_among (After x) xs r.0 d n) in absurd (omega (arith, h.vertices))
one_of (x ∷ xs) r c d v (inr m) (inl f) a b =
    let h = subst (λ (y : Contour). After y c) f (all_among (After x) xs r.0 c m) in absurd (omega (arith, h.vertices))
one_of (x ∷ xs) r c d v (inr m) (inr n) a b = one_of xs r.1 c d v m n a b

-- and a number is one contour's only
pub one_number : (cs : List Contour) → Rising cs → (c d : Contour) → Among c cs → Among d cs → c.number ≡ d.number → c ≡ d
one_number [] r c d m n e = absurd m
one_number (x ∷ xs) r c d (inl f) (inl g) e = sym f ∙ g
one_number (x ∷ xs) r c d (inl f) (inr n) e =
    let e' : x.number ≡ d.number = rw f e in absurd (omega (arith, e', (all_among (After x) xs r.0 d n).numbers))
one_number (x ∷ xs) r c d (inr m) (inl g) e =
    let e' : c.number ≡ x.number = rw g e in absurd (omega (arith, e', (all_among (After x) xs r.0 c m).numbers))
one_number (x ∷ xs) r c d (inr m) (inr n) e = one_number xs r.1 c d m n e

-- ---- the contours of a plate

-- c is one of the contours from contour j and vertex v on, whose lengths are ns: its place among them, and where its vertices begin and end
pub record PlacedFrom (j v : ℕ) (ns : List ℕ) (c : Contour) : Type 0 where
  pub least : j ≤ c.number
  pub most : c.number < j + length ns
  pub long : get_or ns (c.number - j) 0 ≡ c.last + 1
  pub begins : c.first ≡ v + sum (take (c.number - j) ns)
  pub ends : c.first + suc c.last ≡ v + sum (take (suc (c.number - j)) ns)
  pub inside : c.first + c.last < v + sum ns

-- n points stand before w
placed_cons : (j v w n : ℕ) (ns : List ℕ) (c : Contour) → w ≡ v + n → PlacedFrom (suc j) w ns c → PlacedFrom j v (n ∷ ns) c
unfolding sum
placed_cons j v w n ns c f h =
    let l = h.least in
    let e : c.number - j ≡ suc (c.number - suc j) = omega arith in
    record {
      least = omega arith;
      most = omega (arith, h.most);
      long = rw e h.long;
      begins = rw e (omega (arith, h.begins, f));
      ends = rw e (omega (arith, h.ends, f));
      inside = omega (arith, h.inside, f);
    }

pub places_from : (j v : ℕ) (ns : List ℕ) → All (PlacedFrom j v ns) (contours_from j v ns)
unfolding contours_from sum
places_from j v [] = tt
places_from j v (zero ∷ ns) = all_give _ _ (λ c h. placed_cons j v v 0 ns c (omega arith) h) (contours_from (suc j) v ns) (places_from (suc j) v ns)
places_from j v (suc n ∷ ns) = (
  here,
  all_give _ _ (λ c h. placed_cons j v (v + suc n) (suc n) ns c refl h) (contours_from (suc j) (v + suc n) ns) (places_from (suc j) (v + suc n) ns),
)
  where
    z : j - j ≡ 0
    z = omega arith

    here : PlacedFrom j v (suc n ∷ ns) (record { number = j; first = v; last = n })
    here =
        record {
          least = omega arith;
          most = omega arith;
          long = rw z (omega arith);
          begins = rw z (omega arith);
          ends = rw z (omega arith);
          inside = omega arith;
        }

pub rising_from : (j v : ℕ) (ns : List ℕ) → Rising (contours_from j v ns)
unfolding contours_from
rising_from j v [] = tt
rising_from j v (zero ∷ ns) = rising_from (suc j) v ns
rising_from j v (suc n ∷ ns) = (
  all_give _ _ (λ c h. record { numbers = omega (arith, h.least); vertices = omega (arith, h.begins) }) (contours_from (suc j) (v + suc n) ns)
      (places_from (suc j) (v + suc n) ns),
  rising_from (suc j) (v + suc n) ns,
)

pub contours_rise : (p : Plate) → Rising (contours p)
unfolding contours
contours_rise p = rising_from 0 0 p.lengths

pub all_contours : (p : Plate) → All (IsContour p) (contours p)
all_contours p = among_all (IsContour p) (contours p) (λ c m. m)

pub contour_one : (p : Plate) (c d : Contour) (v : ℕ) → IsContour p c → IsContour p d → Of c v → Of d v → c ≡ d
contour_one p c d v m n a b = one_of (contours p) (contours_rise p) c d v m n a b

-- a contour's vertices are vertices of the plate
pub contour_in : (p : Plate) (c : Contour) → IsContour p c → c.first + c.last < sum p.lengths
unfolding contours
contour_in p c m = omega (arith, (all_among (PlacedFrom 0 0 p.lengths) (contours p) (places_from 0 0 p.lengths) c m).inside)

-- each vertex is one of a contour's
cover_from : (j v : ℕ) (ns : List ℕ) (u : ℕ) → v ≤ u → u < v + sum ns → OfOne (contours_from j v ns) u
unfolding contours_from sum
cover_from j v [] u l h = absurd (omega arith)
cover_from j v (zero ∷ ns) u l h = cover_from (suc j) v ns u l (omega arith)
cover_from j v (suc n ∷ ns) u l h = go (dec_le (v + suc n) u) (cover_from (suc j) (v + suc n) ns u)
  where
    go : Dec (v + suc n ≤ u) → (v + suc n ≤ u → u < v + suc n + sum ns → OfOne (contours_from (suc j) (v + suc n) ns) u) →
        OfOne (contours_from j v (suc n ∷ ns)) u
    go (yes x) later = let (c, m, o) = later x (omega arith) in (c, inr m, o)
    go (no x) later = (record { number = j; first = v; last = n }, inl refl, (l, omega (arith, x)))

pub of_one : (ns : List ℕ) (u : ℕ) → u < sum ns → OfOne (contours_of ns) u
of_one ns u h = cover_from 0 0 ns u (omega arith) (omega arith)

pub segments_from : (j v : ℕ) (ns : List ℕ) → sum (map (λ c. c.last) (contours_from j v ns)) + length (contours_from j v ns) ≡ sum ns
unfolding contours_from sum
segments_from j v [] = refl
segments_from j v (zero ∷ ns) = segments_from (suc j) v ns ∙ sym (zero-add _)
segments_from j v (suc n ∷ ns) = omega (arith, segments_from (suc j) (v + suc n) ns)

-- a contour has one segment less than it has points
pub sum_segments : (p : Plate) → sum (map (λ c. c.last) (contours p)) + length (contours p) ≡ sum p.lengths
unfolding contours
sum_segments p = segments_from 0 0 p.lengths

-- ---- their numbers

pub contours_numbered : (p : Plate) → All (λ c. c.number < length p.lengths) (contours p)
unfolding contours
contours_numbered p = all_give (PlacedFrom 0 0 p.lengths) _ (λ c h. omega (arith, h.most)) (contours p) (places_from 0 0 p.lengths)
