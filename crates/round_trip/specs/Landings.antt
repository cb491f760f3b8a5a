-- What divides lands on each of the plate's vertices, and once. Assumes nothing.
use Rattle.std.specs.Prelude.{◌≡◌, ◌⊎◌, true, List, [], ℕ, zero, suc, ◌+◌, ◌-◌, ◌≤◌, ◌<◌, Float}
use Rattle.std.proofs.Common.{sym, subst, inl, inr, arith}
use Rattle.std.proofs.Math.Decide.{dec_le}
use Rattle.rules.specs.Tools.{sum}
use Rattle.rules.specs.HandedOver.{Plate, Contour, at, contours}
use Rattle.rules.specs.Marks.{cut_kind, marks_of, kind_at, reference_at, vertices_after, vertex_in, cuts_of, entries_of}
use Rattle.statement.specs.PathStatement.{Divides}
use Rattle.statement.specs.Division.{itself, Cut, PairOf, NotEntered}
use Rattle.rules.specs.Contours.{segments_of, Among, Of, OfOne, OfContour}
use Rattle.contour_recovery.specs.ContourRecovery.{lands_on}
use Rattle.rules.specs.declared.Point.{Point}
use Rattle.rules.specs.declared.Totals.{Totals}
use Rattle.plate_laws.specs.Contours.{contours_rise, contour_in, of_one, sum_segments}
use Rattle.division_laws.specs.MarkCounts.{count_all, count_some, cutting, entering}
use Rattle.division.specs.Kinds.{says_cut, says_entry, start_enters, landing_enters, cut_pair}
use Rattle.division.specs.Tallies.{within_run}
use Rattle.division.specs.EnteredFirst.{division_pairs, entry_vertex}
use Rattle.division.specs.ByPoints.{entries_are, entered_once}
use Rattle.recovery_laws.specs.LandedVertices.{entry_lands, cut_lands}
use Rattle.round_trip.specs.LandingCounts.{landings, landings_some, each_once}

module _ {p : Plate} {c : Totals} {path : List Float} {ms : List ℕ} (d : Divides p c path ms) where
  abbrev n : ℕ
  n = c.points

  abbrev v : ℕ → ℕ
  v = vertex_in ms

  abbrev vs : List ℕ
  vs = vertices_after [] ms

  abbrev cs : List Contour
  cs = contours p

  abbrev point : ℕ → Point
  point i = at p.points (vertex_in ms i)

  -- ---- the vertices of path points

  abbrev LandedOn : ℕ → Type 0
  LandedOn u = (j : ℕ) × (j < n) × (lands_on ms vs u j ≡ true)

  -- a vertex that is landed on, and a contour's
  abbrev LandedVertex : ℕ → Type 0
  LandedVertex u = LandedOn u × OfOne cs u

  cut_meets : (k r : ℕ) → Cut cs itself v k r → OfOne cs (v (suc k))
  cut_meets k r x = let (y, m, a, b) = x.segment in (y, m, of_it y a b x.sense)
    where
      of_it : (y : Contour) → y.first ≤ r → r < y.first + y.last → ((v k ≡ r) × (v (suc k) ≡ suc r)) ⊎ ((v k ≡ suc r) × (v (suc k) ≡ r)) → Of y (v (suc k))
      of_it y a b (inl e) = (omega (arith, e), omega (arith, e))
      of_it y a b (inr e) = (omega (arith, e), omega (arith, e))

  met_step : (k : ℕ) → suc k < n → ((j : ℕ) → j ≤ k → LandedVertex (v j)) → LandedVertex (v (suc k))
  unfolding vertex_in
  met_step k l before = go (d.division.pairs k l)
    where
      r : ℕ
      r = reference_at ms (suc k)

      go : PairOf cs point itself v (NotEntered v k) k (kind_at ms (suc k)) r → LandedVertex (v (suc k))
      go (inl (e, x)) = ((suc k, l, cut_lands ms vs (suc k) e), cut_meets k r x)
      go (inr (inl (e, x))) = let h = x.earlier in subst LandedVertex (sym x.to) (before r (omega arith))
      go (inr (inr (e, x))) =
          let (y, m, o, f) = x.fresh in
          ((suc k, l, entry_lands ms vs (suc k) (landing_enters _ _ e)), (y, m, subst (Of y) (sym x.landing) o))

  -- every path point's vertex is; b counts down
  met : (b k : ℕ) → k < b → k < n → LandedVertex (v k)
  unfolding OfContour vertex_in
  met zero k h l = absurd (omega arith)
  met (suc b) zero h l =
      let s = d.division.start l in
      ((0, l, entry_lands ms vs 0 (start_enters s.0)), subst (OfOne cs) (sym s.2) s.1)
  met (suc b) (suc k) h l = met_step k l (λ j x. met b j (omega arith) (omega arith))

  pub vertex_below : (k : ℕ) → k < n → v k < sum p.lengths
  vertex_below k l = let (y, m, o) = (met (suc k) k (omega arith) l).1 in omega (arith, o, contour_in p y m)

  -- ---- each vertex is a path point's

  abbrev OnPath : ℕ → Type 0
  OnPath u = (k : ℕ) × (k < n) × (v k ≡ u)

  -- the ends of a segment
  ends_passed : (r : ℕ) → cuts_of r ms ≡ 1 → OnPath r × OnPath (suc r)
  unfolding cuts_of
  ends_passed r once =
      let (j, l, t) = count_some (cutting r) ms n (omega (arith, d.division.whole)) (omega (arith, once, count_all (cutting r) ms n d.division.whole)) in
      let (e, s) = (says_cut r (kind_at ms j) (reference_at ms j)).tells t in
      go j l e s
    where
      between : (k : ℕ) → suc k < n → ((v k ≡ r) × (v (suc k) ≡ suc r)) ⊎ ((v k ≡ suc r) × (v (suc k) ≡ r)) → OnPath r × OnPath (suc r)
      between k l (inl e) = ((k, omega arith, e.0), (suc k, l, e.1))
      between k l (inr e) = ((suc k, l, e.1), (k, omega arith, e.0))

      go : (j : ℕ) → j < n → kind_at ms j ≡ cut_kind → reference_at ms j ≡ r → OnPath r × OnPath (suc r)
      go zero l e s = absurd (omega (arith, e, (d.division.start l).0))
      go (suc k) l e s = let x = cut_pair point (d.division.pairs k l) e in between k l (rw s at x.sense)

  -- the vertex that a contour is entered at
  entry_passed : (x : Contour) → Among x cs → (k : ℕ) × (k < n) × Of x (v k)
  unfolding entries_of
  entry_passed x m =
      let once = entered_once (contours_rise p) d.division x m in
      let all = count_all (entering x) ms n d.division.whole in
      let (j, l, t) = count_some (entering x) ms n (omega (arith, d.division.whole)) (omega (arith, once, all)) in
      let (e, o) = (says_entry x (kind_at ms j) (reference_at ms j)).tells t in
      (j, l, subst (Of x) (sym (entry_vertex (division_pairs d.division) j l e)) o)

  vertex_passed : (x : Contour) → Among x cs → (u : ℕ) → Of x u → OnPath u
  vertex_passed x m u o = go (dec_le (suc u) (x.first + x.last)) (dec_le x.last 0)
    where
      once : (r : ℕ) → x.first ≤ r → r < x.first + x.last → cuts_of r ms ≡ 1
      once r a b = within_run (λ s. cuts_of s ms ≡ 1) x.first x.last (d.division.once x m) r a b

      go : Dec (suc u ≤ x.first + x.last) → Dec (x.last ≤ 0) → OnPath u
      go (yes a) b = (ends_passed u (once u o.0 a)).0
      go (no a) (yes b) = let (k, l, q) = entry_passed x m in (k, l, omega (arith, q, o, a, b))
      go (no a) (no b) =
          let e : suc (u - 1) ≡ u = omega (arith, o, a, b) in
          rw e at (ends_passed (u - 1) (once (u - 1) (omega (arith, o, a, b)) (omega (arith, o, a, b)))).1

  -- ---- once: there are as many starts, jumps, touches and cuts as vertices

  landed_on : (u : ℕ) → u < sum p.lengths → (j : ℕ) × (j < n) × (lands_on ms vs u j ≡ true)
  unfolding contours
  landed_on u l =
      let (x, m, o) = of_one p.lengths u l in
      let (k, h, e) = vertex_passed x m u o in
      subst LandedOn e (met (suc k) k (omega arith) h).0

  pub landed_once : (u : ℕ) → u < sum p.lengths → landings ms vs u n ≡ 1
  unfolding vertex_in marks_of segments_of
  landed_once u l =
      let a = entries_are (contours_rise p) d.division in
      each_once ms vs n d.division.whole (sum p.lengths) vertex_below (omega (arith, a, d.division.cuts, sum_segments p)) some u l
    where
      some : (u : ℕ) → u < sum p.lengths → 1 ≤ landings ms vs u n
      some u l = let (j, h, t) = landed_on u l in landings_some ms vs u j n h t
