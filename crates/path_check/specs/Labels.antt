-- The work slice before the first path point, where every contour takes part. Assumes nothing.
use Rattle.std.specs.Prelude.{◌≡◌, ◌⊎◌, List, [], ◌∷◌, ℕ, zero, suc, ◌+◌, ◌-◌, ◌*◌, ◌≤◌, ◌<◌, length, get_or, set, take}
use Rattle.std.proofs.Common.{◌∙◌, subst, inl, inr, arith, get_or-set_same, get_or-set_other}
use Rattle.std.proofs.Math.Decide.{ℕ_discrete}
use Rattle.rules.specs.Tools.{sum}
use Rattle.rules.specs.HandedOver.{Contour, contours_of}
use Rattle.rules.specs.Marks.{count_marks, cuts_of, entries_of}
use Rattle.rules.specs.Contours.{Among, Of}
use Rattle.plate_laws.specs.Contours.{all_among, PlacedFrom, places_from, rising_from, of_one}
use Rattle.path_rules.specs.PathWords.{Labelled, Tallied}

-- a word written to the places from a up to b
pub record Filled (before after : List ℕ) (a b word : ℕ) : Type 0 where
  pub kept : length after ≡ length before
  pub new : (u : ℕ) → a ≤ u → u < b → get_or after u 0 ≡ word
  pub old : (u : ℕ) → (u < a) ⊎ (b ≤ u) → get_or after u 0 ≡ get_or before u 0

-- ---- contours by their lengths

-- the words of the first j contours and of their vertices are written
pub record LabelledTo (ns : List ℕ) (total j : ℕ) (work : List ℕ) : Type 0 where
  pub vertices : (k u : ℕ) → k < j → sum (take k ns) ≤ u → u < sum (take (suc k) ns) → get_or work u 0 ≡ 2 * k
  pub entries : (k : ℕ) → k < j → get_or work (total + k) 0 ≡ 1

pub labelled_none : (ns : List ℕ) (total : ℕ) (work : List ℕ) → LabelledTo ns total 0 work
labelled_none ns total work = record { vertices = λ k u l. absurd (omega arith); entries = λ k l. absurd (omega arith) }

sum_take : (ns : List ℕ) (j : ℕ) → j < length ns → sum (take (suc j) ns) ≡ sum (take j ns) + get_or ns j 0
unfolding sum
sum_take [] j h = absurd (omega arith)
sum_take (n ∷ ns) zero h = omega arith
sum_take (n ∷ ns) (suc j) h = omega (arith, sum_take ns j (omega arith))

take_most : (ns : List ℕ) (j : ℕ) → sum (take j ns) ≤ sum ns
unfolding sum
take_most [] zero = omega arith
take_most [] (suc j) = omega arith
take_most (n ∷ ns) zero = omega arith
take_most (n ∷ ns) (suc j) = omega (arith, take_most ns j)

take_rise : (ns : List ℕ) (j k : ℕ) → j ≤ k → sum (take j ns) ≤ sum (take k ns)
unfolding sum
take_rise [] zero k h = omega arith
take_rise [] (suc j) zero h = omega arith
take_rise [] (suc j) (suc k) h = omega arith
take_rise (n ∷ ns) zero k h = omega arith
take_rise (n ∷ ns) (suc j) zero h = absurd (omega arith)
take_rise (n ∷ ns) (suc j) (suc k) h = omega (arith, take_rise ns j k (omega arith))

module _ (ns : List ℕ) (total : ℕ) (e : total ≡ sum ns) where
  -- where the vertices of contour j end
  pub next_end : (j v : ℕ) → j < length ns → v ≡ sum (take j ns) → (v + get_or ns j 0 ≡ sum (take (suc j) ns)) × (v + get_or ns j 0 ≤ total)
  next_end j v h x = (omega (arith, x, sum_take ns j h), omega (arith, x, sum_take ns j h, take_most ns (suc j), e))

  pub labelled_more : (j v : ℕ) (before after : List ℕ) → j < length ns → v ≡ sum (take j ns) → total + length ns ≤ length before →
      LabelledTo ns total j before → Filled before after v (v + get_or ns j 0) (2 * j) → LabelledTo ns total (suc j) (set after (total + j) 1)
  labelled_more j v before after h x room l f =
      record { vertices = λ k u a b c. vertex k u b c (ℕ_discrete k j) a; entries = λ k a. entry k (ℕ_discrete k j) a }
    where
      n : (v + get_or ns j 0 ≡ sum (take (suc j) ns)) × (v + get_or ns j 0 ≤ total)
      n = next_end j v h x

      other : (u : ℕ) → u < total → get_or (set after (total + j) 1) u 0 ≡ get_or after u 0
      other u a = get_or-set_other after (total + j) u 1 0 (λ y. omega (arith, a, y))

      vertex : (k u : ℕ) → sum (take k ns) ≤ u → u < sum (take (suc k) ns) → Dec (k ≡ j) → k < suc j →
          get_or (set after (total + j) 1) u 0 ≡ 2 * k
      vertex k u b c (yes y) a =
          let low : sum (take j ns) ≤ u = subst (λ (z : ℕ). sum (take z ns) ≤ u) y b in
          let high : u < sum (take (suc j) ns) = subst (λ (z : ℕ). u < sum (take (suc z) ns)) y c in
          other u (omega (arith, high, take_most ns (suc j), e)) ∙ f.new u (omega (arith, low, x)) (omega (arith, high, n.0)) ∙ omega (arith, y)
      vertex k u b c (no y) a =
          let s : suc k ≤ j = omega (arith, y, a) in
          let under : u < v = omega (arith, c, x, take_rise ns (suc k) j s) in
          other u (omega (arith, c, take_most ns (suc k), e)) ∙ f.old u (inl under) ∙ l.vertices k u s b c

      entry : (k : ℕ) → Dec (k ≡ j) → k < suc j → get_or (set after (total + j) 1) (total + k) 0 ≡ 1
      entry k (yes y) a = rw y (get_or-set_same after (total + j) 1 0 (omega (arith, room, f.kept, h)))
      entry k (no y) a =
          get_or-set_other after (total + j) (total + k) 1 0 (λ z. y (omega (arith, z)))
          ∙ f.old (total + k) (inr (omega (arith, n.1))) ∙ l.entries k (omega (arith, y, a))

-- every contour's words are written
module _ (ns : List ℕ) (total j : ℕ) (work : List ℕ) (e : total ≡ sum ns) (h : length ns ≤ j) (l : LabelledTo ns total j work) where
  place_of : (c : Contour) → Among c (contours_of ns) → PlacedFrom 0 0 ns c
  place_of = all_among (PlacedFrom 0 0 ns) (contours_of ns) (places_from 0 0 ns)

  number_in : (c : Contour) → Among c (contours_of ns) → c.number < length ns
  number_in c m = omega (arith, (place_of c m).most)

  vertex_word : (c : Contour) → Among c (contours_of ns) → (v : ℕ) → Of c v → get_or work v 0 ≡ 2 * c.number
  vertex_word c m v o =
      let q = place_of c m in
      let z : c.number - 0 ≡ c.number = omega arith in
      l.vertices c.number v (omega (arith, number_in c m, h)) (omega (arith, rw z at q.begins, o)) (omega (arith, rw z at q.ends, o))

  pub all_labelled : total + length ns ≤ length work → Labelled total work
  all_labelled room =
      record {
        vertices = omega (arith, room);
        numbers = λ v x.
            let (c, m, o) = of_one ns v (omega (arith, x, e)) in
            omega (arith, vertex_word c m v o, number_in c m, room);
      }

  pub all_tallied : (ms : List ℕ) → Tallied (contours_of ns) total ms 0 work
  unfolding cuts_of entries_of count_marks
  all_tallied ms =
      record {
        rising = rising_from 0 0 ns;
        within = λ c m. omega (arith, (place_of c m).inside, e);
        cuts = λ c m v o. omega (arith, vertex_word c m v o);
        once = λ v. omega arith;
        entries = λ c m. l.entries c.number (omega (arith, number_in c m, h));
        owner = λ v x t.
            let (c, m, o) = of_one ns v (omega (arith, x, e)) in
            (c, m, o, omega (arith, vertex_word c m v o));
      }
