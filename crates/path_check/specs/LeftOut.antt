-- What the work slice says after the last path point. Assumes nothing.
use Rattle.std.specs.Prelude.{◌≡◌, refl, ◌⊎◌, Bool, true, false, List, [], ℕ, zero, suc, ◌+◌, ◌*◌, ◌/◌, ◌%◌, ◌≤◌, ◌<◌, length, get_or, T, IsTrue, ◌↔◌}
use Rattle.std.proofs.Common.{sym, subst, inl, inr, arith, eqb→eq}
use Rattle.std.proofs.Math.Decide.{ℕ_discrete}
use Rattle.std.proofs.Math.Dec.{not_T, eqb}
use Rattle.std.specs.Float.Ieee.Bits.{is_true, is_false}
use Rattle.rules.specs.Tools.{up_from}
use Rattle.rules.specs.HandedOver.{Contour}
use Rattle.rules.specs.Marks.{cuts_of, entries_of}
use Rattle.rules.specs.Contours.{Among, Of}
use Rattle.statement.specs.PathCheck.{complete}
use Rattle.plate_laws.specs.Lists.{All, all_up_from}
use Rattle.plate_laws.specs.Contours.{all_among, among_all, one_number}
use Rattle.division_laws.specs.Says.{Says, SomeOf, says_eqb}
use Rattle.division_laws.specs.MarkCounts.{count_all, cutting, entering}
use Rattle.division_laws.specs.Rules.{says_complete}
use Rattle.path_rules.specs.PathWords.{Tallied}
use Rattle.path_rules.specs.Parts.{TalliedBy}
use Rattle.path_rules.specs.declared.work.Words.{Words}
use Rattle.path_rules.specs.Words.{contour_word, word_of, Open}

-- vertex v is of a contour that is not entered, or segment v is one of a contour and is not cut
abbrev pub LeftOutAt : List Contour → List ℕ → ℕ → Type 0
LeftOutAt cs ms v = SomeOf (λ c. Of c v × ((entries_of c ms ≡ 0) ⊎ ((v < c.first + c.last) × (cuts_of v ms ≡ 0)))) cs

-- by the words after all path points, b says whether v is left out
pub record TellsLeftOut (w : Words) (v : ℕ) (b : Bool) : Type 0 where
  pub says : (cs : List Contour) (ms : List ℕ) (n : ℕ) → length ms ≡ 2 * n → TalliedBy cs w ms n → Says b (LeftOutAt cs ms v)

positive : (n : ℕ) → (n ≡ 0 → ⊥) → 0 < n
positive zero f = absurd (f refl)
positive (suc n) f = omega arith

-- ---- of all vertices

pub none_complete : (cs : List Contour) (total : ℕ) (ms : List ℕ) → ((c : Contour) → Among c cs → c.first + c.last < total) →
    ((v : ℕ) → v < total → LeftOutAt cs ms v → ⊥) → complete cs ms ≡ true
none_complete cs total ms within none =
    is_true (complete cs ms) ((says_complete cs [] [] ms).told
    (among_all _ cs
    (λ c m.
    let i = within c m in (
      positive (entries_of c ms) (λ e. none c.first (omega (arith, i)) (c, m, ((omega arith, omega arith), inl e))),
      all_up_from (λ v. 0 < cuts_of v ms) c.first c.last
          (λ v a b. positive (cuts_of v ms) (λ e. none v (omega (arith, b, i)) (c, m, ((a, omega (arith, b)), inr (b, e))))),
    ))))

all_in : (ms : List ℕ) (a n : ℕ) → All (λ v. 0 < cuts_of v ms) (up_from a n) → (u : ℕ) → a ≤ u → u < a + n → 0 < cuts_of u ms
all_in ms a zero q u l h = absurd (omega arith)
all_in ms a (suc n) q u l h = go (ℕ_discrete u a) (all_in ms (suc a) n q.1 u)
  where
    go : Dec (u ≡ a) → (suc a ≤ u → u < suc a + n → 0 < cuts_of u ms) → 0 < cuts_of u ms
    go (yes e) later = rw e q.0
    go (no x) later = later (omega (arith, x, l)) (omega arith)

pub left_incomplete : (cs : List Contour) (ms : List ℕ) (v : ℕ) → LeftOutAt cs ms v → complete cs ms ≡ false
left_incomplete cs ms v (c, m, (o, x)) =
    is_false (complete cs ms) (not_T (complete cs ms) (λ t. go (all_among _ cs ((says_complete cs [] [] ms).tells t) c m) x))
  where
    go : (0 < entries_of c ms) × All (λ u. 0 < cuts_of u ms) (up_from c.first c.last) →
        (entries_of c ms ≡ 0) ⊎ ((v < c.first + c.last) × (cuts_of v ms ≡ 0)) → ⊥
    go q (inl e) = omega (arith, e, q.0)
    go q (inr y) = omega (arith, y.1, all_in ms c.first c.last q.1 v o.0 y.0)

-- ---- by the words

module _ (cs : List Contour) (total : ℕ) (ms : List ℕ) (n : ℕ) (work : List ℕ) (l : length ms ≡ 2 * n) (t : Tallied cs total ms n work) (v : ℕ)
    (h : v < total) where
  abbrev word : ℕ → ℕ
  word u = get_or work u 0

  -- the word of the contour that v's word names
  abbrev entry : ℕ
  entry = contour_word total work v

  cuts_now : (c : Contour) → Among c cs → (u : ℕ) → Of c u → word u ≡ 2 * c.number + cuts_of u ms
  unfolding cuts_of
  cuts_now c m u o = omega (arith, t.cuts c m u o, count_all (cutting u) ms n l)

  once_now : (u : ℕ) → cuts_of u ms ≤ 1
  unfolding cuts_of
  once_now u = omega (arith, t.once u, count_all (cutting u) ms n l)

  entry_now : (c : Contour) → Among c cs → Of c v → entry ≡ 1 + entries_of c ms
  unfolding entries_of
  entry_now c m o = omega (arith, word_of cs total ms n work t c m v o, count_all (entering c) ms n l)

  -- a contour that is entered
  module _ (entered : 2 ≤ entry) where
    pub says_uncut : v + 1 < total → word v % 2 ≡ 0 → Says (eqb (word (v + 1) / 2) (word v / 2)) (LeftOutAt cs ms v)
    says_uncut g even =
        record {
          tells = λ b. uncut (eqb→eq (word (v + 1) / 2) (word v / 2) b);
          told = λ (c, m, (o, y)). (says_eqb (word (v + 1) / 2) (word v / 2)).told (same c m o y);
        }
      where
        uncut : word (v + 1) / 2 ≡ word v / 2 → LeftOutAt cs ms v
        uncut same =
            let (c, m, o, f) = t.owner v h (omega (arith, entered)) in
            let next : word (total + word (v + 1) / 2) ≡ entry = rw same refl in
            let (d, k, q, e) = t.owner (v + 1) g (omega (arith, entered, next)) in
            let one : d ≡ c = one_number cs t.rising d c k m (omega (arith, e, f, same)) in
            let upper : Of c (v + 1) = subst (λ (x : Contour). Of x (v + 1)) one q in
            (c, m, (o, inr (omega (arith, upper), omega (arith, even, cuts_now c m v o, once_now v))))

        same : (c : Contour) → Among c cs → Of c v → (entries_of c ms ≡ 0) ⊎ ((v < c.first + c.last) × (cuts_of v ms ≡ 0)) →
            word (v + 1) / 2 ≡ word v / 2
        same c m o (inl e) = absurd (omega (arith, entered, entry_now c m o, e))
        same c m o (inr y) =
            omega (arith, cuts_now c m v o, once_now v, cuts_now c m (v + 1) (omega (arith, o), omega (arith, y.0)), once_now (v + 1))

  -- a contour that is entered or takes no part, by a test of the words
  pub says_open : (entry ≡ 1 → ⊥) → (b : Bool) → (IsTrue b ↔ Open total work v) → Says b (LeftOutAt cs ms v)
  says_open z b (there, back) = record { tells = λ x. left (there (is_true b x)); told = λ x. subst T (sym (back (opened x))) tt }
    where
      left : Open total work v → LeftOutAt cs ms v
      left (g, even, same, entered) = (says_uncut entered g even).tells ((says_eqb (word (v + 1) / 2) (word v / 2)).told (sym same))

      opened : LeftOutAt cs ms v → Open total work v
      opened (c, m, (o, inl e)) = absurd (z (omega (arith, entry_now c m o, e)))
      opened (c, m, (o, inr y)) =
          let entered : 2 ≤ entry = omega (arith, z, entry_now c m o) in
          let g : v + 1 < total = omega (arith, y.0, t.within c m) in
          let even : word v % 2 ≡ 0 = omega (arith, cuts_now c m v o, y.1) in
          (g, even, sym ((says_eqb (word (v + 1) / 2) (word v / 2)).tells ((says_uncut entered g even).told (c, m, (o, inr y)))), entered)
