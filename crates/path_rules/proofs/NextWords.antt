-- The words of the work slice after one path point more, which keeps the rules. Assumes nothing.
use mathlib.Core.Path.{◌≡◌, refl, sym, ap, ◌∙◌, subst}
use mathlib.Core.Logic.{◌⊎◌, inl, inr}
use mathlib.Core.Bool.{Bool, true, false, ◌&&◌}
use mathlib.Core.List.{List, ◌++◌}
use Prim.Native.Nat.{ℕ, zero, suc, ◌+◌, ◌-◌, ◌*◌, ◌/◌, ◌≤◌, ◌<◌}
use native.Mathlib.Decide.{ℕ_discrete}
use native.Mathlib.Omega.{arith}
use lib.Dec.{T, eqb}
use lib.Ieee.{Float}
use lib.ListN.{length, get_or, set}
use lib.Seq.{get_or-set_same, get_or-set_other}
use Rattle.std.proofs.lemmas.Float.{T_from_true}
use Rattle.std.proofs.lemmas.List.{get_or_append_left, set-append_left, set-append_right}
use borrow.Author.Tests.{eq-eqb, ne_eqb}
use Rattle.rules.specs.Tools.{pick}
use Rattle.rules.specs.HandedOver.{Contour}
use Rattle.rules.specs.Marks.{cut_kind, back_step_kind, kind_at, reference_at, cuts_of, enters, entries_of, marks_before}
use Rattle.rules.specs.Contours.{Among, Of, is_of}
use Rattle.statement.specs.PathCheck.{keeps_rules}
use Rattle.plate_laws.specs.Contours.{one_number}
use Rattle.division_laws.specs.Says.{says_eqb}
use Rattle.division_laws.specs.MarkCounts.{passing, count_step, cutting, entering}
use Rattle.division_laws.specs.Rules.{KeepsAfter, says_of, says_keeps, says_start}
use Rattle.path_rules.specs.PathWords.{Labelled, Tallied}
use Rattle.path_rules.specs.Words.{number_at, contour_word, number_of, word_of}

-- ---- what one mark more counts

counts_none : (a b : Bool) → (T b → ⊥) → ◌≡◌ {A = ℕ} (pick (a && b) 1 0) 0
unfolding pick
counts_none true true f = absurd (f tt)
counts_none true false f = refl
counts_none false b f = refl

counts_one : (a b : Bool) → T a → T b → ◌≡◌ {A = ℕ} (pick (a && b) 1 0) 1
unfolding pick
counts_one true true s t = refl
counts_one true false s t = absurd t
counts_one false b s t = absurd s

module _ (ms : List ℕ) (i : ℕ) (room : 2 * i + 1 < length ms) where
  cuts_step : (v : ℕ) → cuts_of v (marks_before (suc i) ms) ≡ cuts_of v (marks_before i ms) + passing (cutting v) ms i
  unfolding cuts_of
  cuts_step v = count_step (cutting v) ms i (omega arith)

  entries_step : (c : Contour) → entries_of c (marks_before (suc i) ms) ≡ entries_of c (marks_before i ms) + passing (entering c) ms i
  unfolding entries_of
  entries_step c = count_step (entering c) ms i (omega arith)

  -- the cuts of a segment
  kept_cuts : (v : ℕ) → (kind_at ms i ≡ cut_kind → ⊥) → cuts_of v (marks_before (suc i) ms) ≡ cuts_of v (marks_before i ms)
  unfolding pick
  kept_cuts v n = cuts_step v ∙ rw (ne_eqb (kind_at ms i) cut_kind n) (omega arith)

  other_cuts : (v : ℕ) → (v ≡ reference_at ms i → ⊥) → cuts_of v (marks_before (suc i) ms) ≡ cuts_of v (marks_before i ms)
  other_cuts v n =
      let r = reference_at ms i in
      omega (arith, cuts_step v, counts_none (eqb (kind_at ms i) cut_kind) (eqb r v) (λ t. n (sym ((says_eqb r v).tells t))))

  one_cut : kind_at ms i ≡ cut_kind → cuts_of (reference_at ms i) (marks_before (suc i) ms) ≡ cuts_of (reference_at ms i) (marks_before i ms) + 1
  unfolding pick
  one_cut e = cuts_step (reference_at ms i) ∙ rw (eq-eqb (kind_at ms i) cut_kind e, eq-eqb (reference_at ms i) (reference_at ms i) refl) refl

  -- the entries of a contour
  kept_entries : (c : Contour) → (kind_at ms i ≡ cut_kind) ⊎ (kind_at ms i ≡ back_step_kind) →
      entries_of c (marks_before (suc i) ms) ≡ entries_of c (marks_before i ms)
  unfolding pick enters
  kept_entries c (inl e) = entries_step c ∙ rw e (omega arith)
  kept_entries c (inr e) = entries_step c ∙ rw e (omega arith)

  other_entries : (c : Contour) → (Of c (reference_at ms i) → ⊥) → entries_of c (marks_before (suc i) ms) ≡ entries_of c (marks_before i ms)
  other_entries c n =
      let r = reference_at ms i in
      omega (arith, entries_step c, counts_none (enters (kind_at ms i)) (is_of c r) (λ t. n ((says_of c r).tells t)))

  one_entry : (c : Contour) → T (enters (kind_at ms i)) → Of c (reference_at ms i) →
      entries_of c (marks_before (suc i) ms) ≡ entries_of c (marks_before i ms) + 1
  one_entry c t o =
      let r = reference_at ms i in
      omega (arith, entries_step c, counts_one (enters (kind_at ms i)) (is_of c r) t ((says_of c r).told o))

-- ---- what the rule says of a cut and of an entry

module _ (cs : List Contour) (xs path : List Float) (ms : List ℕ) where
  -- the contour of what is cut, which is uncut
  abbrev Uncut : ℕ → Type 0
  Uncut i = ((c : Contour) × Among c cs × Of c (reference_at ms i)) × (cuts_of (reference_at ms i) (marks_before i ms) ≡ 0)

  -- the contour of what is entered, which is unentered
  abbrev Entered : ℕ → Type 0
  Entered i =
      T (enters (kind_at ms i))
      × ((c : Contour) × Among c cs × Of c (reference_at ms i) × (entries_of c (marks_before i ms) ≡ 0))

  cut_rule : (i : ℕ) → keeps_rules cs xs path ms i ≡ true → kind_at ms i ≡ cut_kind → Uncut i
  unfolding keeps_rules
  cut_rule zero kept e = absurd (omega (arith, e, ((says_start cs xs path ms).tells (T_from_true _ kept)).0))
  cut_rule (suc k) kept e = cases ((says_keeps cs xs path ms k (kind_at ms (suc k)) (reference_at ms (suc k))).tells (T_from_true _ kept))
    where
      cases : KeepsAfter cs xs path ms k (kind_at ms (suc k)) (reference_at ms (suc k)) → Uncut (suc k)
      cases (inl (inl (x, c))) = let o = c.0.1 in ((o.0, o.1, o.2.0.0), c.1)
      cases (inl (inr (x, c))) = absurd (omega (arith, e, x))
      cases (inr (inl x, c)) = absurd (omega (arith, e, x.0))
      cases (inr (inr x, c)) = absurd (omega (arith, e, x.0))

  entry_rule : (i : ℕ) → keeps_rules cs xs path ms i ≡ true → (kind_at ms i ≡ cut_kind → ⊥) → (kind_at ms i ≡ back_step_kind → ⊥) → Entered i
  unfolding keeps_rules enters
  entry_rule zero kept a b =
      let q = (says_start cs xs path ms).tells (T_from_true _ kept) in
      let f = q.1.1 in
      (rw q.0 tt, (f.0, f.1, f.2.0, f.2.1))
  entry_rule (suc k) kept a b = cases ((says_keeps cs xs path ms k (kind_at ms (suc k)) (reference_at ms (suc k))).tells (T_from_true _ kept))
    where
      cases : KeepsAfter cs xs path ms k (kind_at ms (suc k)) (reference_at ms (suc k)) → Entered (suc k)
      cases (inl (inl (x, c))) = absurd (a x)
      cases (inl (inr (x, c))) = absurd (b x)
      cases (inr (inl x, l)) = let f = l.1 in (rw x.0 tt, (f.0, f.1, f.2.0, f.2.1))
      cases (inr (inr x, l)) = let f = l.1 in (rw x.0 tt, (f.0, f.1, f.2.0, f.2.1))

-- ---- the words

-- vertex r's word after its cut, which names the same contour; and its contour's word after the entry
abbrev cut_work : List ℕ → ℕ → List ℕ
cut_work work r = set work r (2 * number_at work r + 1)

abbrev entry_work : ℕ → List ℕ → ℕ → List ℕ
entry_work total work r = set work (total + number_at work r) 2

module _ (total : ℕ) (work : List ℕ) (l : Labelled total work) (r : ℕ) (low : r < total) where
  cut_here : get_or (cut_work work r) r 0 ≡ 2 * number_at work r + 1
  cut_here = get_or-set_same work r (2 * number_at work r + 1) 0 (omega (arith, l.vertices, low))

  cut_elsewhere : (u : ℕ) → (u ≡ r → ⊥) → get_or (cut_work work r) u 0 ≡ get_or work u 0
  cut_elsewhere u n = get_or-set_other work r u (2 * number_at work r + 1) 0 n

  cut_label : (u : ℕ) → get_or (cut_work work r) u 0 / 2 ≡ number_at work u
  cut_label u = go (ℕ_discrete u r)
    where
      go : Dec (u ≡ r) → get_or (cut_work work r) u 0 / 2 ≡ number_at work u
      go (yes x) = rw x (omega (arith, cut_here))
      go (no x) = rw (cut_elsewhere u x) refl

  cut_behind : (n : ℕ) → get_or (cut_work work r) (total + n) 0 ≡ get_or work (total + n) 0
  cut_behind n = cut_elsewhere (total + n) (λ x. omega (arith, x, low))

  entry_here : get_or (entry_work total work r) (total + number_at work r) 0 ≡ 2
  entry_here = get_or-set_same work (total + number_at work r) 2 0 (l.numbers r low)

  entry_before : (u : ℕ) → u < total → get_or (entry_work total work r) u 0 ≡ get_or work u 0
  entry_before u h = get_or-set_other work (total + number_at work r) u 2 0 (λ x. omega (arith, x, h))

  entry_elsewhere : (n : ℕ) → (n ≡ number_at work r → ⊥) → get_or (entry_work total work r) (total + n) 0 ≡ get_or work (total + n) 0
  entry_elsewhere n d = get_or-set_other work (total + number_at work r) (total + n) 2 0 (λ x. d (omega (arith, x)))

-- the same of the words in two parts
pub cut_part : (vertices contours : List ℕ) (r : ℕ) → r < length vertices →
    cut_work (vertices ++ contours) r ≡ set vertices r (2 * (get_or vertices r 0 / 2) + 1) ++ contours
cut_part vertices contours r low = rw (get_or_append_left vertices contours 0 r low) (set-append_left vertices contours r _ low)

pub entry_part : (vertices contours : List ℕ) (r : ℕ) → r < length vertices →
    entry_work (length vertices) (vertices ++ contours) r ≡ vertices ++ set contours (get_or vertices r 0 / 2) 2
entry_part vertices contours r low =
    let n = get_or vertices r 0 / 2 in
    let e : length vertices + n - length vertices ≡ n = omega arith in
    rw (get_or_append_left vertices contours 0 r low)
    (set-append_right vertices contours (length vertices) (length vertices + n) 2 refl (omega arith) ∙ rw e refl)

-- ---- by kinds

module _ (cs : List Contour) (xs path : List Float) (ms : List ℕ) (i total : ℕ) (work : List ℕ) (room : 2 * i + 1 < length ms)
    (t : Tallied cs total ms i work) (kept : keeps_rules cs xs path ms i ≡ true) where
  pub tally_back : kind_at ms i ≡ back_step_kind → Tallied cs total ms (suc i) work
  tally_back e =
      let same : (v : ℕ) → cuts_of v (marks_before (suc i) ms) ≡ cuts_of v (marks_before i ms) = λ v. kept_cuts ms i room v (λ x. omega (arith, e, x)) in
      record {
        rising = t.rising;
        within = t.within;
        cuts = λ c m v o. omega (arith, t.cuts c m v o, same v);
        once = λ v. omega (arith, t.once v, same v);
        entries = λ c m. omega (arith, t.entries c m, kept_entries ms i room c (inr e));
        owner = t.owner;
      }

  -- the word of segment r's vertex, its cuts counted once more
  pub tally_cut : (l : Labelled total work) (low : reference_at ms i < total) → kind_at ms i ≡ cut_kind →
      Tallied cs total ms (suc i) (cut_work work (reference_at ms i))
  tally_cut l low e =
      record {
        rising = t.rising;
        within = t.within;
        cuts = λ c m u o. word c m u o (ℕ_discrete u r);
        once = λ u. most u (ℕ_discrete u r);
        entries = λ c m. cut_behind total work l r low c.number ∙ omega (arith, t.entries c m, kept_entries ms i room c (inl e));
        owner = λ u h p. owned u h p;
      }
    where
      r : ℕ
      r = reference_at ms i

      after : List ℕ
      after = cut_work work r

      rule : Uncut cs xs path ms i
      rule = cut_rule cs xs path ms i kept e

      word : (c : Contour) → Among c cs → (u : ℕ) → Of c u → Dec (u ≡ r) → get_or after u 0 ≡ 2 * c.number + cuts_of u (marks_before (suc i) ms)
      word c m u o (yes x) =
          let n = number_of cs total ms i work t c m r (subst (Of c) x o) in
          rw x (cut_here total work l r low ∙ omega (arith, n, rule.1, one_cut ms i room e))
      word c m u o (no x) = cut_elsewhere total work l r low u x ∙ omega (arith, t.cuts c m u o, other_cuts ms i room u x)

      most : (u : ℕ) → Dec (u ≡ r) → cuts_of u (marks_before (suc i) ms) ≤ 1
      most u (yes x) = rw x (omega (arith, rule.1, one_cut ms i room e))
      most u (no x) = omega (arith, t.once u, other_cuts ms i room u x)

      owned : (u : ℕ) → u < total → 0 < contour_word total after u →
          (c : Contour) × Among c cs × Of c u × (number_at after u ≡ c.number)
      owned u h p =
          let same = cut_label total work l r low u in
          let (c, m, o, f) = t.owner u h (omega (arith, cut_behind total work l r low (number_at work u), rw same at p)) in
          (c, m, o, same ∙ f)

  -- the word of its contour, which is entered now
  pub tally_entry : (l : Labelled total work) (low : reference_at ms i < total) → (kind_at ms i ≡ cut_kind → ⊥) → (kind_at ms i ≡ back_step_kind → ⊥) →
      Tallied cs total ms (suc i) (entry_work total work (reference_at ms i))
  tally_entry l low a b =
      record {
        rising = t.rising;
        within = t.within;
        cuts = λ c m u o.
            entry_before total work l r low u (omega (arith, o, t.within c m))
            ∙ omega (arith, t.cuts c m u o, kept_cuts ms i room u a);
        once = λ u. omega (arith, t.once u, kept_cuts ms i room u a);
        entries = λ c m. word c m (ℕ_discrete c.number (number_at work r));
        owner = λ u h p. owned u h p (ℕ_discrete (number_at work u) (number_at work r));
      }
    where
      r : ℕ
      r = reference_at ms i

      after : List ℕ
      after = entry_work total work r

      rule : Entered cs xs path ms i
      rule = entry_rule cs xs path ms i kept a b

      d : Contour
      d = rule.1.0

      among : Among d cs
      among = rule.1.1

      of : Of d r
      of = rule.1.2

      named : number_at work r ≡ d.number
      named = number_of cs total ms i work t d among r of

      word : (c : Contour) → Among c cs → Dec (c.number ≡ number_at work r) → get_or after (total + c.number) 0 ≡ 1 + entries_of c (marks_before (suc i) ms)
      word c m (yes x) =
          let same : d ≡ c = one_number cs t.rising d c among m (sym (x ∙ named)) in
          ap (λ (n : ℕ). get_or after (total + n) 0) x
          ∙ entry_here total work l r low
          ∙ subst (λ (y : Contour). 2 ≡ 1 + entries_of y (marks_before (suc i) ms)) same (omega (arith, rule.1.3, one_entry ms i room d rule.0 of))
      word c m (no x) =
          entry_elsewhere total work l r low c.number x
          ∙ omega (
            arith,
            t.entries c m,
            other_entries ms i room c (λ o. x (sym (number_of cs total ms i work t c m r o))),
          )

      owned : (u : ℕ) → u < total → 0 < contour_word total after u → Dec (number_at work u ≡ number_at work r) →
          (c : Contour) × Among c cs × Of c u × (number_at after u ≡ c.number)
      owned u h p (yes x) =
          let same = entry_before total work l r low u h in
          let w : contour_word total work u ≡ 1 + entries_of d (marks_before i ms) = rw x (word_of cs total ms i work t d among r of) in
          let (c, m, o, f) = t.owner u h (omega (arith, w)) in
          (c, m, o, rw same f)
      owned u h p (no x) =
          let same = entry_before total work l r low u h in
          let (c, m, o, f) = t.owner u h (omega (arith, entry_elsewhere total work l r low (number_at work u) x, rw same at p)) in
          (c, m, o, rw same f)
