-- The flags of cut segments, mark by mark. Assumes nothing.
use Rattle.std.specs.Prelude.{◌≡◌, Bool, true, false, List, ℕ, suc, ◌+◌, ◌*◌, ◌<◌, ◌≤◌, length, get_or, set, replicate, ltb}
use Rattle.std.proofs.Common.{arith, ◌∙◌, ap, sym, add-one, eq-eqb, ne_eqb, length-set, get_or-set_same, get_or-set_other}
use Rattle.std.proofs.Math.Decide.{ℕ_discrete}
use Rattle.std.proofs.lemmas.Bool.{and_left, and_right, and_from, lt-ltb}
use Rattle.std.proofs.lemmas.List.{get_or-replicate, length-replicate}
use Rattle.rules.specs.Tools.{pick}
use Rattle.rules.specs.Marks.{cut_kind, kind_at, reference_at, count_marks, cuts_of, marks_before}
use Rattle.division_laws.specs.MarkCounts.{count_step, count_all, cutting}
use Rattle.contour_recovery.specs.ContourRecovery.{is_segment_cut}
use Rattle.recovery_parts.specs.Flags.{flagged, Flags}

pub flags_none : (ms : List ℕ) (n : ℕ) → Flags (marks_before 0 ms) (replicate n 0)
unfolding Flags flagged is_segment_cut cuts_of count_marks
flags_none ms n v h =
    let z : ℕ = 0 in
    ap (ltb 0) (get_or-replicate n v z z (omega (arith, h, length-replicate n z)))

module _ (ms : List ℕ) (i : ℕ) (h : 2 * suc i ≤ length ms) where
  abbrev kind : ℕ
  kind = kind_at ms i

  abbrev r : ℕ
  r = reference_at ms i

  step : (v : ℕ) (b : Bool) → cutting v kind r ≡ b → cuts_of v (marks_before (i + 1) ms) ≡ cuts_of v (marks_before i ms) + pick b 1 0
  unfolding cuts_of
  step v b e = rw (add-one, ← e) (count_step (cutting v) ms i h)

  cut_other : (v : ℕ) → cutting v kind r ≡ false → is_segment_cut (marks_before (i + 1) ms) v ≡ is_segment_cut (marks_before i ms) v
  unfolding is_segment_cut pick
  cut_other v e = ap (ltb 0) (omega (arith, step v false e))

  cut_here : (v : ℕ) → cutting v kind r ≡ true → is_segment_cut (marks_before (i + 1) ms) v ≡ true
  unfolding is_segment_cut pick
  cut_here v e = lt-ltb 0 _ (omega (arith, step v true e))

  module _ (flags : List ℕ) (f : Flags (marks_before i ms) flags) where
    -- no cut
    pub flags_kept : (kind ≡ cut_kind → ⊥) → Flags (marks_before (i + 1) ms) flags
    unfolding Flags
    flags_kept n v l = f v l ∙ sym (cut_other v (and_left _ _ (ne_eqb kind cut_kind n)))

    -- a cut of a segment that has no flag
    pub flags_beyond : length flags ≤ r → Flags (marks_before (i + 1) ms) flags
    unfolding Flags
    flags_beyond b v l = f v l ∙ sym (cut_other v (and_right _ _ (ne_eqb r v (λ e. omega (arith, b, l, e)))))

    -- a cut
    pub flags_cut : kind ≡ cut_kind → r < length flags → Flags (marks_before (i + 1) ms) (set flags r 1)
    unfolding Flags flagged
    flags_cut k s v l = go (ℕ_discrete v r)
      where
        go : Dec (v ≡ r) → ltb 0 (get_or (set flags r 1) v 0) ≡ is_segment_cut (marks_before (i + 1) ms) v
        go (yes e) =
            ap (ltb 0) (ap (λ u. get_or (set flags r 1) u 0) e ∙ get_or-set_same flags r 1 0 s)
            ∙ sym (cut_here v (and_from _ _ (eq-eqb kind cut_kind k) (eq-eqb r v (sym e))))
        go (no n) =
            ap (ltb 0) (get_or-set_other flags r v 1 0 n)
            ∙ f v (omega (arith, l, length-set flags r 1))
            ∙ sym (cut_other v (and_right _ _ (ne_eqb r v (λ e. n (sym e)))))

pub flags_all : (ms : List ℕ) (n : ℕ) (flags : List ℕ) → length ms ≡ 2 * n → Flags (marks_before n ms) flags → Flags ms flags
unfolding Flags is_segment_cut cuts_of
flags_all ms n flags e f v l = f v l ∙ ap (ltb 0) (count_all (cutting v) ms n e)
