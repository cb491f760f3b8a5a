-- Read as jumps, the touches leave the counts and the lengths, the answer and the path slice that the retrace call has without touches. Assumes nothing.
use Rattle.std.specs.Prelude.{◌≡◌, refl, Bool, true, false, ◌||◌, List, [], ◌∷◌, map, ℕ, ◌+◌, ◌-◌, suc, zero, eqb, length, Float}
use Rattle.std.proofs.Common.{sym, ap, ◌∙◌, arith, eqb-true, ne_eqb}
use Rattle.std.proofs.Math.Path.{fun_ext}
use Rattle.std.proofs.lemmas.Bool.{eqb-false}
use Rattle.rules.specs.Tools.{pick, sum, up_from}
use Rattle.rules.specs.HandedOver.{Plate, at, Answer, gives, refuses, RefusalRow, refused_by, after}
use Rattle.rules.specs.Retrace.{retrace}
use Rattle.rules.specs.Marks.{cut_kind, back_step_kind, jump_kind, touch_kind, Step, coordinates, marks, kind_at, count_marks, marks_of, vertices}
use Rattle.rules.specs.Lengths.{pair_length, is_cut, is_back_step, is_jump_or_touch, counted_length, length_along}
use Rattle.rules.specs.Calls.{totals, path_totals, retrace_call}
use Rattle.rules.specs.declared.Totals.{Totals}
use Rattle.plate_laws.specs.Slices.{twice}
use Rattle.path.specs.Totals.{count_either}
use Rattle.path.specs.TouchesAsJumps.{kind_as_jump, as_jump, jump_retrace}
use Rattle.path.specs.CountsAsJumps.{counts_as_jumps, jump_retrace_call, answer_as_jumps}
use Rattle.path.proofs.TouchesAsJumps.{retrace_as_jumps, same_vertices, same_length}

-- ---- counts

-- a kind that is a touch, and one that is none
cases : (Q : ℕ → ℕ → Type 0) → Q touch_kind jump_kind → ((k : ℕ) → (k ≡ touch_kind → ⊥) → Q k k) → (k : ℕ) → Q k (kind_as_jump k)
unfolding kind_as_jump pick
cases Q t f k = go (eqb k touch_kind) refl
  where
    go : (b : Bool) → eqb k touch_kind ≡ b → Q k (pick b jump_kind k)
    go true e = rw (eqb-true k touch_kind e) t
    go false e = f k (eqb-false k touch_kind e)

-- the marks that pass a test of their kind, read as jumps
count_as : (test : ℕ → Bool) (path : List Step) → count_marks (λ k r. test k) (marks (map as_jump path)) ≡ count_marks (λ k r. test (kind_as_jump k)) (marks path)
unfolding count_marks marks as_jump
count_as test [] = refl
count_as test (s ∷ path) = rw (count_as test path)

others_as : (a : ℕ) → (jump_kind ≡ a → ⊥) → (touch_kind ≡ a → ⊥) → (path : List Step) → marks_of a (marks (map as_jump path)) ≡ marks_of a (marks path)
unfolding marks_of
others_as a j t path =
    let e = cases (λ k l. eqb l a ≡ eqb k a) (ne_eqb jump_kind a j ∙ sym (ne_eqb touch_kind a t)) (λ k d. refl) in
    count_as (λ k. eqb k a) path ∙ ap (λ (test : ℕ → Bool). count_marks (λ k r. test k) (marks path)) (fun_ext e)

jumps_as : (path : List Step) → marks_of jump_kind (marks (map as_jump path)) ≡ marks_of jump_kind (marks path) + marks_of touch_kind (marks path)
unfolding marks_of
jumps_as path =
    let e = cases (λ k l. eqb l jump_kind ≡ (eqb k touch_kind || eqb k jump_kind)) refl (λ k d. rw (ne_eqb k touch_kind d)) in
    let f = count_as (λ k. eqb k jump_kind) path ∙ ap (λ (test : ℕ → Bool). count_marks (λ k r. test k) (marks path)) (fun_ext e) in
    omega (arith, f, count_either touch_kind jump_kind (λ e. omega arith) path)

none_left : (path : List Step) → marks_of touch_kind (marks (map as_jump path)) ≡ 0
unfolding marks_of count_marks marks as_jump pick
none_left [] = refl
none_left (s ∷ path) =
    rw (cases (λ k l. eqb l touch_kind ≡ false) refl (λ k d. ne_eqb k touch_kind d) s.kind) (omega (arith, none_left path))

pub same_kind : (p : Plate) (a : ℕ) → (jump_kind ≡ a → ⊥) → (touch_kind ≡ a → ⊥) → marks_of a (marks (jump_retrace p)) ≡ marks_of a (marks (retrace p))
same_kind p a j t = rw (← retrace_as_jumps p) (others_as a j t (retrace p))

pub jumps_and_touches : (p : Plate) →
    marks_of jump_kind (marks (jump_retrace p)) ≡ marks_of jump_kind (marks (retrace p)) + marks_of touch_kind (marks (retrace p))
jumps_and_touches p = rw (← retrace_as_jumps p) (jumps_as (retrace p))

pub no_touches : (p : Plate) → marks_of touch_kind (marks (jump_retrace p)) ≡ 0
no_touches p = rw (← retrace_as_jumps p) (none_left (retrace p))

-- ---- lengths

kind_as : (path : List Step) (k : ℕ) → kind_at (marks (map as_jump path)) k ≡ kind_as_jump (kind_at (marks path) k)
unfolding kind_at marks as_jump kind_as_jump pick
kind_as [] k = refl
kind_as (s ∷ path) zero = refl
kind_as (s ∷ path) (suc k) = rw (twice k) (kind_as path k)

-- of kinds that are counted alike as jumps
length_as : (test : ℕ → Bool) → ((k : ℕ) → test (kind_as_jump k) ≡ test k) → (n : ℕ) (xs : List Float) (path : List Step) →
    length_along test n xs (marks (map as_jump path)) ≡ length_along test n xs (marks path)
unfolding length_along counted_length
length_as test alike n xs path =
    let same : (k : ℕ) → test (kind_at (marks (map as_jump path)) (suc k)) ≡ test (kind_at (marks path) (suc k)) =
    λ k. ap test (kind_as path (suc k)) ∙ alike _ in
    ap (λ (f : ℕ → ℕ). sum (map f (up_from 0 (n - 1)))) (fun_ext (λ k. ap (λ (t : Bool). pick t (pair_length (at xs k) (at xs (suc k))) 0) (same k)))

same_lengths : (p : Plate) (test : ℕ → Bool) → ((k : ℕ) → test (kind_as_jump k) ≡ test k) →
    length_along test (length (retrace p)) (coordinates p.points (vertices (retrace p))) (marks (retrace p))
    ≡ length_along test (length (jump_retrace p)) (coordinates p.points (vertices (jump_retrace p))) (marks (jump_retrace p))
same_lengths p test alike =
    rw (← same_length p, ← same_vertices p, ← retrace_as_jumps p) (sym (length_as test alike (length (retrace p)) _ (retrace p)))

cuts_alike : (k : ℕ) → is_cut (kind_as_jump k) ≡ is_cut k
cuts_alike = cases (λ k l. is_cut l ≡ is_cut k) refl (λ k d. refl)

back_steps_alike : (k : ℕ) → is_back_step (kind_as_jump k) ≡ is_back_step k
back_steps_alike = cases (λ k l. is_back_step l ≡ is_back_step k) refl (λ k d. refl)

jumps_alike : (k : ℕ) → is_jump_or_touch (kind_as_jump k) ≡ is_jump_or_touch k
jumps_alike = cases (λ k l. is_jump_or_touch l ≡ is_jump_or_touch k) refl (λ k d. refl)

pub counts_as_jumps_lem : (p : Plate) → counts_as_jumps (path_totals p (retrace p)) ≡ path_totals p (jump_retrace p)
unfolding counts_as_jumps totals path_totals
counts_as_jumps_lem p =
    rw (
      same_lengths p is_cut cuts_alike,
      same_lengths p is_back_step back_steps_alike,
      same_lengths p is_jump_or_touch jumps_alike,
      same_length p,
      jumps_and_touches p,
      no_touches p,
      same_kind p cut_kind (λ e. omega arith) (λ e. omega arith),
      same_kind p back_step_kind (λ e. omega arith) (λ e. omega arith),
    )

-- ---- the call

rows_as : (rs : List RefusalRow) (later : Answer Totals) → answer_as_jumps (refused_by rs later) ≡ refused_by rs (answer_as_jumps later)
unfolding refused_by pick answer_as_jumps
rows_as [] later = refl
rows_as (r ∷ rs) later = go r.test (rows_as rs later)
  where
    go : (t : Bool) → answer_as_jumps (refused_by rs later) ≡ refused_by rs (answer_as_jumps later) →
        answer_as_jumps (pick t (refuses r.number r.place) (refused_by rs later)) ≡ pick t (refuses r.number r.place) (refused_by rs (answer_as_jumps later))
    go true rest = refl
    go false rest = rest

after_as : (a b : Answer Totals) → answer_as_jumps a ≡ b → (c : ℕ) (result slice : List Float) → after a c result slice ≡ after b c result slice
unfolding after answer_as_jumps
after_as (gives n) b e c result slice = rw (← e)
after_as (refuses number place) b e c result slice = rw (← e)

module _ (p : Plate) (path : List Float) (ms : List ℕ) (w d : ℕ) where
  pub same_answer : answer_as_jumps (retrace_call p path ms w d).answer ≡ (jump_retrace_call p path ms w d).answer
  unfolding retrace_call jump_retrace_call answer_as_jumps
  same_answer = rw (← same_length p, ← counts_as_jumps_lem p) (rows_as _ _)

  pub same_path : (retrace_call p path ms w d).path ≡ (jump_retrace_call p path ms w d).path
  unfolding retrace_call jump_retrace_call
  same_path = rw (same_vertices p) (after_as _ _ same_answer _ _ path)
