-- Vertex v ends its run, whose length is then written, or it doesn't.
use Rattle.std.proofs.Common.{◌≡◌, List, ℕ, [], ◌∷◌, ◌++◌, ◌+◌, ◌-◌, ◌≤◌, ◌<◌, Bool, true, refl, sym, ap, ap₂, ◌∙◌, set, length, arith, append-nil, append_assoc, length-append}
use Rattle.rules.specs.HandedOver.{over}
use Rattle.slices.specs.Over.{over_snoc}
use Rattle.recovery_parts.specs.Flags.{flagged, flagged_runs}
use Rattle.recovery_parts.specs.Lengths.{runs_to, ends, runs_on, runs_out, runs_end, on_before_last}
use Rattle.recovery_laws.specs.Runs.{pending_none}
use Rattle.recovery_parts.proofs.put_lengths.Goals as goal
use Rattle.recovery_parts.proofs.put_lengths.Goals.{then-ends_contour, else-ends_contour}

pub loop-v-init : goal.loop-v-init
unfolding flagged_runs runs_to over
loop-v-init c =
    let e : length c.args.flags.now - 0 ≡ length c.args.flags.now = omega arith in
    record { done = []; counted = refl; written = refl; left = rw e (sym (pending_none _)); few = omega arith; whole = λ h. refl }

-- a run that ends at vertex v has room
fits : (joined : ℕ → Bool) (m v k : ℕ) (all done slice : List ℕ) → v < m → ends joined m v ≡ true → all ≡ done ++ runs_to joined m v k →
    length all ≤ length slice → length done < length slice
fits joined m v k all done slice h e left room =
    let out = runs_out joined m v h k e in
    let some : length all ≡ length (done ++ ((k + 1) ∷ runs_to joined m (v + 1) 0)) = ap length (left ∙ ap (λ (r : List ℕ). done ++ r) out) in
    omega (arith, some, room, length-append done ((k + 1) ∷ runs_to joined m (v + 1) 0))

pub bounds-lengths-count : goal.bounds-lengths-count
bounds-lengths-count c =
    let l = c.loop-v in
    let i = l.invariant in
    let fs = c.args.flags.now in
    let end = sym c.ends_contour.ensures ∙ c.if-ends_contour.true in
    let room = fits (flagged fs) (length fs) l.v l.length (flagged_runs fs) i.done c.args.lengths.now c.loop-v-test.true end i.left c.requires.room in
    omega (arith, room, i.counted, l.auto.lengths)

pub loop-v-preserved : goal.loop-v-preserved
loop-v-preserved c =
    let l = c.loop-v in
    let i = l.invariant in
    let fs = c.args.flags.now in
    let told = sym c.ends_contour.ensures in
    let h = c.loop-v-test.true in
    elim c.if-ends_contour.branch [
      | then-ends_contour w ↦
          let end = told ∙ w.if-ends_contour.true in
          let n = l.length + 1 in
          let room = fits (flagged fs) (length fs) l.v l.length (flagged_runs fs) i.done c.args.lengths.now h end i.left c.requires.room in
          let out = runs_out (flagged fs) (length fs) l.v h l.length end in
          record {
            done = i.done ++ n ∷ [];
            counted = omega (arith, w.count-is, i.counted, length-append i.done (n ∷ []));
            written = w.lengths-is ∙ ap₂ (λ (xs : List ℕ) (j : ℕ). set xs j n) i.written i.counted ∙ sym (over_snoc i.done c.args.lengths.now n room);
            left = rw w.length-is (i.left ∙ ap (λ (r : List ℕ). i.done ++ r) out ∙ sym (append_assoc i.done (n ∷ []) _));
            few = omega (arith, w.length-is);
            whole = λ e. w.length-is;
          }
      | else-ends_contour w ↦
          let on = told ∙ w.if-ends_contour.false in
          record {
            done = i.done;
            counted = w.count-is ∙ i.counted;
            written = w.lengths-is ∙ i.written;
            left = rw w.length-is (i.left ∙ ap (λ (r : List ℕ). i.done ++ r) (runs_on (flagged fs) (length fs) l.v h l.length on));
            few = omega (arith, w.length-is, i.few);
            whole = λ e. absurd (on_before_last (flagged fs) (length fs) l.v on e);
          }
    ]

pub returns : goal.returns
returns c =
    let l = c.loop-v in
    let i = l.invariant in
    let fs = c.args.flags.now in
    let end : l.v ≡ length fs = omega arith in
    let none = runs_end (flagged fs) (length fs) l.v (omega (arith, end)) in
    let left = rw (i.whole end, none, append-nil i.done) at i.left in
    rw left i.written
