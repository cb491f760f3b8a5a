-- The answer and the output slice of the order and the straight call, by the way that a call takes: refused by the checks, short of work, full, or
-- whole. The result is of n points or entries, C is c, and w is the length of the work slice. Assumes nothing.
use Rattle.std.specs.Prelude.{◌≡◌, ℕ, ◌*◌, ◌≤◌, ◌<◌, length}
use Rattle.std.proofs.Math.Path.{refl, ap}
use Rattle.std.proofs.Common.{sym, ◌∙◌, subst}
use mathlib.Core.List.{List, [], ◌∷◌}
use native.Mathlib.Omega.{arith}
use Rattle.std.proofs.Math.ListN.{take}
use Rattle.std.proofs.Math.Seq.{take_all}
use borrow.Author.Tests.{lt-ltb, le-ltb, ne_eqb}
use Rattle.rules.specs.Tools.{pick}
use Rattle.rules.specs.HandedOver.{Plate, Answer, gives, refuses, number_of, place_of, refusal, RefusalRow, refused_by, work_short, full, plate_rows, order_rows, over, after, frees_work, WorkKept}
use Rattle.rules.specs.declared.Refusal.{Refusal}
use Rattle.plate_laws.specs.Rows.{Other, Lacks, rows_give, rows_pass, rows_append, rows_refuse, refusal_refuses, rows_lack}
use Rattle.plate_laws.specs.AcceptedInput.{input_lacks}

-- ---- rows without refusal 6 alter no slice

pub after_rows : {A B C : Type 0} (rs : List RefusalRow) → Lacks 6 rs → (r : Refusal) (a : A) (later : Answer B) (c : ℕ) (result slice : List C) →
    refusal r ≡ refused_by rs (gives a) → slice ≡ after (refused_by rs later) c result slice
unfolding refusal after pick
after_rows {A} rs l r a later c result slice h =
    let other : number_of r ≡ 6 → ⊥ = subst {A = Answer A} (Other 6) (sym h) (rows_lack 6 rs (gives a) l tt) in
    rw (rows_refuse rs a later (number_of r) (place_of r) (sym h), ne_eqb (number_of r) 6 other)

-- a work slice that is not altered
pub work_same : {A B : Type 0} (a : Answer A) (work : List B) → WorkKept a work work
unfolding WorkKept
work_same (gives a) work = tt
work_same (refuses n k) work = λ t. refl

-- ---- the four ways

abbrev pub outcome : Plate → ℕ → ℕ → ℕ → Answer ℕ
outcome p w c n = refused_by (order_rows p w c n) (gives n)

-- `a` is the call's answer, `now` the output slice afterwards, and `work` and `worked` the work slice before and afterwards
pub record OutcomeMet {B : Type 0} (o : Answer ℕ) (c : ℕ) (result slice : List B) (a : Answer ℕ) (now : List B) (work worked : List ℕ) : Type 0 where
  pub answer : a ≡ o
  pub written : now ≡ after o c result slice
  pub kept : WorkKept o work worked

module _ {B : Type 0} (p : Plate) (w c n : ℕ) (result slice : List B) (work : List ℕ) where
  -- the rows behind those of the plate
  abbrev rows : List RefusalRow
  rows = work_short w (length p.lengths) 0 ∷ full c n ∷ []

  behind : outcome p w c n ≡ refused_by (plate_rows p) (refused_by rows (gives n))
  unfolding order_rows
  behind = rows_append (plate_rows p) rows (gives n)

  pub met_refused : (r : Refusal) (m : ℕ) → refusal r ≡ refused_by (plate_rows p) (gives m) → OutcomeMet (outcome p w c n) c result slice (refusal r) slice work work
  met_refused r m h =
      let lacks = (input_lacks p.points p.lengths p.layers p.strategy).0 in
      rw behind
      (record { answer = refusal_refuses (plate_rows p) r m _ h; written = after_rows (plate_rows p) lacks r m _ c result slice h; kept = work_same _ work })

  module _ (m k : ℕ) (sound : refused_by (plate_rows p) (gives m) ≡ gives k) where
    passed : outcome p w c n ≡ refused_by rows (gives n)
    passed = behind ∙ rows_pass (plate_rows p) (rows_give (plate_rows p) _ k sound).0 _

    pub met_short : w < length p.lengths → OutcomeMet (outcome p w c n) c result slice (refuses 5 0) slice work work
    unfolding refused_by work_short after pick
    met_short h = rw (passed, lt-ltb w (length p.lengths) h) (record { answer = refl; written = refl; kept = work_same _ work })

    -- as many of the result were written as there is room for
    module _ (enough : length p.lengths ≤ w) (room count : ℕ) (room_is : room ≡ c) (count_is : count ≡ n) (now : List B)
        (written : now ≡ over (take (2 * room) result) slice) (worked : List ℕ) where
      pub met_full : room < count → OutcomeMet (outcome p w c n) c result slice (refuses 6 room) now work worked
      unfolding refused_by work_short full after pick frees_work WorkKept
      met_full h =
          let e : c < n = omega arith in
          rw (passed, le-ltb w (length p.lengths) enough, lt-ltb c n e, ← room_is) (record { answer = refl; written = written; kept = λ t. absurd t })

      pub met_whole : length result ≡ 2 * n → count ≤ room → OutcomeMet (outcome p w c n) c result slice (gives count) now work worked
      unfolding refused_by work_short full after pick WorkKept
      met_whole e h =
          let f : n ≤ c = omega arith in
          let all : take (2 * room) result ≡ result = take_all (2 * room) result (omega arith) in
          rw (passed, le-ltb w (length p.lengths) enough, le-ltb c n f, ← count_is) (record { answer = refl; written = written ∙ ap (λ (xs : List B). over xs slice) all; kept = tt })
