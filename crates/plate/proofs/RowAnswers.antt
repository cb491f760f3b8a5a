-- What a part of the check tells of its rows, and its refusal among all rows. Assumes nothing.
use Rattle.std.proofs.Common.{◌≡◌, List, ◌++◌, Ok, Err, sym, ◌∙◌}
use Rattle.rules.specs.HandedOver.{answer_of, gives, RefusalRow, refused_by}
use Rattle.rules.specs.declared.Refusal.{Refusal}
use Rattle.plate_laws.specs.Rows.{Passed, rows_give, rows_pass, rows_append, refusal_refuses}

-- no row refuses, and v is the answer
pub record RowsPassed {A : Type 0} (rs : List RefusalRow) (a v : A) : Type 0 where
  pub rows : Passed rs
  pub answer : gives a ≡ gives v

pub passed : {A : Type 0} (rs : List RefusalRow) (a v : A) → answer_of (Ok v) ≡ refused_by rs (gives a) → RowsPassed rs a v
unfolding answer_of
passed rs a v h = let p = rows_give rs (gives a) v (sym h) in record { rows = p.0; answer = p.1 }

-- behind rows that have passed
pub refuses_among : {A B : Type 0} (before now after : List RefusalRow) (e : Refusal) (a : A) (b : B) → Passed before →
    answer_of (Err e) ≡ refused_by now (gives a) → answer_of (Err e) ≡ refused_by (before ++ (now ++ after)) (gives b)
unfolding answer_of
refuses_among before now after e a b p h =
    refusal_refuses now e a (refused_by after (gives b)) h
    ∙ sym (rows_append before (now ++ after) (gives b) ∙ rows_pass before p (refused_by (now ++ after) (gives b)) ∙ rows_append now after (gives b))
