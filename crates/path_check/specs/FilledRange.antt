-- What a slice's `fill` of the places from a up to b leaves. Assumes nothing.
use Rattle.std.specs.Prelude.{◌≡◌, List, ℕ, ◌-◌, ◌≤◌, length, take, drop, replicate}
use Rattle.std.proofs.Common.{rules, ◌∙◌, inl, inr, arith, length-take, length-drop}
use Rattle.std.proofs.lemmas.List.{places, length-replicate}
use borrow.Rule.Slice.PartMut.{put_mid}
use Rattle.path_check.specs.Labels.{Filled}

pub filled : (work part : List ℕ) (a b word : ℕ) → a ≤ b → b ≤ length work → part ≡ replicate (length (take (b - a) (drop a work))) word →
    Filled work (put_mid a (b - a) work part) a b word
filled work part a b word l h e =
    let n : length part ≡ b - a = rw e (length-replicate (length (take (b - a) (drop a work))) word ∙ simp (length-take, length-drop) (omega arith)) in
    record {
      kept = search (rules, places);
      new = λ u x y. search (rules, places);
      old = λ u o. elim o [ inl x ↦ search (rules, places) | inr x ↦ search (rules, places) ];
    }
