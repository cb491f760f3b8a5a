-- Whether a vertex is left out, by the words of each.
use Rattle.std.proofs.Common.{rules, tests, ◌≡◌, refl, Bool, true, false, not, List, ℕ, ◌*◌, ◌<◌, length, sym, zero-add, arith}
use Rattle.std.specs.Prelude.{MatchBool}
use Rattle.std.specs.List.{range_with_len, HoldsAt, AllWithin}
use Rattle.std.proofs.lemmas.Iterator.{cases_from_any, YieldsList-from_range}
use Rattle.std.proofs.lemmas.List.FromFn.{length-range_with_len, get_or-range_with_len}
use Rattle.rules.specs.HandedOver.{Contour}
use Rattle.statement.specs.PathCheck.{complete}
use Rattle.path_rules.specs.Parts.{TalliedBy}
use Rattle.path_rules.specs.declared.work.Words.{Words}
use Rattle.path_check.specs.LeftOut.{TellsLeftOut, none_complete, left_incomplete}
use Rattle.path_check.proofs.is_complete.Goals as goal

abbrev vertices_of : Words → List ℕ
vertices_of w = range_with_len 0 (length w.vertices.now)

left_or_complete : (w : Words) (cs : List Contour) (ms : List ℕ) (n : ℕ) → length ms ≡ 2 * n → TalliedBy cs w ms n → (r : Bool) →
    MatchBool r ((k : ℕ) × (k < length (vertices_of w)) × HoldsAt (λ v. TellsLeftOut w v true) (vertices_of w) k)
    (AllWithin (λ v. TellsLeftOut w v false) (vertices_of w) 0 (length (vertices_of w))) →
    not r ≡ complete cs ms
left_or_complete w cs ms n l t true (k, h, told) = sym (left_incomplete cs ms _ (((told 0).says cs ms n l t).tells tt))
left_or_complete w cs ms n l t false told =
    let total = length w.vertices.now in
    sym (none_complete cs total ms t.within
    (λ v h x.
    let says = rw (get_or-range_with_len 0 total v 0 h) at (told v 0 (omega arith) (rw length-range_with_len h)) in
    (says.says cs ms n l t).told (rw zero-add x)))

pub returns : goal.returns
returns c =
    let w = c.args.words.now in
    let total = length w.vertices.now in
    let told = cases_from_any _ _ c.any.result (λ v. TellsLeftOut w v true) (λ v. TellsLeftOut w v false) c.any.ensures.ran (YieldsList-from_range 0 total total refl (omega arith)) (λ x q k. search (rules, tests)) (λ x q k. search (rules, tests)) in
    λ cs ms n l t. left_or_complete w cs ms n l t c.any.result told
