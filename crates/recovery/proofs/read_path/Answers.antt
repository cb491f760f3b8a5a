-- All path points were read, or one breaks a rule.
use Rattle.std.proofs.Common.{◌≡◌, [], ℕ, ◌/◌, length, sym, ◌∙◌, refl, arith}
use Rattle.std.proofs.lemmas.List.{ext_get_or}
use Rattle.rules.specs.Marks.{vertices_after}
use Rattle.contour_recovery.specs.ContourRecovery.{recovery_answer}
use Rattle.recovery_laws.specs.Vertices.{vertices_length}
use Rattle.recovery.specs.Rows.{inconsistent}
use Rattle.recovery.proofs.read_path.Goals as goal

pub returns-in-Some-clause-refused : goal.returns-in-Some-clause-refused
unfolding recovery_answer
returns-in-Some-clause-refused c =
    let a = c.args in
    let f = rw c.none-landings.ensures.count at c.in-Some.ensures.found in
    inconsistent a.path.now a.marks.now c.in-Some.place f.0 f.1

pub returns-in-None-clause-vertices : goal.returns-in-None-clause-vertices
returns-in-None-clause-vertices c =
    let a = c.args in
    let n = length a.path.now / 2 in
    let read = rw c.none-landings.ensures.count at (c.in-None.ensures.none refl) in
    let long : length (vertices_after [] a.marks.now) ≡ n = vertices_length a.marks.now n (omega (arith, c.requires.even, c.requires.marks)) in
    let none : ℕ = 0 in
    let count : length c.first_inconsistent.new.marked.landings.vertices.now ≡ n = c.in-None.ensures.count ∙ c.none-landings.ensures.count in
    ext_get_or none _ _ (count ∙ sym long) (λ j h. read.vertices j (omega (arith, h, count)))

pub returns-in-None-clause-read : goal.returns-in-None-clause-read
returns-in-None-clause-read c = rw c.none-landings.ensures.count at (c.in-None.ensures.none refl)
