-- What `vertex` returns, by the kind of the mark.
use Rattle.std.proofs.Common.{Option, IfSome, [], ◌<◌, get_or, refl, ◌≡◌, ◌⊎◌, sym, ◌∙◌, ap, inl, inr, arith, Bool, true, false, ℕ}
use Rattle.std.proofs.lemmas.Option.{IfSome_then}
use Rattle.rules.specs.Marks.{kind_of, reference_of, vertices_after}
use Rattle.rules.specs.declared.Vertex.{Vertex}
use Rattle.rules.specs.declared.Mark.{Mark}
use Rattle.rules.specs.declared.Mark.TheVariants.{Jump, Touch}
use Rattle.statement.specs.Division.{IsJumpOrTouch}
use Rattle.path_vertices.proofs.VertexRules.{not_first, word_within, no_kind, start_vertex, start_keeps, late_start, cut_vertex, cut_keeps, cut_off, back_keeps, back_vertex, landing_vertex, landing_keeps, landing_off}
use Rattle.path_vertices.proofs.MarkedPath.vertex.Goals as goal

abbrev Tells : Type 0 → Bool → Type 0
Tells P b = (P → b ≡ true) × (b ≡ true → P)

none : (b : Bool) → b ≡ false → Tells (false ≡ true) b
none b e = (λ t. e ∙ t, λ t. sym e ∙ t)

by_equal : (P : Type 0) (a b : Bool) → Tells P a → a ≡ b → Tells P b
by_equal P a b s e = (λ t. sym e ∙ s.0 t, λ t. s.1 (e ∙ t))

is_vertex : (r : Option Vertex) (v : Vertex) (n : ℕ) → IfSome r (λ u. u ≡ v) → v.0 ≡ n → IfSome r (λ u. u.0 ≡ n)
is_vertex r v n s e = IfSome_then {X = Vertex} r {P = λ u. u ≡ v} {Q = λ u. u.0 ≡ n} s (λ u q. ap (λ (x : Vertex). x.0) q ∙ e)

-- a mark that names the vertex landed on
jump_kind_of : (m : Mark) (v : Vertex) → (m ≡ Jump v) ⊎ (m ≡ Touch v) → IsJumpOrTouch (kind_of m)
jump_kind_of m v (inl e) = inl (ap kind_of e)
jump_kind_of m v (inr e) = inr (ap kind_of e)

jump_names : (m : Mark) (v : Vertex) → (m ≡ Jump v) ⊎ (m ≡ Touch v) → v.0 ≡ reference_of m
jump_names m v (inl e) = sym (ap reference_of e)
jump_names m v (inr e) = sym (ap reference_of e)

pub returns-in_err-mark-clause-keeps : goal.returns-in_err-mark-clause-keeps
returns-in_err-mark-clause-keeps c =
    let q = c.requires in
    let off = no_kind _ _ _ c.args.i c.args.self.now.marked q.inside q.read (λ h. grind (arith, c.in_err-mark.ensures.known.1 h)) in
    rw c.from_residual.ensures (none _ off)

pub returns-then-i-gt0-clause-keeps : goal.returns-then-i-gt0-clause-keeps
returns-then-i-gt0-clause-keeps c =
    let q = c.requires in
    let n = c.in_ok-mark.ensures.numbers in
    let is = c.in-Start.is in
    none _ (late_start _ _ _ c.args.i c.args.self.now.marked q.inside q.read _ (sym (ap reference_of is) ∙ n.1) (sym n.0 ∙ ap kind_of is) c.if-i-gt0.true)

pub cut_end-requires-clause-within : goal.cut_end-requires-clause-within
cut_end-requires-clause-within c = let q = c.requires in word_within _ _ _ c.args.i c.args.self.now.marked q.inside q.read

pub returns-in_err-cut_end-in-Cut-clause-keeps : goal.returns-in_err-cut_end-in-Cut-clause-keeps
returns-in_err-cut_end-in-Cut-clause-keeps c =
    let q = c.requires in
    let n = c.in_ok-mark.ensures.numbers in
    let is = c.in-Cut.is in
    let off = cut_off _ _ _ c.args.i c.args.self.now.marked q.inside q.read _ (sym (ap reference_of is) ∙ n.1) (sym n.0 ∙ ap kind_of is)
    (λ h. grind (arith, c.in_err-cut_end-in-Cut.ensures.from.1 h)) in
    rw c.from_residual-in_err-cut_end-in-Cut.ensures (none _ off)

pub returns-then-not-has_landing_kind-clause-keeps : goal.returns-then-not-has_landing_kind-clause-keeps
returns-then-not-has_landing_kind-clause-keeps c =
    let q = c.requires in
    let n = c.in_ok-mark.ensures.numbers in
    let m = c.in_ok-mark.mark in
    let is = c.in-Jump.is in
    none _
    (landing_off _ _ _ c.args.i c.args.self.now.marked q.inside q.read _ (jump_names m _ is ∙ n.1) (rw n.0 at (jump_kind_of m _ is))
    (rw (c.in-Jump.mark-is, n.0) at (sym c.if-not-has_landing_kind.ensures)))

pub returns-else-i-gt0-clause-keeps : goal.returns-else-i-gt0-clause-keeps
returns-else-i-gt0-clause-keeps c =
    let q = c.requires in
    let n = c.in_ok-mark.ensures.numbers in
    let is = c.in-Start.is in
    by_equal _ _ _ (c.landing.ensures.fresh c.args.i q.read)
    (start_keeps _ _ _ c.args.i c.args.self.now.marked q.inside q.read _ (sym (ap reference_of is) ∙ n.1) (sym n.0 ∙ ap kind_of is)
    (omega (arith, c.if-i-gt0.false)))

pub returns-else-i-gt0-clause-vertex : goal.returns-else-i-gt0-clause-vertex
returns-else-i-gt0-clause-vertex c =
    let q = c.requires in
    let n = c.in_ok-mark.ensures.numbers in
    let is = c.in-Start.is in
    let e = start_vertex _ _ _ c.args.i c.args.self.now.marked q.inside q.read _ (sym (ap reference_of is) ∙ n.1) (sym n.0 ∙ ap kind_of is) in
    is_vertex c.landing.result c.in-Start.v _ c.landing.ensures.vertex e

pub returns-in_ok-cut_end-in-Cut-clause-keeps : goal.returns-in_ok-cut_end-in-Cut-clause-keeps
returns-in_ok-cut_end-in-Cut-clause-keeps c =
    let q = c.requires in
    let n = c.in_ok-mark.ensures.numbers in
    let is = c.in-Cut.is in
    let told = c.in_ok-cut_end-in-Cut.ensures in
    by_equal _ _ _ (c.landing-in-Cut.ensures.fresh c.args.i q.read)
    (cut_keeps _ _ _ c.args.i c.args.self.now.marked q.inside q.read _ (sym (ap reference_of is) ∙ n.1) (sym n.0 ∙ ap kind_of is) (told.from.0 refl) _ told.end)

pub returns-in_ok-cut_end-in-Cut-clause-vertex : goal.returns-in_ok-cut_end-in-Cut-clause-vertex
returns-in_ok-cut_end-in-Cut-clause-vertex c =
    let q = c.requires in
    let n = c.in_ok-mark.ensures.numbers in
    let is = c.in-Cut.is in
    let told = c.in_ok-cut_end-in-Cut.ensures in
    let e = cut_vertex _ _ _ c.args.i c.args.self.now.marked q.inside q.read _ (sym (ap reference_of is) ∙ n.1) (sym n.0 ∙ ap kind_of is)
    (not_first c.args.i _ (told.from.0 refl)) in
    is_vertex c.landing-in-Cut.result c.in_ok-cut_end-in-Cut.field-0 _ c.landing-in-Cut.ensures.vertex (told.end ∙ e)

pub returns-in-BackStep-clause-keeps : goal.returns-in-BackStep-clause-keeps
returns-in-BackStep-clause-keeps c =
    let q = c.requires in
    let n = c.in_ok-mark.ensures.numbers in
    let is = c.in-BackStep.is in
    by_equal _ _ _ c.stepped_back.ensures.pair
    (back_keeps _ _ _ c.args.i c.args.self.now.marked q.inside q.read _ (sym (ap reference_of is) ∙ n.1) (sym n.0 ∙ ap kind_of is))

pub returns-in-BackStep-clause-vertex : goal.returns-in-BackStep-clause-vertex
returns-in-BackStep-clause-vertex c =
    let q = c.requires in
    let n = c.in_ok-mark.ensures.numbers in
    let is = c.in-BackStep.is in
    IfSome_then {X = Vertex} c.stepped_back.result
    {P = λ u. (c.in-BackStep.place.0 < c.args.i) × (u.0 ≡ get_or c.args.self.now.landings.vertices.now c.in-BackStep.place.0 0)}
    {Q = λ u. u.0 ≡ get_or (vertices_after [] c.args.self.now.marks.now) c.args.i 0} c.stepped_back.ensures.vertex
    (λ u s. s.1 ∙ back_vertex _ _ _ c.args.i c.args.self.now.marked q.inside q.read _ (sym (ap reference_of is) ∙ n.1) (sym n.0 ∙ ap kind_of is) s.0)

pub returns-else-not-has_landing_kind-clause-keeps : goal.returns-else-not-has_landing_kind-clause-keeps
returns-else-not-has_landing_kind-clause-keeps c =
    let q = c.requires in
    let n = c.in_ok-mark.ensures.numbers in
    let m = c.in_ok-mark.mark in
    let is = c.in-Jump.is in
    by_equal _ _ _ (c.landing-in-Jump.ensures.fresh c.args.i q.read)
    (landing_keeps _ _ _ c.args.i c.args.self.now.marked q.inside q.read _ (jump_names m _ is ∙ n.1) (rw n.0 at (jump_kind_of m _ is))
    (rw (c.in-Jump.mark-is, n.0) at (sym c.if-not-has_landing_kind.ensures)))

pub returns-else-not-has_landing_kind-clause-vertex : goal.returns-else-not-has_landing_kind-clause-vertex
returns-else-not-has_landing_kind-clause-vertex c =
    let q = c.requires in
    let n = c.in_ok-mark.ensures.numbers in
    let m = c.in_ok-mark.mark in
    let is = c.in-Jump.is in
    let e = landing_vertex _ _ _ c.args.i c.args.self.now.marked q.inside q.read _ (jump_names m _ is ∙ n.1) (rw n.0 at (jump_kind_of m _ is)) in
    is_vertex c.landing-in-Jump.result c.in-Jump.v _ c.landing-in-Jump.ensures.vertex e
