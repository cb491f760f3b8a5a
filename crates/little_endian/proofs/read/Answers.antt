-- Each turn reads the byte before those that were read; at the end all have been.
use Rattle.std.proofs.Common.{◌≡◌, refl, ℕ, ◌*◌, ◌+◌, ◌-◌, ◌<◌, ◌≤◌, List, [], ◌∷◌, ◌++◌, length, get_or, take, drop, length-take-le, Fits, w8, ap, ◌∙◌, arith}
use Rattle.std.specs.Prelude.{reverse, map}
use Rattle.std.specs.Borrow.{Bor}
use Rattle.std.proofs.lemmas.List.{map-append, reverse-append, reverse-reverse, length-reverse, length-drop, length_push, get_or-take, get_or-drop, get_or_default, get_or-reverse}
use Rattle.std.proofs.lemmas.Iterator.Adapters.{YieldsList-from_rev_slice}
use Rattle.std.proofs.lemmas.Iterator.Consumers.{YieldsList-turn, YieldsList-end}
use Rattle.std.specs.Slice.Iter.{iter_rest}
use Rattle.std.specs.Iterator.Adapters.{rev_source}
use Rattle.little_endian.specs.Bytes.{from_bytes, part, field}
use Rattle.little_endian.specs.Widths.{small_more, more_fits}
use Rattle.little_endian.proofs.read.Goals as goal

length_part : (bs : List ℕ) (i n : ℕ) → i + n ≤ length bs → length (reverse (take n (drop i bs))) ≡ n
length_part bs i n h = length-reverse (take n (drop i bs)) ∙ length-take-le n (drop i bs) (omega (arith, length-drop i bs, h))

one_more : (ys : List (Bor ℕ)) (y : Bor ℕ) → from_bytes (reverse (map (λ y. y.now) (ys ++ y ∷ []))) ≡ y.now + 256 * from_bytes (reverse (map (λ y. y.now) ys))
unfolding from_bytes
one_more ys y = rw (map-append (λ (y : Bor ℕ). y.now) ys (y ∷ []), reverse-append (map (λ (y : Bor ℕ). y.now) ys) (y.now ∷ []))

byte_in : (bs : List ℕ) (i n : ℕ) {k y : ℕ} → i + n ≤ length bs → ((j : ℕ) → Fits w8 (get_or bs j 0)) →
    (k < length (reverse (take n (drop i bs)))) × (y ≡ get_or (reverse (take n (drop i bs))) k y) → y < 256
byte_in bs i n {k} {y} w h t =
    let p = take n (drop i bs) in
    let m = length p - 1 - k in
    let r = length-reverse p in
    let l = length_part bs i n w in
    let at : get_or p m y ≡ get_or bs (i + m) 0 =
    get_or-take n (drop i bs) m y (omega (arith, t.0, r, l)) ∙ get_or-drop i bs m y ∙ get_or_default bs (i + m) y 0 (omega (arith, t.0, r, l, w))
    in
    omega (arith, t.1, get_or-reverse p k y (omega (arith, t.0, r)), at, h (i + m))

pub loop-b-init : goal.loop-b-init
unfolding from_bytes
loop-b-init g c = (tt, tt, refl, omega arith)

pub overflow_mul-x : goal.overflow_mul-x
overflow_mul-x g c =
    let t = YieldsList-turn (YieldsList-from_rev_slice (take g.row.N (drop c.args.i c.args.bytes.now)) (let e : c.args.i + g.row.N - c.args.i ≡ g.row.N = omega arith in ap (λ s. iter_rest (rev_source s)) c.into_iter-b-iterator.ensures.into_iter_gives ∙ ap iter_rest c.rev-b-items.ensures.source ∙ c.iter.ensures.rest ∙ ap (λ n. take n (drop c.args.i c.args.bytes.now)) e)) c.loop-b.yielded _ c.loop-b.yielded_by _ _ c.in-Some.field-0 c.in-Some.is c.next.ensures.steps in
    let n = length_part c.args.bytes.now c.args.i g.row.N c.requires.within in
    omega (arith, more_fits (length c.loop-b.yielded) {b = 0} (omega (arith, t.0, n, c.requires.fits)) c.loop-b.invariant.3 (omega arith))

pub overflow_add-x : goal.overflow_add-x
overflow_add-x g c =
    let t = YieldsList-turn (YieldsList-from_rev_slice (take g.row.N (drop c.args.i c.args.bytes.now)) (let e : c.args.i + g.row.N - c.args.i ≡ g.row.N = omega arith in ap (λ s. iter_rest (rev_source s)) c.into_iter-b-iterator.ensures.into_iter_gives ∙ ap iter_rest c.rev-b-items.ensures.source ∙ c.iter.ensures.rest ∙ ap (λ n. take n (drop c.args.i c.args.bytes.now)) e)) c.loop-b.yielded _ c.loop-b.yielded_by _ _ c.in-Some.field-0 c.in-Some.is c.next.ensures.steps in
    let n = length_part c.args.bytes.now c.args.i g.row.N c.requires.within in
    omega (arith, more_fits (length c.loop-b.yielded) {b = c.from.result} (omega (arith, t.0, n, c.requires.fits)) c.loop-b.invariant.3 (omega (arith, c.from.ensures, byte_in c.args.bytes.now c.args.i g.row.N c.requires.within c.type_inv.bytes t)))

pub loop-b-preserved : goal.loop-b-preserved
loop-b-preserved g c =
    let t = YieldsList-turn (YieldsList-from_rev_slice (take g.row.N (drop c.args.i c.args.bytes.now)) (let e : c.args.i + g.row.N - c.args.i ≡ g.row.N = omega arith in ap (λ s. iter_rest (rev_source s)) c.into_iter-b-iterator.ensures.into_iter_gives ∙ ap iter_rest c.rev-b-items.ensures.source ∙ c.iter.ensures.rest ∙ ap (λ n. take n (drop c.args.i c.args.bytes.now)) e)) c.loop-b.yielded _ c.loop-b.yielded_by _ _ c.in-Some.field-0 c.in-Some.is c.next.ensures.steps in
    let e = length_push c.loop-b.yielded c.in-Some.field-0 in (
      tt,
      tt,
      omega (arith, one_more c.loop-b.yielded c.in-Some.field-0, c.loop-b.invariant.2, c.from.ensures),
      rw e (small_more (length c.loop-b.yielded) c.loop-b.invariant.3 (omega (arith, c.from.ensures, byte_in c.args.bytes.now c.args.i g.row.N c.requires.within c.type_inv.bytes t))),
    )

pub returns-clause-number : goal.returns-clause-number
unfolding field part
returns-clause-number g c =
    let p = take g.row.N (drop c.args.i c.args.bytes.now) in
    let t = YieldsList-end (YieldsList-from_rev_slice p (let e : c.args.i + g.row.N - c.args.i ≡ g.row.N = omega arith in ap (λ s. iter_rest (rev_source s)) c.into_iter-b-iterator.ensures.into_iter_gives ∙ ap iter_rest c.rev-b-items.ensures.source ∙ c.iter.ensures.rest ∙ ap (λ n. take n (drop c.args.i c.args.bytes.now)) e)) c.loop-b.yielded _ c.loop-b.yielded_by _ _ c.in-None.is c.next.ensures.steps in
    c.loop-b.invariant.2 ∙ ap (λ ys. from_bytes (reverse ys)) t.0 ∙ ap from_bytes (reverse-reverse p)
