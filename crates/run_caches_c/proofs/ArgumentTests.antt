-- What the tests of the arguments tell. Assumes nothing.
use mathlib.Core.Path.{◌≡◌, sym, ◌∙◌}
use mathlib.Core.Bool.{Bool, true, ◌&&◌}
use Prim.Native.Nat.{ℕ, ◌≤◌, ◌<◌}
use native.Mathlib.Omega.{arith}
use lib.Dec.{ltb, leb, eqb}
use borrow.Author.Tests.{ltb-true, leb-true, eqb-true}
use Rattle.std.proofs.lemmas.Bool.{and_parts, and_from}
use Rattle.run_caches_c.specs.Results.{has_path, has_slices}

pub path_told : (n size before count : ℕ) → true ≡ has_path n size before count → (0 < n) × (0 < size) × (before ≤ count) × (count ≤ n)
unfolding has_path
path_told n size before count e =
    let a = and_parts _ (leb count n) (sym e) in
    let b = and_parts _ (leb before count) a.0 in
    let d = and_parts (ltb 0 n) (ltb 0 size) b.0 in
    (ltb-true 0 n d.0, ltb-true 0 size d.1, leb-true before count b.1, leb-true count n a.1)

pub slices_told : (m work distances entries : ℕ) → true ≡ has_slices m work distances entries → (376832 ≤ work) × (m ≤ distances) × (m ≤ entries)
unfolding has_slices
slices_told m work distances entries e =
    let a = and_parts _ (eqb m entries) (sym e) in
    let b = and_parts (leb 376832 work) (eqb m distances) a.0 in
    (leb-true 376832 work b.0, omega (arith, eqb-true m distances b.1), omega (arith, eqb-true m entries a.1))

-- the first test, of the plate and of the contour
pub path_of : {b : Bool} {n m size long : ℕ} (before count : ℕ) → b ≡ has_path n size before count → n ≡ m → size ≡ long → b ≡ has_path m long before count
path_of before count h e f = h ∙ rw (e, f)

-- the answer by the two tests
pub yes_both : (a b : Bool) → true ≡ a → true ≡ b → true ≡ (a && b)
yes_both a b e f = sym (and_from a b (sym e) (sym f))
