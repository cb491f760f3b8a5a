-- What the tests of the tables say of each entry.
use Rattle.std.specs.Prelude.{◌≡◌, refl, ℕ, zero, suc, ◌+◌, ◌-◌, ◌*◌, ◌^◌, ◌≤◌, ◌<◌, true, List, [], ◌∷◌, leb, ltb}
use Rattle.std.proofs.Common.{length, get_or, subst, sym, arith, leb-true, ltb-true, not-suc-le-zero, le_of_suc-le-suc, true≢false}
use Rattle.std.proofs.lemmas.Bool.{and_parts}
use Rattle.first_roots.specs.FirstRoots.{IsFirstRoot, IsReciprocal, are_first_roots, are_reciprocals}
use Rattle.first_roots.specs.declared.TheConstants.{FIRST_ROOTS, RECIPROCALS}

each_first_root : (k i none : ℕ) (es : List ℕ) → are_first_roots k es ≡ true → i < length es → IsFirstRoot (k + i) (get_or es i none)
unfolding are_first_roots
each_first_root k i none [] h l = absurd (not-suc-le-zero l)
each_first_root k zero none (e ∷ es) h l =
    let p = and_parts _ _ h in
    let q = and_parts (leb (e * e) (k * 1048576)) (ltb (k * 1048576) ((e + 1) * (e + 1))) p.0 in
    let z : k ≡ k + zero = omega arith in
    subst (λ (j : ℕ). IsFirstRoot j e) z (record { square = leb-true _ _ q.0; next = ltb-true _ _ q.1 })
each_first_root k (suc i) none (e ∷ es) h l =
    let s : suc k + i ≡ k + suc i = omega arith in
    subst (λ (j : ℕ). IsFirstRoot j (get_or es i none)) s (each_first_root (suc k) i none es (and_parts _ _ h).1 (le_of_suc-le-suc l))

each_reciprocal : (i none : ℕ) (es cs : List ℕ) → are_reciprocals es cs ≡ true → i < length es → IsReciprocal (get_or es i none + 16) (get_or cs i none)
unfolding are_reciprocals
each_reciprocal i none [] cs h l = absurd (not-suc-le-zero l)
each_reciprocal i none (e ∷ es) [] h l = absurd (true≢false (sym h))
each_reciprocal zero none (e ∷ es) (c ∷ cs) h l =
    let p = and_parts _ _ h in
    let q = and_parts (leb (c * (e + 16)) (2 ^ 38)) (ltb (2 ^ 38) ((c + 1) * (e + 16))) p.0 in
    record { product = leb-true _ _ q.0; next = ltb-true _ _ q.1 }
each_reciprocal (suc i) none (e ∷ es) (c ∷ cs) h l =
    each_reciprocal i none es cs (and_parts _ _ h).1 (le_of_suc-le-suc l)

first_roots_tested : are_first_roots 256 FIRST_ROOTS ≡ true
unfolding are_first_roots
first_roots_tested = refl

reciprocals_tested : are_reciprocals FIRST_ROOTS RECIPROCALS ≡ true
unfolding are_reciprocals
reciprocals_tested = refl

pub entry_is_first_root : (k none : ℕ) → 256 ≤ k → k < 1024 → IsFirstRoot k (get_or FIRST_ROOTS (k - 256) none)
entry_is_first_root k none L H =
    let s : 256 + (k - 256) ≡ k = omega arith in
    subst (λ (j : ℕ). IsFirstRoot j (get_or FIRST_ROOTS (k - 256) none)) s (each_first_root 256 (k - 256) none FIRST_ROOTS first_roots_tested (omega arith))

pub entry_is_reciprocal : (k none : ℕ) → 256 ≤ k → k < 1024 → IsReciprocal (get_or FIRST_ROOTS (k - 256) none + 16) (get_or RECIPROCALS (k - 256) none)
entry_is_reciprocal k none L H = each_reciprocal (k - 256) none FIRST_ROOTS RECIPROCALS reciprocals_tested (omega arith)
