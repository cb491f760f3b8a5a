-- The words before the first path point, where those of the vertices and those of the contours stand in two slices. Assumes nothing.
use Rattle.std.specs.Prelude.{◌≡◌, refl, ◌⊎◌, List, ◌++◌, ℕ, suc, ◌+◌, ◌-◌, ◌*◌, ◌≤◌, ◌<◌, length, get_or, set, take}
use Rattle.std.proofs.Common.{sym, ◌∙◌, subst, inl, inr, arith, length-append}
use Rattle.std.proofs.lemmas.Bool.{cases_lt}
use Rattle.std.proofs.lemmas.List.{get_or_append_left, get_or-append_right, set-append_right}
use Rattle.rules.specs.Tools.{sum}
use Rattle.path_check.specs.Labels.{Filled, LabelledTo, next_end, labelled_more}

-- a word written to places of the front
filled_front : (before after behind : List ℕ) (a b word : ℕ) → b ≤ length before → Filled before after a b word →
    Filled (before ++ behind) (after ++ behind) a b word
filled_front before after behind a b word h f =
    record {
      kept = simp (length-append, f.kept) refl;
      new = λ u x y. get_or_append_left after behind 0 u (omega (arith, y, h, f.kept)) ∙ f.new u x y;
      old = λ u o. go u o (cases_lt u (length before));
    }
  where
    go : (u : ℕ) → (u < a) ⊎ (b ≤ u) → (u < length before) ⊎ (length before ≤ u) → get_or (after ++ behind) u 0 ≡ get_or (before ++ behind) u 0
    go u o (inl x) =
        get_or_append_left after behind 0 u (omega (arith, x, f.kept)) ∙ f.old u o ∙ sym (get_or_append_left before behind 0 u x)
    go u o (inr x) = get_or-append_right after behind (length before) u 0 f.kept x ∙ sym (get_or-append_right before behind (length before) u 0 refl x)

-- the words of one contour more
pub labelled_parts : (ns : List ℕ) (total : ℕ) → total ≡ sum ns → (j v : ℕ) (vertices after contours : List ℕ) → j < length ns → v ≡ sum (take j ns) →
    length vertices ≡ total → total + length ns ≤ length (vertices ++ contours) → LabelledTo ns total j (vertices ++ contours) →
    Filled vertices after v (v + get_or ns j 0) (2 * j) → LabelledTo ns total (suc j) (after ++ set contours j 1)
labelled_parts ns total e j v vertices after contours h x front room l f =
    let k : total + j - total ≡ j = omega arith in
    let n = next_end ns total e j v h x in
    let whole = filled_front vertices after contours v (v + get_or ns j 0) (2 * j) (omega (arith, n.1, front)) f in
    subst (LabelledTo ns total (suc j)) (set-append_right after contours total (total + j) 1 (f.kept ∙ front) (omega arith) ∙ rw k refl)
    (labelled_more ns total e j v (vertices ++ contours) (after ++ contours) h x room l whole)
