-- The contours of a list of lengths, one at a time, and what stands in the work slice meanwhile. Assumes nothing.
use Rattle.std.specs.Prelude.{◌≡◌, List, [], ◌∷◌, ◌++◌, map, ℕ, ◌+◌, ◌<◌, length, set}
use Rattle.std.proofs.Common.{refl, sym, ap, ap₂, ◌∙◌, append_assoc, append-nil, arith, length-append, length-set}
use Rattle.std.proofs.lemmas.List.{length-map, map-append}
use Rattle.rules.specs.HandedOver.{Contour, over}
use Rattle.slices.specs.Over.{over_snoc}
use Rattle.packed_contours.specs.PackedNumbers.{packed}

-- n of the contours cs are written, and `left` are left
pub record Listed (cs left : List Contour) (before now : List ℕ) (n : ℕ) : Type 0 where
  pub done : List Contour
  pub parts : cs ≡ done ++ left
  pub count : n ≡ length done
  pub same : length now ≡ length before
  pub written : now ≡ over (map packed done) before

pub begun : (cs : List Contour) (before : List ℕ) → Listed cs cs before before 0
unfolding over
begun cs before = record { done = []; parts = refl; count = refl; same = refl; written = refl }

module _ {cs left : List Contour} {before now : List ℕ} {n : ℕ} (l : Listed cs left before now n) where
  pub n_few : n + length left ≡ length cs
  n_few = omega (arith, l.count, ap length l.parts, length-append l.done left)

  pub whole : left ≡ [] → (n ≡ length cs) × (now ≡ over (map packed cs) before)
  whole e =
      let f : cs ≡ l.done = l.parts ∙ ap (λ (ds : List Contour). l.done ++ ds) e ∙ append-nil l.done in
      (l.count ∙ ap length (sym f), l.written ∙ ap (λ (ds : List Contour). over (map packed ds) before) (sym f))

pub store : {cs left : List Contour} {c : Contour} {before now : List ℕ} {n word : ℕ} → Listed cs (c ∷ left) before now n → n < length before → word ≡ packed c →
    Listed cs left before (set now n word) (n + 1)
store {left = left} {c = c} {before = before} {n = n} l h e =
    let m : length (map packed l.done) ≡ n = length-map l.done packed ∙ sym l.count in
    record {
      done = l.done ++ (c ∷ []);
      parts = l.parts ∙ sym (append_assoc l.done (c ∷ []) left);
      count = omega (arith, l.count, length-append l.done (c ∷ []));
      same = simp length-set l.same;
      written =
          ap₂ (λ (w : List ℕ) (x : ℕ). set w n x) l.written e
          ∙ ap (λ (k : ℕ). set (over (map packed l.done) before) k (packed c)) (sym m)
          ∙ sym (over_snoc (map packed l.done) before (packed c) (omega (arith, m)))
          ∙ ap (λ (w : List ℕ). over w before) (sym (map-append packed l.done (c ∷ [])));
    }
