-- Output slices have two numbers for each point or entry: such lists, and how they are written. Assumes nothing.
use Rattle.std.specs.Prelude.{◌≡◌, refl, List, [], ◌∷◌, ◌++◌, ℕ, zero, suc, ◌+◌, ◌*◌, ◌<◌, Float, length, get_or, take, set}
use Rattle.std.proofs.Common.{sym, ap, ap₂, ◌∙◌, append_assoc, add-one, arith, length-append, length-take, take-suc}
use Rattle.rules.specs.HandedOver.{at, over}
use Rattle.rules.specs.Marks.{coordinates}
use Rattle.plate_laws.specs.Slices.{twice}
use Rattle.slices.specs.Over.{over_snoc}

-- f's and g's value for each
unfoldable pub pairs : {A B : Type 0} → (A → B) → (A → B) → List A → List B
pairs f g [] = []
pairs f g (x ∷ xs) = f x ∷ g x ∷ pairs f g xs

pub pairs_length : {A B : Type 0} (f g : A → B) (xs : List A) → length (pairs f g xs) ≡ 2 * length xs
unfolding pairs
pairs_length f g [] = refl
pairs_length f g (x ∷ xs) = omega (arith, pairs_length f g xs)

pub pairs_append : {A B : Type 0} (f g : A → B) (xs ys : List A) → pairs f g (xs ++ ys) ≡ pairs f g xs ++ pairs f g ys
unfolding pairs
pairs_append f g [] ys = refl
pairs_append {A} {B} f g (x ∷ xs) ys = ap {B = List B} (λ r. f x ∷ g x ∷ r) (pairs_append f g xs ys)

-- those of the first n
pub pairs_take : {A B : Type 0} (f g : A → B) (n : ℕ) (xs : List A) → take (2 * n) (pairs f g xs) ≡ pairs f g (take n xs)
unfolding pairs
pairs_take f g zero xs = refl
pairs_take f g (suc n) [] = rw (twice n)
pairs_take {A} {B} f g (suc n) (x ∷ xs) = rw (twice n) (ap {B = List B} (λ r. f x ∷ g x ∷ r) (pairs_take f g n xs))

-- two stores write the pair of the element at place i
pub pairs_store : {A B : Type 0} (f g : A → B) (d : A) (xs : List A) (slice : List B) (i : ℕ) → i < length xs → 2 * i + 1 < length slice →
    over (pairs f g (take (i + 1) xs)) slice
    ≡ set (set (over (pairs f g (take i xs)) slice) (2 * i) (f (get_or xs i d))) (2 * i + 1) (g (get_or xs i d))
unfolding pairs
pairs_store {A} {B} f g d xs slice i h l =
    let old = pairs f g (take i xs) in
    let x = get_or xs i d in
    let m : length old ≡ 2 * i = omega (arith, pairs_length f g (take i xs), length-take i xs) in
    let n : length (old ++ (f x ∷ [])) ≡ 2 * i + 1 = omega (arith, length-append old (f x ∷ []), m) in
    ap (λ (j : ℕ). over (pairs f g (take j xs)) slice) (add-one i)
    ∙ ap (λ (ys : List A). over (pairs f g ys) slice) (take-suc xs i d h)
    ∙ ap (λ (ys : List B). over ys slice) (pairs_append f g (take i xs) (x ∷ []) ∙ sym (append_assoc old (f x ∷ []) (g x ∷ [])))
    ∙ over_snoc (old ++ (f x ∷ [])) slice (g x) (omega (arith, n))
    ∙ ap₂ (λ (ys : List B) (j : ℕ). set ys j (g x)) (over_snoc old slice (f x) (omega (arith, m)) ∙ ap (λ (j : ℕ). set (over old slice) j (f x)) m) n

-- the coordinates of a list of vertices
pub coordinates_pairs : (xs : List Float) (vs : List ℕ) → coordinates xs vs ≡ pairs (λ v. (at xs v).x) (λ v. (at xs v).y) vs
unfolding coordinates pairs
coordinates_pairs xs [] = refl
coordinates_pairs xs (v ∷ vs) = ap (λ (r : List Float). (at xs v).x ∷ (at xs v).y ∷ r) (coordinates_pairs xs vs)

pub coordinates_append : (xs : List Float) (us vs : List ℕ) → coordinates xs (us ++ vs) ≡ coordinates xs us ++ coordinates xs vs
coordinates_append xs us vs = rw (coordinates_pairs xs (us ++ vs), coordinates_pairs xs us, coordinates_pairs xs vs) (pairs_append _ _ us vs)

pub coordinates_take : (xs : List Float) (n : ℕ) (vs : List ℕ) → take (2 * n) (coordinates xs vs) ≡ coordinates xs (take n vs)
coordinates_take xs n vs = rw (coordinates_pairs xs vs, coordinates_pairs xs (take n vs)) (pairs_take _ _ n vs)

pub coordinates_store : (xs : List Float) (vs : List ℕ) (slice : List Float) (i : ℕ) → i < length vs → 2 * i + 1 < length slice →
    over (coordinates xs (take (i + 1) vs)) slice
    ≡ set (set (over (coordinates xs (take i vs)) slice) (2 * i) (at xs (get_or vs i 0)).x) (2 * i + 1) (at xs (get_or vs i 0)).y
coordinates_store xs vs slice i h l =
    rw (coordinates_pairs xs (take (i + 1) vs), coordinates_pairs xs (take i vs)) (pairs_store (λ v. (at xs v).x) (λ v. (at xs v).y) 0 vs slice i h l)
