-- Laws on lists: what all of a list have, what a fold keeps, runs of numbers, and a list without those of one number. Assumes nothing.
use Rattle.std.specs.Prelude.{◌≡◌, refl, Bool, true, false, List, [], ◌∷◌, ◌++◌, map, ℕ, zero, suc, ◌+◌, ◌≤◌, ◌<◌, eqb, length, get_or, take, drop}
use Rattle.std.proofs.Common.{ap, arith}
use Rattle.rules.specs.Tools.{pick, foldl, up_from, down_to, without}

-- a list of length 0
pub empty : {A : Type 0} (xs : List A) → length xs ≡ 0 → xs ≡ []
empty [] e = refl
empty (x ∷ xs) e = absurd (omega arith)

-- ---- all of a list

abbrev pub All {ℓ} : {A : Type ℓ} → (A → Type 0) → List A → Type 0
All P [] = Unit {0}
All P (x ∷ xs) = P x × All P xs

-- P of everything, and P that gives Q
pub all_of {ℓ} : {A : Type ℓ} (P : A → Type 0) → ((x : A) → P x) → (xs : List A) → All P xs
all_of P h [] = tt
all_of P h (x ∷ xs) = (h x, all_of P h xs)

pub all_give {ℓ} : {A : Type ℓ} (P Q : A → Type 0) → ((x : A) → P x → Q x) → (xs : List A) → All P xs → All Q xs
all_give P Q f [] a = tt
all_give P Q f (x ∷ xs) a = (f x a.0, all_give P Q f xs a.1)

pub all_both {ℓ} : {A : Type ℓ} (P Q : A → Type 0) (xs : List A) → All P xs → All Q xs → All (λ x. P x × Q x) xs
all_both P Q [] a b = tt
all_both P Q (x ∷ xs) a b = ((a.0, b.0), all_both P Q xs a.1 b.1)

pub all_append {ℓ} : {A : Type ℓ} (P : A → Type 0) (xs ys : List A) → All P xs → All P ys → All P (xs ++ ys)
all_append P [] ys a b = b
all_append P (x ∷ xs) ys a b = (a.0, all_append P xs ys a.1 b)

-- of the first n, and of the others
pub all_take {ℓ} : {A : Type ℓ} (P : A → Type 0) (n : ℕ) (xs : List A) → All P xs → All P (take n xs)
all_take P zero xs a = tt
all_take P (suc n) [] a = tt
all_take P (suc n) (x ∷ xs) a = (a.0, all_take P n xs a.1)

pub all_drop {ℓ} : {A : Type ℓ} (P : A → Type 0) (n : ℕ) (xs : List A) → All P xs → All P (drop n xs)
all_drop P zero xs a = a
all_drop P (suc n) [] a = tt
all_drop P (suc n) (x ∷ xs) a = all_drop P n xs a.1

-- of f's values
pub all_map {ℓ κ} : {A : Type ℓ} {B : Type κ} (P : B → Type 0) (f : A → B) (xs : List A) → All (λ x. P (f x)) xs → All P (map f xs)
all_map P f [] a = tt
all_map P f (x ∷ xs) a = (a.0, all_map P f xs a.1)

pub map-all {ℓ κ} : {A : Type ℓ} {B : Type κ} (P : B → Type 0) (f : A → B) (xs : List A) → All P (map f xs) → All (λ x. P (f x)) xs
map-all P f [] a = tt
map-all P f (x ∷ xs) a = (a.0, map-all P f xs a.1)

-- by places, and back: z is what stands beyond the end
pub all-places {ℓ} : {A : Type ℓ} (P : A → Type 0) (z : A) (xs : List A) → ((i : ℕ) → i < length xs → P (get_or xs i z)) → All P xs
all-places P z [] h = tt
all-places P z (x ∷ xs) h = (h 0 (omega arith), all-places P z xs (λ i l. h (suc i) (omega arith)))

pub all-at {ℓ} : {A : Type ℓ} (P : A → Type 0) (z : A) (xs : List A) → All P xs → (i : ℕ) → i < length xs → P (get_or xs i z)
all-at P z [] a i l = absurd (omega arith)
all-at P z (x ∷ xs) a zero l = a.0
all-at P z (x ∷ xs) a (suc i) l = all-at P z xs a.1 i (omega arith)

-- ---- folds

-- I holds to the end of a fold, where each step over an element that has P keeps it
pub foldl-keeps {ℓ κ} : {A : Type ℓ} {B : Type κ} (P : A → Type 0) (I : B → Type 0) (f : B → A → B) →
    ((b : B) (x : A) → P x → I b → I (f b x)) → (xs : List A) → All P xs → (b : B) → I b → I (foldl f b xs)
foldl-keeps P I f k [] a b i = i
foldl-keeps P I f k (x ∷ xs) a b i = foldl-keeps P I f k xs a.1 (f b x) (k b x a.0 i)

-- ---- runs of numbers

pub length_up_from : (a n : ℕ) → length (up_from a n) ≡ n
length_up_from a zero = refl
length_up_from a (suc n) = ap suc (length_up_from (suc a) n)

pub length_down_to : (a n : ℕ) → length (down_to a n) ≡ n
length_down_to a zero = refl
length_down_to a (suc n) = ap suc (length_down_to a n)

pub all_up_from : (P : ℕ → Type 0) (a n : ℕ) → ((i : ℕ) → a ≤ i → i < a + n → P i) → All P (up_from a n)
all_up_from P a zero h = tt
all_up_from P a (suc n) h = (h a (omega arith) (omega arith), all_up_from P (suc a) n (λ i x y. h i (omega arith) (omega arith)))

pub all_down_to : (P : ℕ → Type 0) (a n : ℕ) → ((i : ℕ) → a ≤ i → i < a + n → P i) → All P (down_to a n)
all_down_to P a zero h = tt
all_down_to P a (suc n) h = (h (a + n) (omega arith) (omega arith), all_down_to P a n (λ i x y. h i x (omega arith)))

-- ---- without those of one number

pub all_without : {A : Type 0} (P : A → Type 0) (number : A → ℕ) (n : ℕ) (xs : List A) → All P xs → All P (without number n xs)
unfolding without pick
all_without P number n [] a = tt
all_without {A} P number n (x ∷ xs) a = go (eqb (number x) n) (without number n xs) (all_without P number n xs a.1)
  where
    go : (b : Bool) (rest : List A) → All P rest → All P (pick b rest (x ∷ rest))
    go true rest r = r
    go false rest r = (a.0, r)

pub map_without : {A B : Type 0} (f : A → B) (number : B → ℕ) (n : ℕ) (xs : List A) →
    map f (without (λ x. number (f x)) n xs) ≡ without number n (map f xs)
unfolding without pick
map_without f number n [] = refl
map_without {A} {B} f number n (x ∷ xs) =
    go (eqb (number (f x)) n) (without (λ x. number (f x)) n xs) (without number n (map f xs)) (map_without f number n xs)
  where
    go : (b : Bool) (r : List A) (s : List B) → map f r ≡ s → map f (pick b r (x ∷ r)) ≡ pick b s (f x ∷ s)
    go true r s e = e
    go false r s e = ap (λ (l : List B). f x ∷ l) e
