-- Choice, lists of numbers, folds and winners: what the other files are written with. Definitions only.
use Rattle.std.specs.Prelude.{ℕ, zero, suc, ◌+◌, min, Bool, true, false, ◌&&◌, ◌||◌, List, [], ◌∷◌, map, leb, eqb, Float}
use Rattle.std.proofs.Math.Option.{Option, none, some}
use Rattle.std.specs.Float.Ieee.{lt}

-- a where the test passes, else b
unfoldable pub pick {ℓ} : {X : Type ℓ} → Bool → X → X → X
pick true a b = a
pick false a b = b

-- from the left
abbrev pub foldl {ℓ κ} : {A : Type ℓ} {B : Type κ} → (B → A → B) → B → List A → B
foldl f b [] = b
foldl f b (x ∷ xs) = foldl f (f b x) xs

-- n numbers from a on, and n numbers that end in a, downward
abbrev pub up_from : ℕ → ℕ → List ℕ
up_from a zero = []
up_from a (suc n) = a ∷ up_from (suc a) n

abbrev pub down_to : ℕ → ℕ → List ℕ
down_to a zero = []
down_to a (suc n) = (a + n) ∷ down_to a n

unfoldable pub sum : List ℕ → ℕ
sum [] = 0
sum (x ∷ xs) = x + sum xs

-- one of a list passes the test; all do
unfoldable pub any : {A : Type 0} → (A → Bool) → List A → Bool
any test [] = false
any test (x ∷ xs) = test x || any test xs

unfoldable pub every : {A : Type 0} → (A → Bool) → List A → Bool
every test [] = true
every test (x ∷ xs) = test x && every test xs

-- the first of the n numbers from i on that fails the test, or the number after them
unfoldable pub first_failing : (ℕ → Bool) → ℕ → ℕ → ℕ
first_failing test i zero = i
first_failing test i (suc n) = let rest = first_failing test (suc i) n in pick (test i) rest i

-- those of a list that do not have the number n
unfoldable pub without : {A : Type 0} → (A → ℕ) → ℕ → List A → List A
without number n [] = []
without number n (x ∷ xs) = let rest = without number n xs in pick (eqb (number x) n) rest (x ∷ rest)

-- those of a list that have the number n
unfoldable pub having : {A : Type 0} → (A → ℕ) → ℕ → List A → List A
having number n [] = []
having number n (x ∷ xs) = let rest = having number n xs in pick (eqb (number x) n) (x ∷ rest) rest

-- the least of a list of numbers (of none: 0)
unfoldable pub least : List ℕ → ℕ
least [] = 0
least (n ∷ ns) = foldl min n ns

-- The winner of a list: its first leads, and the lead passes to each later one that beats the one that has it. So the earliest wins a tie.
-- (The Rust starts from an infinite distance instead of from the first: the same where distances are finite, as those of accepted points are.)
unfoldable pub leads : {A : Type 0} → (A → A → Bool) → Option A → A → Option A
leads beats none x = some x
leads beats (some best) x = pick (beats x best) (some x) (some best)

unfoldable pub winner : {A : Type 0} → (A → A → Bool) → List A → Option A
winner beats xs = foldl (leads beats) none xs

-- Layers are 0 to 15. What has a layer above these is never chosen; the calls refuse it (13).
unfoldable pub highest_layer : ℕ
highest_layer = 15

-- Those of a list that have its lowest layer, if that is at most the highest allowed; and the winner among them: how start, order, straight and retrace choose.
unfoldable pub lowest : {A : Type 0} → (A → ℕ) → List A → List A
lowest layer xs = let l = least (map layer xs) in pick (leb l highest_layer) (having layer l xs) []

unfoldable pub foremost : {A : Type 0} → (A → ℕ) → (A → A → Bool) → List A → Option A
foremost layer beats xs = winner beats (lowest layer xs)

-- the lesser and the greater of two floats that are no NaN
unfoldable pub lesser : Float → Float → Float
lesser a b = pick (lt b a) b a

unfoldable pub greater : Float → Float → Float
greater a b = pick (lt a b) b a
