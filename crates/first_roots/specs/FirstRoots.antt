-- First roots, what is said of them, and the tests of the tables. Assumes nothing.
use Rattle.std.specs.Prelude.{ℕ, suc, ◌+◌, ◌-◌, ◌*◌, ◌^◌, ◌≤◌, ◌<◌, Bool, true, false, ◌&&◌, ◌==◌, List, [], ◌∷◌, leb, ltb}

-- e² is at most k × 1,048,576, and the next whole number's square is above it
pub record IsFirstRoot (k e : ℕ) : Type 0 where
  pub square : e * e ≤ k * 1048576
  pub next : k * 1048576 < (e + 1) * (e + 1)

-- s is at most the square root of n, and below it by less than a 256th of it: 255 roots are less than 256 s
pub record WithinA256thOfRoot (n s : ℕ) : Type 0 where
  pub at_most : s * s ≤ n
  pub near : 255 * 255 * n < 256 * 256 * (s * s)

-- the same of a whole number r
pub record WithinA256th (r s : ℕ) : Type 0 where
  pub at_most : s ≤ r
  pub near : 256 * (r - s) < r

-- c is 2^38 / m, cut to a whole number
pub record IsReciprocal (m c : ℕ) : Type 0 where
  pub product : c * m ≤ 2 ^ 38
  pub next : 2 ^ 38 < (c + 1) * m

-- ---- the tests of the tables

-- the entries are the first roots of k, k + 1 and so on to 1,023
unfoldable pub are_first_roots : ℕ → List ℕ → Bool
are_first_roots k [] = k == 1024
are_first_roots k (e ∷ es) = leb (e * e) (k * 1048576) && ltb (k * 1048576) ((e + 1) * (e + 1)) && are_first_roots (suc k) es

-- the second table has the reciprocals of 16 more than each entry of the first
unfoldable pub are_reciprocals : List ℕ → List ℕ → Bool
are_reciprocals [] [] = true
are_reciprocals [] (c ∷ cs) = false
are_reciprocals (e ∷ es) [] = false
are_reciprocals (e ∷ es) (c ∷ cs) = leb (c * (e + 16)) (2 ^ 38) && ltb (2 ^ 38) ((c + 1) * (e + 16)) && are_reciprocals es cs
