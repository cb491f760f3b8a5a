-- Runs of steps in two parts. Assumes nothing.
use Rattle.std.specs.Prelude.{◌≡◌, refl, List, [], ◌∷◌, ◌++◌, map, ℕ, zero, suc, ◌+◌}
use Rattle.std.proofs.Common.{ap, add-zero, zero-add, arith}
use Rattle.rules.specs.Tools.{up_from, down_to}
use Rattle.rules.specs.Marks.{Step}

pub up_split : (f : ℕ → Step) (a m n : ℕ) → map f (up_from a (m + n)) ≡ map f (up_from a m) ++ map f (up_from (a + m) n)
up_split f a zero n = rw (zero-add, add-zero) refl
up_split f a (suc m) n =
    let e : suc m + n ≡ suc (m + n) = omega arith in
    let k : a + suc m ≡ suc a + m = omega arith in
    rw (e, k) (ap (λ (ss : List Step). f a ∷ ss) (up_split f (suc a) m n))

pub down_split : (f : ℕ → Step) (a m n : ℕ) → map f (down_to a (m + n)) ≡ map f (down_to (a + m) n) ++ map f (down_to a m)
down_split f a m zero = rw (add-zero m)
down_split f a m (suc n) =
    let e : m + suc n ≡ suc (m + n) = omega arith in
    let k : a + (m + n) ≡ a + m + n = omega arith in
    rw (e, k) (ap (λ (ss : List Step). f (a + m + n) ∷ ss) (down_split f a m n))

-- runs grow at their end
pub up_snoc : (f : ℕ → Step) (a n : ℕ) → map f (up_from a (n + 1)) ≡ map f (up_from a n) ++ f (a + n) ∷ []
up_snoc f a n = up_split f a n 1

pub down_snoc : (f : ℕ → Step) (a n : ℕ) → map f (down_to a (suc n)) ≡ map f (down_to (suc a) n) ++ f a ∷ []
down_snoc f a zero = rw (add-zero a)
down_snoc f a (suc n) =
    let k : a + suc n ≡ suc a + n = omega arith in
    rw k (ap (λ (ss : List Step). f (suc a + n) ∷ ss) (down_snoc f a n))
