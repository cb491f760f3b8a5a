-- Tests that say what a statement says: by parts, of numbers, over lists. Assumes nothing.
use Rattle.std.specs.Prelude.{◌≡◌, refl, ◌⊎◌, Bool, true, false, not, ◌&&◌, ◌||◌, List, [], ◌∷◌, ℕ, zero, suc, ◌+◌, ◌≤◌, ◌<◌, T, leb, ltb, eqb}
use Rattle.std.proofs.Common.{sym, subst, inl, inr, arith, leb→le, le→leb, ltb→lt, lt→ltb, nltb→le, eqb→eq}
use Rattle.std.proofs.Math.Dec.{eqb_refl}
use Rattle.rules.specs.Tools.{any, every, up_from}
use Rattle.rules.specs.HandedOver.{Contour}
use Rattle.rules.specs.Contours.{Among}
use Rattle.plate_laws.specs.Lists.{All}

-- the test b passes exactly if P
pub record Says (b : Bool) (P : Type 0) : Type 0 where
  pub tells : T b → P
  pub told : P → T b

pub says_by : (b : Bool) (P Q : Type 0) → (P → Q) → (Q → P) → Says b P → Says b Q
says_by b P Q f g s = record { tells = λ t. f (s.tells t); told = λ q. s.told (g q) }

pub says_and : (a b : Bool) (P Q : Type 0) → Says a P → Says b Q → Says (a && b) (P × Q)
says_and true b P Q s u = record { tells = λ t. (s.tells tt, u.tells t); told = λ q. u.told q.1 }
says_and false b P Q s u = record { tells = λ t. absurd t; told = λ q. s.told q.0 }

pub says_or : (a b : Bool) (P Q : Type 0) → Says a P → Says b Q → Says (a || b) (P ⊎ Q)
says_or true b P Q s u = record { tells = λ t. inl (s.tells tt); told = λ q. tt }
says_or false b P Q s u = record { tells = λ t. inr (u.tells t); told = λ q. elim q [ inl x ↦ absurd (s.told x) | inr x ↦ u.told x ] }

pub says_not_and : (a b : Bool) (P Q : Type 0) → Says (not a) P → Says (not b) Q → Says (not (a && b)) (P ⊎ Q)
says_not_and true b P Q s u = record { tells = λ t. inr (u.tells t); told = λ q. elim q [ inl x ↦ absurd (s.told x) | inr x ↦ u.told x ] }
says_not_and false b P Q s u = record { tells = λ t. inl (s.tells tt); told = λ q. tt }

-- two tests that say the same
pub says_one : (a b : Bool) (P : Type 0) → Says a P → Says b P → a ≡ b
says_one true true P s u = refl
says_one true false P s u = absurd (u.told (s.tells tt))
says_one false true P s u = absurd (s.told (u.tells tt))
says_one false false P s u = refl

-- ---- numbers

pub says_leb : (a b : ℕ) → Says (leb a b) (a ≤ b)
says_leb a b = record { tells = leb→le a b; told = le→leb a b }

pub says_ltb : (a b : ℕ) → Says (ltb a b) (a < b)
says_ltb a b = record { tells = ltb→lt a b; told = lt→ltb a b }

pub says_eqb : (a b : ℕ) → Says (eqb a b) (a ≡ b)
says_eqb a b = record { tells = eqb→eq a b; told = λ e. subst (λ (x : ℕ). T (eqb a x)) e (eqb_refl a) }

pub says_zero : (a : ℕ) → Says (not (ltb 0 a)) (a ≡ 0)
says_zero a = record { tells = λ t. omega (arith, nltb→le 0 a t); told = λ e. subst (λ (x : ℕ). T (not (ltb 0 x))) (sym e) tt }

-- ---- lists

pub says_every : {A : Type 0} (test : A → Bool) (P : A → Type 0) → ((x : A) → Says (test x) (P x)) → (xs : List A) →
    Says (every test xs) (All P xs)
unfolding every
says_every test P s [] = record { tells = λ t. tt; told = λ t. tt }
says_every test P s (x ∷ xs) = says_and (test x) (every test xs) (P x) (All P xs) (s x) (says_every test P s xs)

-- one of a list of contours
abbrev pub SomeOf : (Contour → Type 0) → List Contour → Type 0
SomeOf P cs = (c : Contour) × Among c cs × P c

some_out : (P : Contour → Type 0) (d : Contour) (ds : List Contour) → P d ⊎ SomeOf P ds → SomeOf P (d ∷ ds)
some_out P d ds (inl x) = (d, inl refl, x)
some_out P d ds (inr x) = (x.0, inr x.1, x.2)

some_in : (P : Contour → Type 0) (d : Contour) (ds : List Contour) (c : Contour) → Among c (d ∷ ds) → P c → P d ⊎ SomeOf P ds
some_in P d ds c (inl e) x = inl (subst P (sym e) x)
some_in P d ds c (inr m) x = inr (c, m, x)

pub says_any : (test : Contour → Bool) (P : Contour → Type 0) → ((x : Contour) → Says (test x) (P x)) → (cs : List Contour) →
    Says (any test cs) (SomeOf P cs)
unfolding any
says_any test P s [] = record { tells = λ t. absurd t; told = λ q. q.1 }
says_any test P s (c ∷ cs) =
    says_by (test c || any test cs) (P c ⊎ SomeOf P cs) (SomeOf P (c ∷ cs)) (some_out P c cs) (λ q. some_in P c cs q.0 q.1 q.2)
    (says_or (test c) (any test cs) (P c) (SomeOf P cs) (s c) (says_any test P s cs))

-- ---- what fails in a list

pub says_not_every : (test : Contour → Bool) (P : Contour → Type 0) → ((x : Contour) → Says (not (test x)) (P x)) → (cs : List Contour) →
    Says (not (every test cs)) (SomeOf P cs)
unfolding every
says_not_every test P s [] = record { tells = λ t. absurd t; told = λ q. q.1 }
says_not_every test P s (c ∷ cs) =
    says_by (not (test c && every test cs)) (P c ⊎ SomeOf P cs) (SomeOf P (c ∷ cs)) (some_out P c cs) (λ q. some_in P c cs q.0 q.1 q.2)
    (says_not_and (test c) (every test cs) (P c) (SomeOf P cs) (s c) (says_not_every test P s cs))

-- one of the n numbers from a on
abbrev SomeFrom : (ℕ → Type 0) → ℕ → ℕ → Type 0
SomeFrom P a n = (i : ℕ) × (i < n) × P (a + i)

from_out : (P : ℕ → Type 0) (a n : ℕ) → P a ⊎ SomeFrom P (suc a) n → SomeFrom P a (suc n)
from_out P a n (inl x) = let e : a + 0 ≡ a = omega arith in (0, omega arith, rw e x)
from_out P a n (inr x) = let e : a + suc x.0 ≡ suc a + x.0 = omega arith in (suc x.0, omega (arith, x.1), rw e x.2)

from_in : (P : ℕ → Type 0) (a n i : ℕ) → i < suc n → P (a + i) → P a ⊎ SomeFrom P (suc a) n
from_in P a n zero l x = let e : a + 0 ≡ a = omega arith in inl (subst P e x)
from_in P a n (suc i) l x = let e : a + suc i ≡ suc a + i = omega arith in inr (i, omega arith, subst P e x)

pub says_not_run : (test : ℕ → Bool) (P : ℕ → Type 0) → ((v : ℕ) → Says (not (test v)) (P v)) → (a n : ℕ) →
    Says (not (every test (up_from a n))) ((i : ℕ) × (i < n) × P (a + i))
unfolding every
says_not_run test P s a zero = record { tells = λ t. absurd t; told = λ q. absurd (omega (arith, q.1)) }
says_not_run test P s a (suc n) =
    says_by (not (test a && every test (up_from (suc a) n))) (P a ⊎ SomeFrom P (suc a) n) (SomeFrom P a (suc n)) (from_out P a n)
    (λ q. from_in P a n q.0 q.1 q.2)
    (says_not_and (test a) (every test (up_from (suc a) n)) (P a) (SomeFrom P (suc a) n) (s a) (says_not_run test P s (suc a) n))
