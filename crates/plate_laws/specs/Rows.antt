-- Refusals by rows: what an answer tells of the rows that it has passed, and that they refuse alike whatever the call would have given. Assumes nothing.
use Rattle.std.specs.Prelude.{◌≡◌, refl, Bool, true, false, not, ◌&&◌, List, [], ◌∷◌, ◌++◌, ℕ, T, eqb}
use Rattle.std.proofs.Common.{sym, ap, subst}
use Rattle.std.proofs.lemmas.Bool.{eqb-false}
use Rattle.rules.specs.Tools.{pick, every}
use Rattle.rules.specs.HandedOver.{Answer, gives, refuses, number_of, refusal, RefusalRow, refused_by}
use Rattle.rules.specs.declared.Refusal.{Refusal}
use Rattle.plate_laws.specs.Lists.{All, all_give}

-- ---- one refusal

abbrev number : {A : Type 0} → Answer A → ℕ
number (gives a) = 0
number (refuses n k) = n

abbrev place : {A : Type 0} → Answer A → ℕ
place (gives a) = 0
place (refuses n k) = k

-- an answer that is no refusal with this number
abbrev pub Other : {A : Type 0} → ℕ → Answer A → Type 0
Other number (gives a) = Unit {0}
Other number (refuses n place) = n ≡ number → ⊥

-- a refusal has its number and place in every call
pub refused : {A B : Type 0} (r : Refusal) (n k : ℕ) → refusal {A = A} r ≡ refuses n k → refusal {A = B} r ≡ refuses n k
unfolding refusal
refused {A} {B} r n k h = ap {B = Answer B} (λ (a : Answer A). refuses (number a) (place a)) h

-- and is no result
pub not_given : {A : Type 0} (r : Refusal) (a : A) → refusal r ≡ gives a → ⊥
unfolding refusal
not_given r a h = subst (Other (number_of r)) (sym h) tt refl

-- ---- rows

-- the tests all fail
abbrev pub Passed : List RefusalRow → Type 0
Passed rs = All (λ r. r.test ≡ false) rs

-- an answer that has the number of none of the rows
abbrev pub OtherThan : {A : Type 0} → List RefusalRow → Answer A → Type 0
OtherThan rs b = All (λ r. Other r.number b) rs

pub rows_other : {A : Type 0} (rs : List RefusalRow) (later b : Answer A) → OtherThan rs b → refused_by rs later ≡ b → Passed rs × (later ≡ b)
unfolding refused_by pick
rows_other [] later b o e = (tt, e)
rows_other (r ∷ rs) later b o e = go r.test refl (rows_other rs later b o.1) e
  where
    go : (t : Bool) → r.test ≡ t → (refused_by rs later ≡ b → Passed rs × (later ≡ b)) →
        pick t (refuses r.number r.place) (refused_by rs later) ≡ b → ((r.test ≡ false) × Passed rs) × (later ≡ b)
    go true f rest e = absurd (subst (Other r.number) (sym e) o.0 refl)
    go false f rest e = let (p, l) = rest e in ((f, p), l)

pub given_other : {A : Type 0} (rs : List RefusalRow) (a : A) → OtherThan rs (gives a)
given_other [] a = tt
given_other (r ∷ rs) a = (tt, given_other rs a)

pub rows_give : {A : Type 0} (rs : List RefusalRow) (later : Answer A) (c : A) → refused_by rs later ≡ gives c → Passed rs × (later ≡ gives c)
rows_give rs later c e = rows_other rs later (gives c) (given_other rs c) e

pub rows_pass : {A : Type 0} (rs : List RefusalRow) → Passed rs → (later : Answer A) → refused_by rs later ≡ later
unfolding refused_by pick
rows_pass [] p later = refl
rows_pass (r ∷ rs) p later = rw p.0 (rows_pass rs p.1 later)

pub rows_append : {A : Type 0} (rs qs : List RefusalRow) (later : Answer A) → refused_by (rs ++ qs) later ≡ refused_by rs (refused_by qs later)
unfolding refused_by
rows_append [] qs later = refl
rows_append (r ∷ rs) qs later = ap (pick r.test (refuses r.number r.place)) (rows_append rs qs later)

-- what refuses a result refuses all else
pub rows_refuse : {A B : Type 0} (rs : List RefusalRow) (a : A) (later : Answer B) (n k : ℕ) → refused_by rs (gives a) ≡ refuses n k → refused_by rs later ≡ refuses n k
unfolding refused_by pick
rows_refuse [] a later n k e = absurd (subst (Other n) e tt refl)
rows_refuse {A} {B} (r ∷ rs) a later n k e = go r.test (rows_refuse rs a later n k) e
  where
    go : (t : Bool) → (refused_by rs (gives a) ≡ refuses n k → refused_by rs later ≡ refuses n k) →
        pick t (refuses r.number r.place) (refused_by rs (gives a)) ≡ refuses n k →
        pick t (refuses r.number r.place) (refused_by rs later) ≡ refuses n k
    go true rest e = ap {B = Answer B} (λ (x : Answer A). refuses (number x) (place x)) e
    go false rest e = rest e

pub refusal_refuses : {A B : Type 0} (rs : List RefusalRow) (r : Refusal) (a : A) (later : Answer B) → refusal r ≡ refused_by rs (gives a) → refusal r ≡ refused_by rs later
unfolding refusal
refusal_refuses rs r a later h = sym (rows_refuse rs a later _ _ (sym h))

-- ---- the numbers of rows

-- no row has this number
abbrev pub Lacks : ℕ → List RefusalRow → Type 0
Lacks n rs = T (every (λ r. not (eqb r.number n)) rs)

lacks_all : (n : ℕ) (rs : List RefusalRow) → Lacks n rs → All (λ r. r.number ≡ n → ⊥) rs
unfolding every
lacks_all n [] l = tt
lacks_all n (r ∷ rs) l = go (eqb r.number n) refl (lacks_all n rs) l
  where
    go : (t : Bool) → eqb r.number n ≡ t → (Lacks n rs → All (λ r. r.number ≡ n → ⊥) rs) →
        T (not t && every (λ r. not (eqb r.number n)) rs) → (r.number ≡ n → ⊥) × All (λ r. r.number ≡ n → ⊥) rs
    go true e rest l = absurd l
    go false e rest l = (eqb-false r.number n e, rest l)

pub lacks_other : (A : Type 0) (n k : ℕ) (rs : List RefusalRow) → Lacks n rs → OtherThan {A = A} rs (refuses n k)
lacks_other A n k rs l = all_give _ _ (λ r d e. d (sym e)) rs (lacks_all n rs l)

all_differ : {A : Type 0} (n : ℕ) (rs : List RefusalRow) (later : Answer A) → All (λ r. r.number ≡ n → ⊥) rs → Other n later → Other n (refused_by rs later)
unfolding refused_by pick
all_differ n [] later a o = o
all_differ n (r ∷ rs) later a o = go r.test (all_differ n rs later a.1 o)
  where
    go : (t : Bool) → Other n (refused_by rs later) → Other n (pick t (refuses r.number r.place) (refused_by rs later))
    go true rest = a.0
    go false rest = rest

pub rows_lack : {A : Type 0} (n : ℕ) (rs : List RefusalRow) (later : Answer A) → Lacks n rs → Other n later → Other n (refused_by rs later)
rows_lack n rs later l o = all_differ n rs later (lacks_all n rs l) o

-- a row that refuses where the answer is no refusal with its number
pub row_tells : {A : Type 0} (r : RefusalRow) (later : Answer A) (i : ℕ) → Other r.number later → refused_by (r ∷ []) later ≡ refuses r.number i →
    T r.test × (r.place ≡ i)
unfolding refused_by pick
row_tells {A} r later i o e = go r.test e
  where
    go : (t : Bool) → pick t (refuses r.number r.place) later ≡ refuses r.number i → T t × (r.place ≡ i)
    go true e = (tt, ap {A = Answer A} place e)
    go false e = absurd (subst (Other r.number) e o refl)

-- a row whose test fails, and one whose test holds
pub row_passes : {A : Type 0} (r : RefusalRow) (later : Answer A) → (T r.test → ⊥) → refused_by (r ∷ []) later ≡ later
unfolding refused_by pick
row_passes r later h = go r.test h
  where
    go : (t : Bool) → (T t → ⊥) → pick t (refuses r.number r.place) later ≡ later
    go true h = absurd (h tt)
    go false h = refl

pub row_refuses : {A : Type 0} (r : RefusalRow) (later : Answer A) → T r.test → refused_by (r ∷ []) later ≡ refuses r.number r.place
unfolding refused_by pick
row_refuses r later h = go r.test h
  where
    go : (t : Bool) → T t → pick t (refuses r.number r.place) later ≡ refuses r.number r.place
    go true h = refl
    go false h = absurd h
