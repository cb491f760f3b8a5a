-- No vertex is landed on yet.
use Rattle.std.proofs.Common.{◌≡◌, List, ℕ, get_or, replicate, inl, inr, arith}
use Rattle.std.proofs.lemmas.Bool.{cases_lt}
use Rattle.std.proofs.lemmas.List.{get_or-replicate, get_or_past, length-replicate}
use Rattle.landings.specs.NextLandings.{read_none}
use Rattle.landings.proofs.words.Landings.none.Goals as goal

zeros : (part : List ℕ) (n : ℕ) → part ≡ replicate n 0 → (k : ℕ) → get_or part k 0 ≡ 0
zeros part n e k =
    rw e
    elim (cases_lt k n) [ inl l ↦ get_or-replicate n k 0 0 l | inr l ↦ get_or_past (replicate n 0) k 0 (omega (arith, length-replicate {A = ℕ} n 0, l)) ]

pub returns-clause-none : goal.returns-clause-none
returns-clause-none c =
    read_none _ (zeros c.fill.new.self _ (c.fill.ensures.after (λ y z. z))) (zeros c.fill-2.new.self _ (c.fill-2.ensures.after (λ y z. z)))
