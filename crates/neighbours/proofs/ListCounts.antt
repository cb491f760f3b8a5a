-- Flags are counted: a new one is one more, and one that is missing leaves room. Assumes nothing.
use mathlib.Core.Path.{◌≡◌, refl, sym, ap, ◌∙◌}
use mathlib.Core.Bool.{Bool, true, false, true≢false}
use Prim.Native.Nat.{ℕ, zero, suc, ◌+◌, ◌<◌}
use native.Mathlib.Decide.{ℕ_discrete}
use native.Mathlib.Omega.{arith}
use Rattle.rules.specs.Tools.{pick}
use Rattle.neighbours.specs.Tally.{tally, tally_most}

tally_cong : (P Q : ℕ → Bool) (m : ℕ) → ((b : ℕ) → b < m → Q b ≡ P b) → tally Q m ≡ tally P m
unfolding tally
tally_cong P Q zero h = refl
tally_cong P Q (suc m) h = rw (h m (omega arith), tally_cong P Q m (λ b l. h b (omega arith)))

pub tally_none : (P : ℕ → Bool) (m : ℕ) → ((b : ℕ) → b < m → P b ≡ false) → tally P m ≡ 0
unfolding tally pick
tally_none P zero h = refl
tally_none P (suc m) h = let d = tally_none P m (λ b l. h b (omega arith)) in rw (h m (omega arith), d)

-- c passes now, and all else is as it was
pub tally_more : (P Q : ℕ → Bool) (m c : ℕ) → c < m → P c ≡ false → Q c ≡ true → ((b : ℕ) → b < m → (b ≡ c → ⊥) → Q b ≡ P b) →
    tally Q m ≡ suc (tally P m)
unfolding tally pick
tally_more P Q zero c l p q h = absurd (omega arith)
tally_more P Q (suc m) c l p q h = go (ℕ_discrete c m) (tally_more P Q m c)
  where
    go : Dec (c ≡ m) → (c < m → P c ≡ false → Q c ≡ true → ((b : ℕ) → b < m → (b ≡ c → ⊥) → Q b ≡ P b) → tally Q m ≡ suc (tally P m)) →
        pick (Q m) 1 0 + tally Q m ≡ suc (pick (P m) 1 0 + tally P m)
    go (yes e) r =
        let a : P m ≡ false = ap P (sym e) ∙ p in
        let b : Q m ≡ true = ap Q (sym e) ∙ q in
        let d = tally_cong P Q m (λ b l. h b (omega arith) (λ f. omega arith)) in
        rw (a, b, d) (omega arith)
    go (no e) r =
        let d = r (omega arith) p q (λ b g. h b (omega arith)) in
        rw (h m (omega arith) (λ f. e (sym f)), d) (omega arith)

-- c does not pass
pub tally_room : (P : ℕ → Bool) (m c : ℕ) → c < m → P c ≡ false → tally P m < m
unfolding tally pick
tally_room P zero c l p = absurd (omega arith)
tally_room P (suc m) c l p = go (ℕ_discrete c m) (P m) refl (tally_room P m c)
  where
    go : Dec (c ≡ m) → (b : Bool) → P m ≡ b → (c < m → P c ≡ false → tally P m < m) → pick b 1 0 + tally P m < suc m
    go (yes e) true w r = absurd (true≢false (sym w ∙ ap P (sym e) ∙ p))
    go (no e) true w r = omega (arith, r (omega arith) p)
    go d false w r = omega (arith, tally_most P m)
