-- The better of two answers. Neither their order nor their repetition counts. Assumes nothing.
use Rattle.std.specs.Prelude.{◌≡◌, Bool, cond, ◌&&◌, ◌||◌, ◌⊎◌, ℕ, ◌≤◌, ◌<◌, ltb}
use Rattle.std.proofs.Math.Path.{refl}
use Rattle.std.proofs.Common.{sym, ◌∙◌, true≢false, arith}
use Rattle.std.proofs.Math.Bool.{true, false}
use Rattle.std.proofs.lemmas.Bool.{false≢true}
use Rattle.std.proofs.Math.Logic.{inl, inr, ⊎_elim}
use Rattle.std.proofs.Math.Dec.{eqb}
use borrow.Author.Tests.{ltb-true, ltb-false, eqb-true, eqb-false, lt-ltb, le-ltb, eq-eqb, ne_eqb}

-- nothing, or a place and its key
pub data Hit : Type 0 where
  miss : Hit
  hit : ℕ → ℕ → Hit

-- place q with key e is better than place p with key d: a smaller key, or an equal one and a higher place
unfoldable pub hit_beats : ℕ → ℕ → ℕ → ℕ → Bool
hit_beats q e p d = ltb e d || (eqb e d && ltb p q)

unfoldable pub better : Hit → Hit → Hit
better miss h = h
better (hit p d) miss = hit p d
better (hit p d) (hit q e) = cond (hit_beats q e p d) (hit q e) (hit p d)

-- ---- `hit_beats`, in numbers

or_true : (a b c : Bool) → (a || (b && c)) ≡ true → (a ≡ true) ⊎ ((b ≡ true) × (c ≡ true))
or_true true b c h = inl refl
or_true false true c h = inr (refl, h)
or_true false false c h = absurd (false≢true h)

or_false : (a b c : Bool) → (a || (b && c)) ≡ false → (a ≡ false) × ((b ≡ false) ⊎ (c ≡ false))
or_false true b c h = absurd (true≢false h)
or_false false true c h = (refl, inr h)
or_false false false c h = (refl, inl refl)

abbrev Won : ℕ → ℕ → ℕ → ℕ → Type 0
Won q e p d = (e < d) ⊎ ((e ≡ d) × (p < q))

abbrev Lost : ℕ → ℕ → ℕ → ℕ → Type 0
Lost q e p d = (d < e) ⊎ ((e ≡ d) × (q ≤ p))

module _ (q e p d : ℕ) where
  won : hit_beats q e p d ≡ true → Won q e p d
  unfolding hit_beats
  won h =
      ⊎_elim (λ t. inl (ltb-true e d t)) (λ t. inr (eqb-true e d t.0, ltb-true p q t.1))
      (or_true (ltb e d) (eqb e d) (ltb p q) h)

  lost : hit_beats q e p d ≡ false → Lost q e p d
  unfolding hit_beats
  lost h = let t = or_false (ltb e d) (eqb e d) (ltb p q) h in go (eqb e d) refl (ltb-false e d t.0) t.1
    where
      go : (b : Bool) → eqb e d ≡ b → d ≤ e → (eqb e d ≡ false) ⊎ (ltb p q ≡ false) → Lost q e p d
      go true w le s = ⊎_elim (λ f. absurd (true≢false (sym w ∙ f))) (λ f. inr (eqb-true e d w, ltb-false p q f)) s
      go false w le s = let ne : e ≡ d → ⊥ = eqb-false e d w in inl (omega arith)

  wins : Won q e p d → hit_beats q e p d ≡ true
  unfolding hit_beats
  wins (inl h) = rw (lt-ltb e d h)
  wins (inr h) = rw (eq-eqb e d h.0, lt-ltb p q h.1, le-ltb e d (omega arith))

  loses : Lost q e p d → hit_beats q e p d ≡ false
  unfolding hit_beats
  loses (inl h) = rw (le-ltb e d (omega arith), ne_eqb e d (omega arith))
  loses (inr h) = rw (eq-eqb e d h.0, le-ltb p q h.1, le-ltb e d (omega arith))

-- it is transitive, and so is its failure
beats_trans : (p d q e r f : ℕ) → hit_beats q e p d ≡ true → hit_beats r f q e ≡ true → hit_beats r f p d ≡ true
beats_trans p d q e r f h k = wins r f p d (go (won q e p d h) (won r f q e k))
  where
    go : Won q e p d → Won r f q e → Won r f p d
    go (inl a) (inl b) = inl (omega arith)
    go (inl a) (inr b) = inl (omega arith)
    go (inr a) (inl b) = inl (omega arith)
    go (inr a) (inr b) = inr (omega arith)

loses_trans : (p d q e r f : ℕ) → hit_beats q e p d ≡ false → hit_beats r f q e ≡ false → hit_beats r f p d ≡ false
loses_trans p d q e r f h k = loses r f p d (go (lost q e p d h) (lost r f q e k))
  where
    go : Lost q e p d → Lost r f q e → Lost r f p d
    go (inl a) (inl b) = inl (omega arith)
    go (inl a) (inr b) = inl (omega arith)
    go (inr a) (inl b) = inl (omega arith)
    go (inr a) (inr b) = inr (omega arith)

-- of two not both beat each other, and where neither does they are the same
beats_asym : (p d q e : ℕ) → hit_beats q e p d ≡ true → hit_beats p d q e ≡ false
beats_asym p d q e h = loses p d q e (go (won q e p d h))
  where
    go : Won q e p d → Lost p d q e
    go (inl a) = inl a
    go (inr a) = inr (omega arith)

beats_same : (p d q e : ℕ) → hit_beats q e p d ≡ false → hit_beats p d q e ≡ false → (p ≡ q) × (d ≡ e)
beats_same p d q e h k = go (lost q e p d h) (lost p d q e k)
  where
    go : Lost q e p d → Lost p d q e → (p ≡ q) × (d ≡ e)
    go (inl a) (inl b) = omega arith
    go (inl a) (inr b) = omega arith
    go (inr a) (inl b) = omega arith
    go (inr a) (inr b) = omega arith

-- ---- the laws of `better`

pub better_miss : (h : Hit) → better h miss ≡ h
unfolding better
better_miss miss = refl
better_miss (hit p d) = refl

pub better_assoc : (x y z : Hit) → better (better x y) z ≡ better x (better y z)
unfolding better
better_assoc miss y z = refl
better_assoc (hit p d) miss z = refl
better_assoc (hit p d) (hit q e) miss = better_miss (cond (hit_beats q e p d) (hit q e) (hit p d))
better_assoc (hit p d) (hit q e) (hit r f) = go (hit_beats q e p d) refl (hit_beats r f q e) refl
  where
    go : (a : Bool) → hit_beats q e p d ≡ a → (b : Bool) → hit_beats r f q e ≡ b →
        better (cond a (hit q e) (hit p d)) (hit r f) ≡ better (hit p d) (cond b (hit r f) (hit q e))
    go true h true k = rw (k, beats_trans p d q e r f h k)
    go true h false k = rw (h, k)
    go false h true k = refl
    go false h false k = rw (h, loses_trans p d q e r f h k)

pub better_comm : (x y : Hit) → better x y ≡ better y x
unfolding better
better_comm miss y = sym (better_miss y)
better_comm (hit p d) miss = refl
better_comm (hit p d) (hit q e) = go (hit_beats q e p d) refl (hit_beats p d q e) refl
  where
    go : (a : Bool) → hit_beats q e p d ≡ a → (b : Bool) → hit_beats p d q e ≡ b →
        cond a (hit q e) (hit p d) ≡ cond b (hit p d) (hit q e)
    go true h true k = absurd (true≢false (sym k ∙ beats_asym p d q e h))
    go true h false k = refl
    go false h true k = refl
    go false h false k = let s = beats_same p d q e h k in rw (s.0, s.1)

pub better_same : (x : Hit) → better x x ≡ x
unfolding better
better_same miss = refl
better_same (hit p d) = go (hit_beats p d p d)
  where
    go : (b : Bool) → cond b (hit p d) (hit p d) ≡ hit p d
    go true = refl
    go false = refl
