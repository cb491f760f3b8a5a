-- One vertex is queried: its own contour's cache alone may change. Assumes nothing.
use Prim.Native.Nat.{ℕ, suc, ◌+◌, ◌<◌}
use mathlib.Core.Path.{◌≡◌, refl, sym, ap, ◌∙◌}
use mathlib.Core.List.{List}
use native.Mathlib.Omega.{arith}
use native.Mathlib.Decide.{ℕ_discrete}
use lib.ListN.{length, get_or, set}
use lib.Seq.{get_or-set_same, get_or-set_other}
use lib.Ieee.{Float, nan}
use borrow.Author.Tests.{eq-eqb, ne_eqb}
use Rattle.rules.specs.Tools.{pick}
use Rattle.rules.specs.declared.Nearest.{Nearest}
use Rattle.work_layout.specs.Parts.{from}
use Rattle.work_layout.specs.declared.Layout.{Layout}
use Rattle.caches.specs.HeldCache.{Held, held, held_at, replaced}
use Rattle.caches.specs.CacheMoves.{tried, Moved}

module _ (owner : ℕ → ℕ) (ask : ℕ → Nearest) (j v : ℕ) (k : Held) where
  pub tried_other : (owner v ≡ suc j → ⊥) → tried owner ask j v k ≡ k
  unfolding tried pick
  tried_other h = rw (ne_eqb (owner v) (suc j) h)

  pub tried_own : owner v ≡ suc j → tried owner ask j v k ≡ replaced k v (ask v)
  unfolding tried pick
  tried_own h = rw (eq-eqb (owner v) (suc j) h)

module _ {lay : Layout} (owner : ℕ → ℕ) (ask : ℕ → Nearest) (v : ℕ) {ds : List Float} {w : List ℕ} where
  -- it is no sample
  pub moved_none : owner v ≡ 0 → Moved lay ds w ds w (λ j. tried owner ask j v)
  moved_none h = record { held = λ j l u. sym (tried_other owner ask j v _ (λ e. omega arith)); below = λ i l. refl; above = λ i l. refl }

  -- its contour does not wait
  pub moved_left : (o : ℕ) → owner v ≡ suc o → from w lay.waiting o ≡ 0 → Moved lay ds w ds w (λ j. tried owner ask j v)
  moved_left o h g =
      record {
        held = λ j l u. sym (tried_other owner ask j v _ (λ e. let d : o ≡ j = omega arith in omega (arith, u, ap (from w lay.waiting) d)));
        below = λ i l. refl;
        above = λ i l. refl;
      }

  -- its contour waits
  pub moved_own : (o : ℕ) {ds' : List Float} {w' : List ℕ} → owner v ≡ suc o → o < length ds → lay.entries + o < length w → lay.entries + o < lay.heads →
      (let k = replaced (held (get_or ds o nan) (get_or w (lay.entries + o) 0)) v (ask v) in
      (ds' ≡ set ds o k.squared) × (w' ≡ set w (lay.entries + o) k.entry)) →
      Moved lay ds w ds' w' (λ j. tried owner ask j v)
  unfolding held held_at
  moved_own o {ds' = ds'} {w' = w'} h hd hw hh q =
      record {
        held = λ j l u. after j (ℕ_discrete j o);
        below = λ i l. ap (λ (x : List ℕ). get_or x i 0) q.1 ∙ get_or-set_other w (lay.entries + o) i _ 0 (λ e. omega arith);
        above = λ i l. ap (λ (x : List ℕ). get_or x i 0) q.1 ∙ get_or-set_other w (lay.entries + o) i _ 0 (λ e. omega arith);
      }
    where
      k : Held
      k = replaced (held_at lay ds w o) v (ask v)

      after : (j : ℕ) → Dec (j ≡ o) → held_at lay ds' w' j ≡ tried owner ask j v (held_at lay ds w j)
      after j (yes e) =
          rw (e, q.0, q.1, get_or-set_same ds o k.squared nan hd, get_or-set_same w (lay.entries + o) k.entry 0 hw)
          (sym (tried_own owner ask o v _ h))
      after j (no e) =
          rw (q.0, q.1, get_or-set_other ds o j k.squared nan e, get_or-set_other w (lay.entries + o) (lay.entries + j) k.entry 0 (λ f. e (omega arith)))
          (sym (tried_other owner ask j v _ (λ f. e (omega arith))))
