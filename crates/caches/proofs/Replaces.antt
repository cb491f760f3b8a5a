-- A cache in its two slices, replaced or kept. Assumes nothing.
use Prim.Native.Nat.{ℕ}
use mathlib.Core.Path.{◌≡◌, refl, sym}
use mathlib.Core.Bool.{true, false}
use mathlib.Core.List.{List}
use lib.ListN.{get_or, set}
use lib.Seq.{set-get_or}
use lib.Ieee.{Float, nan, lt}
use Rattle.rules.specs.Tools.{pick}
use Rattle.rules.specs.declared.Nearest.{Nearest}
use Rattle.rules.specs.declared.Nearest.TheVariants.{Found, Nothing}
use Rattle.rules.specs.declared.PathPlace.{PathPlace}
use Rattle.caches.specs.HeldCache.{Held, held, replaced}

-- slices that hold a cache where they held another
abbrev Puts : List Float → List ℕ → ℕ → ℕ → Held → List Float → List ℕ → Type 0
Puts ds w j e k ds' w' = (ds' ≡ set ds j k.squared) × (w' ≡ set w e k.entry)

-- the cache that they held
abbrev old : List Float → List ℕ → ℕ → ℕ → Held
old ds w j e = held (get_or ds j nan) (get_or w e 0)

module _ (ds : List Float) (w : List ℕ) (j e v : ℕ) where
  abbrev pub after : Nearest → Held
  after found = replaced (old ds w j e) v found

  puts_old : (found : Nearest) → after found ≡ old ds w j e → Puts ds w j e (after found) ds w
  unfolding held
  puts_old found q = rw q (sym (set-get_or ds j nan), sym (set-get_or w e 0))

  pub replaces : {found : Nearest} {place : PathPlace} {d : Float} → found ≡ Found place d → lt d (get_or ds j nan) ≡ true →
      Puts ds w j e (after found) (set ds j d) (set w e v)
  unfolding replaced held pick
  replaces q t = rw (q, t) (refl, refl)

  pub keeps_near : {found : Nearest} {place : PathPlace} {d : Float} → found ≡ Found place d → lt d (get_or ds j nan) ≡ false →
      Puts ds w j e (after found) ds w
  unfolding replaced held pick
  keeps_near {found = found} q t = puts_old found (rw (q, t))

  pub keeps_none : {found : Nearest} → found ≡ Nothing → Puts ds w j e (after found) ds w
  unfolding replaced
  keeps_none {found = found} q = puts_old found (rw q)
