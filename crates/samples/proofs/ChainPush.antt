-- A vertex is put in front of its cell's chain. Assumes nothing.
use mathlib.Core.Path.{◌≡◌, sym, ap, ◌∙◌}
use mathlib.Core.Bool.{Bool, true, false, true≢false}
use mathlib.Core.List.{List}
use Prim.Native.Nat.{ℕ, suc, ◌+◌, ◌-◌, ◌≤◌, ◌<◌}
use native.Mathlib.Decide.{ℕ_discrete}
use native.Mathlib.Numerals.{add-one}
use native.Mathlib.Omega.{arith}
use lib.Dec.{ltb}
use lib.ListN.{length, get_or, set, length-set}
use lib.Seq.{get_or-set_same, get_or-set_other}
use borrow.Author.Tests.{lt-ltb, le-ltb, eq-eqb, ne_eqb}
use Rattle.std.proofs.Math.Bool.{and-false}
use Rattle.rules.specs.Tools.{pick}
use Rattle.work_layout.specs.Parts.{from, KeptBelow, KeptFrom}
use Rattle.samples.specs.Chains.{first_of, is_sample_in, RisingChains}

-- ---- the test

pub in_cell : (owner cell : ℕ → ℕ) (c v : ℕ) → (owner v ≡ 0 → ⊥) → cell v ≡ c → is_sample_in owner cell c v ≡ true
unfolding is_sample_in
in_cell owner cell c v h e = rw (lt-ltb 0 (owner v) (omega arith), eq-eqb (cell v) c e)

pub not_in_cell : (owner cell : ℕ → ℕ) (c v : ℕ) → (cell v ≡ c → ⊥) → is_sample_in owner cell c v ≡ false
unfolding is_sample_in
not_in_cell owner cell c v h = rw (ne_eqb (cell v) c h) (and-false (ltb 0 (owner v)))

pub no_sample : (owner cell : ℕ → ℕ) (c v : ℕ) → owner v ≡ 0 → is_sample_in owner cell c v ≡ false
unfolding is_sample_in
no_sample owner cell c v e = rw (le-ltb 0 (owner v) (omega arith))

-- ---- one vertex more

-- the chains of the vertices behind v
module _ {heads next : ℕ → ℕ} {test : ℕ → ℕ → Bool} {cells n v : ℕ} (h : RisingChains heads next test cells n (v + 1)) (hv : v < n) where
  one : n - v ≡ suc (n - (v + 1))
  one = omega arith

  -- v lies in cell c
  pub rising_push : (heads' next' : ℕ → ℕ) (c : ℕ) → c < cells → test c v ≡ true → ((b : ℕ) → (b ≡ c → ⊥) → test b v ≡ false) →
      heads' c ≡ v + 1 → ((b : ℕ) → b < cells → (b ≡ c → ⊥) → heads' b ≡ heads b) →
      next' v ≡ heads c → ((k : ℕ) → k < n → (k ≡ v → ⊥) → next' k ≡ next k) → RisingChains heads' next' test cells n v
  unfolding first_of pick
  rising_push heads' next' c hc t o e1 e2 e3 e4 =
      record { head = λ b g. top b (ℕ_discrete b c) g; succ = λ b k g l m w. link b k (ℕ_discrete k v) (ℕ_discrete b c) g l m w }
    where
      top : (b : ℕ) → Dec (b ≡ c) → b < cells → heads' b ≡ first_of (test b) (n - v) v
      top b (yes w) g = rw (one, w, t) (e1 ∙ add-one v)
      top b (no w) g = rw (one, o b w) (e2 b g w ∙ h.head b g ∙ ap (first_of (test b) (n - (v + 1))) (add-one v))

      link : (b k : ℕ) → Dec (k ≡ v) → Dec (b ≡ c) → b < cells → v ≤ k → k < n → test b k ≡ true → next' k ≡ first_of (test b) (n - suc k) (suc k)
      link b k (yes w) (yes u) g l m q = rw (w, u) (e3 ∙ h.head c hc ∙ ap (λ (i : ℕ). first_of (test c) (n - i) i) (add-one v))
      link b k (yes w) (no u) g l m q = absurd (true≢false (sym q ∙ ap (test b) w ∙ o b u))
      link b k (no w) u g l m q = e4 k m w ∙ h.succ b k g (omega arith) m q

  -- v lies in none
  pub rising_skip : ((b : ℕ) → test b v ≡ false) → RisingChains heads next test cells n v
  unfolding first_of pick
  rising_skip o =
      record {
        head = λ b g. rw (one, o b) (h.head b g ∙ ap (first_of (test b) (n - (v + 1))) (add-one v));
        succ = λ b k g l m q. link b k (ℕ_discrete k v) g l m q;
      }
    where
      link : (b k : ℕ) → Dec (k ≡ v) → b < cells → v ≤ k → k < n → test b k ≡ true → next k ≡ first_of (test b) (n - suc k) (suc k)
      link b k (yes w) g l m q = absurd (true≢false (sym q ∙ ap (test b) w ∙ o b))
      link b k (no w) g l m q = h.succ b k g (omega arith) m q

-- no chains, behind the last vertex
pub rising_none : (heads next : ℕ → ℕ) (test : ℕ → ℕ → Bool) (cells n : ℕ) → ((c : ℕ) → c < cells → heads c ≡ 0) → RisingChains heads next test cells n n
unfolding first_of
rising_none heads next test cells n h =
    let z : n - n ≡ 0 = omega arith in
    record { head = λ c l. rw z (h c l); succ = λ c k g l m t. absurd (omega arith) }

-- ---- in the slice

-- the two stores of a push: heads from hd on, links from nx on, all before a
module _ (w : List ℕ) (hd nx a cells n v c : ℕ) (test : ℕ → ℕ → Bool) (h : RisingChains (from w hd) (from w nx) test cells n (v + 1)) where
  abbrev linked : List ℕ
  linked = set w (nx + v) (get_or w (hd + c) 0)

  abbrev stored : List ℕ
  stored = set linked (hd + c) (v + 1)

  kept : (i : ℕ) → (i ≡ nx + v → ⊥) → (i ≡ hd + c → ⊥) → get_or stored i 0 ≡ get_or w i 0
  kept i l k = get_or-set_other linked (hd + c) i (v + 1) 0 (λ e. k (omega arith)) ∙ get_or-set_other w (nx + v) i _ 0 (λ e. l (omega arith))

  pub pushed : hd + cells ≤ nx → nx + n ≤ a → a ≤ length w → c < cells → v < n → test c v ≡ true → ((b : ℕ) → (b ≡ c → ⊥) → test b v ≡ false) →
      RisingChains (from stored hd) (from stored nx) test cells n v × KeptFrom a w stored × KeptBelow hd w stored
  pushed lh ln la hc hv t o = (
    rising_push h hv _ _ c hc t o
        (get_or-set_same linked (hd + c) (v + 1) 0 (simp length-set (omega arith)))
        (λ b g u. kept (hd + b) (λ e. omega arith) (λ e. u (omega arith)))
        (get_or-set_other linked (hd + c) (nx + v) (v + 1) 0 (λ e. omega arith) ∙ get_or-set_same w (nx + v) _ 0 (omega arith))
        (λ k g u. kept (nx + k) (λ e. u (omega arith)) (λ e. omega arith)),
    λ i g. kept i (λ e. omega arith) (λ e. omega arith),
    λ i g. kept i (λ e. omega arith) (λ e. omega arith),
  )
