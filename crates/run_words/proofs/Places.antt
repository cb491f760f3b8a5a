-- Words from a place on, taken one after the other. Assumes nothing.
use mathlib.Core.Path.{◌≡◌, refl, sym, ap, ◌∙◌}
use mathlib.Core.Bool.{Bool, true, false, cond}
use mathlib.Core.List.{List, [], ◌∷◌, ◌++◌}
use Prim.Native.Nat.{ℕ, zero, suc, ◌+◌, ◌*◌, ◌/◌, ◌≤◌, ◌<◌, min}
use native.Mathlib.Nat.{add_assoc, add-zero}
use native.Mathlib.Numerals.{add-one}
use native.Mathlib.Omega.{arith}
use lib.ListN.{length, get_or, take, drop, set, drop_of_length-le}
use lib.Seq.{drop-cons, append_snoc, set_at}
use Rattle.std.proofs.Math.Decide.{dec_le}
use borrow.Author.Tests.{lt-ltb, le-ltb}
use Rattle.run_words.specs.Words.{no_word, spelled, word, words_as, unlike}

-- ---- words that are there, and places behind the last

pub present : (text : List ℕ) (i n : ℕ) → i < length text / 17 → n ≡ 16 → word text i ≡ spelled 0 (take n (drop (17 * i) text))
unfolding word
present text i n h e = rw (e, lt-ltb i (length text / 17) h)

pub missing : (text : List ℕ) (i : ℕ) → length text / 17 ≤ i → word text i ≡ no_word
unfolding word
missing text i h = rw (le-ltb i (length text / 17) h)

-- a place that is no number of the code is behind the last word, and so is the greatest number
pub capped : (text t : List ℕ) (i k p : ℕ) → length text < 18446744073709551616 → t ≡ text → p ≡ min (i + k) 18446744073709551615 →
    word t p ≡ word text (i + k)
capped text t i k p h s e = rw s (go (dec_le (i + k) 18446744073709551615))
  where
    go : Dec (i + k ≤ 18446744073709551615) → word text p ≡ word text (i + k)
    go (yes l) = let f : p ≡ i + k = omega arith in rw f
    go (no l) = missing text p (omega arith) ∙ sym (missing text (i + k) (omega arith))

-- ---- one word more

words_as_more : {A : Type 0} (f : ℕ → A) (text : List ℕ) (s k : ℕ) → words_as f text s (suc k) ≡ words_as f text s k ++ (f (word text (s + k)) ∷ [])
unfolding words_as
words_as_more f text s zero = rw (add-zero s)
words_as_more {A} f text s (suc k) =
    ap {B = List A} (λ r. f (word text s) ∷ r)
    (words_as_more f text (s + 1) k ∙ ap {B = List A} (λ j. words_as f text (s + 1) k ++ (f (word text j) ∷ [])) (shifted s k))
  where
    shifted : (s k : ℕ) → s + 1 + k ≡ s + suc k
    shifted s k = omega arith

words_as_length : {A : Type 0} (f : ℕ → A) (text : List ℕ) (s k : ℕ) → length (words_as f text s k) ≡ k
unfolding words_as
words_as_length f text s zero = refl
words_as_length f text s (suc k) = ap suc (words_as_length f text (s + 1) k)

module _ {A : Type 0} (f : ℕ → A) (text : List ℕ) (s : ℕ) (xs : List A) where
  -- k elements are written
  abbrev pub Copied : ℕ → List A → Type 0
  Copied k now = (k ≤ length xs) × (now ≡ words_as f text s k ++ drop k xs)

  pub copied_none : Copied 0 xs
  unfolding words_as
  copied_none = (omega arith, refl)

  stored : (d : A) (k : ℕ) → k < length xs →
      set (words_as f text s k ++ drop k xs) k (f (word text (s + k))) ≡ words_as f text s (k + 1) ++ drop (k + 1) xs
  stored d k h =
      rw (
        add-one k,
        drop-cons xs k d h,
        set_at (words_as f text s k) (get_or xs k d) (drop (suc k) xs) (f (word text (s + k))) k (words_as_length f text s k),
        words_as_more f text s k,
        append_snoc (words_as f text s k) (f (word text (s + k))) (drop (suc k) xs),
      )

  pub copied_more : (d : A) (k : ℕ) (now : List A) (w : ℕ) (x : A) → Copied k now → k < length xs → w ≡ word text (s + k) → x ≡ f w → Copied (k + 1) (set now k x)
  copied_more d k now w x c h e g = (omega arith, rw (c.1, g, e) (stored d k h))

module _ {A : Type 0} (same : A → ℕ → Bool) (text : List ℕ) (s : ℕ) (xs : List A) where
  -- of k elements, `differ` are not their words
  abbrev pub Compared : ℕ → ℕ → Type 0
  Compared differ k = (k ≤ length xs) × (differ ≤ k) × (differ + unlike same text (s + k) (drop k xs) ≡ unlike same text s xs)

  one_compared : (d : A) (b : Bool) (k w : ℕ) → k < length xs → w ≡ word text (s + k) → same (get_or xs k d) w ≡ b →
      unlike same text (s + k) (drop k xs) ≡ cond b 0 1 + unlike same text (s + (k + 1)) (drop (k + 1) xs)
  unfolding unlike
  one_compared d b k w h e t = rw (drop-cons xs k d h, ← add_assoc s k 1, add-one k, ← e, t)

  pub compared_same : (d : A) (differ k w : ℕ) → Compared differ k → k < length xs → w ≡ word text (s + k) → same (get_or xs k d) w ≡ true →
      Compared differ (k + 1)
  compared_same d differ k w c h e t = (omega arith, omega arith, omega (arith, one_compared d true k w h e t))

  pub compared_other : (d : A) (differ k w : ℕ) → Compared differ k → k < length xs → w ≡ word text (s + k) → same (get_or xs k d) w ≡ false →
      Compared (differ + 1) (k + 1)
  compared_other d differ k w c h e t = (omega arith, omega arith, omega (arith, one_compared d false k w h e t))

  pub compared_all : (differ k : ℕ) → Compared differ k → length xs ≤ k → differ ≡ unlike same text s xs
  unfolding unlike
  compared_all differ k c h = sym (add-zero differ) ∙ rw (drop_of_length-le xs h) at c.2
