-- Laws on `Lined`: when the same contours wait, when caches change, when one waits no more, and before the start. Assumes nothing.
use Rattle.std.specs.Prelude.{◌≡◌, Bool, true, false, eqb, length, get_or}
use Rattle.std.proofs.Math.Path.{refl, sym, ap}
use Rattle.std.proofs.Common.{◌∙◌, zero-add, add-zero, arith, eq-eqb, ne_eqb}
use mathlib.Core.List.{List, [], ◌∷◌, map}
use Prim.Native.Nat.{ℕ, zero, suc, ◌+◌, ◌≤◌, ◌<◌}
use Rattle.std.proofs.Math.Decide.{ℕ_discrete}
use Rattle.std.proofs.lemmas.List.{length-map}
use Rattle.rules.specs.Tools.{pick, without}
use Rattle.rules.specs.HandedOver.{Plate, contours_from}
use Rattle.rules.specs.SamplesAndCache.{Waiting, waiting}
use Rattle.rules.specs.Retrace.{waiting_number}
use Rattle.rules.specs.declared.SpatialGrid.{SpatialGrid}
use Rattle.plate_laws.specs.Lists.{All, map_without}
use Rattle.waiting.specs.WaitingNumbers.{waiters_from, Lined}

-- ---- one contour more

module _ (waits : ℕ → ℕ) (j n : ℕ) where
  pub waiters_skip : waits j ≡ 0 → waiters_from waits j (suc n) ≡ waiters_from waits (suc j) n
  unfolding waiters_from pick
  waiters_skip e = rw (eq-eqb (waits j) 0 e)

  pub waiters_take : (waits j ≡ 0 → ⊥) → waiters_from waits j (suc n) ≡ j ∷ waiters_from waits (suc j) n
  unfolding waiters_from pick
  waiters_take d = rw (ne_eqb (waits j) 0 d)

-- ---- the same contours wait

waiters_same : (waits waits' : ℕ → ℕ) (j n : ℕ) → ((i : ℕ) → i < j + n → waits' i ≡ waits i) → waiters_from waits' j n ≡ waiters_from waits j n
unfolding waiters_from
waiters_same waits waits' j zero h = refl
waiters_same waits waits' j (suc n) h =
    rw (h j (omega arith), waiters_same waits waits' (suc j) n (λ i l. h i (omega arith)))

pub lined_same : (waits waits' : ℕ → ℕ) (n : ℕ) (ws : List Waiting) → ((i : ℕ) → i < n → waits' i ≡ waits i) → Lined waits n ws → Lined waits' n ws
unfolding Lined
lined_same waits waits' n ws h l = l ∙ sym (waiters_same waits waits' 0 n (λ i m. h i (omega arith)))

-- ---- they are no more than there are contours

waiters_few : (waits : ℕ → ℕ) (j n : ℕ) → length (waiters_from waits j n) ≤ n
unfolding waiters_from pick
waiters_few waits j zero = omega arith
waiters_few waits j (suc n) = go (eqb (waits j) 0) (waiters_few waits (suc j) n)
  where
    go : (b : Bool) → length (waiters_from waits (suc j) n) ≤ n → length (pick b (waiters_from waits (suc j) n) (j ∷ waiters_from waits (suc j) n)) ≤ suc n
    go true h = omega arith
    go false h = omega arith

pub lined_few : (waits : ℕ → ℕ) (n : ℕ) (ws : List Waiting) → Lined waits n ws → length ws ≤ n
unfolding Lined
lined_few waits n ws l = omega (arith, length-map ws waiting_number, ap length l, waiters_few waits 0 n)

-- ---- caches change

map_numbers : (f : Waiting → Waiting) → ((w : Waiting) → (f w).contour ≡ w.contour) → (ws : List Waiting) → map waiting_number (map f ws) ≡ map waiting_number ws
unfolding waiting_number
map_numbers f h [] = refl
map_numbers f h (w ∷ ws) = rw (h w, map_numbers f h ws)

pub lined_map : (waits : ℕ → ℕ) (n : ℕ) (f : Waiting → Waiting) (ws : List Waiting) → ((w : Waiting) → (f w).contour ≡ w.contour) → Lined waits n ws →
    Lined waits n (map f ws)
unfolding Lined
lined_map waits n f ws h l = map_numbers f h ws ∙ l

-- ---- contour k waits no more

module _ {A : Type 0} (number : A → ℕ) (k : ℕ) (x : A) (rest : List A) where
  without_it : number x ≡ k → without number k (x ∷ rest) ≡ without number k rest
  unfolding without pick
  without_it e = rw (eq-eqb (number x) k e)

  without_other : (number x ≡ k → ⊥) → without number k (x ∷ rest) ≡ x ∷ without number k rest
  unfolding without pick
  without_other d = rw (ne_eqb (number x) k d)

abbrev itself : ℕ → ℕ
itself i = i

module _ (waits waits' : ℕ → ℕ) (k : ℕ) (gone : waits' k ≡ 0) where
  waiters_without : (j n : ℕ) → ((i : ℕ) → i < j + n → (i ≡ k → ⊥) → waits' i ≡ waits i) →
      without itself k (waiters_from waits j n) ≡ waiters_from waits' j n
  unfolding without waiters_from
  waiters_without j zero h = refl
  waiters_without j (suc n) h = go (ℕ_discrete j k) (ℕ_discrete (waits j) 0) (waiters_without (suc j) n (λ i l d. h i (omega arith) d))
    where
      gone_too : Dec (j ≡ k) → waits j ≡ 0 → waits' j ≡ 0
      gone_too (yes q) e = ap waits' q ∙ gone
      gone_too (no d) e = h j (omega arith) d ∙ e

      go : Dec (j ≡ k) → Dec (waits j ≡ 0) → without itself k (waiters_from waits (suc j) n) ≡ waiters_from waits' (suc j) n →
          without itself k (waiters_from waits j (suc n)) ≡ waiters_from waits' j (suc n)
      go s (yes e) r = ap (without itself k) (waiters_skip waits j n e) ∙ r ∙ sym (waiters_skip waits' j n (gone_too s e))
      go (yes q) (no d) r =
          ap (without itself k) (waiters_take waits j n d) ∙ without_it itself k j (waiters_from waits (suc j) n) q ∙ r ∙ sym (waiters_skip waits' j n (ap waits' q ∙ gone))
      go (no q) (no d) r =
          ap (without itself k) (waiters_take waits j n d) ∙ without_other itself k j (waiters_from waits (suc j) n) q ∙ ap (λ (l : List ℕ). j ∷ l) r
          ∙ sym (waiters_take waits' j n (λ e. d (sym (h j (omega arith) q) ∙ e)))

  pub lined_without : (n : ℕ) (ws : List Waiting) → ((i : ℕ) → i < n → (i ≡ k → ⊥) → waits' i ≡ waits i) → Lined waits n ws →
      Lined waits' n (without waiting_number k ws)
  unfolding Lined
  lined_without n ws h l = map_without waiting_number itself k ws ∙ ap (without itself k) l ∙ waiters_without 0 n (λ i m d. h i (omega arith) d)

-- those that are left have other numbers
pub without_differs : (k : ℕ) (ws : List Waiting) → All (λ w. w.contour.number ≡ k → ⊥) (without waiting_number k ws)
unfolding without waiting_number
without_differs k [] = tt
without_differs k (w ∷ ws) = go (ℕ_discrete (waiting_number w) k) (without_differs k ws)
  where
    go : Dec (waiting_number w ≡ k) → All (λ w. w.contour.number ≡ k → ⊥) (without waiting_number k ws) →
        All (λ w. w.contour.number ≡ k → ⊥) (without waiting_number k (w ∷ ws))
    go (yes e) a = rw (without_it waiting_number k w ws e) a
    go (no d) a = rw (without_other waiting_number k w ws d) (d, a)

-- ---- before the start

module _ (p : Plate) (g : SpatialGrid) (waits : ℕ → ℕ) where
  -- the contours from j on wait by their lengths
  abbrev ByLengths : ℕ → List ℕ → Type 0
  ByLengths j ns = (i : ℕ) → i < length ns → waits (j + i) ≡ get_or ns i 0

  sized_head : (j n : ℕ) (ns : List ℕ) → ByLengths j (n ∷ ns) → waits j ≡ n
  sized_head j n ns h = ap waits (sym (add-zero j)) ∙ h 0 (omega arith)

  sized_tail : (j n : ℕ) (ns : List ℕ) → ByLengths j (n ∷ ns) → ByLengths (suc j) ns
  sized_tail j n ns h i l = let e : suc j + i ≡ j + suc i = omega arith in ap waits e ∙ h (suc i) (omega arith)

  numbers_from : (j v : ℕ) (ns : List ℕ) → ByLengths j ns → map waiting_number (map (waiting p g) (contours_from j v ns)) ≡ waiters_from waits j (length ns)
  unfolding contours_from waiters_from waiting waiting_number
  numbers_from j v [] h = refl
  numbers_from j v (zero ∷ ns) h =
      numbers_from (suc j) v ns (sized_tail j zero ns h) ∙ sym (waiters_skip waits j (length ns) (sized_head j zero ns h))
  numbers_from j v (suc n ∷ ns) h =
      ap (λ (l : List ℕ). j ∷ l) (numbers_from (suc j) (v + suc n) ns (sized_tail j (suc n) ns h))
      ∙ sym (waiters_take waits j (length ns) (λ e. omega (arith, sized_head j (suc n) ns h)))

  -- every contour that is not empty waits
  pub lined_prepared : (ns : List ℕ) → ((j : ℕ) → j < length ns → waits j ≡ get_or ns j 0) → Lined waits (length ns) (map (waiting p g) (contours_from 0 0 ns))
  unfolding Lined
  lined_prepared ns h = numbers_from 0 0 ns (λ i l. ap waits (zero-add i) ∙ h i l)
