-- The contours of runs of joined vertices: which of their vertices are joined to the next, and how many segments they have. Assumes nothing.
use Rattle.std.specs.Prelude.{◌≡◌, refl, Bool, true, false, List, [], ◌∷◌, ℕ, zero, suc, ◌+◌, ◌≤◌, ◌<◌}
use Rattle.std.proofs.Common.{arith}
use Rattle.rules.specs.Tools.{pick, sum}
use Rattle.rules.specs.HandedOver.{Contour, contours_from}
use Rattle.contour_recovery.specs.ContourRecovery.{lengthen, runs}
use Rattle.plate_laws.specs.Lists.{All}
use Rattle.recovery_laws.specs.Runs.{runs_sum}

module _ (joined : ℕ → Bool) where
  -- each vertex of a contour but the last is joined to the next, and the last is not, where one of the vertices below `end` follows
  pub record JoinedRun (end : ℕ) (c : Contour) : Type 0 where
    pub inside : (i : ℕ) → i < c.last → joined (c.first + i) ≡ true
    pub apart : suc (c.first + c.last) < end → joined (c.first + c.last) ≡ false

  positive : (v m : ℕ) → All (λ n. 1 ≤ n) (runs joined v m)
  unfolding runs pick lengthen
  positive v zero = tt
  positive v (suc m) = go (joined v) (runs joined (suc v) m) (positive (suc v) m)
    where
      go : (b : Bool) (rest : List ℕ) → All (λ n. 1 ≤ n) rest → All (λ n. 1 ≤ n) (pick b (lengthen rest) (1 ∷ rest))
      go true [] a = (omega arith, tt)
      go true (n ∷ ns) a = (omega arith, a.1)
      go false rest a = (omega arith, a)

  -- a contour of one vertex that is the first, and one with a vertex more in front
  run_one : (j v end : ℕ) → (suc v < end → joined v ≡ false) → JoinedRun end (record { number = j; first = v; last = 0 })
  run_one j v end h =
      let z : v + 0 ≡ v = omega arith in
      record { inside = λ i l. absurd (omega (arith, l)); apart = λ l. rw z (h (omega (arith, l))) }

  run_more : (j k v n end : ℕ) → joined v ≡ true → JoinedRun end (record { number = k; first = suc v; last = n }) →
      JoinedRun end (record { number = j; first = v; last = suc n })
  run_more j k v n end t r = record { inside = in_front; apart = λ l. rw e (r.apart (omega (arith, l))) }
    where
      e : v + suc n ≡ suc v + n
      e = omega arith

      in_front : (i : ℕ) → i < suc n → joined (v + i) ≡ true
      in_front zero l = let z : v + 0 ≡ v = omega arith in rw z t
      in_front (suc i) l = let s : v + suc i ≡ suc v + i = omega arith in rw s (r.inside i (omega (arith, l)))

  pub contours_run : (j v m : ℕ) → All (JoinedRun (v + m)) (contours_from j v (runs joined v m))
  unfolding runs pick lengthen contours_from sum
  contours_run j v zero = tt
  contours_run j v (suc m) =
      let e : v + suc m ≡ suc v + m = omega arith in
      rw e (go (joined v) refl (runs joined (suc v) m) (positive (suc v) m) (runs_sum joined (suc v) m) (λ k. contours_run k (suc v) m))
    where
      next : v + 1 ≡ suc v
      next = omega arith

      go : (b : Bool) → joined v ≡ b → (rest : List ℕ) → All (λ n. 1 ≤ n) rest → sum rest ≡ m →
          ((k : ℕ) → All (JoinedRun (suc v + m)) (contours_from k (suc v) rest)) →
          All (JoinedRun (suc v + m)) (contours_from j v (pick b (lengthen rest) (1 ∷ rest)))
      go false t rest p s h = (run_one j v (suc v + m) (λ l. t), rw next (h (suc j)))
      go true t [] p s h = (run_one j v (suc v + m) (λ l. absurd (omega (arith, l, s))), tt)
      go true t (zero ∷ ns) p s h = absurd (omega (arith, p.0))
      go true t (suc n ∷ ns) p s h =
          let same : v + suc (suc n) ≡ suc v + suc n = omega arith in
          (run_more j j v n (suc v + m) t (h j).0, rw same (h j).1)
