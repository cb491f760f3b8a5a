-- The runs of steps that a path is made of: cuts upward, cuts downward, and back-steps. Assumes nothing.
use Rattle.std.specs.Prelude.{◌≡◌, refl, List, [], ◌∷◌, ◌++◌, map, ℕ, zero, suc, ◌+◌, ◌-◌, ◌≤◌, ◌<◌, length}
use Rattle.std.proofs.Common.{sym, ap, ◌∙◌, append-nil, inl, inr, add-zero, add-suc, arith}
use Rattle.std.proofs.Math.Seq.{append_snoc}
use Rattle.rules.specs.Tools.{up_from, down_to}
use Rattle.rules.specs.HandedOver.{Plate, Contour}
use Rattle.rules.specs.Retrace.{vertex_of}
use Rattle.rules.specs.Marks.{Step, cut_up, cut_down, back_step}
use Rattle.rules.specs.Contours.{IsContour}
use Rattle.plate_laws.specs.Steps.{Ends, ends_snoc, vertex_old, vertex_new, length_snoc}
use Rattle.path.specs.Pairs.{Follows, Chain}
use Rattle.division_laws.specs.Maps.{no_landing}

-- the two vertices of the pair that a new step makes
module _ (path : List Step) (s : Step) (v : ℕ) (e : Ends path v) where
  pair_from : vertex_of (path ++ s ∷ []) (length path - 1) ≡ v
  pair_from = let h = e.some in vertex_old path (s ∷ []) (length path - 1) (omega arith) ∙ e.last

  pair_to : vertex_of (path ++ s ∷ []) (suc (length path - 1)) ≡ s.vertex
  pair_to =
      let h = e.some in
      let n : suc (length path - 1) ≡ length path = omega arith in rw n (vertex_new path s [])

-- ---- cuts

-- the n segments from vertex a on are segments of the contour c
pub record Segments (p : Plate) (c : Contour) (a n : ℕ) : Type 0 where
  pub of : IsContour p c
  pub low : c.first ≤ a
  pub high : a + n ≤ c.first + c.last

pub ups_chain : (p : Plate) (c : Contour) (path : List Step) (a n : ℕ) → Segments p c a n → Ends path a → Chain p path (map cut_up (up_from a n))
unfolding cut_up
ups_chain p c path a zero i e = tt
ups_chain p c path a (suc n) i e = (
  (
    inl (
      refl,
      record {
        segment = (c, i.of, i.low, omega (arith, i.high));
        sense = inl (pair_from path (cut_up a) a e, pair_to path (cut_up a) a e);
      },
    ),
    no_landing _ (omega arith),
  ),
  ups_chain p c (path ++ cut_up a ∷ []) (suc a) n (record { of = i.of; low = omega (arith, i.low); high = omega (arith, i.high) })
      (ends_snoc path (cut_up a)),
)

pub downs_chain : (p : Plate) (c : Contour) (path : List Step) (a n : ℕ) → Segments p c a n → Ends path (a + n) →
    Chain p path (map cut_down (down_to a n))
unfolding cut_down
downs_chain p c path a zero i e = tt
downs_chain p c path a (suc n) i e =
    let e' : Ends path (suc (a + n)) = rw add-suc at e in (
      (
        inl (
          refl,
          record {
            segment = (c, i.of, omega (arith, i.low), omega (arith, i.high));
            sense = inr (pair_from path (cut_down (a + n)) (suc (a + n)) e', pair_to path (cut_down (a + n)) (suc (a + n)) e');
          },
        ),
        no_landing _ (omega arith),
      ),
      downs_chain p c (path ++ cut_down (a + n) ∷ []) a n (record { of = i.of; low = i.low; high = omega (arith, i.high) })
          (ends_snoc path (cut_down (a + n))),
    )

-- ---- back-steps

-- a back-step to vertex v i, which stands at place r i
abbrev pub back_to : (ℕ → ℕ) → (ℕ → ℕ) → ℕ → Step
back_to v r i = back_step (v i) (r i)

-- the vertices v 0 to v m stand at the places r 0 to r m, which follow one another
pub record Stand (path : List Step) (v r : ℕ → ℕ) (m : ℕ) : Type 0 where
  pub next : (i : ℕ) → r (suc i) ≡ suc (r i)
  pub held : (i : ℕ) → i ≤ m → vertex_of path (r i) ≡ v i
  pub last : r m < length path

rises : (r : ℕ → ℕ) → ((i : ℕ) → r (suc i) ≡ suc (r i)) → (i n : ℕ) → r (i + n) ≡ r i + n
rises r h i zero = rw (add-zero i, add-zero (r i))
rises r h i (suc n) = rw (add-suc i n) (omega (arith, rises r h i n, h (i + n)))

stand_snoc : (path : List Step) (s : Step) (v r : ℕ → ℕ) (m : ℕ) → Stand path v r (suc m) → Stand (path ++ s ∷ []) v r m
stand_snoc path s v r m h =
    record {
      next = h.next;
      held = λ i l. vertex_old path (s ∷ []) (r i) (early i l) ∙ h.held i (omega arith);
      last = omega (arith, length_snoc path s, h.last, h.next m);
    }
  where
    early : (i : ℕ) → i ≤ m → r i < length path
    early i l =
        let k : i + (m - i) ≡ m = omega arith in
        omega (arith, h.last, h.next m, rises r h.next i (m - i), ap r k)

back_follows : (p : Plate) (path : List Step) (v r : ℕ → ℕ) (m : ℕ) → Stand path v r (suc m) → Ends path (v (suc m)) →
    Follows p path (back_to v r m)
unfolding back_step
back_follows p path v r m h e =
    let s = back_to v r m in
    let x = h.last in
    let y = h.next m in
    let z = e.some in (
      inr (inl (
        refl,
        record {
          earlier = omega arith;
          from =
              pair_from path s (v (suc m)) e
              ∙ sym (vertex_old path (s ∷ []) (suc (r m)) (omega arith) ∙ ap (vertex_of path) (sym y) ∙ h.held (suc m) (omega arith));
          to = pair_to path s (v (suc m)) e ∙ sym (vertex_old path (s ∷ []) (r m) (omega arith) ∙ h.held m (omega arith));
        },
      )),
      no_landing _ (omega arith),
    )

pub backs_chain : (p : Plate) (path : List Step) (v r : ℕ → ℕ) (a n : ℕ) → Stand path v r (a + n) → Ends path (v (a + n)) →
    Chain p path (map (back_to v r) (down_to a n))
unfolding back_step
backs_chain p path v r a zero h e = tt
backs_chain p path v r a (suc n) h e =
    let s = back_to v r (a + n) in
    let h' : Stand path v r (suc (a + n)) = rw add-suc at h in (
      back_follows p path v r (a + n) h' (rw add-suc at e),
      backs_chain p (path ++ s ∷ []) v r a n (stand_snoc path s v r (a + n) h') (ends_snoc path s),
    )

pub backs_end : (path : List Step) (v r : ℕ → ℕ) (a n : ℕ) → Ends path (v (a + n)) → Ends (path ++ map (back_to v r) (down_to a n)) (v a)
unfolding back_step
backs_end path v r a zero e = rw append-nil (rw add-zero at e)
backs_end path v r a (suc n) e =
    let s = back_to v r (a + n) in
    rw (← append_snoc path s (map (back_to v r) (down_to a n))) (backs_end (path ++ s ∷ []) v r a n (ends_snoc path s))
