-- A contour is drawn by its runs, one after the other. Assumes nothing.
use mathlib.Core.Path.{◌≡◌, refl, sym, ap, ◌∙◌}
use mathlib.Core.List.{List, [], ◌∷◌, ◌++◌, map, append_assoc}
use Prim.Native.Nat.{ℕ, suc, ◌+◌, ◌-◌, ◌≤◌}
use native.Mathlib.Numerals.{add-one}
use native.Mathlib.Omega.{arith}
use lib.ListN.{length}
use lib.Seq.{append_snoc}
use borrow.Author.Tests.{eq-eqb, ne_eqb}
use lib.Ieee.{Float}
use Rattle.std.specs.Prelude.{Bool, true, false, eqb, Result, Ok, Err, IsErr}
use Rattle.std.proofs.Common.{append-nil}
use Rattle.rules.specs.Tools.{pick, up_from, down_to}
use Rattle.rules.specs.HandedOver.{Contour}
use Rattle.rules.specs.Retrace.{walk_back}
use Rattle.rules.specs.Marks.{Step, land, cut_up, cut_down}
use Rattle.path_points.specs.Wrote.{wrote_length}
use Rattle.path_points.specs.WriterState.{SameWriter, WriterAfter, Adds}
use Rattle.path_points.specs.declared.Full.{Full}
use Rattle.path_points.specs.declared.PathWriter.{PathWriter}
use Rattle.path_points.specs.RunParts.{up_split, down_split, up_snoc, down_snoc}
use Rattle.path_points.specs.WriterCalls.{Writes, by_then, by_full, adds_then, adds_full}
use Rattle.emission.specs.DrawnContour.{landed_up, drawn}

module _ (kind : ℕ) (c : Contour) (e v : ℕ) (l : c.first + e ≡ v) where
  module _ (ss : List Step) where
    -- the landing at vertex v and the cuts upward
    abbrev pub risen : List Step
    risen = (ss ++ land kind v ∷ []) ++ map cut_up (up_from v (c.last - e))

    -- what follows them
    abbrev falls : List Step
    falls = pick (eqb e 0) [] (walk_back risen (length ss) ++ map cut_down (down_to c.first e))

    risen_is : ss ++ landed_up kind (c.first + e) (c.last - e) ≡ risen
    unfolding landed_up
    risen_is = rw l (sym (append_snoc ss (land kind v) (map cut_up (up_from v (c.last - e)))))

    pub drawn_up : e ≡ 0 → drawn kind ss c e ≡ risen
    unfolding drawn pick
    drawn_up z = rw (eq-eqb e 0 z) risen_is

    drawn_down : (e ≡ 0 → ⊥) → drawn kind ss c e ≡ (risen ++ walk_back risen (length ss)) ++ map cut_down (down_to c.first e)
    unfolding drawn pick
    drawn_down z =
        rw (ne_eqb e 0 z) (ap (λ (up : List Step). (up ++ walk_back up (length ss)) ++ map cut_down (down_to c.first e)) risen_is)

    pub drawn_falls : drawn kind ss c e ≡ risen ++ falls
    unfolding drawn pick
    drawn_falls = go (eqb e 0)
      where
        go : (z : Bool) → pick z (ss ++ landed_up kind (c.first + e) (c.last - e)) ((ss ++ landed_up kind (c.first + e) (c.last - e) ++ walk_back (ss ++ landed_up kind (c.first + e) (c.last - e)) (length ss)) ++ map cut_down (down_to c.first e)) ≡ risen ++ pick z [] (walk_back risen (length ss) ++ map cut_down (down_to c.first e))
        go true = risen_is ∙ sym (append-nil risen)
        go false = rw risen_is (append_assoc risen (walk_back risen (length ss)) (map cut_down (down_to c.first e)))

    pub drawn_lands : drawn kind ss c e ≡ (ss ++ land kind v ∷ []) ++ (map cut_up (up_from v (c.last - e)) ++ falls)
    drawn_lands = drawn_falls ∙ append_assoc (ss ++ land kind v ∷ []) (map cut_up (up_from v (c.last - e))) falls

  -- ---- by the writer's calls

  module _ (xs : List Float) (w : PathWriter) where
    -- the path is full at the landing
    pub lands_full : (w' : PathWriter) (x : Full) → Adds xs w w' (Err x) (λ ss. ss ++ land kind v ∷ []) →
        (r : Result (Unit {0}) Full) → IsErr r → Adds xs w w' r (λ ss. drawn kind ss c e)
    lands_full w' x a =
        adds_full w w' (λ ss. map cut_up (up_from v (c.last - e)) ++ falls ss) a drawn_lands

    pub rises : (w' w'' : PathWriter) (r : Result (Unit {0}) Full) → SameWriter w w' → WriterAfter w w' (Ok tt) → Adds xs w w' (Ok tt) (λ ss. ss ++ land kind v ∷ []) →
        SameWriter w' w'' → WriterAfter w' w'' r → Adds xs w' w'' r (λ ss. ss ++ map cut_up (up_from v (c.last - e))) → Writes xs w w'' r risen
    rises w' w'' r s b a s' b' a' =
        by_then (record { same = s; written = b; adds = a }) s' b' a' (λ ss. refl)

    pub rises_full : (w' : PathWriter) (x : Full) → Adds xs w w' (Err x) risen → (r : Result (Unit {0}) Full) → IsErr r → Adds xs w w' r (λ ss. drawn kind ss c e)
    rises_full w' x a = adds_full w w' falls a drawn_falls

    pub rises_done : (w' : PathWriter) → e ≡ 0 → Adds xs w w' (Ok tt) risen → Adds xs w w' (Ok tt) (λ ss. drawn kind ss c e)
    rises_done w' z a steps was marked d = rw (drawn_up steps z) (a steps was marked d)

    -- the walk back to the landing's place is that by the writer's count
    module _ (f : w.count ≤ w.room) (z : e ≡ 0 → ⊥) where
      drawn_counted : (w' : PathWriter) (r : Result (Unit {0}) Full) →
          Adds xs w w' r (λ ss. (risen ss ++ walk_back (risen ss) w.count) ++ map cut_down (down_to c.first e)) →
          Adds xs w w' r (λ ss. drawn kind ss c e)
      drawn_counted w' r a steps was marked d =
          rw (drawn_down steps z, wrote_length xs steps w.room w.count was w.path.now marked w.marks.now d f) (a steps was marked d)

      module _ (w' w'' : PathWriter) (d : Writes xs w w' (Ok tt) risen) (s : SameWriter w' w'') where
        pub walks_full : (x : Full) → Adds xs w' w'' (Err x) (λ ss. ss ++ walk_back ss w.count) →
            (r : Result (Unit {0}) Full) → IsErr r → Adds xs w w'' r (λ ss. drawn kind ss c e)
        walks_full x a r is =
            drawn_counted w'' r
            (by_full (λ ss. map cut_down (down_to c.first e)) d s a (λ ss. refl) r is)

        pub falls_done : WriterAfter w' w'' (Ok tt) → Adds xs w' w'' (Ok tt) (λ ss. ss ++ walk_back ss w.count) → (w3 : PathWriter) (r : Result (Unit {0}) Full) →
            SameWriter w'' w3 → WriterAfter w'' w3 r → Adds xs w'' w3 r (λ ss. ss ++ map cut_down (down_to c.first e)) → Adds xs w w3 r (λ ss. drawn kind ss c e)
        falls_done b a w3 r s' b' a' =
            drawn_counted w3 r
            (adds_then w3 r back.same back.adds a' (λ ss. refl))
          where
            back : Writes xs w w'' (Ok tt) (λ ss. risen ss ++ walk_back (risen ss) w.count)
            back = by_then d s b a (λ ss. refl)

-- ---- the cuts upward, one after the other

-- the lowest i of n
abbrev pub up_to : ℕ → ℕ → List Step → List Step
up_to v i steps = steps ++ map cut_up (up_from v i)

-- one more cut
abbrev pub cut : ℕ → Step
cut low = record { vertex = low + 1; kind = 1; reference = low }

cut_is : (low : ℕ) → cut_up low ≡ cut low
unfolding cut_up
cut_is low = rw (add-one low)

pub up_to_more : (v i : ℕ) (ss : List Step) → up_to v (i + 1) ss ≡ up_to v i ss ++ cut (v + i) ∷ []
up_to_more v i ss =
    ap (λ (r : List Step). ss ++ r) (up_snoc cut_up v i)
    ∙ sym (append_assoc ss (map cut_up (up_from v i)) (cut_up (v + i) ∷ []))
    ∙ ap (λ (s : Step). up_to v i ss ++ s ∷ []) (cut_is (v + i))

pub up_to_rest : (v i n : ℕ) → i ≤ n → (ss : List Step) → up_to v n ss ≡ up_to v i ss ++ map cut_up (up_from (v + i) (n - i))
up_to_rest v i n h ss =
    let e : n ≡ i + (n - i) = omega arith in
    ap (λ (k : ℕ). ss ++ map cut_up (up_from v k)) e
    ∙ ap (λ (r : List Step). ss ++ r) (up_split cut_up v i (n - i))
    ∙ sym (append_assoc ss (map cut_up (up_from v i)) (map cut_up (up_from (v + i) (n - i))))

-- ---- the cuts downward

-- those of n that begin `left` above v or higher
abbrev pub down_to_lem : ℕ → ℕ → ℕ → List Step → List Step
down_to_lem v n left steps = steps ++ map cut_down (down_to (v + left) (n - left))

pub down_to_more : (v n left m : ℕ) → suc left ≡ m → m ≤ n → (ss : List Step) → down_to_lem v n left ss ≡ down_to_lem v n m ss ++ cut_down (v + left) ∷ []
down_to_more v n left m l h ss =
    let e : n - left ≡ suc (n - m) = omega arith in
    let a : suc (v + left) ≡ v + m = omega arith in
    rw e
    (ap (λ (r : List Step). ss ++ r)
    (down_snoc cut_down (v + left) (n - m) ∙ ap (λ (b : ℕ). map cut_down (down_to b (n - m)) ++ cut_down (v + left) ∷ []) a)
    ∙ sym (append_assoc ss (map cut_down (down_to (v + m) (n - m))) (cut_down (v + left) ∷ [])))

pub down_to_rest : (v n left : ℕ) → left ≤ n → (ss : List Step) → ss ++ map cut_down (down_to v n) ≡ down_to_lem v n left ss ++ map cut_down (down_to v left)
down_to_rest v n left h ss =
    let e : n ≡ left + (n - left) = omega arith in
    ap (λ (k : ℕ). ss ++ map cut_down (down_to v k)) e
    ∙ ap (λ (r : List Step). ss ++ r) (down_split cut_down v left (n - left))
    ∙ sym (append_assoc ss (map cut_down (down_to (v + left) (n - left))) (map cut_down (down_to v left)))
