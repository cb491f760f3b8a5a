-- A contour's steps behind a path, as they are written: landed at entry e, up to the last vertex, and unless e is 0 back to the landing and down to
-- vertex 0. The return is a walk back along the path to the landing's place, and the start is drawn like a later contour. Assumes nothing.
use Rattle.std.specs.Prelude.{◌≡◌, Bool, true, false, eqb}
use Rattle.std.proofs.Math.Path.{refl, sym, ap, ap₂}
use Rattle.std.proofs.Common.{◌∙◌, zero-add, eqb-true}
use mathlib.Core.List.{List, [], ◌∷◌, ◌++◌, map, append_assoc}
use Prim.Native.Nat.{ℕ, zero, suc, ◌+◌, ◌-◌, ◌≤◌}
use native.Mathlib.Omega.{arith}
use Rattle.std.proofs.Math.ListN.{length}
use Rattle.std.proofs.Math.Seq.{append_snoc}
use Rattle.rules.specs.Tools.{pick, up_from, down_to}
use Rattle.rules.specs.HandedOver.{Contour}
use Rattle.rules.specs.Start.{Oriented}
use Rattle.rules.specs.Retrace.{vertex_of, walk_to, walk_back, forward, backward, return_to, both_ways, emit, entry_of, begin}
use Rattle.rules.specs.Marks.{start_kind, Step, land, cut_up, cut_down, back_step}
use Rattle.plate_laws.specs.Steps.{length_snoc, ends_snoc, ups_at, ups_length, entry_in}

-- landed at vertex a, and n cuts upward
unfoldable pub landed_up : ℕ → ℕ → ℕ → List Step
landed_up kind a n = land kind a ∷ map cut_up (up_from a n)

unfoldable pub drawn : ℕ → List Step → Contour → ℕ → List Step
drawn kind path c e =
    let up = path ++ landed_up kind (c.first + e) (c.last - e) in
    pick (eqb e 0) up ((up ++ walk_back up (length path)) ++ map cut_down (down_to c.first e))

-- ---- the return

module _ (kind : ℕ) (path : List Step) (a n : ℕ) where
  abbrev pub up : List Step
  up = path ++ landed_up kind a n

  up_is : up ≡ (path ++ land kind a ∷ []) ++ map cut_up (up_from a n)
  unfolding landed_up
  up_is = sym (append_snoc path (land kind a) (map cut_up (up_from a n)))

  pub up_length : length up ≡ length path + suc n
  up_length = ap length up_is ∙ omega (arith, ups_length (path ++ land kind a ∷ []) a n, length_snoc path (land kind a))

  -- vertex a + i stands i places behind the landing
  pub up_at : (i : ℕ) → i ≤ n → vertex_of up (length path + i) ≡ a + i
  unfolding land
  up_at i h =
      let k : length path + i ≡ length (path ++ land kind a ∷ []) - 1 + i = omega (arith, length_snoc path (land kind a)) in
      rw (up_is, k) (ups_at (path ++ land kind a ∷ []) a n i (ends_snoc path (land kind a)) h)

  backs : (m : ℕ) → m ≤ n → map (walk_to up) (down_to (length path) m) ≡ map (return_to a (length path)) (down_to 0 m)
  unfolding walk_to return_to
  backs zero h = refl
  backs (suc m) h =
      ap₂ (λ (s : Step) (ss : List Step). s ∷ ss)
      (ap₂ (λ (v k : ℕ). back_step v (length path + k)) (up_at m (omega arith) ∙ ap (λ (k : ℕ). a + k) (sym (zero-add m))) (sym (zero-add m)))
      (backs m (omega arith))

  pub walk_is_return : walk_back up (length path) ≡ map (return_to a (length path)) (down_to 0 n)
  unfolding walk_back
  walk_is_return =
      let k : length up - 1 - length path ≡ n = omega (arith, up_length) in rw k (backs n (omega arith))

-- ---- what is drawn is what the rules emit

-- the three cases of an entry
drawn_forward : (kind : ℕ) (path : List Step) (c : Contour) → path ++ forward kind c ≡ drawn kind path c 0
unfolding drawn forward landed_up pick
drawn_forward kind path c =
    let a : c.first + 0 ≡ c.first = omega arith in
    let n : c.last - 0 ≡ c.last = omega arith in
    rw (a, n)

module _ (kind : ℕ) (path : List Step) (c : Contour) (e : ℕ) (h : e ≤ c.last) (z : eqb e 0 ≡ false) where
  -- both ways, which is downward alone where e is the last vertex
  drawn_both :
      path ++ ((landed_up kind (c.first + e) (c.last - e) ++ map (return_to (c.first + e) (length path)) (down_to 0 (c.last - e)))
      ++ map cut_down (down_to c.first e))
      ≡ drawn kind path c e
  unfolding drawn pick
  drawn_both =
      rw (z, walk_is_return kind path (c.first + e) (c.last - e))
      (sym (append_assoc path _ (map cut_down (down_to c.first e)))
      ∙ ap (λ (ss : List Step). ss ++ map cut_down (down_to c.first e)) (sym (append_assoc path _ _)))

  drawn_last : e ≡ c.last → path ++ backward kind c ≡ drawn kind path c e
  unfolding backward landed_up
  drawn_last l =
      let n : c.last - e ≡ 0 = omega arith in
      (rw (← l)) ∙ (rw n at drawn_both)

pub emit_is : (kind : ℕ) (path : List Step) (c : Contour) (e : ℕ) → e ≤ c.last → path ++ emit kind c e (length path) ≡ drawn kind path c e
unfolding emit pick both_ways landed_up
emit_is kind path c e h = go (eqb e 0) refl (eqb e c.last) refl
  where
    go : (s : Bool) → eqb e 0 ≡ s → (t : Bool) → eqb e c.last ≡ t →
        path ++ pick s (forward kind c) (pick t (backward kind c) (both_ways kind c e (length path))) ≡ drawn kind path c e
    go true x t y = drawn_forward kind path c ∙ ap (drawn kind path c) (sym (eqb-true e 0 x))
    go false x true y = drawn_last kind path c e h x (eqb-true e c.last y)
    go false x false y = drawn_both kind path c e h x

pub begin_is : (s : Oriented) → begin s ≡ drawn start_kind [] s.contour (entry_of s)
unfolding begin
begin_is s = emit_is start_kind [] s.contour (entry_of s) (entry_in s)
