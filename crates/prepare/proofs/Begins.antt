-- What the six steps leave: every contour waits, as the definitions have it before the start. Assumes nothing.
use Prim.Native.Nat.{ℕ, zero, suc, ◌+◌, ◌≤◌, ◌<◌}
use mathlib.Core.Path.{◌≡◌, refl, sym, ap, subst, ◌∙◌}
use mathlib.Core.List.{List, [], ◌∷◌}
use native.Mathlib.Omega.{arith}
use native.Mathlib.Nat.{add-zero}
use lib.ListN.{length, get_or}
use lib.Ieee.{Float}
use Rattle.rules.specs.Tools.{sum}
use Rattle.rules.specs.HandedOver.{Plate, Contour, contours_from}
use Rattle.rules.specs.SamplesAndCache.{waiting, samples, cache}
use Rattle.rules.specs.declared.Point.{Point}
use Rattle.rules.specs.declared.SpatialGrid.{SpatialGrid}
use Rattle.plate_laws.specs.AcceptedInput.{Accepted}
use Rattle.plate_laws.specs.Lists.{All, all_give, all_both}
use Rattle.work_layout.specs.Laid.{Laid}
use Rattle.work_layout.specs.Parts.{from, KeptBelow, KeptFrom, Cleared}
use Rattle.work_layout.specs.declared.Layout.{Layout}
use Rattle.samples.specs.Chains.{ChainedSamples}
use Rattle.samples.specs.Owners.{OwnedBy}
use Rattle.samples.specs.OwnerLaws.{owned_more}
use Rattle.samples.specs.PlatedSlice.{Plated, plated_kept, from_kept}
use Rattle.samples.specs.Vertices.{vertex_from, vertices_of}
use Rattle.waiting.specs.Holds.{Holds}
use Rattle.waiting.specs.Waits.{AllWait}
use Rattle.prepare.specs.Marks.{MarkedPart}
use Rattle.prepare.specs.PreparedSlices.{Prepared}
use Rattle.prepare.specs.Reset.{first_vertex, Reset}

-- ---- contours by their numbers

-- contour j + i is the one of length i
abbrev pub ByNumber : ℕ → ℕ → List ℕ → Contour → Type 0
ByNumber j v ns c =
    (i : ℕ) × (c.number ≡ j + i) × (i < length ns) × (get_or ns i 0 ≡ suc c.last) × (v + first_vertex ns i ≡ c.first)

numbered_later : (j v n : ℕ) (ns : List ℕ) (c : Contour) → ByNumber (suc j) (v + n) ns c → ByNumber j v (n ∷ ns) c
unfolding first_vertex sum
numbered_later j v n ns c h = (suc h.0, omega (arith, h.1), omega (arith, h.2), h.3, omega (arith, h.4))

numbered : (j v : ℕ) (ns : List ℕ) → All (ByNumber j v ns) (contours_from j v ns)
unfolding contours_from first_vertex sum
numbered j v [] = tt
numbered j v (zero ∷ ns) =
    let e : v + 0 ≡ v = omega arith in
    all_give _ _ (λ c h. numbered_later j v 0 ns c (rw e h)) (contours_from (suc j) v ns) (numbered (suc j) v ns)
numbered j v (suc n ∷ ns) = (
  (0, omega arith, omega arith, refl, omega arith),
  all_give _ _ (λ c h. numbered_later j v (suc n) ns c h) (contours_from (suc j) (v + suc n) ns) (numbered (suc j) (v + suc n) ns),
)

-- what is promised of the slices in the end
pub record SetForStart (xs : List Float) (lengths : List ℕ) (g : SpatialGrid) (lay : Layout) (w : List ℕ) (ds : List Float) (w' : List ℕ) : Type 0 where
  pub prepared : Prepared xs g lay ds w'
  pub held : (p : Plate) → p.points ≡ xs → All (λ c. Holds xs g lay ds w' (waiting p g c)) (contours_from 0 0 lengths)
  pub flags : (k : ℕ) → k < lay.cells → from w' lay.flags k ≡ 0
  pub kept : KeptBelow lay.flags w w'
  pub waits : (j : ℕ) → j < lay.contours → from w' lay.waiting j ≡ get_or lengths j 0

-- ---- the six steps: flags and heads are cleared, samples marked, all wait, caches reset, samples chained

pub record SixSteps (xs : List Float) (lengths : List ℕ) (g : SpatialGrid) (lay : Layout) (w₀ w₁ w₂ w₃ w₄ : List ℕ) (ds : List Float)
    (w₅ w₆ : List ℕ) : Type 0 where
  pub accepted : Accepted xs lengths
  pub plated : Plated xs g lay w₀
  pub contours : lay.contours ≡ length lengths
  pub flags : Cleared lay.flags lay.list w₀ w₁
  pub heads : Cleared lay.heads lay.next w₁ w₂
  pub marked : MarkedPart xs g.cell_size lengths lay w₂ w₃
  pub all : AllWait lengths lay w₃ w₄
  pub reset : Reset lengths lay lay.contours w₄ ds w₅
  pub chained : ChainedSamples xs g lay (from w₅ lay.owners) w₆ 0
  pub above : KeptFrom lay.owners w₅ w₆
  pub below : KeptBelow lay.heads w₅ w₆

module _ {xs : List Float} {lengths : List ℕ} {g : SpatialGrid} {lay : Layout} {w₀ w₁ w₂ w₃ w₄ : List ℕ} {ds : List Float} {w₅ w₆ : List ℕ}
    (s : SixSteps xs lengths g lay w₀ w₁ w₂ w₃ w₄ ds w₅ w₆) where
  laid : Laid lay (length w₀)
  laid = s.plated.laid

  owner_is : (v : ℕ) → v < lay.points → from w₆ lay.owners v ≡ from w₃ lay.owners v
  owner_is v l =
      s.above (lay.owners + v) (omega arith) ∙ s.reset.kept (lay.owners + v) (omega (arith, laid)) (omega (arith, laid))
      ∙ s.all.below (lay.owners + v) (omega (arith, laid))

  -- nothing before the entries was altered by the two steps before the last
  two_below : (i : ℕ) → i < lay.entries → get_or w₅ i 0 ≡ get_or w₃ i 0
  two_below i l = s.reset.below i l ∙ s.all.below i (omega (arith, laid))

  -- each waits by its length
  waits : (j : ℕ) → j < lay.contours → from w₆ lay.waiting j ≡ get_or lengths j 0
  waits j l =
      s.above (lay.waiting + j) (omega (arith, laid)) ∙ s.reset.kept (lay.waiting + j) (omega (arith, laid)) (omega (arith, laid)) ∙ s.all.waits j l

  prepared : length w₆ ≡ length w₀ → lay.contours ≤ length ds → Prepared xs g lay ds w₆
  prepared e room =
      record {
        plated = plated_kept xs g lay w₀ w₆ e s.plated;
        on_plate = s.accepted.on_plate;
        room = room;
        owners = λ v l. omega (arith, owner_is v l, s.marked.most v l);
        chained = rw (from_kept w₅ w₆ lay.owners s.above) s.chained;
      }

  begins_one : (p : Plate) → p.points ≡ xs → (c : Contour) →
      OwnedBy xs g.cell_size (from w₃ lay.owners) lay.points c × ByNumber 0 0 lengths c → Holds xs g lay ds w₆ (waiting p g c)
  unfolding waiting cache
  begins_one p e c h =
      let j = c.number in
      let n = h.1 in
      let i : n.0 ≡ j = omega (arith, n.1) in
      let l : j < lay.contours = omega (arith, n.2) in
      let f : first_vertex lengths j ≡ c.first = subst (λ (k : ℕ). first_vertex lengths k ≡ c.first) i (omega (arith, n.4)) in
      record {
        number = l;
        owned = owned_more _ _ lay.points lay.points _ _ _ h.0 (omega arith) owner_is (λ v a b q. omega arith);
        samples = ap (λ (v : ℕ → Point). samples v g c.last) (sym (ap (λ (ys : List Float). vertex_from ys c.first) (sym e) ∙ vertices_of p c));
        waits = waits j l ∙ ap (λ (k : ℕ). get_or lengths k 0) (sym i) ∙ n.3;
        first = s.above (lay.firsts + j) (omega (arith, laid)) ∙ s.reset.first j l ∙ f;
        squared = s.reset.squared j l;
        entry = s.below (lay.entries + j) (omega (arith, laid)) ∙ s.reset.entry j l ∙ f ∙ sym (add-zero c.first);
      }

  begins : (p : Plate) → p.points ≡ xs → All (λ c. Holds xs g lay ds w₆ (waiting p g c)) (contours_from 0 0 lengths)
  begins p e =
      all_give _ _ (begins_one p e) (contours_from 0 0 lengths) (all_both _ _ (contours_from 0 0 lengths) s.marked.owned (numbered 0 0 lengths))

  no_flags : (k : ℕ) → k < lay.cells → from w₆ lay.flags k ≡ 0
  no_flags k l =
      let i = lay.flags + k in
      s.below i (omega (arith, laid)) ∙ two_below i (omega (arith, laid)) ∙ s.marked.below i (omega (arith, laid)) ∙ s.heads.below i (omega (arith, laid))
      ∙ s.flags.zeros i (omega arith) (omega (arith, laid))

  kept_below : KeptBelow lay.flags w₀ w₆
  kept_below i l =
      s.below i (omega (arith, laid)) ∙ two_below i (omega (arith, laid)) ∙ s.marked.below i (omega (arith, laid)) ∙ s.heads.below i (omega (arith, laid))
      ∙ s.flags.below i l

  pub begun : length w₆ ≡ length w₀ → lay.contours ≤ length ds → SetForStart xs lengths g lay w₀ ds w₆
  begun e room = record { prepared = prepared e room; held = begins; flags = no_flags; kept = kept_below; waits = waits }
