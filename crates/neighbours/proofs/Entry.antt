-- One cell is listed: nothing is written where it carries this turn's flag, else its flag and a new last entry. Assumes nothing.
use mathlib.Core.Path.{◌≡◌, refl, sym, ap, subst, ◌∙◌}
use mathlib.Core.Bool.{true, false, ◌||◌}
use mathlib.Core.List.{List, [], ◌∷◌, ◌++◌}
use Prim.Native.Nat.{ℕ, suc, ◌+◌, ◌≤◌, ◌<◌}
use native.Mathlib.Decide.{ℕ_discrete}
use native.Mathlib.Numerals.{add-one}
use native.Mathlib.Omega.{arith}
use lib.Dec.{eqb}
use lib.ListN.{length, get_or, set, drop, length-set, length-drop}
use lib.Seq.{get_or-set_same, get_or-set_other, drop-set-add, drop-set-lt, take-suc-set}
use borrow.Author.Tests.{eq-eqb, ne_eqb}
use Rattle.std.proofs.Math.Bool.{or-false, or-true}
use Rattle.std.proofs.lemmas.List.Recursion.{or_push}
use Rattle.rules.specs.Tools.{pick}
use Rattle.rules.specs.SamplesAndCache.{met, listed}
use Rattle.work_layout.specs.Laid.{Laid}
use Rattle.work_layout.specs.declared.Layout.{Layout}
use Rattle.neighbours.specs.CellList.{list_of, flagged, Listing, Lists}
use Rattle.neighbours.proofs.ListCounts.{tally_none, tally_more, tally_room}

met_snoc : (cs : List ℕ) (x c : ℕ) → met (cs ++ (x ∷ [])) c ≡ (met cs c || eqb x c)
unfolding met
met_snoc cs x c = or_push (λ ds. met ds c) (λ y. eqb y c) refl (λ y ys. refl) cs x

-- no cell is listed
pub listing_none : (lay : Layout) (w : List ℕ) (turn : ℕ) → Laid lay (length w) → ((c : ℕ) → c < lay.cells → get_or w (lay.flags + c) 0 < turn) →
    Listing lay w turn 0
unfolding flagged list_of met
listing_none lay w turn l h =
    record {
      laid = l;
      met_is = none;
      counted = sym (tally_none (flagged lay w turn) lay.cells none);
      inside = λ i g. absurd (omega arith);
      most = λ c g. let k = h c g in omega arith;
    }
  where
    none : (c : ℕ) → c < lay.cells → flagged lay w turn c ≡ false
    none c g = let k = h c g in ne_eqb (get_or w (lay.flags + c) 0) turn (λ e. omega arith)

module _ (lay : Layout) (w : List ℕ) (turn n cell : ℕ) (h : Listing lay w turn n) (l : cell < lay.cells) where
  pub list_found : get_or w (lay.flags + cell) 0 ≡ turn → Lists lay turn w n w n (λ cs. listed cs cell)
  unfolding listed pick flagged
  list_found e =
      let m : met (list_of lay w n) cell ≡ true = sym (h.met_is cell l) ∙ eq-eqb (get_or w (lay.flags + cell) 0) turn e in
      record { listing = h; list = rw m; below = λ i g. refl; above = λ i g. refl }

  abbrev flags' : List ℕ
  flags' = set w (lay.flags + cell) turn

  abbrev longer : List ℕ
  longer = set flags' (lay.list + n) cell

  module _ (new : get_or w (lay.flags + cell) 0 ≡ turn → ⊥) where
    not_flagged : flagged lay w turn cell ≡ false
    unfolding flagged
    not_flagged = ne_eqb (get_or w (lay.flags + cell) 0) turn new

    pub list_room : n < lay.cells
    list_room = subst (λ (k : ℕ). k < lay.cells) (sym h.counted) (tally_room (flagged lay w turn) lay.cells cell l not_flagged)

    flag_same : get_or longer (lay.flags + cell) 0 ≡ turn
    flag_same =
        get_or-set_other flags' (lay.list + n) (lay.flags + cell) cell 0 (λ e. omega (arith, h.laid))
        ∙ get_or-set_same w (lay.flags + cell) turn 0 (omega (arith, h.laid))

    flag_other : (c : ℕ) → (c ≡ cell → ⊥) → c < lay.cells → get_or longer (lay.flags + c) 0 ≡ get_or w (lay.flags + c) 0
    flag_other c d g =
        get_or-set_other flags' (lay.list + n) (lay.flags + c) cell 0 (λ e. omega (arith, h.laid))
        ∙ get_or-set_other w (lay.flags + cell) (lay.flags + c) turn 0 (λ e. d (omega arith))

    list_is : list_of lay longer (n + 1) ≡ list_of lay w n ++ (cell ∷ [])
    unfolding list_of
    list_is =
        rw (add-one n, drop-set-add lay.list flags' n cell, drop-set-lt lay.list w (lay.flags + cell) turn (omega (arith, h.laid)))
        (take-suc-set (drop lay.list w) n cell (simp length-drop (omega (arith, h.laid, list_room))))

    listing_is : Listing lay longer turn (n + 1)
    unfolding flagged
    listing_is =
        record {
          laid = subst (Laid lay) (sym (length-set flags' (lay.list + n) cell ∙ length-set w (lay.flags + cell) turn)) h.laid;
          met_is = λ c g. rw (list_is, met_snoc (list_of lay w n) cell c) (one c g (ℕ_discrete c cell));
          counted =
              add-one n ∙ ap suc h.counted
              ∙ sym (tally_more (flagged lay w turn) (flagged lay longer turn) lay.cells cell l not_flagged (eq-eqb _ turn flag_same)
              (λ b g d. ap (λ (x : ℕ). eqb x turn) (flag_other b d g)));
          inside = λ i g. place i g (ℕ_discrete i n);
          most = λ c g. upto c g (ℕ_discrete c cell);
        }
      where
        one : (c : ℕ) → c < lay.cells → Dec (c ≡ cell) → eqb (get_or longer (lay.flags + c) 0) turn ≡ (met (list_of lay w n) c || eqb cell c)
        one c g (yes e) = rw (e, flag_same, eq-eqb turn turn refl, eq-eqb cell cell refl) (sym (or-true (met (list_of lay w n) cell)))
        one c g (no e) = rw (flag_other c e g, ne_eqb cell c (λ f. e (sym f))) (h.met_is c g ∙ sym (or-false (met (list_of lay w n) c)))

        place : (i : ℕ) → i < n + 1 → Dec (i ≡ n) → get_or longer (lay.list + i) 0 < lay.cells
        place i g (yes e) = rw (e, get_or-set_same flags' (lay.list + n) cell 0 (simp length-set (omega (arith, h.laid, list_room)))) l
        place i g (no e) =
            rw (
              get_or-set_other flags' (lay.list + n) (lay.list + i) cell 0 (λ f. e (omega arith)),
              get_or-set_other w (lay.flags + cell) (lay.list + i) turn 0 (λ f. omega (arith, h.laid)),
            )
            (h.inside i (omega arith))

        upto : (c : ℕ) → c < lay.cells → Dec (c ≡ cell) → get_or longer (lay.flags + c) 0 ≤ turn
        upto c g (yes e) = rw (e, flag_same) (omega arith)
        upto c g (no e) = rw (flag_other c e g) (h.most c g)

    pub list_new : Lists lay turn w n longer (n + 1) (λ cs. listed cs cell)
    unfolding listed pick
    list_new =
        let m : met (list_of lay w n) cell ≡ false = sym (h.met_is cell l) ∙ not_flagged in
        record {
          listing = listing_is;
          list = rw (m, list_is);
          below = λ i g.
              get_or-set_other flags' (lay.list + n) i cell 0 (λ e. omega (arith, h.laid))
              ∙ get_or-set_other w (lay.flags + cell) i turn 0 (λ e. omega arith);
          above = λ i g.
              get_or-set_other flags' (lay.list + n) i cell 0 (λ e. omega (arith, h.laid, list_room))
              ∙ get_or-set_other w (lay.flags + cell) i turn 0 (λ e. omega (arith, h.laid));
        }
