-- One contour more in order: the work slice and the definitions' order go together. Assumes nothing.
use mathlib.Core.Path.{◌≡◌, refl, sym, ap, ap₂, ◌∙◌}
use mathlib.Core.List.{List, [], ◌∷◌, ◌++◌, map, append_assoc, append-nil}
use mathlib.Core.Option.{none, some}
use Prim.Native.Nat.{ℕ, zero, suc, ◌+◌, ◌-◌, ◌<◌, ◌≤◌}
use native.Mathlib.Omega.{arith}
use native.Mathlib.Decide.{dec_lt}
use mathlib.Core.Logic.{inl, inr}
use lib.ListN.{length, get_or, take, drop, length-map, length-append, length-take, length-drop}
use Rattle.std.proofs.lemmas.List.{take-map, drop-map, map-append, get_or-map}
use lib.Seq.{take_at, drop_at, take-append-le, drop-append-le, drop-drop}
use Rattle.rules.specs.Tools.{foremost}
use Rattle.rules.specs.HandedOver.{Plate, Contour, contours}
use Rattle.rules.specs.Start.{Oriented, layer_of, start}
use Rattle.rules.specs.OrderAndStraight.{last_end, nearer_sense, nearer_end, contour_number, order_after, order_from, order_of, order}
use Rattle.rules.specs.Contours.{Among}
use Rattle.rules.specs.declared.Point.{Point}
use Rattle.plate_laws.specs.Lists.{All, all-at, all_without}
use Rattle.plate_laws.specs.Layers.{foremost_has}
use Rattle.plate_laws.specs.Contours.{Rising, others, others_at, rising_without, contours_rise}
use Rattle.plate_laws.specs.AcceptedInput.{Accepted}
use Rattle.plate_laws.specs.OrderTotals.{all_nearer, after_next}
use Rattle.packed_contours.specs.PackedNumbers.{packed, packed_sense, InLengths}
use Rattle.packed_contours.specs.Contours.{all_placed}
use Rattle.optimize.specs.State.{State, Whole}
use Rattle.optimize.proofs.Scan.{blank}

-- ---- a packed contour is one contour

contour_same : (a b : Contour) → a.number ≡ b.number → a.first ≡ b.first → a.last ≡ b.last → a ≡ b
contour_same a b x y z = let r : a ≡ record { number = b.number; first = b.first; last = b.last } = rw (← x, ← y, ← z) refl in r

packed_same : {ns : List ℕ} {a b : Contour} → InLengths ns a → InLengths ns b → packed a ≡ packed b → a ≡ b
unfolding packed
packed_same {ns = ns} {a = a} {b = b} h k e =
    let p = h.small in
    let q = k.small in
    let x : a.number ≡ b.number = omega arith in
    let y : a.first ≡ b.first = omega arith in
    let l : a.last + 1 ≡ b.last + 1 = sym h.long ∙ ap (λ (j : ℕ). get_or ns j 0) x ∙ k.long in
    contour_same a b x y (omega arith)

-- ---- the number at place k of the second part is put behind the first

taken : (us bs ds : List ℕ) (s k word : ℕ) → length us ≡ s → k < length bs →
    take s (us ++ (bs ++ ds)) ++ (word ∷ (take (s + k - s) (drop s (us ++ (bs ++ ds))) ++ drop (s + k + 1) (us ++ (bs ++ ds))))
    ≡ (us ++ (word ∷ [])) ++ ((take k bs ++ drop (suc k) bs) ++ ds)
taken us bs ds s k word e h =
    let w : List ℕ = us ++ (bs ++ ds) in
    let x : drop s w ≡ bs ++ ds = drop_at us (bs ++ ds) s e in
    let i : s + k - s ≡ k = omega arith in
    let j : s + k + 1 ≡ s + suc k = omega arith in
    let front : take s w ≡ us = take_at us (bs ++ ds) s e in
    let middle : take (s + k - s) (drop s w) ≡ take k bs = ap₂ (λ (n : ℕ) (ws : List ℕ). take n ws) i x ∙ take-append-le k bs ds (omega arith) in
    let back : drop (s + k + 1) w ≡ drop (suc k) bs ++ ds =
    ap (λ (n : ℕ). drop n w) j ∙ sym (drop-drop (suc k) s w) ∙ ap (drop (suc k)) x ∙ drop-append-le (suc k) bs ds (omega arith) in
    ap₂ (λ (u v : List ℕ). u ++ (word ∷ v)) front (ap₂ (λ (u v : List ℕ). u ++ v) middle back)
    ∙ ap (λ (v : List ℕ). us ++ (word ∷ v)) (sym (append_assoc (take k bs) (drop (suc k) bs) ds))
    ∙ sym (append_assoc us (word ∷ []) ((take k bs ++ drop (suc k) bs) ++ ds))

-- ---- maps of parts

-- those that are left when the one at place k is taken out
left_words : (cs : List Contour) {k : ℕ} {c : Contour} → Rising cs → k < length cs → get_or cs k blank ≡ c →
    take k (map packed cs) ++ drop (suc k) (map packed cs) ≡ map packed (others c cs)
left_words cs {k = k} r h e =
    ap₂ (λ (u v : List ℕ). u ++ v) (take-map packed k cs) (drop-map packed (suc k) cs)
    ∙ sym (map-append packed (take k cs) (drop (suc k) cs))
    ∙ ap (map packed) (sym (others_at blank cs k r h) ∙ ap (λ (d : Contour). others d cs) e)

left_length : (cs : List Contour) {k : ℕ} {c : Contour} → Rising cs → k < length cs → get_or cs k blank ≡ c → length (others c cs) + 1 ≡ length cs
left_length cs {k = k} r h e =
    ap (λ (ds : List Contour). length ds + 1) (ap (λ (d : Contour). others d cs) (sym e) ∙ others_at blank cs k r h) ∙ simp (length-append, length-take, length-drop) (omega arith)

-- ---- the definitions' order

pub winner_placed : (p : Plate) {ns : List ℕ} (q : Point) (cs : List Contour) {t : Oriented} → All (InLengths ns) cs →
    foremost (layer_of p) nearer_end (map (nearer_sense p q) cs) ≡ some t → InLengths ns t.contour
winner_placed p {ns = ns} q cs {t = t} a e =
    foremost_has (layer_of p) nearer_end (λ (s : Oriented). InLengths ns s.contour) (map (nearer_sense p q) cs) (all_nearer (InLengths ns) p q cs a) t e

-- where none wins, the order ends
order_ends : (p : Plate) (m : ℕ) (cs : List Contour) (s : Oriented) → foremost (layer_of p) nearer_end (map (nearer_sense p (last_end p s)) cs) ≡ none → order_after p m cs s ≡ []
unfolding order_after
order_ends p zero cs s e = refl
order_ends p (suc m) cs s e = rw (e, order_after)

order_done : (p : Plate) (cs : List Contour) (s : Oriented) → order_after p 0 cs s ≡ []
unfolding order_after
order_done p cs s = refl

-- ---- the next contour

module _ {p : Plate} {words : List ℕ} {n done : ℕ} {last : Oriented} (st : State p words n done last) where
  pub waiting_words : take (n - done) (drop done words) ≡ map packed st.left
  waiting_words =
      let k : n - done ≡ length (map packed st.left) = omega (arith, st.total, length-map st.left packed) in
      ap₂ (λ (j : ℕ) (ws : List ℕ). take j ws) k
      (ap (drop done) st.parts ∙ drop_at (map packed_sense st.ordered) (map packed st.left ++ st.tail) done (length-map st.ordered packed_sense ∙ sym st.count))
      ∙ take_at (map packed st.left) st.tail (length (map packed st.left)) refl

  pub next_state : {i : ℕ} {t : Oriented} {after : List ℕ} → i < length st.left → get_or (map packed st.left) i 0 ≡ packed t.contour →
      foremost (layer_of p) nearer_end (map (nearer_sense p (last_end p last)) st.left) ≡ some t →
      after ≡ take done words ++ (packed_sense t ∷ (take (done + i - done) (drop done words) ++ drop (done + i + 1) words)) →
      State p after n (done + 1) t
  next_state {i = i} {t = t} h e w f =
      let cs = st.left in
      let k = winner_placed p (last_end p last) cs st.placed w in
      let c : get_or cs i blank ≡ t.contour =
      packed_same (all-at (InLengths p.lengths) blank cs st.placed i h) k (sym (get_or-map packed cs i blank 0 h) ∙ e) in
      let l = left_length cs st.rising h c in
      let m : length cs ≡ suc (length (others t.contour cs)) = omega arith in
      record {
        ordered = st.ordered ++ (t ∷ []);
        left = others t.contour cs;
        tail = st.tail;
        count = omega (arith, st.count, length-append st.ordered (t ∷ []));
        total = omega (arith, st.total, l);
        parts =
            f
            ∙ ap (λ (ws : List ℕ). take done ws ++ (packed_sense t ∷ (take (done + i - done) (drop done ws) ++ drop (done + i + 1) ws))) st.parts
            ∙ taken (map packed_sense st.ordered) (map packed cs) st.tail done i (packed_sense t) (length-map st.ordered packed_sense ∙ sym st.count) (omega (arith, length-map cs packed))
            ∙ ap₂ (λ (u v : List ℕ). u ++ (v ++ st.tail)) (sym (map-append packed_sense st.ordered (t ∷ []))) (left_words cs st.rising h c);
        result =
            st.result
            ∙ ap (λ (j : ℕ). st.ordered ++ order_after p j cs last) m
            ∙ ap (λ (ss : List Oriented). st.ordered ++ ss) (after_next p (length (others t.contour cs)) cs last t w)
            ∙ sym (append_assoc st.ordered (t ∷ []) (order_after p (length (others t.contour cs)) (others t.contour cs) t));
        rising = rising_without t.contour.number cs st.rising;
        placed = all_without (InLengths p.lengths) contour_number t.contour.number cs st.placed;
        at = k;
      }

-- ---- the first contour

among_at : (c : Contour) (cs : List Contour) → Among c cs → (j : ℕ) × (j < length cs) × (get_or cs j blank ≡ c)
among_at c [] m = absurd m
among_at c (d ∷ ds) (inl e) = (0, omega arith, e)
among_at c (d ∷ ds) (inr m) = let w = among_at c ds m in let h = w.1 in (suc w.0, omega arith, w.2)

-- a search that passed none of the places of c has not passed them all
pub before_end : (c : Contour) (cs : List Contour) (r : ℕ) → Among c cs → ((j : ℕ) → j < r → get_or (map packed cs) j 0 ≡ packed c → ⊥) → r < length cs
before_end c cs r m f =
    let w = among_at c cs m in
    go (dec_lt w.0 r) w.1 (get_or-map packed cs w.0 blank 0 w.1 ∙ ap packed w.2)
  where
    go : {j : ℕ} → Dec (j < r) → j < length cs → get_or (map packed cs) j 0 ≡ packed c → r < length cs
    go {j} (yes h) l e = absurd (f j h e)
    go {j} (no h) l e = omega arith

pub first_state : {p : Plate} {words : List ℕ} (tail : List ℕ) {n k : ℕ} {s : Oriented} {after : List ℕ} → Accepted p.points p.lengths →
    words ≡ map packed (contours p) ++ tail → n ≡ length (contours p) → start p ≡ some s → InLengths p.lengths s.contour →
    k < length (contours p) → get_or (map packed (contours p)) k 0 ≡ packed s.contour →
    after ≡ take 0 words ++ (packed_sense s ∷ (take (k - 0) (drop 0 words) ++ drop (k + 1) words)) →
    State p after n 1 s
unfolding order order_of order_from
first_state {p = p} {words = words} tail {k = k} {s = s} a e m b q h g f =
    let cs = contours p in
    let r = contours_rise p in
    let c : get_or cs k blank ≡ s.contour =
    packed_same (all-at (InLengths p.lengths) blank cs (all_placed p a) k h) q (sym (get_or-map packed cs k blank 0 h) ∙ g) in
    let l = left_length cs r h c in
    let i : k - 0 ≡ 0 + k - 0 = omega arith in
    let j : k + 1 ≡ 0 + k + 1 = omega arith in
    record {
      ordered = s ∷ [];
      left = others s.contour cs;
      tail = tail;
      count = refl;
      total = omega (arith, l);
      parts =
          f
          ∙ ap₂ (λ (x y : ℕ). take 0 words ++ (packed_sense s ∷ (take x (drop 0 words) ++ drop y words))) i j
          ∙ ap (λ (ws : List ℕ). take 0 ws ++ (packed_sense s ∷ (take (0 + k - 0) (drop 0 ws) ++ drop (0 + k + 1) ws))) e
          ∙ taken [] (map packed cs) tail 0 k (packed_sense s) refl (omega (arith, length-map cs packed))
          ∙ ap (λ (v : List ℕ). (packed_sense s ∷ []) ++ (v ++ tail)) (left_words cs r h c);
      result = rw (b) refl;
      rising = rising_without s.contour.number cs r;
      placed = all_without (InLengths p.lengths) contour_number s.contour.number cs (all_placed p a);
      at = q;
    }

-- ---- the whole order

module _ {p : Plate} {words : List ℕ} {n done : ℕ} {last : Oriented} (st : State p words n done last) where
  whole : order_after p (length st.left) st.left last ≡ [] → Whole p words done
  whole e =
      let r : order p ≡ st.ordered = st.result ∙ ap (λ (ss : List Oriented). st.ordered ++ ss) e ∙ append-nil st.ordered in (
        st.count ∙ ap length (sym r),
        ap (take done) st.parts
            ∙ take_at (map packed_sense st.ordered) (map packed st.left ++ st.tail) done (length-map st.ordered packed_sense ∙ sym st.count)
            ∙ ap (map packed_sense) (sym r),
      )

  -- no contour waits
  pub whole_order : n ≤ done → Whole p words done
  whole_order h =
      let e : length st.left ≡ 0 = omega (arith, st.total) in
      whole (ap (λ (m : ℕ). order_after p m st.left last) e ∙ order_done p st.left last)

  -- none of those that wait takes part
  pub order_stops : foremost (layer_of p) nearer_end (map (nearer_sense p (last_end p last)) st.left) ≡ none → Whole p words done
  order_stops e = whole (order_ends p (length st.left) st.left last e)

pub no_order : (p : Plate) → start p ≡ none → order p ≡ []
unfolding order order_of
no_order p e = rw e
