-- The first estimate of a root, right to 20 digits, and its inverse. Assumes nothing.
use Rattle.std.specs.Prelude.{◌≡◌, ℕ, ◌+◌, ◌-◌, ◌*◌, ◌/◌, ◌^◌, ◌≤◌, ◌<◌}
use Rattle.std.proofs.Common.{sym, subst, le_of_lt, lt_of_not-le, lt_irrefl, mul-le-mul, mul-le-mul_right, arith}
use Rattle.rounding.specs.FloorRoot.{sq_lt_back}
use Rattle.first_roots.specs.FirstRoots.{IsFirstRoot, IsReciprocal}
use Rattle.square_root.specs.Above.{AroundRoot, Close, above_root, close, root_upper, root_lower}
use Rattle.square_root.specs.Inverse.{rest_of, product_most, inverse_most, inverse_least}

-- in units of 2^7 `above` is more than the root of n, and 8 less is at most the root; `inverse` is at most 2^45 / above, and little below it
pub record Estimates (n above inverse : ℕ) : Type 0 where
  pub upper : n < above * above * 2 ^ 14
  pub lower : (above - 8) * (above - 8) * 2 ^ 14 ≤ n
  pub inverse_most : above * inverse ≤ 2 ^ 45
  pub inverse_least : 2 ^ 45 ≤ (above - 8) * inverse + 2 ^ 27
  pub least : 2 ^ 23 ≤ above
  pub most : above < 2 ^ 25

-- ---- the estimate that comes from the first root e of n, c being the reciprocal of e + 16

module _ {n e c : ℕ} (L : 2 ^ 60 ≤ n) (H : n < 2 ^ 62) (F : IsFirstRoot (n / 2 ^ 52) e) (R : IsReciprocal (e + 16) c) where
  abbrev above : ℕ
  above = above_root n (e + 16) c

  abbrev rest : ℕ
  rest = rest_of above c

  around : AroundRoot n (e + 16)
  around = go (n / 2 ^ 52) F (omega arith) (omega arith) (omega arith) (omega arith)
    where
      go : (k : ℕ) → IsFirstRoot k e → 256 ≤ k → k < 1024 → k * 2 ^ 52 ≤ n → n < (k + 1) * 2 ^ 52 → AroundRoot n (e + 16)
      go k h l u a b =
          let g : 16384 < e + 1 = sq_lt_back 16384 (e + 1) (omega (arith, h.next)) in
          let s : e < 32768 = sq_lt_back e 32768 (omega (arith, h.square)) in
          let back : e + 16 - 16 ≡ e = omega arith in
          record {
            low = subst (λ (x : ℕ). x * x * 2 ^ 32 ≤ n) (sym back) (omega (arith, h.square));
            high = omega (arith, h.next);
            least = omega arith;
            most = omega arith;
          }

  reciprocal_fits : c < 2 ^ 24
  reciprocal_fits = lt_of_not-le not
    where
      not : 2 ^ 24 ≤ c → ⊥
      not h = let a : 2 ^ 24 * (e + 16) ≤ c * (e + 16) = mul-le-mul_right (e + 16) h in lt_irrefl 0 (omega (arith, R.product, around.least))

  pub first_fits : e + 16 < 2 ^ 15 + 16
  first_fits = omega (arith, around.most)

  pub quotient_fits : n / 2 ^ 30 * c < 2 ^ 64
  quotient_fits = let p : n / 2 ^ 30 ≤ 2 ^ 32 = omega arith in let a : n / 2 ^ 30 * c ≤ 2 ^ 32 * 2 ^ 24 = mul-le-mul p (le_of_lt reciprocal_fits) in omega arith

  root_close : Close (e + 16) above
  root_close = close H around R

  pub product_fits : above * c ≤ 2 ^ 48
  product_fits = omega (arith, product_most root_close R)

  pub rest_fits : c * rest < 2 ^ 64
  rest_fits = let r : rest ≤ 2 ^ 32 = omega arith in let a : c * rest ≤ 2 ^ 24 * 2 ^ 32 = mul-le-mul (le_of_lt reciprocal_fits) r in omega arith

  pub estimates : Estimates n above (c * rest / 2 ^ 33)
  estimates =
      record {
        upper = root_upper H around R;
        lower = root_lower H around R;
        inverse_most = inverse_most root_close R;
        inverse_least = inverse_least root_close R;
        least = omega (arith, root_close.least, around.least);
        most = omega (arith, root_close.most, around.most);
      }
