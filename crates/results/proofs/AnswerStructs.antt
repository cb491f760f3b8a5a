-- The struct of an answer, by its number and place and what it carries. Assumes nothing.
use Rattle.std.proofs.Common.{◌≡◌, refl, ℕ, Bool, true, false}
use Rattle.std.specs.Prelude.{pos, Float}
use Rattle.std.specs.Float.{fin}
use Rattle.std.specs.Int.{from_bool}
use Rattle.rules.specs.Tools.{pick}
use Rattle.rules.specs.HandedOver.{Answer, gives, refuses}
use Rattle.rules.specs.declared.Totals.{Totals}
use Rattle.results.specs.Results.{told, distance_result, start_result, order_result, straight_result, retrace_result, write_result, read_result}

pub order_told : (a : Answer ℕ) → let t = told a 0 in record { number = t.0; place = t.1; entries = t.2 } ≡ order_result a
unfolding told order_result
order_told (gives m) = refl
order_told (refuses n k) = refl

pub straight_told : (a : Answer ℕ) → let t = told a 0 in record { number = t.0; place = t.1; points = t.2 } ≡ straight_result a
unfolding told straight_result
straight_told (gives m) = refl
straight_told (refuses n k) = refl

pub write_told : (a : Answer ℕ) → let t = told a 0 in record { number = t.0; place = t.1; bytes = t.2 } ≡ write_result a
unfolding told write_result
write_told (gives m) = refl
write_told (refuses n k) = refl

pub read_told : (a : Answer ℕ) → let t = told a 0 in record { number = t.0; place = t.1; points = t.2 } ≡ read_result a
unfolding told read_result
read_told (gives m) = refl
read_told (refuses n k) = refl

pub distance_told :
    (a : Answer (Float × Float)) → let zero = fin false 0 (pos 0) in
    let t = told a (zero, zero) in record { number = t.0; place = t.1; squared = t.2.0; plain = t.2.1 } ≡ distance_result a
unfolding told distance_result
distance_told (gives d) = refl
distance_told (refuses n k) = refl

pub start_told :
    (a : Answer (ℕ × Bool)) →
    let t = told a (0, false) in record { number = t.0; place = t.1; contour = t.2.0; reversed = from_bool t.2.1 } ≡ start_result a
unfolding told start_result pick
start_told (gives (n, true)) = refl
start_told (gives (n, false)) = refl
start_told (refuses n k) = refl

-- totals of a refusal
abbrev pub Zeros : Totals → Type 0
Zeros z =
    (z.points ≡ 0)
    × ((z.cuts ≡ 0)
    × ((z.back_steps ≡ 0)
    × ((z.jumps ≡ 0) × ((z.touches ≡ 0) × ((z.cut_length ≡ 0) × ((z.back_step_length ≡ 0) × (z.jump_length ≡ 0)))))))

pub retrace_told :
    (a : Answer Totals) (z : Totals) → Zeros z →
    let t = told a z in
    record {
      number = t.0;
      place = t.1;
      points = t.2.points;
      cuts = t.2.cuts;
      back_steps = t.2.back_steps;
      jumps = t.2.jumps;
      touches = t.2.touches;
      cut_length = t.2.cut_length;
      back_step_length = t.2.back_step_length;
      jump_length = t.2.jump_length;
    } ≡ retrace_result a
unfolding told retrace_result
retrace_told (gives c) z e = refl
retrace_told (refuses n k) z (points, (cuts, (back_steps, (jumps, (touches, (cut_length, (back_step_length, jump_length))))))) =
    λ i. record {
      number = n;
      place = k;
      points = points i;
      cuts = cuts i;
      back_steps = back_steps i;
      jumps = jumps i;
      touches = touches i;
      cut_length = cut_length i;
      back_step_length = back_step_length i;
      jump_length = jump_length i;
    }
