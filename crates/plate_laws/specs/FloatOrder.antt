-- The order of finite floats whose sign is plus. Assumes nothing.
use Rattle.std.specs.Prelude.{◌≡◌, refl, true, false, ◌||◌, ◌&&◌, ℕ, ◌*◌, ◌≤◌, T, ltb, eqb, Float}
use Rattle.std.proofs.Common.{inl, inr, le_of_lt, le_of_eq, le_refl, le-ltb, ltb→lt, eqb→eq}
use Rattle.std.specs.Float.{nan, inf, fin}
use Rattle.std.specs.Float.Ieee.{lt, up, down}
use Rattle.std.proofs.Math.Facts.{and_yes, or_yes}

-- finite, and its sign is plus
abbrev pub Plus : Float → Type 0
Plus nan = ⊥
Plus (inf s) = ⊥
Plus (fin true m e) = ⊥
Plus (fin false m e) = Unit {0}

-- what `lt` or `eq`, as they compute where both signs are plus, say of the two numbers
pub le_cross : (a b : ℕ) → T (ltb a b || (eqb a b && true)) → a ≤ b
le_cross a b t =
    elim (or_yes (ltb a b) (eqb a b && true) t) [
      | inl h ↦ le_of_lt (ltb→lt a b h)
      | inr h ↦ le_of_eq (eqb→eq a b (and_yes (eqb a b) true h).0)
    ]

-- no float is below itself
pub lt_self : (x : Float) → lt x x ≡ false
unfolding lt
lt_self nan = refl
lt_self (inf true) = refl
lt_self (inf false) = refl
lt_self (fin true m e) = le-ltb _ _ (le_refl (m * up e * down e))
lt_self (fin false m e) = le-ltb _ _ (le_refl (m * up e * down e))
