-- Where a recorded path starts. Definitions only.
use Rattle.std.specs.Prelude.{List, ℕ, ◌+◌, cond, eqb, true, false, Option, Some, None}
use Rattle.run_words.specs.Words.{word, float_of}
use Rattle.run_rows.specs.declared.Start.{Start}
use Rattle.run_rows.specs.declared.Start.TheVariants.{Centre, Home}

-- 0 is Outside, 1 is Inside and 2 is Home, whose point stands at word i
abbrev pub start : List ℕ → ℕ → ℕ → ℕ → ℕ → Option Start
start text i width height strategy =
    cond (eqb strategy 0) (Some (Centre width height false))
    (cond (eqb strategy 1) (Some (Centre width height true))
    (cond (eqb strategy 2) (Some (Home (float_of (word text i)) (float_of (word text (i + 1))))) None))
