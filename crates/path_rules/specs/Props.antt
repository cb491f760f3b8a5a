-- Words are labelled in one way.
use Rattle.std.specs.Prelude.{ℕ, List}
use Rattle.std.specs.Coded.{le_prop}
use Rattle.path_rules.specs.PathWords.{Labelled}

pub labelled_prop : (total : ℕ) (work : List ℕ) → IsProp (Labelled total work)
labelled_prop total work a b =
    λ i. record {
      vertices = le_prop a.vertices b.vertices i;
      numbers = λ v h. le_prop (a.numbers v h) (b.numbers v h) i;
    }
