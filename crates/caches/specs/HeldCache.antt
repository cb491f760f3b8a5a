-- What the slices hold of a contour's cache: the squared distance, and the entry as a vertex number of the whole slice. The cached place is in no
-- slice, since nothing reads it. Definitions only.
use Rattle.std.specs.Prelude.{List, ℕ, ◌+◌, Float, get_or}
use Rattle.std.specs.Float.{nan}
use Rattle.std.specs.Float.Ieee.{lt}
use Rattle.rules.specs.Tools.{pick}
use Rattle.rules.specs.SamplesAndCache.{Cache}
use Rattle.rules.specs.declared.Nearest.{Nearest}
use Rattle.rules.specs.declared.Nearest.TheVariants.{Found, Nothing}
use Rattle.work_layout.specs.Parts.{from}
use Rattle.work_layout.specs.declared.Layout.{Layout}

pub record Held : Type 0 where
  pub squared : Float
  pub entry : ℕ

unfoldable pub held : Float → ℕ → Held
held d v = record { squared = d; entry = v }

-- of contour j
unfoldable pub held_at : Layout → List Float → List ℕ → ℕ → Held
held_at lay ds w j = held (get_or ds j nan) (from w lay.entries j)

-- of a contour whose vertex 0 has the vertex number `first`
unfoldable pub held_of : ℕ → Cache → Held
held_of first k = held k.squared (first + k.entry)

-- after the answer at vertex v: replacement needs a strictly smaller distance
unfoldable pub replaced : Held → ℕ → Nearest → Held
replaced k v Nothing = k
replaced k v (Found place d) = pick (lt d k.squared) (held d v) k
