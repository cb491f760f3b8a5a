-- The path statement (demand 3, with the touches of document 02): the path that the retrace call wrote is divided by its marks, by the vertices of the plate's own
-- contours and in its own grid; and the layers along the path (document 02, ticket 9). What a division is stands in Division. Definitions only; the last three are
-- what is to be proved.
use Rattle.std.specs.Prelude.{◌≡◌, List, ◌++◌, ℕ, ◌*◌, ◌≤◌, ◌<◌, length, take, drop, Float}
use Rattle.rules.specs.HandedOver.{Plate, Contour, at, contours, layer_at, gives}
use Rattle.rules.specs.Contours.{contour_count, IsContour, Of}
use Rattle.rules.specs.GridAndNearest.{grid_of}
use Rattle.rules.specs.Retrace.{retrace}
use Rattle.rules.specs.Marks.{cut_kind, back_step_kind, jump_kind, touch_kind, coordinates, vertices, marks, marks_of, kind_at, reference_at, vertex_in}
use Rattle.rules.specs.Calls.{path_totals, retrace_call}
use Rattle.rules.specs.declared.Totals.{Totals}
use Rattle.statement.specs.Division.{itself, NotEntered, Division, NineCells}

-- ---- the whole path: its coordinates, its division and its counts

pub record Divides (p : Plate) (c : Totals) (path : List Float) (ms : List ℕ) : Type 0 where
  pub whole : length path ≡ 2 * c.points
  -- each path point has its vertex's coordinates
  pub coordinates : (k : ℕ) → k < c.points → at path k ≡ at p.points (vertex_in ms k)
  -- by its vertices the path is divided into cuts, back-steps, jumps and touches
  pub division :
      Division (contours p) (λ i. at p.points (vertex_in ms i)) itself (vertex_in ms) (NotEntered (vertex_in ms)) c.points ms
  -- in the plate's grid none in the nine cells around a landing is nearer than the point left
  pub nine_cells : NineCells (grid_of p.box) (λ i. at p.points (vertex_in ms i)) c.points ms
  -- the counts are those of the marks
  pub kinds :
      (c.cuts ≡ marks_of cut_kind ms)
      × (c.back_steps ≡ marks_of back_step_kind ms)
      × (c.jumps ≡ marks_of jump_kind ms)
      × (c.touches ≡ marks_of touch_kind ms)

-- ---- the layers along the path

-- Path point k is new on contour c: its mark lands on a vertex of c, or cuts a segment of c. A back-step draws nothing.
pub record Draws (p : Plate) (ms : List ℕ) (k : ℕ) (c : Contour) : Type 0 where
  pub contour : IsContour p c
  pub new : kind_at ms k ≡ back_step_kind → ⊥
  pub of : Of c (reference_at ms k)

-- among the first n path points the layers of what is cut, and of what is entered, never fall
unfoldable pub NeverFall : Plate → ℕ → List ℕ → Type 0
NeverFall p n ms = (i j : ℕ) → i < j → j < n → (c d : Contour) → Draws p ms i c → Draws p ms j d → layer_at p c ≤ layer_at p d

-- What the retrace call finishes, with one contour or more: path and marks are those of the documents' rules, and they divide as said.
unfoldable pub PathStatement : Type 0
PathStatement =
    (p : Plate) (path : List Float) (ms : List ℕ) (w d : ℕ) (c : Totals) →
    let o = retrace_call p path ms w d in
    let r = retrace p in
    o.answer ≡ gives c →
    1 ≤ contour_count p →
    (c ≡ path_totals p r)
    × (o.path ≡ coordinates p.points (vertices r) ++ drop (2 * c.points) path)
    × (o.marks ≡ marks r ++ drop (2 * c.points) ms)
    × Divides p c (take (2 * c.points) o.path) (take (2 * c.points) o.marks)

-- with no contour all is 0
unfoldable pub BlankStatement : Type 0
BlankStatement =
    (p : Plate) (path : List Float) (ms : List ℕ) (w d : ℕ) (c : Totals) →
    (retrace_call p path ms w d).answer ≡ gives c →
    contour_count p ≡ 0 →
    c ≡ record { points = 0; cuts = 0; back_steps = 0; jumps = 0; touches = 0; cut_length = 0; back_step_length = 0; jump_length = 0 }

-- along every path that it finishes the layers never fall
unfoldable pub LayerStatement : Type 0
LayerStatement =
    (p : Plate) (path : List Float) (ms : List ℕ) (w d : ℕ) (c : Totals) →
    let o = retrace_call p path ms w d in
    o.answer ≡ gives c →
    NeverFall p c.points (take (2 * c.points) o.marks)
