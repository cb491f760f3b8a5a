-- How the parts lie in the slice, and a law. Assumes nothing.
use Rattle.std.specs.Prelude.{ℕ, ◌+◌, ◌≤◌}
use Rattle.std.proofs.Common.{arith}
use Rattle.rules.specs.Limits.{most_cells, most_contours, most_points}
use Rattle.work_layout.specs.declared.Layout.{Layout}

-- the parts, one after another, in a slice of n numbers
pub record Laid (lay : Layout) (n : ℕ) : Type 0 where
  pub flags : lay.flags + lay.cells ≤ lay.list
  pub list : lay.list + lay.cells ≤ lay.entries
  pub entries : lay.entries + lay.contours ≤ lay.heads
  pub heads : lay.heads + lay.cells ≤ lay.next
  pub next : lay.next + lay.points ≤ lay.owners
  pub owners : lay.owners + lay.points ≤ lay.waiting
  pub waiting : lay.waiting + lay.contours ≤ lay.firsts
  pub firsts : lay.firsts + lay.contours ≤ n
  pub points_small : lay.points ≤ most_points
  pub cells_small : lay.cells ≤ most_cells
  pub contours_small : lay.contours ≤ most_contours

-- in a longer slice too
pub laid_longer : (lay : Layout) (n m : ℕ) → n ≤ m → Laid lay n → Laid lay m
laid_longer lay n m l h =
    record {
      flags = h.flags;
      list = h.list;
      entries = h.entries;
      heads = h.heads;
      next = h.next;
      owners = h.owners;
      waiting = h.waiting;
      firsts = omega (arith, h.firsts);
      points_small = h.points_small;
      cells_small = h.cells_small;
      contours_small = h.contours_small;
    }
