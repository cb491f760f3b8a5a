-- Limits of the documents that several files name. Definitions only.
use Rattle.std.specs.Prelude.{ℕ}

-- M, and P, of a plate; so a vertex has at most the number below
abbrev pub most_contours : ℕ
most_contours = 4096

abbrev pub most_points : ℕ
most_points = 65536

abbrev pub highest_vertex : ℕ
highest_vertex = 65535

-- how many points a path may have
abbrev pub most_path_points : ℕ
most_path_points = 1048576

-- A grid has at most 54 columns and as many rows.
abbrev pub most_cells_along : ℕ
most_cells_along = 54

abbrev pub most_cells : ℕ
most_cells = 2916

-- what the retrace call's u32 work slice has beside what grows with room, points and contours
abbrev pub fixed_work : ℕ
fixed_work = 16384
