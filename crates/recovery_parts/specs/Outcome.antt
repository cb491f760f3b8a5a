-- What the writing of contours answers. Assumes nothing.
use Rattle.std.specs.Prelude.{◌≡◌, List, [], ◌∷◌, ℕ, ◌*◌, ◌<◌, ◌≤◌, Float, length}
use Rattle.std.proofs.Common.{arith}
use Rattle.std.proofs.lemmas.Bool.{lt-ltb, le-ltb}
use Rattle.rules.specs.Tools.{pick}
use Rattle.rules.specs.HandedOver.{Answer, gives, refuses, refused_by, no_room}
use Rattle.rules.specs.declared.Recovered.{Recovered}
use Rattle.contour_recovery.specs.ContourRecovery.{recovered_points, recovered_lengths, is_segment_cut}
use Rattle.recovery_laws.specs.Runs.{runs_same}
use Rattle.recovery_parts.specs.Flags.{flagged, flagged_runs, Flags}
use Rattle.recovery_laws.specs.Points.{points_length}

-- the runs are those that cuts join
pub flagged_recovered : (ms flags : List ℕ) (m : ℕ) → length flags ≡ m → Flags ms flags → flagged_runs flags ≡ recovered_lengths ms m
unfolding flagged_runs Flags recovered_lengths
flagged_recovered ms flags m e f = rw e (runs_same (flagged flags) (is_segment_cut ms) 0 m (λ u a b. f u (omega (arith, b, e))))

module _ (path : List Float) (ms vs : List ℕ) (n m room spare : ℕ) where
  abbrev xs : List Float
  xs = recovered_points path ms vs n m

  abbrev ns : List ℕ
  ns = recovered_lengths ms m

  abbrev given : Answer Recovered
  given = gives (record { points = m; contours = length ns })

  unfoldable pub roomy : Answer Recovered
  roomy = refused_by (no_room room (length xs) ∷ no_room spare (length ns) ∷ []) given

  pub points_full : room < 2 * m → roomy ≡ refuses 6 0
  unfolding roomy refused_by no_room pick
  points_full h = rw (lt-ltb room (length xs) (omega (arith, h, points_length path ms vs n m)))

  pub lengths_full : 2 * m ≤ room → spare < length ns → roomy ≡ refuses 6 0
  unfolding roomy refused_by no_room pick
  lengths_full h l = rw (le-ltb room (length xs) (omega (arith, h, points_length path ms vs n m)), lt-ltb spare (length ns) l)

  pub all_fit : 2 * m ≤ room → length ns ≤ spare → roomy ≡ given
  unfolding roomy refused_by no_room pick
  all_fit h l = rw (le-ltb room (length xs) (omega (arith, h, points_length path ms vs n m)), le-ltb spare (length ns) l)
