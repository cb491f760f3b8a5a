-- `run_grid_c::accepted_points`: what the check of the contours answers, as a number.
use Rattle.std.proofs.Common.{◌≡◌, refl, ap, ◌∙◌, ℕ, Result, Ok, Err}
use Rattle.std.specs.Result.{result_unwrap_or}
use Rattle.rules.specs.HandedOver.{answer_of, refusal}
use Rattle.rules.specs.declared.Refusal.{Refusal}
use Rattle.run_grid_c.specs.RoomTests.{refused_none}
use Rattle.run_grid_c.specs.Results.{given, accepted}
use Rattle.run_grid_c.proofs.accepted_points.Goals as goal

given_or : (r : Result ℕ Refusal) → result_unwrap_or r 0 ≡ given (answer_of r)
unfolding given answer_of
given_or (Ok n) = refl
given_or (Err e) = refused_none e (refusal e) refl

pub returns : goal.returns
unfolding accepted
returns c = c.unwrap_or.ensures ∙ given_or c.check_contours.result ∙ ap given c.check_contours.ensures
