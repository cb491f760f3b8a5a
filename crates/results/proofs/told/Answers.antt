-- The refusal's number and place.
use Rattle.std.proofs.Common.{refl}
use Rattle.rules.specs.HandedOver.{answer_of}
use Rattle.plate_laws.specs.Rows.{refused}
use Rattle.results.specs.Results.{told}
use Rattle.results.proofs.told.Goals as goal

pub returns-in-Err : goal.returns-in-Err
unfolding told answer_of
returns-in-Err g c = rw (c.in-Err.is, refused {B = g.row.T.Denot} _ _ _ c.numbers_of-number.ensures) refl
