-- The first number out of range is below the slice's length, or there is none.
use Rattle.std.proofs.Common.{refl, length, le-ltb, lt-ltb, arith}
use Rattle.rules.specs.Tools.{pick}
use Rattle.rules.specs.HandedOver.{answer_of, number_of, place_of, refusal, refused_by, out_of_range}
use Rattle.plate.proofs.check_range.Goals as goal

pub returns-in-Some : goal.returns-in-Some
unfolding answer_of refused_by out_of_range number_of place_of refusal pick
returns-in-Some c = let f = c.in-Some.ensures.found in simp (← f.1, lt-ltb _ _ f.0)

pub returns-in-None : goal.returns-in-None
unfolding answer_of refused_by out_of_range pick
returns-in-None c = simp (c.in-None.ensures.none refl, le-ltb (length c.args.numbers.now) (length c.args.numbers.now) (omega arith))
