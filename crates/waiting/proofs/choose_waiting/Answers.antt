-- What `closest` found is what the rules choose.
use Rattle.std.specs.Prelude.{refl}
use Rattle.waiting.specs.Leader.{leader_of}
use Rattle.waiting.proofs.ChoiceLaws.{candidate_chosen}
use Rattle.waiting.proofs.choose_waiting.Goals as goal

pub returns : goal.returns
unfolding leader_of
returns c =
    let k = c.waiting_contour-contour.ensures in
    λ p xs g ws e l h. candidate_chosen _ _ _ _ p xs g ws e l h _ _ c.in_ok-j.ensures.foremost k.number k.first k.last refl
