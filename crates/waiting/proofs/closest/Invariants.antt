-- The lead so far, after the contours that are left, is the foremost.
use Rattle.std.specs.Prelude.{◌≡◌, ◌<◌, IfSome}
use Rattle.rules.specs.Tools.{foremost}
use Rattle.work_layout.specs.Parts.{from}
use Rattle.waiting.specs.Leader.{closer_by, layer_by, leader_of}
use Rattle.waiting.specs.WaitingNumbers.{waiters_from}
use Rattle.waiting.proofs.LeadLaws.{led_from}
use Rattle.waiting.proofs.closest.Given as goal

abbrev pub invariant-loop-j : goal.invariant-loop-j
invariant-loop-j l =
    (IfSome l.lead (λ best. best < l.fn.lay.contours))
    × (let waits = from l.work l.fn.lay.waiting in
    let n = l.fn.lay.contours in
    led_from l.fn.layers l.distances waits n l.j (leader_of l.lead) ≡ foremost (layer_by l.fn.layers) (closer_by l.distances) (waiters_from waits 0 n))
