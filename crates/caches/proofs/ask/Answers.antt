-- `caches::ask` meets its contract: a vertex lies on the plate. Assumes nothing.
use Rattle.std.proofs.Common.{ap, ◌∙◌, ◌/◌, length}
use Rattle.rules.specs.GridAndNearest.{nearest}
use Rattle.rules.specs.SamplesAndCache.{ask_path}
use Rattle.rules.specs.declared.Point.{Point}
use Rattle.plate_laws.specs.AcceptedInput.{point_on}
use Rattle.history.specs.History.{points}
use Rattle.caches.proofs.ask.Goals as goal

pub nearest-requires : goal.nearest-requires
nearest-requires c =
    record {
      ready = c.requires.ready;
      on_plate = rw c.point_at.ensures (point_on c.args.frame.now.points.now c.args.v.0 c.requires.on_plate c.requires.vertex);
    }

pub returns : goal.returns
unfolding ask_path
returns c =
    let a = c.args in
    c.nearest.ensures ∙ ap (λ (q : Point). nearest a.frame.now.grid.spatial (points a.path.now (length a.path.now / 2)) q) c.point_at.ensures
