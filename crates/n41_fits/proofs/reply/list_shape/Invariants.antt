use Rattle.std.proofs.Common.{◌≡◌, drop}
use Rattle.n41_results.specs.Shapes.{asked_of, shape_from}
use Rattle.n41_fits.proofs.reply.list_shape.Given as goal

abbrev pub invariant-loop-place : goal.invariant-loop-place
invariant-loop-place l = shape_from l.request.plan 0 (asked_of l.request) l.list ≡ shape_from l.request.plan l.place (drop l.place (asked_of l.request)) (drop l.place l.list)
