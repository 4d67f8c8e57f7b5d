use Rattle.std.proofs.Common.{◌≡◌, ◌-◌}
use Rattle.n41_model.specs.Sessions.{unused_xid}
use Rattle.n41_view.specs.Step.{requests}
use Rattle.n41_due.proofs.xids.unused.Given as goal

abbrev pub invariant-loop-tried : goal.invariant-loop-tried
invariant-loop-tried l = unused_xid (requests l.look) l.fn.first l.count ≡ unused_xid (requests l.look) l.xid (l.count - l._tried)
