use Rattle.std.proofs.Common.{◌≡◌, drop}
use Rattle.n41_model.specs.Requests.{knows}
use Rattle.n41_view.specs.Step.{held_requests}
use Rattle.n41_said.proofs.said.is_held.Given as goal

abbrev pub invariant-loop-slot : goal.invariant-loop-slot
invariant-loop-slot l = knows (held_requests l.slots) l.xid ≡ knows (held_requests (drop l.slot-index l.slots)) l.xid
