use Rattle.std.proofs.Common.{◌≡◌, ◌-◌}
use Rattle.n41_seen.specs.Calls.{ops_seen}
use Rattle.n41_seen.proofs.OpsLoop.{with_ops}
use Rattle.n41_seen.proofs.compounds.read_ops.Given as goal

abbrev pub invariant-loop : goal.invariant-loop
invariant-loop l = with_ops l.list.items (ops_seen (l.count - l.counter) l.r) ≡ ops_seen l.count l.fn.r
