use Rattle.std.proofs.Common.{◌≡◌, drop}
use Rattle.n41_cbmsg.specs.Answers.{last_status}
use Rattle.n41_cbmsg.proofs.answers.last_status.Given as goal

abbrev pub invariant-loop-x : goal.invariant-loop-x
invariant-loop-x l = last_status l.last (drop l.x-index l.list) ≡ last_status l.fn.status l.list
