use Rattle.std.proofs.Common.{◌≡◌, drop}
use Rattle.n41_replies.specs.Replies.{last_status}
use Rattle.n41_replies.proofs.reading.last_status.Given as goal

abbrev pub invariant-loop-answer : goal.invariant-loop-answer
invariant-loop-answer l = last_status l.last (drop l.answer-index l.list) ≡ last_status l.status l.list
