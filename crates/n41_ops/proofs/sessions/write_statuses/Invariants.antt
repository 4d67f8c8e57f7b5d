use Rattle.std.proofs.Common.{◌≡◌, ◌++◌, length, take}
use Rattle.std.specs.List.{flat_map}
use Rattle.n41_xdr.specs.Spelling as spelling
use Rattle.n41_attr.specs.Parts.{status}
use Rattle.n41_ops.proofs.sessions.write_statuses.Given as goal

abbrev pub invariant-loop-next : goal.invariant-loop-next
invariant-loop-next l = l.w ≡ l.fn.w ++ spelling.word (length l.list) ++ flat_map status.spell (take l.next-index l.list)
