use Rattle.std.proofs.Common.{◌≡◌, ◌++◌, length, take}
use Rattle.std.specs.List.{flat_map}
use Rattle.n41_xdr.specs.Spelling as spelling
use Rattle.n41_session_args.specs.Security.{callback_security}
use Rattle.n41_session_args.proofs.security.write_securities.Given as goal

abbrev pub invariant-loop-next : goal.invariant-loop-next
invariant-loop-next l = l.w ≡ l.fn.w ++ spelling.word (length l.list) ++ flat_map callback_security.spell (take l.next-index l.list)
