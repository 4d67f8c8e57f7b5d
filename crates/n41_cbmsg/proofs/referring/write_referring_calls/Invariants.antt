use Rattle.std.proofs.Common.{◌≡◌, ◌++◌, length, take}
use Rattle.std.specs.List.{flat_map}
use Rattle.n41_xdr.specs.Spelling as spelling
use Rattle.n41_cbmsg.specs.Arguments.{referring_call}
use Rattle.n41_cbmsg.proofs.referring.write_referring_calls.Given as goal

abbrev pub invariant-loop-call : goal.invariant-loop-call
invariant-loop-call l = l.w ≡ l.fn.w ++ (spelling.word (length l.calls) ++ flat_map referring_call.spell (take l.call-index l.calls))
