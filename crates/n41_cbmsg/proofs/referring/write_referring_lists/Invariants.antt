use Rattle.std.proofs.Common.{◌≡◌, ◌++◌, length, take}
use Rattle.std.specs.List.{flat_map}
use Rattle.n41_xdr.specs.Spelling as spelling
use Rattle.n41_cbmsg.specs.Arguments.{referring_list}
use Rattle.n41_cbmsg.proofs.referring.write_referring_lists.Given as goal

abbrev pub invariant-loop-list : goal.invariant-loop-list
invariant-loop-list l = l.w ≡ l.fn.w ++ (spelling.word (length l.lists) ++ flat_map referring_list.spell (take l.list-index l.lists))
