use Rattle.std.proofs.Common.{◌≡◌, ◌++◌, take}
use Rattle.std.specs.List.{flat_map}
use Rattle.n41_cbmsg.specs.Arguments.{argument}
use Rattle.n41_cbmsg.proofs.compounds.write_list.Given as goal

abbrev pub invariant-loop-x : goal.invariant-loop-x
invariant-loop-x l = l.w ≡ l.fn.w ++ flat_map argument.spell (take l.x-index l.list)
