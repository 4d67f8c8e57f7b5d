use Rattle.std.proofs.Common.{◌≡◌, ◌++◌, true, take}
use Rattle.std.specs.List.{flat_map}
use Rattle.n41_xdr.specs.Spelling as spelling
use Rattle.n41_ops.specs.Files.{entry}
use Rattle.n41_ops.proofs.directories.write_entries.Given as goal

abbrev pub invariant-loop-next : goal.invariant-loop-next
invariant-loop-next l = l.w ≡ l.fn.w ++ flat_map (λ x. spelling.boolean true ++ entry.spell x) (take l.next-index l.next-items)
