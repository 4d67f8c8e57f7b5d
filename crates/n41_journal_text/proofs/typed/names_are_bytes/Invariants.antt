use Rattle.std.proofs.Common.{All, take}
use Rattle.hex.specs.Hex.{IsBytes}
use Rattle.n41_journal_text.proofs.typed.names_are_bytes.Given as goal

abbrev pub invariant-loop-name : goal.invariant-loop-name
invariant-loop-name l = All IsBytes (take l.name-index l.names)
