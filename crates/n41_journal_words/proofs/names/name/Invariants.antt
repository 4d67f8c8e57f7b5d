use Rattle.std.proofs.Common.{◌≡◌, length}
use Rattle.n41_journal_words.specs.Names.{name_of}
use Rattle.n41_journal_words.proofs.Bytes.{before}
use Rattle.n41_journal_words.proofs.names.name.Given as goal

abbrev pub invariant-loop-rest : goal.invariant-loop-rest
invariant-loop-rest l = before l.bytes.items (name_of l.rest) ≡ name_of l.word

abbrev pub decreases-loop-rest : goal.decreases-loop-rest
decreases-loop-rest l = length l.rest
