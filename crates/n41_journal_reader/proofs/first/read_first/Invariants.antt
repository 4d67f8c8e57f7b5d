use Rattle.std.proofs.Common.{◌≡◌, drop}
use Rattle.n41_journal_reader.specs.Events.{firsts, first_among, first_of}
use Rattle.n41_journal_reader.proofs.first.read_first.Given as goal

abbrev pub invariant-loop-first : goal.invariant-loop-first
invariant-loop-first l = first_among (drop l.first-index firsts) l.word ≡ first_of l.word
