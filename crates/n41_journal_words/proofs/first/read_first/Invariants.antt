use Rattle.std.proofs.Common.{◌≡◌, drop}
use Rattle.n41_journal_words.specs.Answers.{firsts, first_among, first_of}
use Rattle.n41_journal_words.proofs.first.read_first.Given as goal

abbrev pub invariant-loop-first : goal.invariant-loop-first
invariant-loop-first l = first_among (drop l.first-index firsts) l.word ≡ first_of l.word
