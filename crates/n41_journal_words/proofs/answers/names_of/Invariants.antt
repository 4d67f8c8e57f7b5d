use Rattle.std.proofs.Common.{◌≡◌, ◌-◌}
use Rattle.n41_journal_words.proofs.Loop.{with_front}
use Rattle.n41_journal_words.specs.Answers.{names_at}
use Rattle.n41_journal_words.proofs.answers.names_of.Given as goal

abbrev pub invariant-loop-place : goal.invariant-loop-place
invariant-loop-place l = with_front l.names.items (names_at (l.count - l._place) l.words) ≡ names_at l.count l.fn.words
