use Rattle.n41_tellable.specs.Tellable.{AllTellable}
use Rattle.n41_journal_text.proofs.tests.ticked.Given as goal

abbrev pub invariant-loop-moment : goal.invariant-loop-moment
invariant-loop-moment l = AllTellable l.journal.events
