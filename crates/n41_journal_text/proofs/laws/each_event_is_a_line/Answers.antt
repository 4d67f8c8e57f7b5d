use Rattle.n41_journal_text.proofs.Lines.{lines_are, kept}
use Rattle.n41_journal_text.proofs.laws.each_event_is_a_line.Goals as goal

pub returns : goal.returns
returns c = record { lines = lines_are; none_is_skipped = kept }
