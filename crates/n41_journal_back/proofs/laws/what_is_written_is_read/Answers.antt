use Rattle.n41_journal_back.proofs.Names.{name_back}
use Rattle.n41_journal_back.proofs.Journals.{event_back, journal_back}
use Rattle.n41_journal_back.proofs.laws.what_is_written_is_read.Goals as goal

pub returns : goal.returns
returns c = record { events = event_back; journals = journal_back; names = name_back }
