use Rattle.n41_journal_reader.proofs.Texts.{one_journal, one_fault, never_both}
use Rattle.n41_journal_reader.proofs.laws.a_text_says_one_thing.Goals as goal

pub returns : goal.returns
returns c = record { events = one_journal; faults = one_fault; apart = never_both }
