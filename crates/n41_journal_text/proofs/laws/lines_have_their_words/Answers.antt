use Rattle.n41_journal_text.proofs.Lines.{words_are, clean}
use Rattle.n41_journal_text.proofs.laws.lines_have_their_words.Goals as goal

pub returns : goal.returns
returns c = record { words = words_are; clean = clean }
