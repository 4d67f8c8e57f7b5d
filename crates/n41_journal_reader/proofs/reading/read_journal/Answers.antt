use Rattle.n41_journal_reader.proofs.Texts.{answered}
use Rattle.n41_journal_reader.proofs.reading.read_journal.Goals as goal

pub returns-clause-only : goal.returns-clause-only
returns-clause-only c = λ es h. answered c.args.text.now es c.read_text.result h c.read_text.ensures.ok c.read_text.ensures.err
