use Rattle.std.proofs.Common.{rules}
use Rattle.n41_journal_words.specs.Reading.{form_at}
use Rattle.n41_journal_reader.specs.Events.{first_of}
use Rattle.n41_journal_reader.proofs.Tellings.{line_stops, line_goes_on}
use Rattle.n41_journal_reader.proofs.events.read_event.Goals as goal

pub returns-in_err-first : goal.returns-in_err-first
returns-in_err-first c = line_stops (form_at first_of c.args.words.now) c.first.new.words c.in_err-first.field-0.0 c.from_residual.result (search rules) c.in_err-first.ensures

pub returns : goal.returns
returns c = line_goes_on (form_at first_of c.args.words.now) (c.in_ok-first.first, c.first.new.words) c.read_behind.result c.in_ok-first.ensures c.read_behind.ensures
