use Rattle.std.proofs.Common.{rules}
use Rattle.n41_journal_reader.specs.Events.{bytes_at}
use Rattle.n41_journal_reader.proofs.Tellings.{put_stops, put_goes_on}
use Rattle.n41_journal_reader.proofs.events.put.Goals as goal

pub returns-in_err-placed : goal.returns-in_err-placed
returns-in_err-placed c = put_stops (bytes_at c.args.words.now) c.placed_bytes.new.words c.in_err-placed.field-0.0 c.from_residual.result (search rules) c.in_err-placed.ensures

pub returns : goal.returns
returns c = put_goes_on (bytes_at c.args.words.now) (c.in_ok-placed.placed, c.placed_bytes.new.words) c.in_ok-found.found c.found_event.result c.in_ok-placed.ensures c.in_ok-found.ensures c.found_event.ensures
