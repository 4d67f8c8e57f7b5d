use Rattle.std.proofs.Common.{◌∙◌, ap}
use Rattle.n41_said.proofs.Handles.{fh_at, reached_last}
use Rattle.n41_said.proofs.ways.last_fh.Goals as goal

pub returns-in-Some : goal.returns-in-Some
returns-in-Some c = c.fh_in.ensures ∙ (ap fh_at c.in-Some.ensures.value ∙ reached_last c.args.results.now)
