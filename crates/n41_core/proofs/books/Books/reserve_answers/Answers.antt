use Rattle.std.proofs.Common.{◌∙◌, ap}
use Rattle.n41_model.specs.declared.words.Setup.{Setup}
use Rattle.n41_core.proofs.Commands.{spared}
use Rattle.n41_core.proofs.books.Books.reserve_answers.Goals as goal

pub returns-clause-spare : goal.returns-clause-spare
returns-clause-spare c = spared c.reserve-2.result (record { setup = c.reserve-2.new.self.setup; events = c.reserve-2.new.self.events; room = c.reserve-2.new.self.room; spare = c.reserve.new.self.room }) c.reserve.new.self.lists c.self.inside.tied.setup.callers c.self.inside.tied.events (c.reserve.ensures.lists ∙ c.self.invariant) (ap (λ (u : Setup). u.callers) c.reserve-2.ensures.setup) c.in_ok-reserve.ensures.ok
