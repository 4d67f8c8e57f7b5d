use Rattle.std.proofs.Common.{◌∙◌}
use Rattle.n41_perform.proofs.Printings.{fails_as}
use Rattle.n41_perform.proofs.printing.print_journal.Goals as goal

pub returns-clause-err : goal.returns-clause-err
returns-clause-err g c =
    fails_as c.put_text.result (g.K.Sink.taken c.args.sink.now) (g.K.Sink.taken c.put_text.new.sink) _ _ (c.deref.ensures ∙ c.in-Ok.ensures.told) c.put_text.ensures.err
