use Rattle.n41_perform.proofs.Printings.{took_part}
use Rattle.n41_perform.proofs.printing.put_text.Goals as goal

pub returns-in-Err-clause-err : goal.returns-in-Err-clause-err
returns-in-Err-clause-err g c = took_part (g.K.Sink.taken c.args.sink.now) (g.K.Sink.taken c.put_all.new.sink) c.args.bytes.now c.in-Err.ensures.err
