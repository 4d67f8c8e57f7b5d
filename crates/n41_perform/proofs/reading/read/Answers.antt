use Rattle.n41_perform.proofs.Readings.{refused_fails}
use Rattle.n41_perform.proofs.reading.read.Goals as goal

pub returns-clause-err : goal.returns-clause-err
returns-clause-err g c =
    refused_fails c.in-Err-read_script.fault c.fault_of_script.result (g.S.Source.left c.args.source.now) (g.S.Source.left c.read_all.new.source) c.deref.result.now c.fault_of_script.ensures (rw c.deref.ensures.value c.in-Ok.ensures.ok)
    c.in-Err-read_script.ensures.err
