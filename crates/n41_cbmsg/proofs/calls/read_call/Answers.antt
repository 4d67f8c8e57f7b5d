use Rattle.std.proofs.Common.{arith}
use Rattle.n41_cbmsg.proofs.CallsSpelled.{read_call_fits}
use Rattle.n41_cbmsg.proofs.calls.read_call.Goals as goal

pub returns-clause-fits : goal.returns-clause-fits
returns-clause-fits c = read_call_fits c.args.bytes.now c.read_whole.result (λ i. omega (arith, c.type_inv.bytes i)) c.read_whole.ensures
