use Rattle.std.proofs.Common.{subst, arith}
use Rattle.n41_replies.specs.Faults.{Gives}
use Rattle.n41_seen.proofs.Spelled.{is_found, spelled_is_read}
use Rattle.n41_seen.proofs.reading.read_request.Goals as goal

pub returns-clause-found : goal.returns-clause-found
returns-clause-found c = is_found c.args.bytes.now c.read_whole.result (λ i. omega (arith, c.type_inv.bytes i)) c.read_whole.ensures

pub returns-clause-only : goal.returns-clause-only
returns-clause-only c = λ d spelled. subst (λ r. Gives c.read_whole.result r) (spelled_is_read d c.args.bytes.now (λ i. omega (arith, c.type_inv.bytes i)) spelled) c.read_whole.ensures
