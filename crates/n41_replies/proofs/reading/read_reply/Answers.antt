use Rattle.std.proofs.Common.{subst, arith}
use Rattle.n41_replies.specs.Faults.{Gives}
use Rattle.n41_replies.proofs.Spelled.{is_found, reply_again}
use Rattle.n41_replies.proofs.reading.read_reply.Goals as goal

pub returns-clause-found : goal.returns-clause-found
returns-clause-found c = is_found c.args.bytes.now c.read_whole.result (λ i. omega (arith, c.type_inv.bytes i)) c.read_whole.ensures

pub returns-clause-only : goal.returns-clause-only
returns-clause-only c = λ r spelled. subst (λ f. Gives c.read_whole.result f) (reply_again r c.args.bytes.now spelled) c.read_whole.ensures
