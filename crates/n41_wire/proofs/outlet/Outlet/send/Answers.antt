use Rattle.std.proofs.Common.{rules, refl}
use Rattle.n41_wire.proofs.Same.{said_again}
use Rattle.n41_wire.proofs.outlet.Outlet.send.Goals as goal

pub returns-in_err-say-clause-again : goal.returns-in_err-say-clause-again
returns-in_err-say-clause-again g c =
    said_again _ _ _ _ _ (search rules) (λ same. record { mouth = same; sent = refl }) c.in_err-say.ensures.again
