use Rattle.std.proofs.Common.{rules, refl}
use Rattle.n41_wire.proofs.Same.{heard_again}
use Rattle.n41_wire.proofs.inlet.Inlet.next.Goals as goal

pub returns-in-Err-clause-again : goal.returns-in-Err-clause-again
returns-in-Err-clause-again g c =
    heard_again _ _ c.in-Err.fault _ _ _ (search rules) c.from-in-Err.ensures (λ same. record { conn = refl; ear = same; replies = refl; refused = refl }) c.in-Err.ensures.again
