use Rattle.std.proofs.Common.{inr, refl}
use Rattle.n41_core.proofs.client.Core.next_out.Goals as goal

pub returns-in_default-clause-none : goal.returns-in_default-clause-none
returns-in_default-clause-none c = let h = rw c.in_default.is at c.in_ok-request.ensures.none in (refl, inr (rw (← c.self.view_is) h))
