use Rattle.n41_breaches.proofs.Breaches.{no_breach}
use Rattle.n41_breaches.proofs.laws.no_server_of_the_rules_is_met_by_a_breach.Goals as goal

pub returns : goal.returns
returns c = no_breach
