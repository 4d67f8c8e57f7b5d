use Rattle.n41_view.proofs.Law.{cause_law}
use Rattle.n41_view.proofs.laws.the_view_tells_causes.Goals as goal

pub returns : goal.returns
returns c = cause_law
