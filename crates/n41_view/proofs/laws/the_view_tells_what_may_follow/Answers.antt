use Rattle.n41_view.proofs.Law.{may_law}
use Rattle.n41_view.proofs.laws.the_view_tells_what_may_follow.Goals as goal

pub returns : goal.returns
returns c = may_law
