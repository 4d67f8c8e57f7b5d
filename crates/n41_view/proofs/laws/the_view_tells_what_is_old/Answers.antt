use Rattle.n41_view.proofs.Law.{old_law}
use Rattle.n41_view.proofs.laws.the_view_tells_what_is_old.Goals as goal

pub returns : goal.returns
returns c = old_law
