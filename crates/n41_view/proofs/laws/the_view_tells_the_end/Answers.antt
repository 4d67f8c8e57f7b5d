use Rattle.n41_view.proofs.Law.{end_law}
use Rattle.n41_view.proofs.laws.the_view_tells_the_end.Goals as goal

pub returns : goal.returns
returns c = end_law
