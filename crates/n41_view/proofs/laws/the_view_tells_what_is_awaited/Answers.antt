use Rattle.n41_view.proofs.Law.{awaited_law}
use Rattle.n41_view.proofs.laws.the_view_tells_what_is_awaited.Goals as goal

pub returns : goal.returns
returns c = awaited_law
