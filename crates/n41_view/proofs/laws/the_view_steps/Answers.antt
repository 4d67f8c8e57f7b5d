use Rattle.n41_view.proofs.Law.{view_steps}
use Rattle.n41_view.proofs.laws.the_view_steps.Goals as goal

pub returns : goal.returns
returns c = view_steps
