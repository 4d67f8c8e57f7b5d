use Rattle.n41_view.proofs.Law.{due_law}
use Rattle.n41_view.proofs.laws.the_view_tells_what_is_due.Goals as goal

pub returns : goal.returns
returns c = due_law
