use Rattle.n41_core.proofs.Told.{wants_by}
use Rattle.n41_core.proofs.client.Core.wants.Goals as goal

pub returns : goal.returns
returns c = rw (← c.self.view_is) (wants_by c.self.inside.books.setup c.self.inside.books.events c.look.result c.wanted.result c.look.ensures c.the_view_tells_what_is_due.ensures c.the_view_tells_the_end.ensures c.kept.ensures (c.wanted.ensures c.self.inside.books.setup))
