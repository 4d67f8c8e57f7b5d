use Rattle.n41_core.proofs.Told.{old_some, old_none}
use Rattle.n41_core.proofs.client.Core.old_request.Goals as goal

pub returns-clause-some : goal.returns-clause-some
returns-clause-some c = rw (← c.self.view_is) (old_some c.self.inside.books.setup c.self.inside.books.events c.look.result c.old_request.result c.look.ensures c.the_view_tells_what_is_old.ensures c.kept.ensures c.old_request.ensures.some)

pub returns-clause-none : goal.returns-clause-none
returns-clause-none c = rw (← c.self.view_is) (old_none c.self.inside.books.setup c.self.inside.books.events c.look.result c.old_request.result c.look.ensures c.the_view_tells_what_is_old.ensures c.kept.ensures c.old_request.ensures.none)
