use Rattle.n41_core.proofs.Told.{due_some}
use Rattle.n41_core.proofs.Spellable.{short_all}
use Rattle.n41_core.proofs.puts.due_request.Goals as goal

pub returns-clause-short : goal.returns-clause-short
returns-clause-short c =
    let u = c.args.books.now.setup in
    let js = c.args.books.now.events in
    let h = rw c.setup.ensures.setup at c.next_request.ensures.some in
    short_all u js c.next_request.result c.setup.ensures.owner c.kept.ensures (due_some u js c.look.result c.next_request.result c.look.ensures c.the_view_tells_what_is_due.ensures c.kept.ensures h)
