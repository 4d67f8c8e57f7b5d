use Rattle.n41_core.proofs.Told.{shape_unawaited, shape_awaited, fits_awaited}
use Rattle.n41_core.proofs.takes.misfit.Goals as goal

pub returns-in-None-clause-some : goal.returns-in-None-clause-some
returns-in-None-clause-some c = shape_unawaited c.args.books.now.setup c.args.books.now.events c.look.result c.args.reply.now c.look.ensures c.the_view_tells_what_is_awaited.ensures c.kept.ensures c.in-None.ensures

pub returns-in-Ok-clause-none : goal.returns-in-Ok-clause-none
returns-in-Ok-clause-none c = fits_awaited c.args.books.now.setup c.args.books.now.events c.look.result c.args.reply.now c.in-Some.request.now c.look.ensures c.the_view_tells_what_is_awaited.ensures c.kept.ensures c.in-Some.ensures c.in-Ok.ensures

pub returns-in-Err-clause-some : goal.returns-in-Err-clause-some
returns-in-Err-clause-some c = shape_awaited c.args.books.now.setup c.args.books.now.events c.look.result c.args.reply.now c.in-Some.request.now c.in-Err.shape c.look.ensures c.the_view_tells_what_is_awaited.ensures c.kept.ensures c.in-Some.ensures c.in-Err.ensures
