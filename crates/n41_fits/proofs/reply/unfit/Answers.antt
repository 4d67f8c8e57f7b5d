use Rattle.std.proofs.Common.{sym, ◌∙◌}
use Rattle.n41_results.specs.Shapes.{asked_of}
use Rattle.n41_fits.proofs.Dropped.{first_dropped, none_dropped}
use Rattle.n41_fits.proofs.reply.unfit.Goals as goal

pub returns-in-Some : goal.returns-in-Some
returns-in-Some c = rw (c.misplaced.ensures, first_dropped (asked_of c.args.request.now) c.args.place c.in-Some.operation (sym c.asked.ensures ∙ c.in-Some.is)) (cc)

pub returns-in-None : goal.returns-in-None
returns-in-None c = rw (c.misplaced-in-None.ensures, none_dropped (asked_of c.args.request.now) c.args.place (sym c.asked.ensures ∙ c.in-None.is)) (cc)
