use Rattle.std.proofs.Common.{◌∷◌, sym, subst}
use Rattle.std.specs.Bool.{Decides}
use Rattle.n41_journal.specs.declared.events.Event.{Event}
use Rattle.n41_calls.specs.OneOut.{Orderly}
use Rattle.n41_runs.specs.Steps.{client}
use Rattle.n41_small_world.proofs.OneOut.{put_decides}
use Rattle.n41_small_world.proofs.orderly.goes.Goals as goal

pub returns-in-Put : goal.returns-in-Put
returns-in-Put c = λ n l.
    subst (λ (e : Event). Decides c.is_orderly.result (Orderly (e ∷ client c.args.run.now))) (sym c.in-Put.is)
    (put_decides (client c.args.run.now) c.in-Put.conn c.in-Put.place c.in-Put.request c.is_orderly.result l.1 (c.is_orderly.ensures n l.0 l.1))
