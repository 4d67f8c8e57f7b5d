use Rattle.std.proofs.Common.{subst}
use Rattle.std.proofs.lemmas.List.Elements.{All-more}
use Rattle.n41_journal_back.specs.Kept.{IsTyped}
use Rattle.n41_journal_back.proofs.kept.events_are_typed.Goals as goal

pub loop-event-preserved : goal.loop-event-preserved
loop-event-preserved c =
    All-more IsTyped c.args.events.now c.loop-event.event-index c.event-item.result c.loop-event-test.true c.loop-event.invariant (subst IsTyped c.event-item.is c.event_is_typed.ensures)
