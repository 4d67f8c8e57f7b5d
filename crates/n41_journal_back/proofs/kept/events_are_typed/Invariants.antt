use Rattle.std.proofs.Common.{All, take}
use Rattle.n41_journal_back.specs.Kept.{IsTyped}
use Rattle.n41_journal_back.proofs.kept.events_are_typed.Given as goal

abbrev pub invariant-loop-event : goal.invariant-loop-event
invariant-loop-event l = All IsTyped (take l.event-index l.events)
