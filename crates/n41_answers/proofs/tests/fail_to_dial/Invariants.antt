use Rattle.std.proofs.Common.{◌≡◌, ◌-◌, ◌++◌, replicate}
use Rattle.n41_journal.specs.declared.events.Event.TheVariants.{DialFailed}
use Rattle.n41_answers.proofs.tests.fail_to_dial.Given as goal

abbrev pub invariant-loop : goal.invariant-loop
invariant-loop l = l.journal ≡ record { events = replicate l.counter DialFailed ++ l.initial.journal.events; room = l.initial.journal.room - l.counter }
