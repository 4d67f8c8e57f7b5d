-- What follows from the answer of an inlet or an outlet of the connection that stands. (own)
use Rattle.std.specs.Prelude.{◌≡◌, ℕ, Result, Ok, Err}
use Rattle.n41_link.specs.Heard.{capped}
use Rattle.n41_link.specs.declared.mouth.SayFault.{SayFault}
use Rattle.n41_link.specs.declared.mouth.SayFault.TheVariants as say
use Rattle.n41_journal.specs.declared.events.Cause.{Cause}
use Rattle.n41_journal.specs.declared.events.Cause.TheVariants as cause
use Rattle.n41_journal.specs.declared.events.Event.TheVariants.{Broke}
use Rattle.n41_core.specs.State.{State, appends}
use Rattle.n41_wire.specs.declared.arrival.InGot.{InGot}
use Rattle.n41_wire.specs.declared.arrival.InGot.TheVariants.{Came, Quiet, End}
use Rattle.n41_wire.specs.declared.fault.InFault.{InFault}
use Rattle.n41_wire.specs.declared.fault.InFault.TheVariants.{Failed, Gather, Garbled, NoMemory}
use Rattle.n41_desk.specs.declared.breaking.Fate.{Fate}
use Rattle.n41_desk.specs.declared.breaking.Fate.TheVariants as fate
use Rattle.n41_desk.specs.Steps.{TakesOrBreaks, ByOld}

-- what came is at the next place of this connection
abbrev pub IsNextHere : Result InGot InFault → ℕ → ℕ → Type 0
IsNextHere (Ok (Came a)) c n = (a.conn ≡ c) × (a.place ≡ capped n)
IsNextHere (Ok Quiet) c n = Unit {0}
IsNextHere (Ok End) c n = Unit {0}
IsNextHere (Err f) c n = Unit {0}

-- the connection broke by this cause
abbrev pub BreaksBy : Cause → Fate → State → State → ℕ → Type 0
BreaksBy w x old new c = (x ≡ fate.Broke) × (new ≡ appends old (Broke c w))

-- a reply is taken or breaks the connection, a quiet breaks it where a request is old, and the end and each fault break it by their causes
abbrev pub Follows : Result InGot InFault → Fate → State → State → ℕ → Type 0
Follows (Ok (Came a)) x old new c = TakesOrBreaks x old new c a.reply
Follows (Ok Quiet) x old new c = ByOld x old new c
Follows (Ok End) x old new c = BreaksBy cause.Ended x old new c
Follows (Err Failed) x old new c = BreaksBy cause.Link x old new c
Follows (Err (Gather f)) x old new c = BreaksBy cause.BadRecord x old new c
Follows (Err (Garbled f)) x old new c = BreaksBy cause.Garbled x old new c
Follows (Err NoMemory) x old new c = BreaksBy cause.NoMemory x old new c

-- where a request was sent the connection stands, and each fault breaks it by its cause
abbrev pub Answers : Result (Unit {0}) SayFault → Fate → State → State → ℕ → Type 0
Answers (Ok u) x old new c = (x ≡ fate.Stands) × (new ≡ old)
Answers (Err say.Failed) x old new c = BreaksBy cause.Link x old new c
Answers (Err say.NoMemory) x old new c = BreaksBy cause.NoMemory x old new c
