-- The laws of what is kept (own).
use Rattle.std.specs.Prelude.{◌≡◌, Bool, false, List, [], ◌∷◌, if◌then◌else◌}
use Rattle.n41_journal.specs.declared.events.Event.{Event}
use Rattle.n41_journal.specs.declared.events.Event.TheVariants.{Took}
use Rattle.n41_model.specs.declared.words.Setup.{Setup}
use Rattle.n41_calls.specs.Answers.{breaks}
use Rattle.n41_calls.specs.Kept.{Kept}
use Rattle.n41_model.specs.Requests.{verdict, bare_verdict}
use Rattle.n41_model.specs.Sessions.{phase}
use Rattle.n41_recover.specs.Recovery.{Recovery, recovery}
use Rattle.n41_recover.specs.Step.{step, dead}

-- the event is a reply that no server gives which keeps the rules
abbrev pub is_breach : List Event → Event → Bool
is_breach js (Took c p y) = breaks (verdict js y) (bare_verdict js y)
is_breach js e = false

-- the step, and where the event is a breach the phase is told to be Dead
abbrev pub after : List Event → Event → Recovery → Recovery
after js e r = if is_breach js e then dead (step r e) else step r e

-- each event that may follow moves what is kept of a journal so
abbrev pub RecoverySteps : Type 0
RecoverySteps = (u : Setup) (js : List Event) (e : Event) → Kept u (e ∷ js) → after js e (recovery js) ≡ recovery (e ∷ js)

-- what is kept once each event of a journal was stepped, the oldest first
abbrev pub stepped : List Event → Recovery
stepped [] = recovery []
stepped (e ∷ js) = after js e (stepped js)

-- and so the phase is that of the journal
abbrev pub TellsPhase : Type 0
TellsPhase = (u : Setup) (js : List Event) → Kept u js → (stepped js).phase ≡ phase js
