-- What a desk's turn adds to the journal. (own)
use Rattle.std.specs.Prelude.{◌≡◌, ◌⊎◌, ℕ, suc, List, [], ◌∷◌, ◌++◌, Some, None}
use Rattle.n41_types.specs.declared.commands.Command.{Command}
use Rattle.n41_types.specs.declared.plans.Request.{Request}
use Rattle.n41_results.specs.declared.replies.Reply.{Reply}
use Rattle.n41_results.specs.declared.shapes.Shape.{Shape}
use Rattle.n41_journal.specs.declared.events.Cause.{Cause}
use Rattle.n41_journal.specs.declared.events.Cause.TheVariants as cause
use Rattle.n41_journal.specs.declared.events.Event.{Event}
use Rattle.n41_journal.specs.declared.events.Event.TheVariants.{Put, Took, Dialed, DialFailed, Broke, Answered}
use Rattle.n41_model.specs.declared.words.Item.{Item}
use Rattle.n41_calls.specs.Calls.{number}
use Rattle.n41_calls.specs.Kept.{IsOld}
use Rattle.n41_model.specs.Requests.{dials, moment}
use Rattle.n41_wants.specs.declared.wants.Want.{Want}
use Rattle.n41_wants.specs.declared.wants.Want.TheVariants as want
use Rattle.n41_core.specs.Causes.{ShapeCause, WantCause, post_fault}
use Rattle.n41_core.specs.Settled.{IsDecided}
use Rattle.n41_core.specs.State.{State, Sent, HasPut, TakesReply, ThenAnswers, appends, posted, ticked}
use Rattle.n41_core.specs.declared.faults.PostFault.{PostFault}
use Rattle.n41_core.specs.declared.faults.PostFault.TheVariants as post
use Rattle.n41_core.specs.declared.faults.Ticket.{Ticket}
use Rattle.n41_desk.specs.declared.breaking.Fate.{Fate}
use Rattle.n41_desk.specs.declared.breaking.Fate.TheVariants as fate
use Rattle.n41_desk.specs.declared.turns.Turn.{Turn}
use Rattle.n41_desk.specs.declared.turns.Turn.TheVariants.{Went, Idle}

-- ---- events of one connection

-- something was put on this connection or taken from it, it broke, or a command was answered
abbrev pub IsOn : ℕ → Event → Type 0
IsOn c (Put d p r) = d ≡ c
IsOn c (Took d p y) = d ≡ c
IsOn c (Broke d w) = d ≡ c
IsOn c (Answered d n a) = Unit {0}
IsOn c e = ⊥

abbrev pub AreOn : ℕ → List Event → Type 0
AreOn c [] = Unit {0}
AreOn c (e ∷ js) = IsOn c e × AreOn c js

-- a client's journal grew by these, which are of this connection
pub record Adds (old new : State) (c : ℕ) (events : List Event) : Type 0 where
  pub setup_is : new.setup ≡ old.setup
  pub events_are : new.events ≡ events ++ old.events
  pub on : AreOn c events

-- ---- what is done where it is wanted

-- this reply was taken; or it answers nothing that waits, or memory is wanting, and the connection broke
abbrev pub TakesOrBreaks : Fate → State → State → ℕ → Reply → Type 0
TakesOrBreaks fate.Stands old new c y = (p : ℕ) × (r : Request) × (answers : List Event) × TakesReply old new c p y r answers
TakesOrBreaks fate.Broke old new c y =
    ((s : Shape) × ShapeCause old.events y s × (new ≡ appends old (Broke c cause.Garbled))) ⊎ (new ≡ appends old (Broke c cause.NoMemory))

-- a request was old, and the connection broke
abbrev pub ByOld : Fate → State → State → ℕ → Type 0
ByOld fate.Stands old new c = new ≡ old
ByOld fate.Broke old new c = (x : ℕ) × IsOld old.events x × (new ≡ appends old (Broke c (cause.Old x)))

-- one request that was due was put on the connection, which then broke or not
pub record Sends (old new : State) (c : ℕ) : Type 0 where
  pub packet : Sent
  pub item : Item
  pub between : State
  pub put : HasPut old between c packet item
  pub then_is : (new ≡ between) ⊎ ((w : Cause) × (new ≡ appends between (Broke c w)))

-- a reply was taken, and then commands were answered
pub record Takes (old new : State) (c : ℕ) : Type 0 where
  pub place : ℕ
  pub reply : Reply
  pub request : Request
  pub answers : List Event
  pub took : TakesReply old new c place reply request answers

-- a reply was taken, the connection broke, or nothing came, and it was quiet
abbrev pub Reads : Type 0 → State → State → ℕ → Type 0
Reads quiet old new c = (quiet × (new ≡ old)) ⊎ (Takes old new c ⊎ ((w : Cause) × (new ≡ appends old (Broke c w))))

-- a connection was made, or could not be
abbrev pub Dials : State → State → Type 0
Dials old new = (new ≡ appends old (Dialed (suc (dials old.events)))) ⊎ (new ≡ appends old DialFailed)

-- where something is wanted: a connection is made or not; one request is put; a reply is taken, the connection breaks, or nothing comes; time passes
abbrev pub Does : Type 0 → State → State → Want → Type 0
Does quiet old new want.Dial = Dials old new
Does quiet old new (want.Send c) = Sends old new c
Does quiet old new (want.Read c) = Reads quiet old new c
Does quiet old new (want.Pause m) = new ≡ old
Does quiet old new want.Nothing = new ≡ old

abbrev pub IsNothing : Want → Type 0
IsNothing want.Nothing = Unit {0}
IsNothing w = ⊥

-- it is idle exactly where nothing is wanted
abbrev pub Acts : Type 0 → State → State → Want → Turn → Type 0
Acts quiet old new w Went = (IsNothing w → ⊥) × Does quiet old new w
Acts quiet old new w Idle = IsNothing w × (new ≡ old)

-- the clock's moment was noted, commands were answered, and nothing else came
pub record Notes (old new : State) (m : ℕ) (answers : List Event) : Type 0 where
  pub then_is : ThenAnswers old.setup (ticked m (moment old.events) old.events) new answers
  pub decided : IsDecided old.setup.callers new.events

-- nothing came for want of memory, or the clock's moment was noted
abbrev pub IsNoted : State → State → Type 0
IsNoted old new = (new ≡ old) ⊎ ((m : ℕ) × (answers : List Event) × Notes old new m answers)

-- one turn: the clock's moment was noted, and then what was wanted was done; where nothing came that was read, it was quiet
pub record TakesTurn (quiet : Type 0) (old new : State) (turn : Turn) : Type 0 where
  pub between : State
  pub at : ℕ
  pub answers : List Event
  pub wanted : Want
  pub noted : Notes old between at answers
  pub cause : WantCause between.setup between.events wanted
  pub acts : Acts quiet between new wanted turn

-- one command was given: the clock's moment was noted, and then the command began
pub record Posts (old new : State) (caller : ℕ) (command : Command) (ticket : Ticket) : Type 0 where
  pub between : State
  pub at : ℕ
  pub answers : List Event
  pub noted : Notes old between at answers
  pub free : post_fault between caller ≡ None
  pub posted_is : new ≡ posted between caller command
  pub ticket_is : ticket ≡ record { caller = caller; number = suc (number between.events caller) }

-- why a command did not begin, memory apart
abbrev pub PostCause : State → ℕ → PostFault → Type 0
PostCause new caller f = (f ≡ post.NoMemory) ⊎ (post_fault new caller ≡ Some f)
