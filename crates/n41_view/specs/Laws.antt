-- The laws of the tables.
use Rattle.std.specs.Prelude.{◌≡◌, ◌↔◌, ℕ, true, List, ◌∷◌, Some, slice_get}
use Rattle.n41_types.specs.declared.commands.Answer.{Answer}
use Rattle.n41_types.specs.declared.plans.Request.{Request}
use Rattle.n41_journal.specs.declared.events.Event.{Event}
use Rattle.n41_model.specs.declared.words.Item.{Item}
use Rattle.n41_model.specs.declared.words.Setup.{Setup}
use Rattle.n41_calls.specs.Due.{due, has_ended}
use Rattle.n41_calls.specs.Answers.{HasCause}
use Rattle.n41_calls.specs.Kept.{Kept, May, IsAwaited, IsOld}
use Rattle.n41_view.specs.declared.tables.Seat.{Seat}
use Rattle.n41_view.specs.Causes.{CauseIn, awaited_in, is_old_in}
use Rattle.n41_view.specs.Due.{due_in, has_ended_in}
use Rattle.n41_view.specs.View.{view}
use Rattle.n41_view.specs.May.{MayIn}
use Rattle.n41_view.specs.Step.{step}

-- each event that may follow moves the tables of a journal by its step
abbrev pub ViewSteps : Type 0
ViewSteps = (u : Setup) (js : List Event) (e : Event) → Kept u (e ∷ js) → step (view u.callers js) e ≡ view u.callers (e ∷ js)

-- what is due by the tables is what is due by the journal
abbrev pub DueFromView : Type 0
DueFromView = (u : Setup) (js : List Event) (i : Item) → Kept u js → due_in u (view u.callers js) i ≡ due u js i

-- and so is the end of the run
abbrev pub EndFromView : Type 0
EndFromView = (u : Setup) (js : List Event) → Kept u js → has_ended_in (view u.callers js) ≡ has_ended u.callers js

-- the causes of answers by the tables are those by the journal
abbrev pub CausesFromView : Type 0
CausesFromView = (u : Setup) (js : List Event) (c : ℕ) (s : Seat) (a : Answer) → Kept u js → slice_get (view u.callers js).seats c ≡ Some s → CauseIn (view u.callers js) s a ↔ HasCause u.callers js c a

-- what is awaited with an xid by the tables is what is awaited by the journal
abbrev pub AwaitedFromView : Type 0
AwaitedFromView = (u : Setup) (js : List Event) (x : ℕ) (r : Request) → Kept u js → (awaited_in (view u.callers js) x ≡ Some r) ↔ (IsAwaited js r × (r.xid ≡ x))

-- and so is what is old
abbrev pub OldFromView : Type 0
OldFromView = (u : Setup) (js : List Event) (x : ℕ) → Kept u js → (is_old_in (view u.callers js) x ≡ true) ↔ IsOld js x

-- an event may follow by the tables where it may by the journal
abbrev pub MayFromView : Type 0
MayFromView = (u : Setup) (js : List Event) (e : Event) → Kept u js → MayIn u (view u.callers js) e ↔ May u js e
