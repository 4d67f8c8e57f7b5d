-- Why a call is refused, and what is wanted.
use Rattle.std.specs.Prelude.{◌≡◌, ◌≢◌, ◌⊎◌, ℕ, true, false, List, Option, Some, None, IsSome, if◌then◌else◌, nat_le, is_some, option_map}
use Rattle.n41_types.specs.declared.plans.Request.{Request}
use Rattle.n41_results.specs.declared.messages.Heard.{Heard}
use Rattle.n41_results.specs.declared.messages.Heard.TheVariants as heard
use Rattle.n41_results.specs.declared.replies.Reply.{Reply}
use Rattle.n41_results.specs.declared.shapes.Shape.{Shape}
use Rattle.n41_results.specs.declared.shapes.Shape.TheVariants as shape
use Rattle.n41_results.specs.Shapes.{shape_of, told}
use Rattle.n41_journal.specs.declared.events.Cause.TheVariants as cause
use Rattle.n41_journal.specs.declared.events.Event.{Event}
use Rattle.n41_journal.specs.declared.events.Event.TheVariants.{Broke}
use Rattle.n41_model.specs.declared.words.Item.{Item}
use Rattle.n41_model.specs.declared.words.Setup.{Setup}
use Rattle.n41_model.specs.Requests.{standing, takes, quit}
use Rattle.n41_calls.specs.Calls.{command, number}
use Rattle.n41_calls.specs.Due.{due, NothingDue, has_ended}
use Rattle.n41_calls.specs.Kept.{IsAwaited}
use Rattle.n41_view.specs.View.{view}
use Rattle.n41_wants.specs.Wants.{awaits_in, wait_in}
use Rattle.n41_wants.specs.declared.wants.Want.{Want}
use Rattle.n41_wants.specs.declared.wants.Want.TheVariants as want
use Rattle.n41_core.specs.State.{State, appends}
use Rattle.n41_core.specs.declared.faults.PostFault.{PostFault}
use Rattle.n41_core.specs.declared.faults.PostFault.TheVariants as post
use Rattle.n41_core.specs.declared.faults.TookFault.{TookFault}
use Rattle.n41_core.specs.declared.faults.TookFault.TheVariants as took

-- ---- commands

-- why a command of this caller does not begin, memory apart
abbrev pub post_fault : State → ℕ → Option PostFault
post_fault s c =
    if nat_le s.setup.callers c
    then Some post.NoCaller
    else if is_some (command s.events c) then Some (post.Busy (number s.events c)) else if quit s.events then Some post.Quitting else None

-- ---- what comes

-- no request with this xid waits for its reply
abbrev pub Unawaited : List Event → ℕ → Type 0
Unawaited js x = (r : Request) → IsAwaited js r → r.xid ≢ x

-- a request with this reply's xid waits, and this is told of the first thing in which the reply is none to it
pub record Misfits (js : List Event) (y : Reply) (s : Shape) (r : Request) : Type 0 where
  pub awaited : IsAwaited js r
  pub same_xid : r.xid ≡ y.xid
  pub shape_is : option_map told (shape_of r y) ≡ Some s

abbrev pub ShapeCause : List Event → Reply → Shape → Type 0
ShapeCause js y s = ((s ≡ shape.Xid y.xid) × Unawaited js y.xid) ⊎ ((r : Request) × Misfits js y s r)

-- what comes is at the next place of the connection that stands
pub record IsNextIn (s : State) (c p : ℕ) : Type 0 where
  pub stands : standing s.events ≡ Some c
  pub place : takes s.events ≡ p

-- the reply answers a request that waits for it
pub record IsReplyTo (js : List Event) (y : Reply) (r : Request) : Type 0 where
  pub awaited : IsAwaited js r
  pub fits : shape_of r y ≡ None

pub record IsMisplaced (s : State) (w h c p : ℕ) : Type 0 where
  pub stands : standing s.events ≡ Some c
  pub want : w ≡ takes s.events
  pub have : h ≡ p
  pub differ : w ≢ h

-- what comes is not at the next place of the connection that stands
abbrev pub PlaceFault : State → ℕ → ℕ → TookFault → Type 0
PlaceFault s c p (took.Gone n) = (n ≡ c) × (standing s.events ≢ Some c)
PlaceFault s c p (took.Misplaced w h) = IsMisplaced s w h c p
PlaceFault s c p f = ⊥

pub record ShapeBreak (old new : State) (c p : ℕ) (y : Reply) (s : Shape) : Type 0 where
  pub next : IsNextIn old c p
  pub why : ShapeCause old.events y s
  pub broke : new ≡ appends old (Broke c cause.Garbled)

-- a callback is no reply to anything that is awaited
pub record CallBreak (old new : State) (c p x : ℕ) (s : Shape) : Type 0 where
  pub next : IsNextIn old c p
  pub shape_is : s ≡ shape.Xid x
  pub broke : new ≡ appends old (Broke c cause.Garbled)

pub record MemoryBreak (old new : State) (c p : ℕ) : Type 0 where
  pub next : IsNextIn old c p
  pub broke : new ≡ appends old (Broke c cause.NoMemory)

abbrev pub ReplyCause : State → State → ℕ → ℕ → Reply → TookFault → Type 0
ReplyCause old new c p y (took.Shape s) = ShapeBreak old new c p y s
ReplyCause old new c p y took.NoMemory = MemoryBreak old new c p
ReplyCause old new c p y (took.Gone n) = PlaceFault old c p (took.Gone n) × (new ≡ old)
ReplyCause old new c p y (took.Misplaced w h) = PlaceFault old c p (took.Misplaced w h) × (new ≡ old)

abbrev pub CallCause : State → State → ℕ → ℕ → ℕ → TookFault → Type 0
CallCause old new c p x (took.Shape s) = CallBreak old new c p x s
CallCause old new c p x took.NoMemory = ⊥
CallCause old new c p x (took.Gone n) = PlaceFault old c p (took.Gone n) × (new ≡ old)
CallCause old new c p x (took.Misplaced w h) = PlaceFault old c p (took.Misplaced w h) × (new ≡ old)

abbrev pub TookCause : State → State → Heard → TookFault → Type 0
TookCause old new (heard.Reply c p y) f = ReplyCause old new c p y f
TookCause old new (heard.Call c p x) f = CallCause old new c p x.xid f

-- ---- what is wanted

-- the run goes on, on this connection
pub record Runs (u : Setup) (js : List Event) (c : ℕ) : Type 0 where
  pub goes_on : has_ended u.callers js ≡ false
  pub stands : standing js ≡ Some c

-- nothing is due or awaited, and this is the first moment at which something stops waiting
pub record Pauses (u : Setup) (js : List Event) (m c : ℕ) : Type 0 where
  pub runs : Runs u js c
  pub idle : NothingDue u js
  pub quiet : awaits_in (view u.callers js) ≡ false
  pub waits : wait_in (view u.callers js) ≡ Some m

-- nothing is due, and a reply is awaited or nothing waits for a moment
pub record Reads (u : Setup) (js : List Event) (c : ℕ) : Type 0 where
  pub runs : Runs u js c
  pub idle : NothingDue u js
  pub waits : (awaits_in (view u.callers js) ≡ true) ⊎ (wait_in (view u.callers js) ≡ None)

abbrev pub WantCause : Setup → List Event → Want → Type 0
WantCause u js want.Dial = (has_ended u.callers js ≡ false) × (standing js ≡ None)
WantCause u js (want.Send c) = Runs u js c × ((i : Item) × IsSome (due u js i))
WantCause u js (want.Read c) = Reads u js c
WantCause u js (want.Pause m) = (c : ℕ) × Pauses u js m c
WantCause u js want.Nothing = has_ended u.callers js ≡ true
