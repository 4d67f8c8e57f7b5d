-- Which event may follow, from the tables alone.
use Rattle.std.specs.Prelude.{◌≡◌, ℕ, suc, ◌≤◌, true, false, Some, None, IsSome, slice_get}
use Rattle.n41_types.specs.declared.commands.Answer.{Answer}
use Rattle.n41_types.specs.declared.commands.Command.{Command}
use Rattle.n41_types.specs.declared.plans.Request.{Request}
use Rattle.n41_results.specs.declared.replies.Reply.{Reply}
use Rattle.n41_results.specs.Shapes.{shape_of}
use Rattle.n41_journal.specs.declared.events.Cause.{Cause}
use Rattle.n41_journal.specs.declared.events.Cause.TheVariants as cause
use Rattle.n41_journal.specs.declared.events.Event.{Event}
use Rattle.n41_journal.specs.declared.events.Event.TheVariants.{Began, Put, Took, CbTook, CbPut, Dialed, DialFailed, Broke, Ticked, Answered, Quit}
use Rattle.n41_model.specs.declared.words.Item.{Item}
use Rattle.n41_model.specs.declared.words.Setup.{Setup}
use Rattle.n41_calls.specs.Walks.{is_built}
use Rattle.n41_view.specs.View.{View}
use Rattle.n41_view.specs.Due.{due_in}
use Rattle.n41_view.specs.Causes.{CauseIn, awaited_in, is_old_in}
use Rattle.n41_view.specs.declared.tables.Seat.{Seat}

-- a caller without an unanswered command begins its next one, at the last moment
pub record MayBeginIn (w : View) (c n : ℕ) (k : Command) (m : ℕ) (s : Seat) : Type 0 where
  pub runs : w.facts.quit ≡ false
  pub here : slice_get w.seats c ≡ Some s
  pub idle : s.command ≡ None
  pub number_is : n ≡ suc s.number
  pub moment_is : m ≡ w.facts.moment
  pub built : is_built k ≡ true

-- a request that is due goes on the standing connection, at its next place
pub record MayPutIn (u : Setup) (w : View) (c p : ℕ) (r : Request) (i : Item) : Type 0 where
  pub stands : w.facts.standing ≡ Some c
  pub place : p ≡ w.facts.puts
  pub is_due : due_in u w i ≡ Some r

-- a reply comes from the standing connection, at its next place, and answers a request that waits there
pub record MayTakeIn (w : View) (c p : ℕ) (y : Reply) (r : Request) : Type 0 where
  pub stands : w.facts.standing ≡ Some c
  pub place : p ≡ w.facts.takes
  pub awaited : awaited_in w y.xid ≡ Some r
  pub fits : shape_of r y ≡ None

abbrev pub MayBreakIn : View → Cause → Type 0
MayBreakIn w (cause.Old x) = is_old_in w x ≡ true
MayBreakIn w x = Unit {0}

-- the unanswered command of its caller is answered, with a cause
pub record MayAnswerIn (w : View) (c n : ℕ) (a : Answer) (s : Seat) : Type 0 where
  pub here : slice_get w.seats c ≡ Some s
  pub asked : IsSome s.command
  pub number_is : n ≡ s.number
  pub cause : CauseIn w s a

-- whether the event may follow those that filled these tables
abbrev pub MayIn : Setup → View → Event → Type 0
MayIn u w (Began c n k m) = (s : Seat) × MayBeginIn w c n k m s
MayIn u w (Put c p r) = (i : Item) × MayPutIn u w c p r i
MayIn u w (Took c p y) = (r : Request) × MayTakeIn w c p y r
MayIn u w (CbTook c p x) = ⊥
MayIn u w (CbPut c p x) = ⊥
MayIn u w (Dialed c) = (w.facts.standing ≡ None) × (c ≡ suc w.facts.dials)
MayIn u w DialFailed = w.facts.standing ≡ None
MayIn u w (Broke c x) = (w.facts.standing ≡ Some c) × MayBreakIn w x
MayIn u w (Ticked m) = w.facts.moment ≤ m
MayIn u w (Answered c n a) = (s : Seat) × MayAnswerIn w c n a s
MayIn u w Quit = w.facts.quit ≡ false
