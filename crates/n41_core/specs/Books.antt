-- What contracts see of a journal with its tables and the places of its answers.
use Rattle.std.specs.Prelude.{◌≡◌, ℕ, suc, ◌+◌, ◌-◌, ◌<◌, ◌≤◌, List, ◌∷◌, Option, Some, slice_index}
use Rattle.n41_types.specs.declared.commands.Answer.{Answer}
use Rattle.n41_journal.specs.declared.events.Event.{Event}
use Rattle.n41_journal.specs.declared.events.Event.TheVariants.{Answered}
use Rattle.n41_model.specs.declared.words.Setup.{Setup}
use Rattle.n41_calls.specs.Calls.{call, either}
use Rattle.n41_calls.specs.Kept.{MayAnswer}
use Rattle.n41_answers.specs.Index.{spent}
use Rattle.n41_core.specs.Settled.{IsDone}
use Rattle.n41_core.specs.State.{AddsAnswers}

-- `room` is for how many more events there is room, and `spare` the same for the places of each caller's answers
pub record Book : Type 0 where
  pub setup : Setup
  pub events : List Event
  pub room : ℕ
  pub spare : List ℕ

-- the event is no answer
abbrev pub IsNoAnswer : Event → Type 0
IsNoAnswer (Answered c n a) = ⊥
IsNoAnswer e = Unit {0}

-- there is room for an answer to each caller from this one on
abbrev pub HasSpare : ℕ → Book → Type 0
HasSpare k b = (c : ℕ) → k ≤ c → c < b.setup.callers → 0 < slice_index b.spare c

abbrev pub adds : Book → Event → Book
adds b e = record { setup = b.setup; events = e ∷ b.events; room = b.room - 1; spare = b.spare }

abbrev pub answers_with : Book → ℕ → ℕ → Answer → Book
answers_with b c n a = record { setup = b.setup; events = Answered c n a ∷ b.events; room = b.room - 1; spare = spent b.spare c }

-- the answer that is handed over, or where none is, the one that the last reply to the caller's command gave
abbrev pub handed : Book → ℕ → Option Answer → Option Answer
handed b c late = either late (call b.setup.callers b.events c).earned

-- it is this one, and the command of this number may have it
pub record Hands (b : Book) (c n : ℕ) (late : Option Answer) (a : Answer) : Type 0 where
  pub is_handed : handed b c late ≡ Some a
  pub may : MayAnswer b.setup b.events c n a

-- the caller's command was answered, or goes on
pub record Settles (old new : Book) (c : ℕ) (xs : List Event) : Type 0 where
  pub setup_is : new.setup ≡ old.setup
  pub room : old.room ≤ new.room + 1
  pub spare : HasSpare (suc c) new
  pub added : AddsAnswers old.events new.events xs
  pub done : IsDone old.setup.callers new.events c
  pub others : (d : ℕ) → IsDone old.setup.callers old.events d → IsDone old.setup.callers new.events d
