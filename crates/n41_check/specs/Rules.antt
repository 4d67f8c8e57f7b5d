-- The five rules by which a journal is checked by itself, for any list of events, the newest first (own; the slots are those of
-- RFC 8881, section 2.10.6.1).
use Rattle.std.specs.Prelude.{◌≡◌, ℕ, ◌+◌, ◌<◌, ◌≤◌, ◌==◌, max, Bool, true, false, ◌&&◌, List, [], ◌∷◌, length, Option, Some, None, if◌then◌else◌, IsSome, is_some, nat_lt}
use Rattle.n41_types.specs.declared.commands.Answer.{Answer}
use Rattle.n41_types.specs.declared.commands.Answer.TheVariants as answer
use Rattle.n41_types.specs.declared.plans.Request.{Request}
use Rattle.n41_types.specs.declared.plans.SlotUse.{SlotUse}
use Rattle.n41_journal.specs.Journal.{BeginsWith}
use Rattle.n41_journal.specs.declared.events.Event.{Event}
use Rattle.n41_journal.specs.declared.events.Event.TheVariants.{Began, Put, Took, Answered}
use Rattle.n41_model.specs.declared.words.Setup.{Setup}
use Rattle.n41_calls.specs.Answers.{HasCause}
use Rattle.n41_calls.specs.Calls.{command, number}
use Rattle.n41_calls.specs.Kept.{Kept}
use Rattle.n41_model.specs.Requests.{is_on, made, outs, used}
use Rattle.n41_check.specs.declared.rules.Rule.{Rule}
use Rattle.n41_check.specs.declared.rules.Rule.TheVariants.{Slots, Retries, Turns, Causes, Answers}

-- how many callers there are: one more than the greatest that began a command
abbrev pub callers : List Event → ℕ
callers [] = 0
callers (Began c n k m ∷ js) = max (c + 1) (callers js)
callers (e ∷ js) = callers js

-- the last request that was put on a slot of the last session
abbrev pub last_put : List Event → ℕ → Option Request
last_put [] n = None
last_put (Put c p r ∷ js) n = if is_on r n then Some r else last_put js n
last_put (Took c p y ∷ js) n = if is_some (made js y) then None else last_put js n
last_put (e ∷ js) n = last_put js n

-- The turn is the last one that was used on the slot. A turn that a size refusal gave back was not used.
abbrev pub is_repeat : List Event → SlotUse → Bool
is_repeat js u = (u.turn == used js u.slot) && nat_lt 0 u.turn

-- a repeated turn has the same request
abbrev pub IsSame : List Event → Request → Option SlotUse → Type 0
IsSame js r None = Unit {0}
IsSame js r (Some u) = is_repeat js u ≡ true → last_put js u.slot ≡ Some r

-- a new turn is one more than the last one that was used
abbrev pub IsNext : List Event → Option SlotUse → Type 0
IsNext js None = Unit {0}
IsNext js (Some u) = is_repeat js u ≡ false → u.turn ≡ used js u.slot + 1

-- Unknown and Unreachable have their cause, where there are so many callers
abbrev pub IsCaused : ℕ → List Event → ℕ → Answer → Type 0
IsCaused n js c answer.Unknown = HasCause n js c answer.Unknown
IsCaused n js c (answer.Unreachable k) = HasCause n js c (answer.Unreachable k)
IsCaused n js c a = Unit {0}

-- the answer is to the unanswered command of its caller, whose number this is
pub record IsAsked (js : List Event) (c : ℕ) (k : ℕ) : Type 0 where
  pub asked : IsSome (command js c)
  pub number_is : k ≡ number js c

abbrev pub KeepsRetries : List Event → Event → Type 0
KeepsRetries js (Put c p r) = IsSame js r r.slot
KeepsRetries js e = Unit {0}

abbrev pub KeepsTurns : List Event → Event → Type 0
KeepsTurns js (Put c p r) = IsNext js r.slot
KeepsTurns js e = Unit {0}

abbrev pub KeepsCauses : ℕ → List Event → Event → Type 0
KeepsCauses n js (Answered c k a) = IsCaused n js c a
KeepsCauses n js e = Unit {0}

abbrev pub KeepsAnswers : List Event → Event → Type 0
KeepsAnswers js (Answered c k a) = IsAsked js c k
KeepsAnswers js e = Unit {0}

-- The event keeps the rule after these, where there are so many callers. The rule of slots: after it at most one request is out on each.
abbrev pub Keeps : ℕ → List Event → Event → Rule → Type 0
Keeps n js e Slots = (s : ℕ) → length (outs (e ∷ js) s) ≤ 1
Keeps n js e Retries = KeepsRetries js e
Keeps n js e Turns = KeepsTurns js e
Keeps n js e Causes = KeepsCauses n js e
Keeps n js e Answers = KeepsAnswers js e

-- the order of the rules
abbrev pub rank : Rule → ℕ
rank Slots = 0
rank Retries = 1
rank Turns = 2
rank Causes = 3
rank Answers = 4

-- the event breaks this rule, and none before it in their order
pub record Breaks (n : ℕ) (js : List Event) (e : Event) (x : Rule) : Type 0 where
  pub before : (y : Rule) → rank y < rank x → Keeps n js e y
  pub broken : Keeps n js e x → ⊥

-- each event keeps each rule
abbrev pub Clean : ℕ → List Event → Type 0
Clean n [] = Unit {0}
Clean n (e ∷ js) = Clean n js × ((x : Rule) → Keeps n js e x)

-- the event at this place is the first that breaks a rule, and this is the first rule that it breaks
pub record IsFirst (n : ℕ) (js : List Event) (place : ℕ) (x : Rule) : Type 0 where
  pub before : List Event
  pub event : Event
  pub part : BeginsWith js (event ∷ before)
  pub place_is : place ≡ length before + 1
  pub clean : Clean n before
  pub breaks : Breaks n before event x

-- what is found is the first event that breaks a rule, with the rule, or nothing where each event keeps each rule
abbrev pub IsVerdict : ℕ → List Event → Option (ℕ × Rule) → Type 0
IsVerdict n js None = Clean n js
IsVerdict n js (Some b) = IsFirst n js b.0 b.1

-- a client that keeps its rules breaks none of these, whatever its server does
abbrev pub KeptIsClean : Type 0
KeptIsClean = (u : Setup) (js : List Event) → Kept u js → Clean u.callers js
