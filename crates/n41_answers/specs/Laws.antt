-- The laws of the places of answers, for a client that keeps its rules.
use Rattle.std.specs.Prelude.{◌≡◌, ◌↔◌, ℕ, suc, ◌-◌, ◌<◌, ◌≤◌, List, ◌∷◌, length, reverse, Some, None, slice_get}
use Rattle.n41_types.specs.declared.commands.Answer.{Answer}
use Rattle.n41_journal.specs.declared.events.Event.{Event}
use Rattle.n41_model.specs.declared.words.Setup.{Setup}
use Rattle.n41_calls.specs.Calls.{command, number}
use Rattle.n41_calls.specs.Kept.{Kept}
use Rattle.n41_calls.specs.Text.{answer_to}
use Rattle.n41_answers.specs.Answers.{HasAnswer, places, lists, lists_after, begun, down_from}

-- some answer to a caller's command of this number stands at this place
abbrev pub IsPlaced : List Event → ℕ → ℕ → ℕ → Type 0
IsPlaced js c n p = (a : Answer) × HasAnswer js c n p a

-- the n-th of a caller's places, oldest first, has the answer to its command n
abbrev pub PlacesAnswer : Type 0
PlacesAnswer = (u : Setup) (js : List Event) (c n p : ℕ) → Kept u js → 1 ≤ n → slice_get (reverse (places js c)) (n - 1) ≡ Some p → IsPlaced js c n p

-- where an answer of a caller stands
pub record Stands (js : List Event) (c n p : ℕ) : Type 0 where
  pub from_one : 1 ≤ n
  pub began : n ≤ number js c
  pub listed : slice_get (reverse (places js c)) (n - 1) ≡ Some p

-- and there is no answer elsewhere
abbrev pub AnswersArePlaced : Type 0
AnswersArePlaced = (u : Setup) (js : List Event) (c n p : ℕ) (a : Answer) → Kept u js → HasAnswer js c n p a → Stands js c n p

-- a command is answered once
abbrev pub AnswersOnce : Type 0
AnswersOnce = (u : Setup) (js : List Event) (c n p q : ℕ) (a b : Answer) → Kept u js → HasAnswer js c n p a → HasAnswer js c n q b → (p ≡ q) × (a ≡ b)

-- the answer that is printed is the one that stands somewhere
abbrev pub AnswerIsPlaced : Type 0
AnswerIsPlaced = (u : Setup) (js : List Event) (c n : ℕ) (a : Answer) → Kept u js → (answer_to js c n ≡ Some a) ↔ ((p : ℕ) × HasAnswer js c n p a)

-- An answer adds its place to the list of its caller, and no other event changes the lists.
abbrev pub ListsStep : Type 0
ListsStep = (n : ℕ) (js : List Event) (e : Event) → lists n (e ∷ js) ≡ lists_after (lists n js) (suc (length js)) e

-- a caller's commands have the numbers 1, 2, 3 and so on
abbrev pub BegunInOrder : Type 0
BegunInOrder = (u : Setup) (js : List Event) (c : ℕ) → Kept u js → begun js c ≡ down_from (number js c)

-- each command before a caller's last one is answered
abbrev pub EarlierAreAnswered : Type 0
EarlierAreAnswered = (u : Setup) (js : List Event) (c n : ℕ) → Kept u js → 1 ≤ n → n < number js c → (p : ℕ) × IsPlaced js c n p

-- and so is the last one, where none is unanswered
abbrev pub IdleAreAnswered : Type 0
IdleAreAnswered = (u : Setup) (js : List Event) (c n : ℕ) → Kept u js → command js c ≡ None → 1 ≤ n → n ≤ number js c → (p : ℕ) × IsPlaced js c n p
