-- Journals. A journal is a list of events, the newest first.
use Rattle.std.specs.Prelude.{◌≡◌, ◌⊎◌, ◌≤◌, ◌==◌, ◌+◌, ℕ, List, [], ◌∷◌, length, Option, Some, None, if◌then◌else◌}
use Rattle.n41_journal.specs.declared.events.Event.{Event}

-- what contracts see of a journal: its events, newest first, and for how many more there is room
pub record Log : Type 0 where
  pub events : List Event
  pub room : ℕ

-- the event at a place of the whole journal: the oldest has place 1, and the newest the number of events (own)
abbrev pub event_at : List Event → ℕ → Option Event
event_at [] place = None
event_at (e ∷ js) place = if place == length js + 1 then Some e else event_at js place

-- the later journal is the earlier one, with what happened since
abbrev pub BeginsWith : List Event → List Event → Type 0
BeginsWith [] earlier = [] ≡ earlier
BeginsWith (e ∷ js) earlier = (e ∷ js ≡ earlier) ⊎ BeginsWith js earlier

-- the law of continuations: each event of the earlier journal stands at its place in the later one
abbrev pub KeepsPlaces : Type 0
KeepsPlaces =
    (later earlier : List Event) (place : ℕ) → BeginsWith later earlier → place ≤ length earlier → event_at later place ≡ event_at earlier place

-- an event more makes a continuation
abbrev pub ContinuesByOne : Type 0
ContinuesByOne = (e : Event) (js : List Event) → BeginsWith (e ∷ js) js
