-- What an event brings that the tables keep and that takes memory: their step takes none, so it is made beforehand.
use Rattle.std.specs.Prelude.{ℕ, List, Option, None}
use Rattle.n41_journal.specs.declared.events.Event.{Event}
use Rattle.n41_journal.specs.declared.events.Event.TheVariants.{Began, Took}
use Rattle.n41_model.specs.declared.words.Listed.{Listed}
use Rattle.n41_calls.specs.Calls.{reached_in, listing_in, listed_of}
use Rattle.n41_said.specs.Listings.{names_told}

-- what the reply of this event came to
abbrev pub reached_by : Event → Option (List ℕ)
reached_by (Took c p y) = reached_in y.body
reached_by e = None

-- the names that its reply tells
abbrev pub names_by : Event → Option (List (List ℕ))
names_by (Took c p y) = names_told (listing_in y.body)
names_by e = None

-- the listing that it begins
abbrev pub listed_by : Event → Option Listed
listed_by (Began c n k m) = listed_of k
listed_by e = None
