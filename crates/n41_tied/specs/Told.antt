-- What contracts see of a journal with its tables.
use Rattle.std.specs.Prelude.{ℕ, List}
use Rattle.n41_journal.specs.declared.events.Event.{Event}
use Rattle.n41_model.specs.declared.words.Setup.{Setup}

-- who the client is, its events, newest first, and for how many more there is room
pub record Told : Type 0 where
  pub setup : Setup
  pub events : List Event
  pub room : ℕ
