-- Lists of places that belong to a journal.
use Rattle.std.specs.Prelude.{◌≡◌, ℕ, List}
use Rattle.n41_journal.specs.declared.events.Event.{Event}
use Rattle.n41_model.specs.declared.words.Setup.{Setup}
use Rattle.n41_calls.specs.Kept.{Kept}
use Rattle.n41_answers.specs.Answers.{lists}

-- a client with this setup may have this journal, and these are the lists of its callers
pub record Indexes (u : Setup) (js : List Event) (ls : List (List ℕ)) : Type 0 where
  pub kept : Kept u js
  pub lists_are : ls ≡ lists u.callers js
