-- The tables are what the journal says, and the journal is that of a client which keeps its rules.
use Rattle.std.specs.Prelude.{◌≡◌, ◌≤◌, length}
use Rattle.n41_calls.specs.Kept.{Kept}
use Rattle.n41_view.specs.View.{view}
use Rattle.n41_tied.specs.declared.tied.Tied.TheInside.{Inside}
use Rattle.n41_tied.specs.Told.{Told}

abbrev pub told : Inside → Told
told t = record { setup = t.setup; events = t.journal.events; room = t.journal.room }

pub record Ties (t : Inside) : Type 0 where
  pub some : 1 ≤ t.setup.callers
  pub few : t.setup.callers ≤ 64
  pub owner : length t.setup.owner ≤ 1024
  pub kept : Kept t.setup t.journal.events
  pub tied : view t.setup.callers t.journal.events ≡ t.tables
