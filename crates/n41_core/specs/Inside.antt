-- What holds inside a client.
use Rattle.std.specs.Prelude.{◌≢◌, ◌<◌, None}
use Rattle.n41_model.specs.Requests.{standing}
use Rattle.n41_core.specs.Settled.{IsSettled}
use Rattle.n41_core.specs.declared.client.Core.TheInside.{Inside}

-- a break can always be noted, and every command that has its answer is answered
pub record IsReady (c : Inside) : Type 0 where
  pub room : standing c.books.events ≢ None → 0 < c.books.room
  pub settled : IsSettled c.books.setup.callers c.books.events
