-- What a desk holds. (own)
use Rattle.std.specs.Prelude.{◌≤◌, ℕ, Bool, length}
use Rattle.n41_link.specs.declared.connection.Inflow.{Ghosts as InGhosts}
use Rattle.n41_link.specs.declared.connection.Outflow.{Ghosts as OutGhosts}
use Rattle.n41_core.specs.State.{State}
use Rattle.n41_desk.specs.Journals.{moments}
use Rattle.n41_desk.specs.Lines.{HasLines, StaysQuiet}
use Rattle.n41_desk.specs.Moments.{AreGiven}
use Rattle.n41_desk.specs.declared.desk.Desk.{Desk}

-- the client's core
abbrev pub desk_state : {D C I O : Type 0} {i : InGhosts I} {o : OutGhosts O} → Desk D C I O i o → State
desk_state d = d.core

abbrev pub desk_dialer : {D C I O : Type 0} {i : InGhosts I} {o : OutGhosts O} → Desk D C I O i o → D
desk_dialer d = d.dialer

abbrev pub desk_clock : {D C I O : Type 0} {i : InGhosts I} {o : OutGhosts O} → Desk D C I O i o → C
desk_clock d = d.clock

-- its connection stood and stands, and was quiet once more
abbrev pub WasQuiet : {D C I O : Type 0} {i : InGhosts I} {o : OutGhosts O} → Desk D C I O i o → Desk D C I O i o → Type 0
WasQuiet d e = StaysQuiet d.lines.wire e.lines.wire

-- Its connections are those of its journal, each moment in the journal is one that its clock gave, as `given` tells of a clock, and its owner is
-- no longer than a message may have it.
pub record Holds {D C I O : Type 0} {i : InGhosts I} {o : OutGhosts O} (given : C → ℕ → Bool) (d : Desk D C I O i o) : Type 0 where
  pub owner : length d.core.setup.owner ≤ 1024
  pub lines : HasLines d.core.events d.lines.ended.items d.lines.wire
  pub all_given : AreGiven (given d.clock) (moments d.core.events)
