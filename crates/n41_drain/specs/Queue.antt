-- Calls that wait behind a gate (own).
use Rattle.std.specs.Prelude.{Bool, true, false, List, [], ◌∷◌, Option, Some, None}
use Rattle.n41_drain.specs.declared.drain.Waiting.{Waiting}

-- what contracts see of the gate: whether it is open, and the calls that wait behind it, the first that came first
pub record Queue : Type 0 where
  pub is_open : Bool
  pub waiting : List Waiting

-- the call that leaves next: the first that came, and none while the gate is shut
abbrev pub leaves : Bool → List Waiting → Option Waiting
leaves false ws = None
leaves true [] = None
leaves true (w ∷ ws) = Some w

-- the calls that wait once that one has left
abbrev pub stay : Bool → List Waiting → List Waiting
stay false ws = ws
stay true [] = []
stay true (w ∷ ws) = ws
