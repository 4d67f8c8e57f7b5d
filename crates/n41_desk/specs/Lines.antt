-- The connections of a desk: those that broke, the oldest first, and the one that stands. (own)
use Rattle.std.specs.Prelude.{◌≡◌, ℕ, suc, List, [], ◌∷◌, ◌++◌, length, None, Some}
use Rattle.std.specs.declared.option.Option.{Option}
use Rattle.n41_link.specs.Counts.{Rose}
use Rattle.n41_link.specs.declared.connection.Inflow.{Ghosts as InGhosts}
use Rattle.n41_link.specs.declared.connection.Outflow.{Ghosts as OutGhosts}
use Rattle.n41_results.specs.declared.messages.Parcel.{Ghosts as ParcelGhosts}
use Rattle.n41_journal.specs.declared.events.Event.{Event}
use Rattle.n41_model.specs.Requests.{standing, dials}
use Rattle.n41_wire.specs.Ends.{inlet_inflow}
use Rattle.n41_wire.specs.declared.wire.Wire.{Wire}
use Rattle.n41_desk.specs.Wires.{Carries, AreEnded}

-- the wire of the connection that stands, behind so many that broke
abbrev pub IsStanding : {I O P : Type 0} {g : InGhosts I} {h : OutGhosts O} {k : ParcelGhosts P} → List Event → ℕ → Option (Wire I O P g h k) → Type 0
IsStanding js n None = (standing js ≡ None) × (dials js ≡ n)
IsStanding js n (Some w) = Carries js (suc n) w × (dials js ≡ suc n)

-- all connections that the journal tells of: these that broke, and the one that stands
pub record HasLines {I O P : Type 0} {g : InGhosts I} {h : OutGhosts O} {k : ParcelGhosts P} (js : List Event) (ended : List (Wire I O P g h k)) (wire : Option (Wire I O P g h k)) : Type 0 where
  pub broken : AreEnded js 0 ended
  pub last : IsStanding js (length ended) wire

-- all of them, the one that stands last
abbrev pub in_order : {W : Type 0} → List W → Option W → List W
in_order ended None = ended
in_order ended (Some w) = ended ++ w ∷ []

-- these are all connections that the journal tells of, in the order of their numbers: each broke, but for the last where it stands
abbrev pub AreWires : {I O P : Type 0} {g : InGhosts I} {h : OutGhosts O} {k : ParcelGhosts P} → List Event → List (Wire I O P g h k) → Type 0
AreWires {I = I} {O = O} {P = P} {g = g} {h = h} {k = k} js ws = (ended : List (Wire I O P g h k)) × (wire : Option (Wire I O P g h k)) × HasLines js ended wire × (ws ≡ in_order ended wire)

-- the connection stood and stands, and it was quiet once more
abbrev pub StaysQuiet : {I O P : Type 0} {g : InGhosts I} {h : OutGhosts O} {k : ParcelGhosts P} → Option (Wire I O P g h k) → Option (Wire I O P g h k) → Type 0
StaysQuiet None v = ⊥
StaysQuiet (Some w) None = ⊥
StaysQuiet {g = g} (Some w) (Some v) = Rose (g.quiets (inlet_inflow w.inlet)) (g.quiets (inlet_inflow v.inlet))
