-- Why a connection broke: what its wire shows, and what the journal said before. (own)
use Rattle.std.specs.Prelude.{◌≡◌, ◌⊎◌, ◌<◌, ℕ, List, [], ◌∷◌, ◌++◌, Err}
use Rattle.n41_record.specs.declared.fault.GatherFault.{GatherFault}
use Rattle.n41_record.specs.Streams.{Records, Refused, BeginsWith}
use Rattle.n41_link.specs.declared.connection.Inflow.{Ghosts as InGhosts}
use Rattle.n41_link.specs.declared.connection.Outflow.{Ghosts as OutGhosts}
use Rattle.n41_results.specs.declared.messages.Parcel.{Ghosts as ParcelGhosts}
use Rattle.n41_results.specs.declared.replies.Reply.{Reply}
use Rattle.n41_results.specs.declared.shapes.Shape.{Shape}
use Rattle.n41_replies.specs.declared.fault.MsgFault.{MsgFault}
use Rattle.n41_replies.specs.Replies.{reply_at}
use Rattle.n41_journal.specs.declared.events.Cause.{Cause}
use Rattle.n41_journal.specs.declared.events.Cause.TheVariants as cause
use Rattle.n41_journal.specs.declared.events.Event.{Event}
use Rattle.n41_calls.specs.Kept.{IsOld}
use Rattle.n41_core.specs.Causes.{ShapeCause}
use Rattle.n41_wire.specs.Ends.{inlet_log, inlet_replies, inlet_inflow, inlet_still, outlet_outflow}
use Rattle.n41_wire.specs.Logs.{AreReadAs}
use Rattle.n41_wire.specs.declared.wire.Wire.{Wire}

-- ---- what was read

-- records that are read as these replies, then a rest that holds no whole record
abbrev pub EndsBehind : List ℕ → List Reply → Type 0
EndsBehind bytes replies = (list : List (List ℕ)) × (rest : List ℕ) × Records bytes list rest × AreReadAs list replies

-- the same, then a record that passes a limit
abbrev pub PassesBehind : List ℕ → List Reply → Type 0
PassesBehind bytes replies = (list : List (List ℕ)) × (rest : List ℕ) × (fault : GatherFault) × Refused bytes list rest fault × AreReadAs list replies

-- the same, then a record that spells no reply
abbrev pub GarblesBehind : List ℕ → List Reply → Type 0
GarblesBehind bytes replies = (list : List (List ℕ)) × (bad : List ℕ) × (rest : List ℕ) × (fault : MsgFault) × BeginsWith bytes (list ++ bad ∷ []) rest × AreReadAs list replies × (reply_at bad ≡ Err fault)

-- ---- causes

-- the replies that were handed out were all taken
abbrev pub AllTaken : {I O P : Type 0} {g : InGhosts I} {h : OutGhosts O} {k : ParcelGhosts P} → Wire I O P g h k → List Reply → Type 0
AllTaken w taken = inlet_replies w.inlet ≡ taken

-- this one was handed out behind those that were taken
abbrev pub OneLeft : {I O P : Type 0} {g : InGhosts I} {h : OutGhosts O} {k : ParcelGhosts P} → Wire I O P g h k → List Reply → Reply → Type 0
OneLeft w taken y = inlet_replies w.inlet ≡ taken ++ y ∷ []

-- The cause with which the connection of a wire broke, behind this journal, with the replies taken on it: a count of faults rose; the end was
-- told; a record passed a limit; a record was no reply, or a reply answered nothing that waited; a request was old, and nothing had come for a
-- while. Memory may run out at any time, with or without a reply at hand.
abbrev pub BreakCause : {I O P : Type 0} {g : InGhosts I} {h : OutGhosts O} {k : ParcelGhosts P} → List Event → Cause → Wire I O P g h k → List Reply → Type 0
BreakCause {g = g} {h = h} js cause.Link w taken = AllTaken w taken × ((0 < g.faults (inlet_inflow w.inlet)) ⊎ (0 < h.faults (outlet_outflow w.outlet)))
BreakCause {g = g} js cause.Ended w taken = AllTaken w taken × (0 < g.ends (inlet_inflow w.inlet)) × EndsBehind (inlet_log w.inlet) taken
BreakCause js cause.BadRecord w taken = AllTaken w taken × PassesBehind (inlet_log w.inlet) taken
BreakCause js cause.Garbled w taken = (AllTaken w taken × GarblesBehind (inlet_log w.inlet) taken) ⊎ ((y : Reply) × (s : Shape) × OneLeft w taken y × ShapeCause js y s)
BreakCause js (cause.Old x) w taken = AllTaken w taken × IsOld js x × (0 < inlet_still w.inlet) × EndsBehind (inlet_log w.inlet) taken
BreakCause js cause.NoMemory w taken = AllTaken w taken ⊎ ((y : Reply) × OneLeft w taken y)
