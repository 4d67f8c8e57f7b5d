-- What an end of a connection shows where it answers. (own)
use Rattle.std.specs.Prelude.{◌≡◌, ◌<◌, ℕ, true, List, [], ◌∷◌, ◌++◌, take, None, Result, Ok, Err}
use Rattle.n41_record.specs.Fragments.{fragment}
use Rattle.n41_link.specs.declared.connection.Inflow.{Ghosts as InGhosts}
use Rattle.n41_link.specs.declared.connection.Outflow.{Ghosts as OutGhosts}
use Rattle.n41_link.specs.declared.mouth.SayFault.{SayFault}
use Rattle.n41_link.specs.declared.mouth.SayFault.TheVariants as say
use Rattle.n41_types.specs.declared.plans.Request.{Request}
use Rattle.n41_results.specs.declared.messages.Parcel.{Ghosts as ParcelGhosts}
use Rattle.n41_results.specs.declared.replies.Reply.{Reply}
use Rattle.n41_requests.specs.Requests.{spelled}
use Rattle.n41_wire.specs.Ends.{inlet_conn, inlet_log, inlet_replies, inlet_fault, inlet_inflow, inlet_still, outlet_log, outlet_fault, outlet_outflow}
use Rattle.n41_wire.specs.Got.{IsNext}
use Rattle.n41_wire.specs.declared.arrival.InGot.{InGot}
use Rattle.n41_wire.specs.declared.arrival.InGot.TheVariants.{Came, Quiet, End}
use Rattle.n41_wire.specs.declared.fault.InFault.{InFault}
use Rattle.n41_wire.specs.declared.fault.InFault.TheVariants.{Failed, Gather, Garbled, NoMemory}
use Rattle.n41_wire.specs.declared.inlet.Inlet.{Inlet}
use Rattle.n41_wire.specs.declared.outlet.Outlet.{Outlet}
use Rattle.n41_desk.specs.Causes.{EndsBehind, PassesBehind, GarblesBehind}

-- An inlet of this connection had handed out these replies before it answered this: then one more, or the same with a cause.
abbrev pub Shows : {I : Type 0} {g : InGhosts I} → Result InGot InFault → List Reply → Inlet I g → Type 0
Shows (Ok (Came a)) before i = (inlet_fault i ≡ None) × IsNext a (inlet_conn i) before × (inlet_replies i ≡ before ++ a.reply ∷ [])
Shows (Ok Quiet) before i = (inlet_fault i ≡ None) × (inlet_replies i ≡ before) × (0 < inlet_still i) × EndsBehind (inlet_log i) before
Shows {g = g} (Ok End) before i = (inlet_replies i ≡ before) × (0 < g.ends (inlet_inflow i)) × EndsBehind (inlet_log i) before
Shows {g = g} (Err Failed) before i = (inlet_replies i ≡ before) × (0 < g.faults (inlet_inflow i))
Shows (Err (Gather f)) before i = (inlet_replies i ≡ before) × PassesBehind (inlet_log i) before
Shows (Err (Garbled f)) before i = (inlet_replies i ≡ before) × GarblesBehind (inlet_log i) before
Shows (Err NoMemory) before i = inlet_replies i ≡ before

-- An outlet had written these bytes before it was to send a request: then the request is written whole, or a part of it where the outflow failed,
-- or nothing for want of memory.
abbrev pub Tells : {O P : Type 0} {h : OutGhosts O} {k : ParcelGhosts P} → Result (Unit {0}) SayFault → List ℕ → Request → Outlet O P h k → Type 0
Tells (Ok x) before r o = (outlet_fault o ≡ None) × (outlet_log o ≡ before ++ fragment true (spelled r))
Tells {h = h} (Err say.Failed) before r o = ((n : ℕ) × (outlet_log o ≡ before ++ take n (fragment true (spelled r)))) × (0 < h.faults (outlet_outflow o))
Tells (Err say.NoMemory) before r o = outlet_log o ≡ before
