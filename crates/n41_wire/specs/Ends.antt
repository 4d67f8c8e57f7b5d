-- What an inlet and an outlet keep.
use Rattle.std.specs.Prelude.{◌≡◌, ℕ, List}
use Rattle.std.specs.declared.option.Option.{Option}
use Rattle.n41_record.specs.Gathered.{Gathered}
use Rattle.n41_link.specs.Ends.{ear_gather, ear_log, ear_given, ear_inflow, ear_fault, ear_still, mouth_log, mouth_outflow, mouth_fault}
use Rattle.n41_link.specs.declared.connection.Inflow.{Ghosts as InGhosts}
use Rattle.n41_link.specs.declared.connection.Outflow.{Ghosts as OutGhosts}
use Rattle.n41_link.specs.declared.ear.Ear.{Ear}
use Rattle.n41_link.specs.declared.mouth.Mouth.{Mouth}
use Rattle.n41_link.specs.declared.mouth.SayFault.{SayFault}
use Rattle.n41_replies.specs.declared.fault.MsgFault.{MsgFault}
use Rattle.n41_results.specs.declared.messages.Parcel.{Ghosts as ParcelGhosts}
use Rattle.n41_results.specs.declared.messages.Parts.{Parts}
use Rattle.n41_results.specs.declared.replies.Reply.{Reply}
use Rattle.n41_wire.specs.Faults.{fault_of}
use Rattle.n41_wire.specs.declared.fault.InFault.{InFault}
use Rattle.n41_wire.specs.declared.inlet.Inlet.{Inlet}
use Rattle.n41_wire.specs.declared.outlet.Outlet.{Outlet}

-- the number of its connection
abbrev pub inlet_conn : {I : Type 0} {g : InGhosts I} → Inlet I g → ℕ
inlet_conn i = i.conn

abbrev pub inlet_ear : {I : Type 0} {g : InGhosts I} → Inlet I g → Ear I g
inlet_ear i = i.ear

-- all bytes that were read and all records that were given, with those that wait and what was refused
abbrev pub inlet_gather : {I : Type 0} {g : InGhosts I} → Inlet I g → Gathered
inlet_gather i = ear_gather i.ear

-- all bytes that were read
abbrev pub inlet_log : {I : Type 0} {g : InGhosts I} → Inlet I g → List ℕ
inlet_log i = ear_log i.ear

-- all records that its ear gave
abbrev pub inlet_given : {I : Type 0} {g : InGhosts I} → Inlet I g → List (List ℕ)
inlet_given i = ear_given i.ear

-- all replies that were handed out
abbrev pub inlet_replies : {I : Type 0} {g : InGhosts I} → Inlet I g → List Reply
inlet_replies i = i.log.replies

-- the fault of the last record
abbrev pub inlet_refused : {I : Type 0} {g : InGhosts I} → Inlet I g → Option MsgFault
inlet_refused i = i.log.fault

-- the fault that it answers from now on
abbrev pub inlet_fault : {I : Type 0} {g : InGhosts I} → Inlet I g → Option InFault
inlet_fault i = fault_of i.log.fault (ear_fault i.ear)

-- what it reads from
abbrev pub inlet_inflow : {I : Type 0} {g : InGhosts I} → Inlet I g → I
inlet_inflow i = ear_inflow i.ear

-- the quiets since the last byte
abbrev pub inlet_still : {I : Type 0} {g : InGhosts I} → Inlet I g → ℕ
inlet_still i = ear_still i.ear

abbrev pub outlet_mouth : {O P : Type 0} {g : OutGhosts O} {h : ParcelGhosts P} → Outlet O P g h → Mouth O g
outlet_mouth o = o.mouth

-- all bytes that were written
abbrev pub outlet_log : {O P : Type 0} {g : OutGhosts O} {h : ParcelGhosts P} → Outlet O P g h → List ℕ
outlet_log o = mouth_log o.mouth

-- what the messages were made of that were sent whole
abbrev pub outlet_sent : {O P : Type 0} {g : OutGhosts O} {h : ParcelGhosts P} → Outlet O P g h → List Parts
outlet_sent o = o.posted.parts

-- the fault that it answers from now on
abbrev pub outlet_fault : {O P : Type 0} {g : OutGhosts O} {h : ParcelGhosts P} → Outlet O P g h → Option SayFault
outlet_fault o = mouth_fault o.mouth

-- what it writes to
abbrev pub outlet_outflow : {O P : Type 0} {g : OutGhosts O} {h : ParcelGhosts P} → Outlet O P g h → O
outlet_outflow o = mouth_outflow o.mouth

-- all that it keeps is as it was
pub record KeepsInlet {I : Type 0} {g : InGhosts I} (old new : Inlet I g) : Type 0 where
  pub conn : inlet_conn new ≡ inlet_conn old
  pub ear : inlet_ear new ≡ inlet_ear old
  pub replies : inlet_replies new ≡ inlet_replies old
  pub refused : inlet_refused new ≡ inlet_refused old

pub record KeepsOutlet {O P : Type 0} {g : OutGhosts O} {h : ParcelGhosts P} (old new : Outlet O P g h) : Type 0 where
  pub mouth : outlet_mouth new ≡ outlet_mouth old
  pub sent : outlet_sent new ≡ outlet_sent old
