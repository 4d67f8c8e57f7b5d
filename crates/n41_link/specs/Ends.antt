-- What an ear and a mouth keep.
use Rattle.std.specs.Prelude.{ℕ, List}
use Rattle.std.specs.declared.option.Option.{Option}
use Rattle.n41_record.specs.Gathered.{Gathered}
use Rattle.n41_link.specs.declared.connection.Inflow.{Ghosts as InGhosts}
use Rattle.n41_link.specs.declared.ear.Ear.{Ear}
use Rattle.n41_link.specs.declared.ear.EarFault.{EarFault}
use Rattle.n41_link.specs.declared.connection.Outflow.{Ghosts as OutGhosts}
use Rattle.n41_link.specs.declared.mouth.Mouth.{Mouth}
use Rattle.n41_link.specs.declared.mouth.SayFault.{SayFault}

-- all bytes that were read and all records that were given, with those that wait and what was refused
abbrev pub ear_gather : {I : Type 0} {g : InGhosts I} → Ear I g → Gathered
ear_gather e = e.gather

-- all bytes that were read
abbrev pub ear_log : {I : Type 0} {g : InGhosts I} → Ear I g → List ℕ
ear_log e = e.gather.fed

-- all records that were given
abbrev pub ear_given : {I : Type 0} {g : InGhosts I} → Ear I g → List (List ℕ)
ear_given e = e.gather.given

-- what it reads from
abbrev pub ear_inflow : {I : Type 0} {g : InGhosts I} → Ear I g → I
ear_inflow e = e.inflow

-- the fault that it answers from now on
abbrev pub ear_fault : {I : Type 0} {g : InGhosts I} → Ear I g → Option EarFault
ear_fault e = e.fault

-- the quiets since the last byte
abbrev pub ear_still : {I : Type 0} {g : InGhosts I} → Ear I g → ℕ
ear_still e = e.still

-- all bytes that were written
abbrev pub mouth_log : {O : Type 0} {g : OutGhosts O} → Mouth O g → List ℕ
mouth_log m = m.sent.bytes

-- what it writes to
abbrev pub mouth_outflow : {O : Type 0} {g : OutGhosts O} → Mouth O g → O
mouth_outflow m = m.outflow

-- the fault that it answers from now on
abbrev pub mouth_fault : {O : Type 0} {g : OutGhosts O} → Mouth O g → Option SayFault
mouth_fault m = m.fault
