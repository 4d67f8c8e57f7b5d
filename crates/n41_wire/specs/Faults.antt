-- The faults of an inlet: its ear's, and those of reading a record. (own)
use Rattle.std.specs.Prelude.{Some, None}
use Rattle.std.specs.declared.option.Option.{Option}
use Rattle.n41_link.specs.declared.ear.EarFault.{EarFault}
use Rattle.n41_link.specs.declared.ear.EarFault.TheVariants as ear
use Rattle.n41_replies.specs.declared.fault.MsgFault.{MsgFault}
use Rattle.n41_replies.specs.declared.fault.MsgFault.TheVariants as msg
use Rattle.n41_wire.specs.declared.fault.InFault.{InFault}
use Rattle.n41_wire.specs.declared.fault.InFault.TheVariants.{Failed, Gather, Garbled, NoMemory}

abbrev pub of_ear : EarFault → InFault
of_ear ear.Failed = Failed
of_ear (ear.Gather f) = Gather f
of_ear ear.NoMemory = NoMemory

-- a record that is no reply is garbled
abbrev pub of_msg : MsgFault → InFault
of_msg (msg.Rpc f) = Garbled (msg.Rpc f)
of_msg (msg.Op place f) = Garbled (msg.Op place f)
of_msg (msg.Count status last) = Garbled (msg.Count status last)
of_msg (msg.Left n) = Garbled (msg.Left n)
of_msg msg.NoMemory = NoMemory

-- that of the last record, or else the ear's
abbrev pub fault_of : Option MsgFault → Option EarFault → Option InFault
fault_of (Some f) heard = Some (of_msg f)
fault_of None (Some f) = Some (of_ear f)
fault_of None None = None
