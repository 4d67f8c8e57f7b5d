-- Own: the faults of messages, and what a call that reads one answers.
use Rattle.std.specs.Prelude.{◌≡◌, ℕ, List, Result, Ok, Err}
use Rattle.n41_xdr.specs.declared.fault.XdrFault.{XdrFault}
use Rattle.n41_rpc.specs.declared.fault.RpcFault.{RpcFault}
use Rattle.n41_rpc.specs.declared.fault.RpcFault.TheVariants as rpc
use Rattle.n41_attr.specs.declared.fault.OpFault.{OpFault}
use Rattle.n41_attr.specs.declared.fault.OpFault.TheVariants as op
use Rattle.n41_replies.specs.declared.fault.MsgFault.{MsgFault}
use Rattle.n41_replies.specs.declared.fault.MsgFault.TheVariants.{Rpc, Op, Count, Left, NoMemory}

-- a fault of a head, and of what stands between the head and the operations
abbrev pub of_rpc : RpcFault → MsgFault
of_rpc rpc.NoMemory = NoMemory
of_rpc (rpc.Xdr f) = Rpc (rpc.Xdr f)
of_rpc (rpc.BadKind n) = Rpc (rpc.BadKind n)

abbrev pub of_xdr : XdrFault → MsgFault
of_xdr f = Rpc (rpc.Xdr f)

-- a fault of the operation at a place, from 0
abbrev pub of_op : ℕ → OpFault → MsgFault
of_op place op.NoMemory = NoMemory
of_op place (op.Xdr f) = Op place (op.Xdr f)
of_op place (op.Attr f) = Op place (op.Attr f)
of_op place (op.Illegal n) = Op place (op.Illegal n)

-- the fault is the first one, unless memory ran out
abbrev pub Fails : {Y : Type 0} → MsgFault → Result Y MsgFault → Type 0
Fails (Rpc f) read = read ≡ Err (Rpc f)
Fails (Op place f) read = read ≡ Err (Op place f)
Fails (Count status last) read = read ≡ Err (Count status last)
Fails (Left n) read = read ≡ Err (Left n)
Fails NoMemory read = Unit {0}

-- what was read, and what is left, is what reading gives
abbrev pub Reads : {X Y : Type 0} → (X → Y) → Result X MsgFault → List ℕ → Result (Y × List ℕ) MsgFault → Type 0
Reads view (Ok x) new read = read ≡ Ok (view x, new)
Reads view (Err e) new read = Fails e read

-- the same, of a whole message
abbrev pub Gives : {X : Type 0} → Result X MsgFault → Result X MsgFault → Type 0
Gives (Ok x) read = read ≡ Ok x
Gives (Err e) read = Fails e read
