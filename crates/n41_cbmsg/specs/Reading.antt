-- Own: what a call that reads answers, and how the fault of a part is seen as that of the message.
use Rattle.std.specs.Prelude.{◌≡◌, ℕ, List, Result, Ok, Err}
use Rattle.n41_xdr.specs.declared.fault.XdrFault.{XdrFault}
use Rattle.n41_rpc.specs.declared.fault.RpcFault.{RpcFault}
use Rattle.n41_rpc.specs.declared.fault.RpcFault.TheVariants as rpc
use Rattle.n41_cbmsg.specs.declared.fault.MsgFault.{MsgFault}
use Rattle.n41_cbmsg.specs.declared.fault.MsgFault.TheVariants.{Rpc, Op, Count, Left, NoMemory}

abbrev pub of_rpc : RpcFault → MsgFault
of_rpc rpc.NoMemory = NoMemory
of_rpc (rpc.Xdr f) = Rpc (rpc.Xdr f)
of_rpc (rpc.BadKind n) = Rpc (rpc.BadKind n)

-- a fault outside of the results
abbrev pub of_xdr : XdrFault → MsgFault
of_xdr f = Rpc (rpc.Xdr f)

-- a fault of the result at a place
abbrev pub of_op : ℕ → XdrFault → MsgFault
of_op place f = Op place f

-- the fault is the first one, unless memory runs out
abbrev pub Fails : {Y : Type 0} → MsgFault → Result Y MsgFault → Type 0
Fails (Rpc f) read = read ≡ Err (Rpc f)
Fails (Op place f) read = read ≡ Err (Op place f)
Fails (Count status last) read = read ≡ Err (Count status last)
Fails (Left n) read = read ≡ Err (Left n)
Fails NoMemory read = Unit {0}

-- The answer, seen by view, and the bytes that are left are what reading gives, unless memory runs out.
abbrev pub Gives : {X Y : Type 0} → (X → Y) → Result X MsgFault → List ℕ → Result (Y × List ℕ) MsgFault → Type 0
Gives view (Ok x) new read = read ≡ Ok (view x, new)
Gives view (Err e) new read = Fails e read

-- the same of a whole message
abbrev pub IsRead : {X : Type 0} → Result X MsgFault → Result X MsgFault → Type 0
IsRead (Ok x) read = read ≡ Ok x
IsRead (Err e) read = Fails e read

-- the same of a part that needs no memory
abbrev pub GivesPart : {X Y : Type 0} → (X → Y) → Result X XdrFault → List ℕ → Result (Y × List ℕ) XdrFault → Type 0
GivesPart view (Ok x) new read = read ≡ Ok (view x, new)
GivesPart view (Err f) new read = read ≡ Err f
