-- Own: what a call that reads answers, and what a call that writes leaves.
use Rattle.std.specs.Prelude.{◌≡◌, ℕ, List, ◌++◌, length, take, Result, Ok, Err}
use Rattle.n41_rpc.specs.declared.fault.RpcFault.{RpcFault}
use Rattle.n41_rpc.specs.declared.fault.RpcFault.TheVariants.{Xdr, BadKind, NoMemory}

-- The answer, seen by view, is what reading gives, unless memory runs out; after any fault nothing is taken.
abbrev pub Reads : {X Y : Type 0} → (X → Y) → Result X RpcFault → List ℕ → List ℕ → Result (Y × List ℕ) RpcFault → Type 0
Reads view (Ok x) old new read = read ≡ Ok (view x, new)
Reads view (Err NoMemory) old new read = new ≡ old
Reads view (Err (Xdr f)) old new read = (read ≡ Err (Xdr f)) × (new ≡ old)
Reads view (Err (BadKind n)) old new read = (read ≡ Err (BadKind n)) × (new ≡ old)

-- the same, where nothing is said of what is taken by a fault
abbrev pub Gives : {X Y : Type 0} → (X → Y) → Result X RpcFault → List ℕ → Result (Y × List ℕ) RpcFault → Type 0
Gives view (Ok x) new read = read ≡ Ok (view x, new)
Gives view (Err NoMemory) new read = Unit {0}
Gives view (Err (Xdr f)) new read = read ≡ Err (Xdr f)
Gives view (Err (BadKind n)) new read = read ≡ Err (BadKind n)

-- What is left by a write: the text behind what was there, or, where memory runs out, what was there and perhaps a part of the text.
abbrev pub Writes : {X E : Type 0} → Result X E → List ℕ → List ℕ → List ℕ → Type 0
Writes (Ok _) old new text = new ≡ old ++ text
Writes (Err _) old new text = take (length old) new ≡ old
