-- Own: what a call that reads answers.
use Rattle.std.specs.Prelude.{◌≡◌, ℕ, List, Result, Ok, Err}
use Rattle.n41_attr.specs.declared.fault.OpFault.{OpFault}
use Rattle.n41_attr.specs.declared.fault.OpFault.TheVariants.{Xdr, Attr, Illegal, NoMemory}

-- The answer, seen by view, is what reading gives, unless memory runs out; after any fault nothing is taken.
abbrev pub Reads : {X Y : Type 0} → (X → Y) → Result X OpFault → List ℕ → List ℕ → Result (Y × List ℕ) OpFault → Type 0
Reads view (Ok x) old new read = read ≡ Ok (view x, new)
Reads view (Err NoMemory) old new read = new ≡ old
Reads view (Err (Xdr f)) old new read = (read ≡ Err (Xdr f)) × (new ≡ old)
Reads view (Err (Attr f)) old new read = (read ≡ Err (Attr f)) × (new ≡ old)
Reads view (Err (Illegal n)) old new read = (read ≡ Err (Illegal n)) × (new ≡ old)

-- the same, where nothing is said of what is taken by a fault
abbrev pub Gives : {X Y : Type 0} → (X → Y) → Result X OpFault → List ℕ → Result (Y × List ℕ) OpFault → Type 0
Gives view (Ok x) new read = read ≡ Ok (view x, new)
Gives view (Err NoMemory) new read = Unit {0}
Gives view (Err (Xdr f)) new read = read ≡ Err (Xdr f)
Gives view (Err (Attr f)) new read = read ≡ Err (Attr f)
Gives view (Err (Illegal n)) new read = read ≡ Err (Illegal n)
