-- Reading the elements of a linked list or of an array, as a loop does.
use Rattle.std.proofs.Common.{◌≡◌, ℕ, ◌-◌, ◌<◌, List, Option, Result, Ok, Err}
use Rattle.n41_xdr.specs.Format.{Format, optional, chain_at, many_at}
use Rattle.n41_xdr.proofs.Loop.{with_front, chain_ends, ends}
use Rattle.n41_attr.specs.declared.fault.OpFault.{OpFault}
use Rattle.n41_attr.specs.declared.fault.OpFault.TheVariants.{Xdr, Attr, Illegal, NoMemory}
use Rattle.n41_attr.specs.Operations.{Gives}

-- a fault of an element is that of the list
pub chain_fails : {A B : Type 0} (view : B → List A) (p : Format OpFault A) (e : OpFault) (front : List A) (count i : ℕ) (bytes after : List ℕ) (total : Result (List A × List ℕ) OpFault) → i < count
    → Gives {X = Option A} {Y = Option A} (λ x. x) (Err e) after ((optional Xdr p).read bytes)
    → with_front front (chain_at Xdr p (count - i) bytes) ≡ total → Gives {X = B} {Y = List A} view (Err e) after total
chain_fails view p (Xdr f) front count i bytes after total lt h so_far = chain_ends Xdr p (Xdr f) front count i bytes total lt h so_far
chain_fails view p (Attr f) front count i bytes after total lt h so_far = chain_ends Xdr p (Attr f) front count i bytes total lt h so_far
chain_fails view p (Illegal n) front count i bytes after total lt h so_far = chain_ends Xdr p (Illegal n) front count i bytes total lt h so_far
chain_fails view p NoMemory front count i bytes after total lt h so_far = tt

-- a fault of an element is that of the array
pub many_fails : {A B : Type 0} (view : B → List A) (p : Format OpFault A) (e : OpFault) (front : List A) (count i : ℕ) (bytes after : List ℕ) (total : Result (List A × List ℕ) OpFault) → i < count
    → Gives {X = A} {Y = A} (λ x. x) (Err e) after (p.read bytes)
    → with_front front (many_at p (count - i) bytes) ≡ total → Gives {X = B} {Y = List A} view (Err e) after total
many_fails view p (Xdr f) front count i bytes after total lt h so_far = ends p (Xdr f) front count i bytes total lt h so_far
many_fails view p (Attr f) front count i bytes after total lt h so_far = ends p (Attr f) front count i bytes total lt h so_far
many_fails view p (Illegal n) front count i bytes after total lt h so_far = ends p (Illegal n) front count i bytes total lt h so_far
many_fails view p NoMemory front count i bytes after total lt h so_far = tt
