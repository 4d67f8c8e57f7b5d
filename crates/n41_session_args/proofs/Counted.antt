-- Where an element of an array is refused, the array is.
use Rattle.std.proofs.Common.{◌≡◌, ◌<◌, ◌-◌, ℕ, List, Result, Ok, Err}
use Rattle.n41_xdr.specs.Format.{Format, many_at}
use Rattle.n41_xdr.proofs.Loop.{with_front, ends}
use Rattle.n41_attr.specs.declared.fault.OpFault.{OpFault}
use Rattle.n41_attr.specs.declared.fault.OpFault.TheVariants.{Xdr, Attr, Illegal, NoMemory}
use Rattle.n41_attr.specs.Operations.{Gives}

pub is_refused : {A X : Type 0} (p : Format OpFault A) (view : X → A) (f : OpFault) (front : List A) (count i : ℕ) (bytes new : List ℕ) (total : Result (List A × List ℕ) OpFault) → i < count
    → Gives {X = X} {Y = A} view (Err f) new (p.read bytes) → with_front front (many_at p (count - i) bytes) ≡ total → Gives {X = List A} {Y = List A} (λ xs. xs) (Err f) new total
is_refused p view (Xdr g) front count i bytes new total lt h so_far = ends p (Xdr g) front count i bytes total lt h so_far
is_refused p view (Attr g) front count i bytes new total lt h so_far = ends p (Attr g) front count i bytes total lt h so_far
is_refused p view (Illegal n) front count i bytes new total lt h so_far = ends p (Illegal n) front count i bytes total lt h so_far
is_refused p view NoMemory front count i bytes new total lt h so_far = tt
