-- For the loops that read.
use Rattle.std.proofs.Common.{◌≡◌, ℕ, suc, ◌-◌, ◌+◌, ◌<◌, List, [], ◌∷◌, ◌++◌, Result, Ok, Err, refl, sym, ap, ◌∙◌, add-one, arith}
use Rattle.n41_xdr.specs.Format.{Format, many_at, fault_as}
use Rattle.n41_xdr.proofs.Loop.{with_front, regroup, ends}
use Rattle.n41_attr.specs.declared.fault.OpFault.{OpFault}
use Rattle.n41_attr.specs.declared.fault.OpFault.TheVariants.{Xdr, Attr, Illegal, NoMemory}
use Rattle.n41_attr.specs.Operations as operations
use Rattle.n41_results.specs.declared.callbacks.CbRes.{CbRes}
use Rattle.n41_cbmsg.specs.declared.fault.MsgFault.{MsgFault}
use Rattle.n41_cbmsg.specs.declared.fault.MsgFault.TheVariants as msg
use Rattle.n41_cbmsg.specs.Reading.{of_op, Fails}
use Rattle.n41_cbmsg.specs.Outcomes.{outcome, outcomes_at}

-- an element's fault is that of the whole
pub part_fails : {A : Type 0} (p : Format OpFault A) (e : OpFault) (front : List A) (count i : ℕ) (bytes after new : List ℕ) (total : Result (List A × List ℕ) OpFault) → i < count
    → operations.Gives {X = A} {Y = A} (λ x. x) (Err e) after (p.read bytes) → with_front front (many_at p (count - i) bytes) ≡ total
    → operations.Gives {X = List A} {Y = List A} (λ x. x) (Err e) new total
part_fails p (Xdr f) front count i bytes after new total lt h so_far = ends p (Xdr f) front count i bytes total lt h so_far
part_fails p (Attr f) front count i bytes after new total lt h so_far = ends p (Attr f) front count i bytes total lt h so_far
part_fails p (Illegal n) front count i bytes after new total lt h so_far = ends p (Illegal n) front count i bytes total lt h so_far
part_fails p NoMemory front count i bytes after new total lt h so_far = tt

-- ---- results, with their places

pub result_goes_on : (front : List CbRes) (count i : ℕ) (bytes : List ℕ) (x : CbRes) (after : List ℕ) (total : Result (List CbRes × List ℕ) MsgFault) → i < count → fault_as (of_op i) (outcome.read bytes) ≡ Ok (x, after)
    → with_front front (outcomes_at i (count - i) bytes) ≡ total → with_front (front ++ x ∷ []) (outcomes_at (i + 1) (count - (i + 1)) after) ≡ total
result_goes_on front count i bytes x after total lt h so_far =
    let k : count - i ≡ suc (count - (i + 1)) = omega arith in
    let next : i + 1 ≡ suc i = add-one i in
    let one : with_front front (outcomes_at i (count - i) bytes) ≡ with_front (front ++ x ∷ []) (outcomes_at (suc i) (count - (i + 1)) after) = rw (k, h) (regroup front x (outcomes_at (suc i) (count - (i + 1)) after)) in
    ap (λ (j : ℕ). with_front (front ++ x ∷ []) (outcomes_at j (count - (i + 1)) after)) next ∙ sym one ∙ so_far

result_ends : (e : MsgFault) (front : List CbRes) (count i : ℕ) (bytes : List ℕ) (total : Result (List CbRes × List ℕ) MsgFault) → i < count → fault_as (of_op i) (outcome.read bytes) ≡ Err e
    → with_front front (outcomes_at i (count - i) bytes) ≡ total → total ≡ Err e
result_ends e front count i bytes total lt h so_far =
    let k : count - i ≡ suc (count - (i + 1)) = omega arith in
    let one : with_front front (outcomes_at i (count - i) bytes) ≡ Err e = rw (k, h) refl in
    sym so_far ∙ one

pub result_fails : (e : MsgFault) (front : List CbRes) (count i : ℕ) (bytes : List ℕ) (total : Result (List CbRes × List ℕ) MsgFault) → i < count → Fails e (fault_as (of_op i) (outcome.read bytes))
    → with_front front (outcomes_at i (count - i) bytes) ≡ total → Fails e total
result_fails (msg.Rpc f) front count i bytes total lt h so_far = result_ends (msg.Rpc f) front count i bytes total lt h so_far
result_fails (msg.Op p f) front count i bytes total lt h so_far = result_ends (msg.Op p f) front count i bytes total lt h so_far
result_fails (msg.Count s l) front count i bytes total lt h so_far = result_ends (msg.Count s l) front count i bytes total lt h so_far
result_fails (msg.Left n) front count i bytes total lt h so_far = result_ends (msg.Left n) front count i bytes total lt h so_far
result_fails msg.NoMemory front count i bytes total lt h so_far = tt
