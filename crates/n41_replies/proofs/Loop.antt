-- Reading results one after the other, as a loop does.
use Rattle.std.proofs.Common.{◌≡◌, ℕ, suc, ◌-◌, ◌+◌, ◌<◌, List, [], ◌∷◌, ◌++◌, Result, Ok, Err, refl, sym, ap, ◌∙◌, add-one, arith}
use Rattle.n41_xdr.specs.Format.{fault_as, made}
use Rattle.n41_xdr.proofs.Loop.{with_front, regroup}
use Rattle.n41_results.specs.declared.results.Res.{Res}
use Rattle.n41_ops.specs.Results.{told_res, res_of}
use Rattle.n41_replies.specs.declared.fault.MsgFault.{MsgFault}
use Rattle.n41_replies.specs.declared.fault.MsgFault.TheVariants.{Rpc, Op, Count, Left, NoMemory}
use Rattle.n41_replies.specs.Faults.{of_op, Fails}
use Rattle.n41_replies.specs.Replies.{results_at}

-- the result at a place
abbrev pub result_at : ℕ → List ℕ → Result (Res × List ℕ) MsgFault
result_at place bytes = fault_as (of_op place) (made res_of told_res bytes)

pub goes_on : (front : List Res) (count i : ℕ) (bytes : List ℕ) (n : Res) (after : List ℕ) (total : Result (List Res × List ℕ) MsgFault) → i < count → result_at i bytes ≡ Ok (n, after)
    → with_front front (results_at i (count - i) bytes) ≡ total → with_front (front ++ n ∷ []) (results_at (i + 1) (count - (i + 1)) after) ≡ total
goes_on front count i bytes n after total lt h so_far =
    let k : count - i ≡ suc (count - (i + 1)) = omega arith in
    let next : i + 1 ≡ suc i = add-one i in
    let one : with_front front (results_at i (count - i) bytes) ≡ with_front (front ++ n ∷ []) (results_at (suc i) (count - (i + 1)) after) = rw (k, h) (regroup front n (results_at (suc i) (count - (i + 1)) after)) in
    ap (λ (j : ℕ). with_front (front ++ n ∷ []) (results_at j (count - (i + 1)) after)) next ∙ sym one ∙ so_far

ends : (e : MsgFault) (front : List Res) (count i : ℕ) (bytes : List ℕ) (total : Result (List Res × List ℕ) MsgFault) → i < count → result_at i bytes ≡ Err e
    → with_front front (results_at i (count - i) bytes) ≡ total → total ≡ Err e
ends e front count i bytes total lt h so_far =
    let k : count - i ≡ suc (count - (i + 1)) = omega arith in
    let one : with_front front (results_at i (count - i) bytes) ≡ Err e = rw (k, h) refl in
    sym so_far ∙ one

pub fails : (e : MsgFault) (front : List Res) (count i : ℕ) (bytes : List ℕ) (total : Result (List Res × List ℕ) MsgFault) → i < count → Fails e (result_at i bytes)
    → with_front front (results_at i (count - i) bytes) ≡ total → Fails e total
fails (Rpc f) front count i bytes total lt h so_far = ends (Rpc f) front count i bytes total lt h so_far
fails (Op p f) front count i bytes total lt h so_far = ends (Op p f) front count i bytes total lt h so_far
fails (Count s l) front count i bytes total lt h so_far = ends (Count s l) front count i bytes total lt h so_far
fails (Left n) front count i bytes total lt h so_far = ends (Left n) front count i bytes total lt h so_far
fails NoMemory front count i bytes total lt h so_far = tt
