-- For the loop that reads the operations of a callback: what was read, put before what is still to be read, is the whole.
use Rattle.std.proofs.Common.{◌≡◌, ℕ, suc, ◌-◌, ◌+◌, ◌<◌, List, [], ◌∷◌, ◌++◌, Some, None, refl, sym, ap, ◌∙◌, append_assoc, arith}
use Rattle.std.proofs.lemmas.List.{append-nil}
use Rattle.n41_results.specs.declared.callbacks.CbArg.{CbArg}
use Rattle.n41_results.specs.declared.callbacks.Tail.{Tail}
use Rattle.n41_results.specs.declared.callbacks.Tail.TheVariants.{Unknown}
use Rattle.n41_cbmsg.specs.declared.compounds.Step.TheVariants.{Served, Other, Broken}
use Rattle.n41_cbmsg.specs.Calls.{Seen, with, ops_seen}
use Rattle.n41_cbmsg.specs.Steps.{IsStep}

abbrev pub with_ops : List CbArg → Seen → Seen
with_ops front None = None
with_ops front (Some ops) = Some (record { list = front ++ ops.list; tail = ops.tail })

abbrev pub seen_as : Tail → List CbArg → Seen
seen_as tail list = Some (record { list = list; tail = tail })

regroup : (front : List CbArg) (x : CbArg) (seen : Seen) → with_ops front (with x seen) ≡ with_ops (front ++ x ∷ []) seen
regroup front x None = refl
regroup front x (Some ops) = ap (seen_as ops.tail) (simp append_assoc)

pub goes_on : (front : List CbArg) (count i : ℕ) (bytes after : List ℕ) (x : CbArg) (total : Seen) → i < count → IsStep (Served x) bytes after
    → with_ops front (ops_seen (count - i) bytes) ≡ total → with_ops (front ++ x ∷ []) (ops_seen (count - (i + 1)) after) ≡ total
goes_on front count i bytes after x total lt step so_far =
    let k : count - i ≡ suc (count - (i + 1)) = omega arith in
    let one : with_ops front (ops_seen (count - i) bytes) ≡ with_ops (front ++ x ∷ []) (ops_seen (count - (i + 1)) after) =
    rw k (ap (with_ops front) (step (ops_seen (count - (i + 1)))) ∙ regroup front x (ops_seen (count - (i + 1)) after)) in
    sym one ∙ so_far

pub ends : (front : List CbArg) (count i : ℕ) (bytes after : List ℕ) (n : ℕ) (total : Seen) → i < count → IsStep (Other n) bytes after
    → with_ops front (ops_seen (count - i) bytes) ≡ total → seen_as (Unknown n) front ≡ total
ends front count i bytes after n total lt step so_far =
    let k : count - i ≡ suc (count - (i + 1)) = omega arith in
    let one : with_ops front (ops_seen (count - i) bytes) ≡ seen_as (Unknown n) (front ++ []) = rw k (ap (with_ops front) (step (ops_seen (count - (i + 1))))) in
    ap (seen_as (Unknown n)) (sym (append-nil front)) ∙ sym one ∙ so_far

pub is_garbled : (front : List CbArg) (count i : ℕ) (bytes after : List ℕ) (total : Seen) → i < count → IsStep Broken bytes after
    → with_ops front (ops_seen (count - i) bytes) ≡ total → None ≡ total
is_garbled front count i bytes after total lt step so_far =
    let k : count - i ≡ suc (count - (i + 1)) = omega arith in
    let one : with_ops front (ops_seen (count - i) bytes) ≡ None = rw k (ap (with_ops front) (step (ops_seen (count - (i + 1))))) in
    sym one ∙ so_far
