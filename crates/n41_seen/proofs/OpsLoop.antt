-- For the loop that reads the operations of a call: what was read, put before what is still to be read, is the whole.
use Rattle.std.proofs.Common.{◌≡◌, ℕ, suc, ◌-◌, ◌+◌, ◌<◌, List, [], ◌∷◌, ◌++◌, Some, None, refl, sym, ap, ◌∙◌, append_assoc, arith}
use Rattle.std.proofs.lemmas.List.{append-nil}
use Rattle.n41_args.specs.declared.arg.Arg.{Arg}
use Rattle.n41_seen.specs.declared.calls.SeenTail.{SeenTail}
use Rattle.n41_seen.specs.declared.compounds.Step.TheVariants.{Known, Last, Broken}
use Rattle.n41_seen.specs.Calls.{Seen, with, ops_seen}
use Rattle.n41_seen.specs.Steps.{IsStep}

abbrev pub with_ops : List Arg → Seen → Seen
with_ops front None = None
with_ops front (Some ops) = Some (record { list = front ++ ops.list; tail = ops.tail })

abbrev pub seen_as : SeenTail → List Arg → Seen
seen_as tail list = Some (record { list = list; tail = tail })

regroup : (front : List Arg) (x : Arg) (seen : Seen) → with_ops front (with x seen) ≡ with_ops (front ++ x ∷ []) seen
regroup front x None = refl
regroup front x (Some ops) = ap (seen_as ops.tail) (simp append_assoc)

pub goes_on : (front : List Arg) (count i : ℕ) (bytes after : List ℕ) (x : Arg) (total : Seen) → i < count → IsStep (Known x) bytes after
    → with_ops front (ops_seen (count - i) bytes) ≡ total → with_ops (front ++ x ∷ []) (ops_seen (count - (i + 1)) after) ≡ total
goes_on front count i bytes after x total lt step so_far =
    let k : count - i ≡ suc (count - (i + 1)) = omega arith in
    let one : with_ops front (ops_seen (count - i) bytes) ≡ with_ops (front ++ x ∷ []) (ops_seen (count - (i + 1)) after) =
    rw k (ap (with_ops front) (step (ops_seen (count - (i + 1)))) ∙ regroup front x (ops_seen (count - (i + 1)) after)) in
    sym one ∙ so_far

pub ends : (front : List Arg) (count i : ℕ) (bytes after : List ℕ) (tail : SeenTail) (total : Seen) → i < count → IsStep (Last tail) bytes after
    → with_ops front (ops_seen (count - i) bytes) ≡ total → seen_as tail front ≡ total
ends front count i bytes after tail total lt step so_far =
    let k : count - i ≡ suc (count - (i + 1)) = omega arith in
    let one : with_ops front (ops_seen (count - i) bytes) ≡ seen_as tail (front ++ []) = rw k (ap (with_ops front) (step (ops_seen (count - (i + 1))))) in
    ap (seen_as tail) (sym (append-nil front)) ∙ sym one ∙ so_far

pub is_garbled : (front : List Arg) (count i : ℕ) (bytes after : List ℕ) (total : Seen) → i < count → IsStep Broken bytes after
    → with_ops front (ops_seen (count - i) bytes) ≡ total → None ≡ total
is_garbled front count i bytes after total lt step so_far =
    let k : count - i ≡ suc (count - (i + 1)) = omega arith in
    let one : with_ops front (ops_seen (count - i) bytes) ≡ None = rw k (ap (with_ops front) (step (ops_seen (count - (i + 1))))) in
    sym one ∙ so_far
