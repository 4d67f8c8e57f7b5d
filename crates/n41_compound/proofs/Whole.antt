-- A call and its request.
use Rattle.std.proofs.Common.{◌≡◌, ◌<◌, ◌≤◌, ◌^◌, ℕ, List, [], ◌∷◌, ◌++◌, length, map, Option, Some, None, Result, Ok, refl, sym, ap, subst, ◌∙◌, arith}
use Rattle.n41_types.specs.declared.plans.Place.{Place}
use Rattle.n41_types.specs.declared.plans.Place.TheVariants.{Root, At}
use Rattle.n41_types.specs.declared.plans.Plan.{Plan}
use Rattle.n41_types.specs.declared.plans.Plan.TheVariants as plan
use Rattle.n41_types.specs.declared.plans.Request.{Request}
use Rattle.n41_types.specs.declared.plans.SlotUse.{SlotUse}
use Rattle.n41_args.specs.declared.arg.Arg.{Arg}
use Rattle.n41_args.specs.declared.arg.Arg.TheVariants as arg
use Rattle.n41_requests.specs.Plans.{args_of, behind, put, request_args, lease_mask, stat_mask}
use Rattle.n41_seen.specs.declared.calls.CallSeen.{CallSeen}
use Rattle.n41_seen.specs.Calls.{whole_call}
use Rattle.n41_compound.specs.Calls.{seen_of, IsLawful, IsLawfulPlan, IsSpelledBy}
use Rattle.n41_compound.specs.Heads.{behind_slot, cred_of, slot_in, IsCallBy}
use Rattle.n41_compound.specs.Plans.{plan_of}
use Rattle.n41_compound.proofs.Again.{plan_again}
use Rattle.n41_compound.proofs.Sound.{plan_is}

-- ---- slots

-- no SEQUENCE is the first of these operations
abbrev IsUnslotted : List Arg → Type 0
IsUnslotted args = (slot_in args ≡ None) × (behind_slot args ≡ args)

put_unslotted : (at : Place) (rest : List Arg) → IsUnslotted (put at ∷ rest)
put_unslotted Root rest = (refl, refl)
put_unslotted (At fh) rest = (refl, refl)

unslotted : (p : Plan) → IsUnslotted (args_of p)
unslotted (plan.Walk from names) = put_unslotted from _
unslotted (plan.Stat at) = put_unslotted at _
unslotted (plan.List at c v m) = put_unslotted at _
unslotted (plan.CreateFile dir n g o) = put_unslotted dir _
unslotted (plan.MakeDir dir n) = put_unslotted dir _
unslotted (plan.Remove dir n) = put_unslotted dir _
unslotted (plan.Rename from old to new) = put_unslotted from _
unslotted _ = (refl, refl)

slot_again : (slot : Option SlotUse) (p : Plan) → slot_in (behind slot (args_of p)) ≡ slot
slot_again None p = (unslotted p).0
slot_again (Some s) p = refl

args_again : (slot : Option SlotUse) (p : Plan) → behind_slot (behind slot (args_of p)) ≡ args_of p
args_again None p = (unslotted p).1
args_again (Some s) p = refl

slotted : (args : List Arg) → args ≡ behind (slot_in args) (behind_slot args)
slotted [] = refl
slotted (arg.Sequence s ∷ args) = refl
slotted (_ ∷ args) = refl

-- ---- requests

abbrev pub request : ℕ → ℕ → ℕ → ℕ → Option SlotUse → Plan → Request
request xid uid gid minor slot p = record { xid = xid; uid = uid; gid = gid; minor = minor; slot = slot; plan = p }

abbrev pub pair_of : ℕ → ℕ → ℕ × ℕ
pair_of uid gid = (uid, gid)

-- what is found of a call is what it is spelled from
pub is_spelled : (c : CallSeen) (uid gid : ℕ) (p : Plan) → IsCallBy c uid gid → plan_of (behind_slot c.list) ≡ Some p → IsSpelledBy c (request c.xid uid gid c.minor (slot_in c.list) p)
is_spelled c uid gid p by is =
    let list : c.list ≡ behind (slot_in c.list) (args_of p) = slotted c.list ∙ ap (behind (slot_in c.list)) (plan_is (behind_slot c.list) p is) in
    by ∙ ap (λ (l : List Arg). whole_call c.xid (cred_of uid gid) c.minor l) list

pub called_by : (c : CallSeen) (q : Request) → IsSpelledBy c q → IsCallBy c q.uid q.gid
called_by c q e = subst (λ (x : CallSeen). IsCallBy x q.uid q.gid) (sym e) refl

pub plan_found : (c : CallSeen) (q : Request) → IsLawful q → IsSpelledBy c q → plan_of (behind_slot c.list) ≡ Some q.plan
plan_found c q fits e =
    ap (λ (x : CallSeen). plan_of (behind_slot x.list)) e ∙ ap plan_of (args_again q.slot q.plan) ∙ plan_again q.plan fits.2

pub found_again : (c : CallSeen) (q : Request) → IsSpelledBy c q → request c.xid q.uid q.gid c.minor (slot_in c.list) q.plan ≡ q
found_again c q e =
    ap (λ (x : CallSeen). request x.xid q.uid q.gid x.minor (slot_in x.list) q.plan) e
    ∙ ap (λ (s : Option SlotUse). request q.xid q.uid q.gid q.minor s q.plan) (slot_again q.slot q.plan)

-- ---- what is found

-- the request of a call by these ids, with this plan
pub found_is : (c : CallSeen) (uid gid : ℕ) (p : Plan) (args behind_it : List Arg) (slot : Option SlotUse) → args ≡ c.list → behind_it ≡ behind_slot args → slot ≡ slot_in args
    → IsCallBy c uid gid → Some p ≡ plan_of behind_it → IsSpelledBy c (request c.xid uid gid c.minor slot p)
found_is c uid gid p args behind_it slot same rest at by is =
    let plan : plan_of (behind_slot c.list) ≡ Some p = sym (is ∙ ap plan_of (rest ∙ ap behind_slot same)) in
    let here : slot_in c.list ≡ slot = sym (at ∙ ap slot_in same) in
    is_spelled c uid gid p by plan ∙ ap (λ (s : Option SlotUse). seen_of (request c.xid uid gid c.minor s p)) here

-- a plan that is told is that of the request
pub told_plan : (c : CallSeen) (q : Request) (o : Option Plan) (args behind_it : List Arg) → args ≡ c.list → behind_it ≡ behind_slot args → o ≡ plan_of behind_it → IsLawful q → IsSpelledBy c q → o ≡ Some q.plan
told_plan c q o args behind_it same rest is fits e = is ∙ ap plan_of (rest ∙ ap behind_slot same) ∙ plan_found c q fits e

some_pair : (a b x y : ℕ) → pair_of a b ≡ pair_of x y → (a ≡ x) × (b ≡ y)
some_pair a b x y e = (ap (λ (p : ℕ × ℕ). p.0) e, ap (λ (p : ℕ × ℕ). p.1) e)

-- the request is the one that is found
pub only_is : (c : CallSeen) (q : Request) (uid gid : ℕ) (p : Plan) (args behind_it : List Arg) (slot : Option SlotUse) → args ≡ c.list → behind_it ≡ behind_slot args → slot ≡ slot_in args
    → Some (pair_of uid gid) ≡ Some (pair_of q.uid q.gid) → Some p ≡ plan_of behind_it → IsLawful q → IsSpelledBy c q → request c.xid uid gid c.minor slot p ≡ q
only_is c q uid gid p args behind_it slot same rest at who is fits e =
    let ids : pair_of uid gid ≡ pair_of q.uid q.gid = cc who in
    let both = some_pair uid gid q.uid q.gid ids in
    let told : Some p ≡ Some q.plan = told_plan c q (Some p) args behind_it same rest is fits e in
    let what : p ≡ q.plan = cc told in
    let u : uid ≡ q.uid = both.0 in
    let g : gid ≡ q.gid = both.1 in
    let here : slot ≡ slot_in c.list = at ∙ ap slot_in same in
    let all : request c.xid uid gid c.minor slot p ≡ request c.xid q.uid q.gid c.minor (slot_in c.list) q.plan = cc (u, g, here, what) in
    all ∙ found_again c q e
