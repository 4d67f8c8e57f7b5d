-- How many operations a plan has.
use Rattle.std.proofs.Common.{◌≡◌, ◌<◌, ◌+◌, ◌^◌, ℕ, List, [], ◌∷◌, length, map, Option, Some, None, length-append, arith}
use Rattle.std.proofs.lemmas.List.{length-map}
use Rattle.n41_types.specs.declared.plans.Place.{Place}
use Rattle.n41_types.specs.declared.plans.Plan.{Plan}
use Rattle.n41_types.specs.declared.plans.Plan.TheVariants as plan
use Rattle.n41_types.specs.declared.plans.Request.{Request}
use Rattle.n41_types.specs.declared.plans.SlotUse.{SlotUse}
use Rattle.n41_args.specs.declared.arg.Arg.{Arg}
use Rattle.n41_args.specs.declared.arg.Arg.TheVariants.{Lookup, GetFh}
use Rattle.n41_requests.specs.Plans.{args_of, behind, request_args}
use Rattle.n41_requests.specs.Requests.{IsSpellable, IsSpellablePlan}

pub walk_count : (from : Place) (names : List (List ℕ)) → length (args_of (plan.Walk from names)) ≡ length names + 2
walk_count from names =
    let looked : List Arg = map (λ name. Lookup name) names in
    omega (arith, length-append looked (GetFh ∷ []), length-map {A = List ℕ} {B = Arg} names (λ name. Lookup name))

pub plan_count : (p : Plan) → IsSpellablePlan p → length (args_of p) + 1 < 2 ^ 32
plan_count (plan.ExchangeId v o) fits = omega arith
plan_count (plan.CreateSession c s) fits = omega arith
plan_count (plan.Bind s) fits = omega arith
plan_count (plan.DestroySession s) fits = omega arith
plan_count (plan.DestroyClient c) fits = omega arith
plan_count (plan.Walk from names) fits = omega (arith, walk_count from names)
plan_count (plan.Stat at) fits = omega arith
plan_count plan.LeaseTime fits = omega arith
plan_count (plan.Read f s o n) fits = omega arith
plan_count (plan.List a c v m) fits = omega arith
plan_count (plan.TestLock f k s o) fits = omega arith
plan_count (plan.Test s) fits = omega arith
plan_count plan.Renew fits = omega arith
plan_count (plan.OpenAt f m o c) fits = omega arith
plan_count (plan.Downgrade f s m) fits = omega arith
plan_count (plan.CloseState f s) fits = omega arith
plan_count (plan.LockBytes f k s r l) fits = omega arith
plan_count (plan.UnlockBytes f s t) fits = omega arith
plan_count (plan.ReturnDeleg f s) fits = omega arith
plan_count (plan.Free s) fits = omega arith
plan_count plan.Complete fits = omega arith
plan_count (plan.CreateFile d n g o) fits = omega arith
plan_count (plan.WriteBytes f s o b) fits = omega arith
plan_count (plan.Resize f s n) fits = omega arith
plan_count (plan.MakeDir d n) fits = omega arith
plan_count (plan.Remove d n) fits = omega arith
plan_count (plan.Rename a b c d) fits = omega arith

behind_count : (slot : Option SlotUse) (args : List Arg) → length args + 1 < 2 ^ 32 → length (behind slot args) < 2 ^ 32
behind_count None args lt = omega arith
behind_count (Some s) args lt = omega arith

pub request_count : (q : Request) → IsSpellable q → length (request_args q) < 2 ^ 32
request_count q fits = behind_count q.slot (args_of q.plan) (plan_count q.plan fits)
