-- What is spelled of a request is what is asked for.
use Rattle.std.proofs.Common.{◌≡◌, ◌<◌, ◌≤◌, ◌/◌, ◌%◌, ℕ, zero, suc, Bool, true, false, eqb, cond, List, [], ◌∷◌, ◌++◌, length, map, replicate, Option, Some, None, refl, ap, ◌∙◌, sym, inl, inr, arith}
use Rattle.std.specs.List.{list_any}
use Rattle.std.specs.Prelude.{slice_index}
use Rattle.std.proofs.lemmas.Bool.{cases_eq, cases_lt, ne_eqb}
use Rattle.std.proofs.lemmas.Nat.Bits.{bit_at-zero}
use Rattle.n41_types.specs.declared.operations.Operation.{Operation}
use Rattle.n41_types.specs.declared.operations.Operation.TheVariants as op
use Rattle.n41_types.specs.declared.plans.Place.{Place}
use Rattle.n41_types.specs.declared.plans.Place.TheVariants.{Root, At}
use Rattle.n41_types.specs.declared.plans.Plan.{Plan}
use Rattle.n41_types.specs.declared.plans.Plan.TheVariants as plan
use Rattle.n41_types.specs.declared.plans.Request.{Request}
use Rattle.n41_types.specs.declared.plans.SlotUse.{SlotUse}
use Rattle.n41_results.specs.Shapes as shapes
use Rattle.n41_results.specs.Shapes.{asked_attrs, asked_of, operations_of, put_of}
use Rattle.n41_attr.specs.Bitmaps.{has}
use Rattle.n41_args.specs.declared.arg.Arg.{Arg}
use Rattle.n41_args.specs.declared.arg.Arg.TheVariants.{Lookup, GetFh}
use Rattle.n41_args.specs.Args.{operation_of}
use Rattle.n41_requests.specs.Plans.{args_of, behind, put, request_args, lease_mask, stat_mask}

-- ---- operations

abbrev ops : List Arg → List Operation
ops args = map operation_of args

put_asked : (at : Place) → operation_of (put at) ≡ put_of at
put_asked Root = refl
put_asked (At fh) = refl

behind_put : (at : Place) (rest : List Arg) → ops (put at ∷ rest) ≡ put_of at ∷ ops rest
behind_put Root rest = refl
behind_put (At fh) rest = refl

names_asked : (names : List (List ℕ)) → ops (map (λ name. Lookup name) names ++ GetFh ∷ []) ≡ replicate (length names) op.Lookup ++ op.GetFh ∷ []
names_asked [] = refl
names_asked (n ∷ names) = ap (λ (rest : List Operation). op.Lookup ∷ rest) (names_asked names)

plan_asked : (p : Plan) → ops (args_of p) ≡ operations_of p
plan_asked (plan.ExchangeId v o) = refl
plan_asked (plan.CreateSession c s) = refl
plan_asked (plan.Bind s) = refl
plan_asked (plan.DestroySession s) = refl
plan_asked (plan.DestroyClient c) = refl
plan_asked (plan.Walk from names) = behind_put from (map (λ name. Lookup name) names ++ GetFh ∷ []) ∙ ap (λ (rest : List Operation). put_of from ∷ rest) (names_asked names)
plan_asked (plan.Stat Root) = refl
plan_asked (plan.Stat (At fh)) = refl
plan_asked plan.LeaseTime = refl
plan_asked (plan.Read f s o n) = refl
plan_asked (plan.List Root c v m) = refl
plan_asked (plan.List (At fh) c v m) = refl
plan_asked (plan.TestLock f k s o) = refl
plan_asked (plan.Test s) = refl
plan_asked plan.Renew = refl
plan_asked (plan.OpenAt f m o c) = refl
plan_asked (plan.Downgrade f s m) = refl
plan_asked (plan.CloseState f s) = refl
plan_asked (plan.LockBytes f k s r l) = refl
plan_asked (plan.UnlockBytes f s t) = refl
plan_asked (plan.ReturnDeleg f s) = refl
plan_asked (plan.Free s) = refl
plan_asked plan.Complete = refl
plan_asked (plan.CreateFile Root n g o) = refl
plan_asked (plan.CreateFile (At fh) n g o) = refl
plan_asked (plan.WriteBytes f s o b) = refl
plan_asked (plan.Resize f s n) = refl
plan_asked (plan.MakeDir Root n) = refl
plan_asked (plan.MakeDir (At fh) n) = refl
plan_asked (plan.Remove Root n) = refl
plan_asked (plan.Remove (At fh) n) = refl
plan_asked (plan.Rename Root old Root new) = refl
plan_asked (plan.Rename Root old (At fh) new) = refl
plan_asked (plan.Rename (At fh) old Root new) = refl
plan_asked (plan.Rename (At fh) old (At other) new) = refl

slot_asked : (slot : Option SlotUse) (args : List Arg) (asked : List Operation) → ops args ≡ asked → ops (behind slot args) ≡ shapes.behind slot asked
slot_asked None args asked e = e
slot_asked (Some s) args asked e = ap (λ (rest : List Operation). op.Sequence ∷ rest) e

pub as_asked : (q : Request) → map operation_of (request_args q) ≡ asked_of q
as_asked q = slot_asked q.slot (args_of q.plan) (operations_of q.plan) (plan_asked q.plan)

-- ---- attributes

abbrev both_or_neither : Bool → Bool → Bool
both_or_neither true b = b
both_or_neither false true = false
both_or_neither false false = true

same_bool : (a b : Bool) → both_or_neither a b ≡ true → a ≡ b
same_bool true true e = refl
same_bool true false e = sym e
same_bool false true e = e
same_bool false false e = refl

-- the test passes at each of the first k numbers
abbrev each : (ℕ → Bool) → ℕ → Bool
each test zero = true
each test (suc k) = cond (test k) (each test k) false

cond_true : (a b : Bool) → cond a b false ≡ true → (a ≡ true) × (b ≡ true)
cond_true true b e = (refl, e)
cond_true false b e = absurd cc

each_passes : (test : ℕ → Bool) (k n : ℕ) → each test k ≡ true → n < k → test n ≡ true
each_passes test zero n e lt = absurd (omega arith)
each_passes test (suc k) n e lt =
    let parts = cond_true (test k) (each test k) e in
    elim (cases_eq n k) [
      | inl same ↦ ap test same ∙ parts.0
      | inr other ↦ each_passes test k n parts.1 (omega arith)
    ]

-- ---- numbers beyond the words of a bitmap

past_two : (a b k : ℕ) → 2 ≤ k → slice_index (a ∷ b ∷ []) k ≡ 0
past_two a b zero le = absurd (omega arith)
past_two a b (suc zero) le = absurd (omega arith)
past_two a b (suc (suc k)) le = refl

past_one : (a k : ℕ) → 1 ≤ k → slice_index (a ∷ []) k ≡ 0
past_one a zero le = absurd (omega arith)
past_one a (suc k) le = refl

stat_beyond : (n : ℕ) → 64 ≤ n → has stat_mask n ≡ false
stat_beyond n le = rw (past_two 1048602 2 (n / 32) (omega arith), bit_at-zero (n % 32)) refl

lease_beyond : (n : ℕ) → 32 ≤ n → has lease_mask n ≡ false
lease_beyond n le = rw (past_one 1024 (n / 32) (omega arith), bit_at-zero (n % 32)) refl

apart : (m n : ℕ) → m < n → eqb m n ≡ false
apart m n lt = ne_eqb m n (λ same. omega arith)

stat_unwanted : (n : ℕ) → 64 ≤ n → list_any (λ m. eqb m n) (1 ∷ 3 ∷ 4 ∷ 20 ∷ 33 ∷ []) ≡ false
stat_unwanted n le = rw (apart 1 n (omega arith), apart 3 n (omega arith), apart 4 n (omega arith), apart 20 n (omega arith), apart 33 n (omega arith)) refl

lease_unwanted : (n : ℕ) → 32 ≤ n → list_any (λ m. eqb m n) (10 ∷ []) ≡ false
lease_unwanted n le = rw (apart 10 n (omega arith)) refl

-- ---- all numbers

abbrev stat_agrees : ℕ → Bool
stat_agrees n = both_or_neither (has stat_mask n) (list_any (λ m. eqb m n) (1 ∷ 3 ∷ 4 ∷ 20 ∷ 33 ∷ []))

abbrev lease_agrees : ℕ → Bool
lease_agrees n = both_or_neither (has lease_mask n) (list_any (λ m. eqb m n) (10 ∷ []))

pub stat_asked : (at : Place) (n : ℕ) → has stat_mask n ≡ list_any (λ m. eqb m n) (asked_attrs (plan.Stat at))
stat_asked at n = elim (cases_lt n 64) [
  | inl lt ↦ same_bool (has stat_mask n) (list_any (λ m. eqb m n) (1 ∷ 3 ∷ 4 ∷ 20 ∷ 33 ∷ [])) (each_passes stat_agrees 64 n refl lt)
  | inr le ↦ stat_beyond n le ∙ sym (stat_unwanted n le)
]

pub lease_asked : (n : ℕ) → has lease_mask n ≡ list_any (λ m. eqb m n) (asked_attrs plan.LeaseTime)
lease_asked n = elim (cases_lt n 32) [
  | inl lt ↦ same_bool (has lease_mask n) (list_any (λ m. eqb m n) (10 ∷ [])) (each_passes lease_agrees 32 n refl lt)
  | inr le ↦ lease_beyond n le ∙ sym (lease_unwanted n le)
]
