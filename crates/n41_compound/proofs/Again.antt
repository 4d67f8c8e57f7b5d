-- From the operations of a plan the plan is found again.
use Rattle.std.proofs.Common.{◌≡◌, ◌<◌, ◌^◌, ◌-◌, ℕ, Bool, true, false, List, [], ◌∷◌, ◌++◌, map, Option, Some, None, refl, ap, ◌∙◌, arith}
use Rattle.std.specs.List.{AllByRecursion}
use Rattle.std.proofs.lemmas.Bool.{eq-eqb, ne_eqb}
use Rattle.n41_types.specs.Names.{IsName}
use Rattle.n41_types.specs.Spans.{Extent, IsLength, length_on_wire}
use Rattle.n41_types.specs.declared.identities.Stateid.{Stateid}
use Rattle.n41_types.specs.declared.plans.Claim.TheVariants as right
use Rattle.n41_types.specs.declared.plans.Locker.{Locker}
use Rattle.n41_types.specs.declared.plans.Locker.TheVariants as who
use Rattle.n41_types.specs.declared.plans.Place.{Place}
use Rattle.n41_types.specs.declared.plans.Place.TheVariants.{Root, At}
use Rattle.n41_types.specs.declared.plans.Plan.{Plan}
use Rattle.n41_types.specs.declared.plans.Plan.TheVariants as plan
use Rattle.n41_types.specs.declared.spans.LockKind.{LockKind}
use Rattle.n41_types.specs.declared.spans.LockKind.TheVariants as kind
use Rattle.n41_types.specs.declared.spans.Mode.TheVariants as mode
use Rattle.n41_args.specs.declared.arg.Arg.{Arg}
use Rattle.n41_args.specs.declared.arg.Arg.TheVariants as arg
use Rattle.n41_args.specs.declared.openings.OpenArgs.{OpenArgs}
use Rattle.n41_args.specs.declared.openings.OpenClaim.TheVariants as claim
use Rattle.n41_args.specs.declared.openings.OpenHow.TheVariants as how
use Rattle.n41_requests.specs.Plans.{args_of, owner_of, with_mode}
use Rattle.n41_compound.specs.Calls.{IsLawfulPlan}
use Rattle.n41_compound.specs.Parts.{len_of, name_of, span_of}
use Rattle.n41_compound.specs.Singles.{is_channel, is_unsecured}
use Rattle.n41_compound.specs.Changes.{is_mode, size_in, make_dir_at, remove_at, rename_at, create_at}
use Rattle.n41_compound.specs.Walks.{walk_at, walked, with_name}
use Rattle.n41_compound.specs.Plans.{plan_of}
use Rattle.n41_compound.proofs.Named.{named}

-- ---- parts

len_again : (len : Option ℕ) → IsLength len → len_of (length_on_wire len) ≡ len
len_again None fits = refl
len_again (Some n) fits = rw (ne_eqb n 18446744073709551615 (λ e. absurd (omega (arith, e, fits)))) refl

span_again : (s : Extent) → IsLength s.len → span_of s.from (length_on_wire s.len) ≡ s
span_again s fits = ap (λ (len : Option ℕ). let e : Extent = record { from = s.from; len = len } in e) (len_again s.len fits)

walked_again : (names : List (List ℕ)) → AllByRecursion IsName names → walked (map (λ name. arg.Lookup name) names ++ arg.GetFh ∷ []) ≡ Some names
walked_again [] fits = refl
walked_again (n ∷ names) fits =
    ap (λ (o : Option (List ℕ)). with_name o (walked (map (λ name. arg.Lookup name) names ++ arg.GetFh ∷ []))) (named n fits.0)
    ∙ ap (with_name (Some n)) (walked_again names fits.1)

-- ---- plans of several forms

walk_again : (from : Place) (names : List (List ℕ)) → AllByRecursion IsName names → plan_of (args_of (plan.Walk from names)) ≡ Some (plan.Walk from names)
walk_again Root [] fits = refl
walk_again (At fh) [] fits = refl
walk_again Root (n ∷ names) fits = ap (λ (o : Option (List (List ℕ))). walk_at o (Some Root)) (walked_again (n ∷ names) fits)
walk_again (At fh) (n ∷ names) fits = ap (λ (o : Option (List (List ℕ))). walk_at o (Some (At fh))) (walked_again (n ∷ names) fits)

list_again : (at : Place) (cookie : ℕ) (verf : List ℕ) (max : ℕ) → plan_of (args_of (plan.List at cookie verf max)) ≡ Some (plan.List at cookie verf max)
list_again Root cookie verf max = rw (eq-eqb max max refl) refl
list_again (At fh) cookie verf max = rw (eq-eqb max max refl) refl

abbrev locking : List ℕ → LockKind → Bool → Locker → Extent → Option Plan
locking fh k reclaim locker s = Some (plan.LockBytes fh k s reclaim locker)

lock_again : (fh : List ℕ) (k : LockKind) (s : Extent) (reclaim : Bool) (locker : Locker) → IsLength s.len → plan_of (args_of (plan.LockBytes fh k s reclaim locker)) ≡ Some (plan.LockBytes fh k s reclaim locker)
lock_again fh kind.Read s reclaim (who.New opener owner) fits = ap (locking fh kind.Read reclaim (who.New opener owner)) (span_again s fits)
lock_again fh kind.Read s reclaim (who.Old stateid) fits = ap (locking fh kind.Read reclaim (who.Old stateid)) (span_again s fits)
lock_again fh kind.Write s reclaim (who.New opener owner) fits = ap (locking fh kind.Write reclaim (who.New opener owner)) (span_again s fits)
lock_again fh kind.Write s reclaim (who.Old stateid) fits = ap (locking fh kind.Write reclaim (who.Old stateid)) (span_again s fits)

abbrev create_args : List ℕ → Bool → List ℕ → OpenArgs
create_args name guarded owner = record { seqid = 0; access = 3; deny = 0; owner = owner_of owner; how = how.Create guarded (with_mode 420); claim = claim.Null name }

create_again : (dir : Place) (name : List ℕ) (guarded : Bool) (owner : List ℕ) → IsName name → plan_of (args_of (plan.CreateFile dir name guarded owner)) ≡ Some (plan.CreateFile dir name guarded owner)
unfolding is_mode
create_again Root name guarded owner fits = ap (λ (o : Option (List ℕ)). create_at (Some Root) o guarded (create_args name guarded owner)) (named name fits)
create_again (At fh) name guarded owner fits = ap (λ (o : Option (List ℕ)). create_at (Some (At fh)) o guarded (create_args name guarded owner)) (named name fits)

make_dir_again : (dir : Place) (name : List ℕ) → IsName name → plan_of (args_of (plan.MakeDir dir name)) ≡ Some (plan.MakeDir dir name)
unfolding is_mode
make_dir_again Root name fits = ap (make_dir_at (Some Root)) (named name fits)
make_dir_again (At fh) name fits = ap (make_dir_at (Some (At fh))) (named name fits)

remove_again : (dir : Place) (name : List ℕ) → IsName name → plan_of (args_of (plan.Remove dir name)) ≡ Some (plan.Remove dir name)
remove_again Root name fits = ap (remove_at (Some Root)) (named name fits)
remove_again (At fh) name fits = ap (remove_at (Some (At fh))) (named name fits)

renamed : (from to : Place) (old new : List ℕ) → IsName old → IsName new → rename_at (Some from) (Some to) (name_of old) (name_of new) ≡ Some (plan.Rename from old to new)
renamed from to old new was is =
    ap (λ (o : Option (List ℕ)). rename_at (Some from) (Some to) o (name_of new)) (named old was)
    ∙ ap (rename_at (Some from) (Some to) (Some old)) (named new is)

rename_again : (from : Place) (old : List ℕ) (to : Place) (new : List ℕ) → IsName old → IsName new → plan_of (args_of (plan.Rename from old to new)) ≡ Some (plan.Rename from old to new)
rename_again Root old Root new was is = renamed Root Root old new was is
rename_again Root old (At fh) new was is = renamed Root (At fh) old new was is
rename_again (At fh) old Root new was is = renamed (At fh) Root old new was is
rename_again (At fh) old (At other) new was is = renamed (At fh) (At other) old new was is

session_again : (client seq : ℕ) → plan_of (args_of (plan.CreateSession client seq)) ≡ Some (plan.CreateSession client seq)
unfolding is_channel is_unsecured
session_again client seq = refl

resize_again : (fh : List ℕ) (stateid : Stateid) (size : ℕ) → plan_of (args_of (plan.Resize fh stateid size)) ≡ Some (plan.Resize fh stateid size)
unfolding size_in
resize_again fh stateid size = refl

-- ---- all plans

pub plan_again : (p : Plan) → IsLawfulPlan p → plan_of (args_of p) ≡ Some p
plan_again (plan.ExchangeId v o) fits = refl
plan_again (plan.CreateSession c s) fits = session_again c s
plan_again (plan.Bind s) fits = refl
plan_again (plan.DestroySession s) fits = refl
plan_again (plan.DestroyClient c) fits = refl
plan_again (plan.Walk from names) fits = walk_again from names fits.0
plan_again (plan.Stat Root) fits = refl
plan_again (plan.Stat (At fh)) fits = refl
plan_again plan.LeaseTime fits = refl
plan_again (plan.Read f s o n) fits = refl
plan_again (plan.List a c v m) fits = list_again a c v m
plan_again (plan.TestLock f kind.Read s o) fits = ap (λ (e : Extent). let p : Option Plan = Some (plan.TestLock f kind.Read e o) in p) (span_again s fits.1)
plan_again (plan.TestLock f kind.Write s o) fits = ap (λ (e : Extent). let p : Option Plan = Some (plan.TestLock f kind.Write e o) in p) (span_again s fits.1)
plan_again (plan.Test s) fits = refl
plan_again plan.Renew fits = refl
plan_again (plan.OpenAt f mode.Read o (right.Previous n)) fits = refl
plan_again (plan.OpenAt f mode.Read o right.Fh) fits = refl
plan_again (plan.OpenAt f mode.Read o (right.DelegCur s)) fits = refl
plan_again (plan.OpenAt f mode.Write o (right.Previous n)) fits = refl
plan_again (plan.OpenAt f mode.Write o right.Fh) fits = refl
plan_again (plan.OpenAt f mode.Write o (right.DelegCur s)) fits = refl
plan_again (plan.OpenAt f mode.Both o (right.Previous n)) fits = refl
plan_again (plan.OpenAt f mode.Both o right.Fh) fits = refl
plan_again (plan.OpenAt f mode.Both o (right.DelegCur s)) fits = refl
plan_again (plan.Downgrade f s mode.Read) fits = refl
plan_again (plan.Downgrade f s mode.Write) fits = refl
plan_again (plan.Downgrade f s mode.Both) fits = refl
plan_again (plan.CloseState f s) fits = refl
plan_again (plan.LockBytes f k s r l) fits = lock_again f k s r l fits.1
plan_again (plan.UnlockBytes f s t) fits = ap (λ (e : Extent). let p : Option Plan = Some (plan.UnlockBytes f e t) in p) (span_again s fits.1)
plan_again (plan.ReturnDeleg f s) fits = refl
plan_again (plan.Free s) fits = refl
plan_again plan.Complete fits = refl
plan_again (plan.CreateFile d n g o) fits = create_again d n g o fits.0
plan_again (plan.WriteBytes f s o b) fits = refl
plan_again (plan.Resize f s n) fits = resize_again f s n
plan_again (plan.MakeDir d n) fits = make_dir_again d n fits.0
plan_again (plan.Remove d n) fits = remove_again d n fits.0
plan_again (plan.Rename from old to new) fits = rename_again from old to new fits.0.0 fits.0.1
