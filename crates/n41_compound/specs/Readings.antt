-- The plans that read, by the operation behind PUTROOTFH or PUTFH.
use Rattle.std.specs.Prelude.{ℕ, ◌==◌, ◌&&◌, if◌then◌else◌, Bool, true, false, List, [], ◌∷◌, Option, Some, None}
use Rattle.n41_types.specs.declared.plans.Place.{Place}
use Rattle.n41_types.specs.declared.plans.Plan.{Plan}
use Rattle.n41_types.specs.declared.plans.Plan.TheVariants as plan
use Rattle.n41_types.specs.declared.spans.LockKind.{LockKind}
use Rattle.n41_args.specs.declared.arg.Arg.{Arg}
use Rattle.n41_args.specs.declared.arg.Arg.TheVariants as arg
use Rattle.n41_args.specs.declared.directories.ReadDirArgs.{ReadDirArgs}
use Rattle.n41_args.specs.declared.files.ReadArgs.{ReadArgs}
use Rattle.n41_args.specs.declared.locks.LockTestArgs.{LockTestArgs}
use Rattle.n41_compound.specs.Parts.{place_in, fh_in, kind_in, span_of}

-- type, change, size, fileid and mode, which are 1, 3, 4, 20 and 33
abbrev pub is_stat_mask : List ℕ → Bool
is_stat_mask (a ∷ b ∷ []) = (a == 1048602) && (b == 2)
is_stat_mask _ = false

-- lease_time, which is 10
abbrev pub is_lease_mask : List ℕ → Bool
is_lease_mask (a ∷ []) = a == 1024
is_lease_mask _ = false

abbrev pub is_empty_mask : List ℕ → Bool
is_empty_mask [] = true
is_empty_mask _ = false

abbrev pub stat_at : Option Place → Option Plan
stat_at None = None
stat_at (Some at) = Some (plan.Stat at)

-- the lease time is asked for at the root
abbrev pub lease_at : Arg → Option Plan
lease_at arg.PutRootFh = Some plan.LeaseTime
lease_at _ = None

abbrev pub look_of : Arg → List ℕ → Option Plan
look_of put mask = if is_stat_mask mask then stat_at (place_in put) else if is_lease_mask mask then lease_at put else None

abbrev pub read_at : Option (List ℕ) → ReadArgs → Option Plan
read_at None a = None
read_at (Some fh) a = Some (plan.Read fh a.stateid a.offset a.count)

abbrev pub list_at : Option Place → ReadDirArgs → Option Plan
list_at None a = None
list_at (Some at) a = Some (plan.List at a.cookie a.verifier a.maxcount)

abbrev pub list_of : Arg → ReadDirArgs → Option Plan
list_of put a = if (a.dircount == a.maxcount) && is_empty_mask a.mask then list_at (place_in put) a else None

abbrev pub test_lock_at : Option LockKind → Option (List ℕ) → LockTestArgs → Option Plan
test_lock_at None fh a = None
test_lock_at (Some kind) None a = None
test_lock_at (Some kind) (Some fh) a = Some (plan.TestLock fh kind (span_of a.offset a.length) a.owner.owner)

abbrev pub test_lock_of : Arg → LockTestArgs → Option Plan
test_lock_of put a = if a.owner.client == 0 then test_lock_at (kind_in a.kind) (fh_in put) a else None
