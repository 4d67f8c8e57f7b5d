-- The plans that change opens, locks and delegations, by the operation behind PUTFH.
use Rattle.std.specs.Prelude.{ℕ, ◌==◌, ◌&&◌, if◌then◌else◌, Bool, true, false, List, Option, Some, None}
use Rattle.n41_types.specs.declared.identities.Stateid.{Stateid}
use Rattle.n41_types.specs.declared.plans.Claim.{Claim}
use Rattle.n41_types.specs.declared.plans.Locker.{Locker}
use Rattle.n41_types.specs.declared.plans.Plan.{Plan}
use Rattle.n41_types.specs.declared.plans.Plan.TheVariants as plan
use Rattle.n41_types.specs.declared.spans.LockKind.{LockKind}
use Rattle.n41_types.specs.declared.spans.Mode.{Mode}
use Rattle.n41_results.specs.declared.results.LockType.{LockType}
use Rattle.n41_results.specs.declared.results.LockType.TheVariants as lock_type
use Rattle.n41_args.specs.declared.arg.Arg.{Arg}
use Rattle.n41_args.specs.declared.locks.LockArgs.{LockArgs}
use Rattle.n41_args.specs.declared.locks.UnlockArgs.{UnlockArgs}
use Rattle.n41_args.specs.declared.openings.CloseArgs.{CloseArgs}
use Rattle.n41_args.specs.declared.openings.DowngradeArgs.{DowngradeArgs}
use Rattle.n41_args.specs.declared.openings.OpenArgs.{OpenArgs}
use Rattle.n41_compound.specs.Parts.{fh_in, kind_in, mode_in, span_of, claim_in, locker_in}

-- OPEN of what is there
abbrev pub open_at : Option Mode → Option Claim → Option (List ℕ) → OpenArgs → Option Plan
open_at None claim fh a = None
open_at (Some mode) None fh a = None
open_at (Some mode) (Some claim) None a = None
open_at (Some mode) (Some claim) (Some fh) a = Some (plan.OpenAt fh mode a.owner.owner claim)

abbrev pub downgrade_at : Option Mode → Option (List ℕ) → DowngradeArgs → Option Plan
downgrade_at None fh a = None
downgrade_at (Some mode) None a = None
downgrade_at (Some mode) (Some fh) a = Some (plan.Downgrade fh a.stateid mode)

abbrev pub downgrade_of : Arg → DowngradeArgs → Option Plan
downgrade_of put a = if (a.seqid == 0) && (a.deny == 0) then downgrade_at (mode_in a.access) (fh_in put) a else None

abbrev pub close_at : Option (List ℕ) → CloseArgs → Option Plan
close_at None a = None
close_at (Some fh) a = Some (plan.CloseState fh a.stateid)

abbrev pub close_of : Arg → CloseArgs → Option Plan
close_of put a = if a.seqid == 0 then close_at (fh_in put) a else None

abbrev pub lock_at : Option LockKind → Option (List ℕ) → Option Locker → LockArgs → Option Plan
lock_at None fh locker a = None
lock_at (Some kind) None locker a = None
lock_at (Some kind) (Some fh) None a = None
lock_at (Some kind) (Some fh) (Some locker) a = Some (plan.LockBytes fh kind (span_of a.offset a.length) a.reclaim locker)

abbrev pub lock_of : Arg → LockArgs → Option Plan
lock_of put a = lock_at (kind_in a.kind) (fh_in put) (locker_in a.locker) a

abbrev pub unlock_at : Option (List ℕ) → UnlockArgs → Option Plan
unlock_at None a = None
unlock_at (Some fh) a = Some (plan.UnlockBytes fh (span_of a.offset a.length) a.stateid)

-- what is unlocked is told of as locked for writing (own)
abbrev pub is_write_lock : LockType → Bool
is_write_lock lock_type.Write = true
is_write_lock _ = false

abbrev pub unlock_of : Arg → UnlockArgs → Option Plan
unlock_of put a = if (a.seqid == 0) && is_write_lock a.kind then unlock_at (fh_in put) a else None

abbrev pub return_at : Option (List ℕ) → Stateid → Option Plan
return_at None stateid = None
return_at (Some fh) stateid = Some (plan.ReturnDeleg fh stateid)
