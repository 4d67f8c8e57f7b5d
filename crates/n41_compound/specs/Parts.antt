-- The parts of plans, as operations tell them; None where no part is told so.
use Rattle.std.specs.Prelude.{ℕ, ◌==◌, ◌&&◌, nat_lt, if◌then◌else◌, Bool, true, false, List, length, Option, Some, None}
use Rattle.std.specs.List.{list_all}
use Rattle.n41_types.specs.Spans.{Extent}
use Rattle.n41_types.specs.declared.plans.Claim.{Claim}
use Rattle.n41_types.specs.declared.plans.Claim.TheVariants as right
use Rattle.n41_types.specs.declared.plans.Locker.{Locker}
use Rattle.n41_types.specs.declared.plans.Locker.TheVariants as who
use Rattle.n41_types.specs.declared.plans.Place.{Place}
use Rattle.n41_types.specs.declared.plans.Place.TheVariants.{Root, At}
use Rattle.n41_types.specs.declared.spans.LockKind.{LockKind}
use Rattle.n41_types.specs.declared.spans.LockKind.TheVariants as kind
use Rattle.n41_types.specs.declared.spans.Mode.{Mode}
use Rattle.n41_types.specs.declared.spans.Mode.TheVariants as mode
use Rattle.n41_results.specs.declared.results.LockType.{LockType}
use Rattle.n41_results.specs.declared.results.LockType.TheVariants as lock_type
use Rattle.n41_args.specs.declared.arg.Arg.{Arg}
use Rattle.n41_args.specs.declared.arg.Arg.TheVariants as arg
use Rattle.n41_args.specs.declared.locks.LockerArgs.{LockerArgs}
use Rattle.n41_args.specs.declared.locks.LockerArgs.TheVariants as locker
use Rattle.n41_args.specs.declared.openings.OpenClaim.{OpenClaim}
use Rattle.n41_args.specs.declared.openings.OpenClaim.TheVariants as claim

-- how a place becomes the current filehandle (PUTROOTFH and PUTFH)
abbrev pub place_in : Arg → Option Place
place_in arg.PutRootFh = Some Root
place_in (arg.PutFh fh) = Some (At fh)
place_in _ = None

-- how a filehandle becomes the current one (PUTFH)
abbrev pub fh_in : Arg → Option (List ℕ)
fh_in (arg.PutFh fh) = Some fh
fh_in _ = None

-- whether a name may have this byte
abbrev pub is_name_byte : ℕ → Bool
is_name_byte b = if b == 0 then false else if b == 47 then false else true

-- whether bytes are a name
unfoldable pub is_name : List ℕ → Bool
is_name bytes = nat_lt 0 (length bytes) && nat_lt (length bytes) 256 && list_all is_name_byte bytes

-- the name that bytes are
abbrev pub name_of : List ℕ → Option (List ℕ)
name_of bytes = if is_name bytes then Some bytes else None

-- share_access: READ 1, WRITE 2 and BOTH 3
abbrev pub mode_in : ℕ → Option Mode
mode_in n = if n == 1 then Some mode.Read else if n == 2 then Some mode.Write else if n == 3 then Some mode.Both else None

-- no lock waits at the server (own)
abbrev pub kind_in : LockType → Option LockKind
kind_in lock_type.Read = Some kind.Read
kind_in lock_type.Write = Some kind.Write
kind_in _ = None

-- the length of all ones is to the end (RFC 8881, length4)
abbrev pub len_of : ℕ → Option ℕ
len_of length = if length == 18446744073709551615 then None else Some length

abbrev pub span_of : ℕ → ℕ → Extent
span_of offset length = record { from = offset; len = len_of length }

-- a claim on a name is no claim of a plan
abbrev pub claim_in : OpenClaim → Option Claim
claim_in (claim.Null name) = None
claim_in (claim.Previous type) = Some (right.Previous type)
claim_in claim.Fh = Some right.Fh
claim_in (claim.DelegCur stateid) = Some (right.DelegCur stateid)

-- the sequence numbers of owners are 0, since the slot has one (RFC 8881, section 8.13), and so is their client id
abbrev pub locker_in : LockerArgs → Option Locker
locker_in (locker.New seqid opener lock_seqid owner) = if (seqid == 0) && (lock_seqid == 0) && (owner.client == 0) then Some (who.New opener owner.owner) else None
locker_in (locker.Old stateid seqid) = if seqid == 0 then Some (who.Old stateid) else None
