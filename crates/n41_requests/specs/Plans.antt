-- The operations of each plan, with their arguments (RFC 8881, section 18).
use Rattle.std.specs.Prelude.{ℕ, List, [], ◌∷◌, ◌++◌, map, false, Option, Some, None}
use Rattle.n41_types.specs.Spans.{length_on_wire}
use Rattle.n41_types.specs.declared.attributes.Attrs.{Attrs}
use Rattle.n41_types.specs.declared.plans.Claim.{Claim}
use Rattle.n41_types.specs.declared.plans.Claim.TheVariants as right
use Rattle.n41_types.specs.declared.plans.Locker.{Locker}
use Rattle.n41_types.specs.declared.plans.Locker.TheVariants as who
use Rattle.n41_types.specs.declared.plans.Place.{Place}
use Rattle.n41_types.specs.declared.plans.Place.TheVariants.{Root, At}
use Rattle.n41_types.specs.declared.plans.Plan.{Plan}
use Rattle.n41_types.specs.declared.plans.Plan.TheVariants as plan
use Rattle.n41_types.specs.declared.plans.Request.{Request}
use Rattle.n41_types.specs.declared.plans.SlotUse.{SlotUse}
use Rattle.n41_types.specs.declared.spans.LockKind.{LockKind}
use Rattle.n41_types.specs.declared.spans.LockKind.TheVariants as kind
use Rattle.n41_types.specs.declared.spans.Mode.{Mode}
use Rattle.n41_types.specs.declared.spans.Mode.TheVariants as mode
use Rattle.n41_results.specs.declared.results.LockType.{LockType}
use Rattle.n41_results.specs.declared.results.LockType.TheVariants as lock_type
use Rattle.n41_results.specs.declared.sessions.Channel.{Channel}
use Rattle.n41_session_args.specs.declared.security.Security.TheVariants as security
use Rattle.n41_session_args.specs.declared.sessions.CreateSessionArgs.{CreateSessionArgs}
use Rattle.n41_args.specs.declared.arg.Arg.{Arg}
use Rattle.n41_args.specs.declared.arg.Arg.TheVariants as arg
use Rattle.n41_args.specs.declared.locks.LockerArgs.{LockerArgs}
use Rattle.n41_args.specs.declared.locks.LockerArgs.TheVariants as locker
use Rattle.n41_args.specs.declared.openings.OpenClaim.{OpenClaim}
use Rattle.n41_args.specs.declared.openings.OpenClaim.TheVariants as claim
use Rattle.n41_args.specs.declared.openings.OpenHow.TheVariants as how
use Rattle.n41_args.specs.declared.owners.StateOwner.{StateOwner}

-- ---- parts

-- how a place becomes the current filehandle (PUTROOTFH and PUTFH)
abbrev pub put : Place → Arg
put Root = arg.PutRootFh
put (At fh) = arg.PutFh fh

-- share_access: READ 1, WRITE 2 and BOTH 3
abbrev pub access_of : Mode → ℕ
access_of mode.Read = 1
access_of mode.Write = 2
access_of mode.Both = 3

-- no lock waits at the server (own)
abbrev pub lock_type_of : LockKind → LockType
lock_type_of kind.Read = lock_type.Read
lock_type_of kind.Write = lock_type.Write

-- the client id of an owner is 0, since the session tells it (section 18.16.3)
abbrev pub owner_of : List ℕ → StateOwner
owner_of bytes = record { client = 0; owner = bytes }

abbrev pub claim_of : Claim → OpenClaim
claim_of (right.Previous type) = claim.Previous type
claim_of right.Fh = claim.Fh
claim_of (right.DelegCur stateid) = claim.DelegCur stateid

-- the sequence numbers of owners are 0, since the slot has one (section 8.13)
abbrev pub locker_of : Locker → LockerArgs
locker_of (who.New opener owner) = locker.New 0 opener 0 (owner_of owner)
locker_of (who.Old stateid) = locker.Old stateid 0

abbrev pub no_attrs : Attrs
no_attrs = record { kind = None; change = None; size = None; lease = None; fileid = None; mode = None }

abbrev pub with_mode : ℕ → Attrs
with_mode n = record no_attrs { mode = Some n }

abbrev pub with_size : ℕ → Attrs
with_size n = record no_attrs { size = Some n }

-- type, change, size, fileid and mode, which are 1, 3, 4, 20 and 33
abbrev pub stat_mask : List ℕ
stat_mask = 1048602 ∷ 2 ∷ []

-- lease_time, which is 10
abbrev pub lease_mask : List ℕ
lease_mask = 1024 ∷ []

-- ---- what is asked of a session (own)

abbrev pub fore_channel : Channel
fore_channel = record { header_pad = 0; request_max = 69632; reply_max = 69632; cached_max = 4096; ops_max = 32; requests_max = 64; ird = None }

abbrev pub back_channel : Channel
back_channel = record { header_pad = 0; request_max = 4096; reply_max = 4096; cached_max = 4096; ops_max = 8; requests_max = 4; ird = None }

-- neither PERSIST nor CONN_BACK_CHAN is asked for; the callbacks' program is 0x40000000, and their security AUTH_NONE
abbrev pub create_session_args : ℕ → ℕ → CreateSessionArgs
create_session_args client seq =
    record { client = client; sequence = seq; flags = 0; fore = fore_channel; back = back_channel; program = 1073741824; securities = security.None ∷ [] }

-- ---- the operations of a plan, behind its SEQUENCE where it has one

abbrev pub args_of : Plan → List Arg
args_of (plan.ExchangeId verifier owner) = arg.ExchangeId (record { verifier = verifier; owner = owner; flags = 0; implementation = None }) ∷ []
args_of (plan.CreateSession client seq) = arg.CreateSession (create_session_args client seq) ∷ []
args_of (plan.Bind sid) = arg.Bind (record { sid = sid; direction = 1; rdma = false }) ∷ []
args_of (plan.DestroySession sid) = arg.DestroySession sid ∷ []
args_of (plan.DestroyClient client) = arg.DestroyClient client ∷ []
args_of (plan.Walk from names) = put from ∷ (map (λ name. arg.Lookup name) names ++ arg.GetFh ∷ [])
args_of (plan.Stat at) = put at ∷ arg.GetAttr stat_mask ∷ []
args_of plan.LeaseTime = arg.PutRootFh ∷ arg.GetAttr lease_mask ∷ []
args_of (plan.Read fh stateid offset count) = arg.PutFh fh ∷ arg.Read (record { stateid = stateid; offset = offset; count = count }) ∷ []
args_of (plan.List at cookie verf max) = put at ∷ arg.ReadDir (record { cookie = cookie; verifier = verf; dircount = max; maxcount = max; mask = [] }) ∷ []
args_of (plan.TestLock fh kind span owner) = arg.PutFh fh ∷ arg.LockTest (record { kind = lock_type_of kind; offset = span.from; length = length_on_wire span.len; owner = owner_of owner }) ∷ []
args_of (plan.Test stateids) = arg.TestStateid stateids ∷ []
args_of plan.Renew = []
args_of (plan.OpenAt fh mode owner claim) =
    arg.PutFh fh ∷ arg.Open (record { seqid = 0; access = access_of mode; deny = 0; owner = owner_of owner; how = how.NoCreate; claim = claim_of claim }) ∷ arg.GetFh ∷ []
args_of (plan.Downgrade fh stateid mode) = arg.PutFh fh ∷ arg.OpenDowngrade (record { stateid = stateid; seqid = 0; access = access_of mode; deny = 0 }) ∷ []
args_of (plan.CloseState fh stateid) = arg.PutFh fh ∷ arg.Close (record { seqid = 0; stateid = stateid }) ∷ []
args_of (plan.LockBytes fh kind span reclaim locker) =
    arg.PutFh fh ∷ arg.Lock (record { kind = lock_type_of kind; reclaim = reclaim; offset = span.from; length = length_on_wire span.len; locker = locker_of locker }) ∷ []
args_of (plan.UnlockBytes fh span stateid) =
    arg.PutFh fh ∷ arg.Unlock (record { kind = lock_type.Write; seqid = 0; stateid = stateid; offset = span.from; length = length_on_wire span.len }) ∷ []
args_of (plan.ReturnDeleg fh stateid) = arg.PutFh fh ∷ arg.DelegReturn stateid ∷ []
args_of (plan.Free stateid) = arg.FreeStateid stateid ∷ []
args_of plan.Complete = arg.ReclaimComplete false ∷ []
args_of (plan.CreateFile dir name guarded owner) =
    put dir ∷ arg.Open (record { seqid = 0; access = 3; deny = 0; owner = owner_of owner; how = how.Create guarded (with_mode 420); claim = claim.Null name }) ∷ arg.GetFh ∷ []
args_of (plan.WriteBytes fh stateid offset bytes) = arg.PutFh fh ∷ arg.Write (record { stateid = stateid; offset = offset; stable = 2; bytes = bytes }) ∷ []
args_of (plan.Resize fh stateid size) = arg.PutFh fh ∷ arg.SetAttr (record { stateid = stateid; attrs = with_size size }) ∷ []
args_of (plan.MakeDir dir name) = put dir ∷ arg.Create (record { name = name; attrs = with_mode 493 }) ∷ []
args_of (plan.Remove dir name) = put dir ∷ arg.Remove name ∷ []
args_of (plan.Rename from old to new) = put from ∷ arg.SaveFh ∷ put to ∷ arg.Rename (record { old = old; new = new }) ∷ []

abbrev pub behind : Option SlotUse → List Arg → List Arg
behind None args = args
behind (Some slot) args = arg.Sequence slot ∷ args

-- the operations of a request: SEQUENCE is the first of every request with a slot
abbrev pub request_args : Request → List Arg
request_args q = behind q.slot (args_of q.plan)
