-- The operations of a call (RFC 8881, nfs_argop4): a number, and the arguments that the operation of this number takes.
use Rattle.std.specs.Prelude.{ℕ, List, [], ◌∷◌, Result, Ok, Err}
use Rattle.n41_xdr.specs.Reading.{◌>>=◌}
use Rattle.n41_xdr.specs.Format.{Format, nothing, made, Arm, arm, union}
use Rattle.n41_types.specs.Operations.{number}
use Rattle.n41_types.specs.declared.operations.Operation.{Operation}
use Rattle.n41_types.specs.declared.operations.Operation.TheVariants as op
use Rattle.n41_attr.specs.declared.fault.OpFault.{OpFault}
use Rattle.n41_attr.specs.declared.fault.OpFault.TheVariants.{Xdr, Illegal}
use Rattle.n41_attr.specs.Parts.{hyper, flag, string, stateid, session, fh, bitmap}
use Rattle.n41_args.specs.declared.arg.Arg.{Arg}
use Rattle.n41_args.specs.declared.arg.Arg.TheVariants as arg
use Rattle.n41_args.specs.Locks.{lock, lock_test, unlock}
use Rattle.n41_args.specs.Openings.{close, downgrade, ToldOpen, told_open, open_of, written_open}
use Rattle.n41_args.specs.Files.{commit, read_args, write_args, stateids, ToldSetAttr, told_set_attr, set_attr_of, written_set_attr}
use Rattle.n41_args.specs.Directories.{read_dir, rename, ToldCreate, told_create, create_of, written_create}
use Rattle.n41_session_args.specs.Sessions.{exchange_id, create_session, bind, sequence}

abbrev pub operation_of : Arg → Operation
operation_of (arg.Close _) = op.Close
operation_of (arg.Commit _) = op.Commit
operation_of (arg.Create _) = op.Create
operation_of (arg.DelegReturn _) = op.DelegReturn
operation_of (arg.GetAttr _) = op.GetAttr
operation_of arg.GetFh = op.GetFh
operation_of (arg.Lock _) = op.Lock
operation_of (arg.LockTest _) = op.LockTest
operation_of (arg.Unlock _) = op.Unlock
operation_of (arg.Lookup _) = op.Lookup
operation_of (arg.Open _) = op.Open
operation_of (arg.OpenDowngrade _) = op.OpenDowngrade
operation_of (arg.PutFh _) = op.PutFh
operation_of arg.PutRootFh = op.PutRootFh
operation_of (arg.Read _) = op.Read
operation_of (arg.ReadDir _) = op.ReadDir
operation_of (arg.Remove _) = op.Remove
operation_of (arg.Rename _) = op.Rename
operation_of arg.SaveFh = op.SaveFh
operation_of (arg.SetAttr _) = op.SetAttr
operation_of (arg.Write _) = op.Write
operation_of (arg.Bind _) = op.Bind
operation_of (arg.ExchangeId _) = op.ExchangeId
operation_of (arg.CreateSession _) = op.CreateSession
operation_of (arg.DestroySession _) = op.DestroySession
operation_of (arg.FreeStateid _) = op.FreeStateid
operation_of (arg.Sequence _) = op.Sequence
operation_of (arg.TestStateid _) = op.TestStateid
operation_of (arg.DestroyClient _) = op.DestroyClient
operation_of (arg.ReclaimComplete _) = op.ReclaimComplete
operation_of arg.Illegal = op.Illegal

-- An operation as it is told. CREATE, OPEN and SETATTR hold attributes, of which more is told than is kept: zero words may stand at the
-- end of their bitmap. The others are kept as they are told.
pub data ToldArg : Type 0 where
  Kept : Arg → ToldArg
  Create : ToldCreate → ToldArg
  Open : ToldOpen → ToldArg
  SetAttr : ToldSetAttr → ToldArg

-- what is kept of an operation
abbrev pub arg_of : ToldArg → Arg
arg_of (Kept a) = a
arg_of (Create a) = arg.Create (create_of a)
arg_of (Open a) = arg.Open (open_of a)
arg_of (SetAttr a) = arg.SetAttr (set_attr_of a)

-- what is told of an operation where it is written
abbrev pub written_arg : Arg → ToldArg
written_arg (arg.Create a) = Create (written_create a)
written_arg (arg.Open a) = Open (written_open a)
written_arg (arg.SetAttr a) = SetAttr (written_set_attr a)
written_arg a = Kept a

abbrev pub no_arm : ℕ → Arm
no_arm n = record { number = n; text = []; Fits = ⊥ }

abbrev pub none : ℕ → Arm
none n = arm n (nothing {E = OpFault}) tt

-- the arms of the operations that are kept as they are told
abbrev pub kept_arm : Arg → Arm
kept_arm (arg.Close a) = arm (number op.Close) close a
kept_arm (arg.Commit a) = arm (number op.Commit) commit a
kept_arm (arg.Create _) = no_arm (number op.Create)
kept_arm (arg.DelegReturn s) = arm (number op.DelegReturn) stateid s
kept_arm (arg.GetAttr mask) = arm (number op.GetAttr) bitmap mask
kept_arm arg.GetFh = none (number op.GetFh)
kept_arm (arg.Lock a) = arm (number op.Lock) lock a
kept_arm (arg.LockTest a) = arm (number op.LockTest) lock_test a
kept_arm (arg.Unlock a) = arm (number op.Unlock) unlock a
kept_arm (arg.Lookup name) = arm (number op.Lookup) string name
kept_arm (arg.Open _) = no_arm (number op.Open)
kept_arm (arg.OpenDowngrade a) = arm (number op.OpenDowngrade) downgrade a
kept_arm (arg.PutFh x) = arm (number op.PutFh) fh x
kept_arm arg.PutRootFh = none (number op.PutRootFh)
kept_arm (arg.Read a) = arm (number op.Read) read_args a
kept_arm (arg.ReadDir a) = arm (number op.ReadDir) read_dir a
kept_arm (arg.Remove name) = arm (number op.Remove) string name
kept_arm (arg.Rename a) = arm (number op.Rename) rename a
kept_arm arg.SaveFh = none (number op.SaveFh)
kept_arm (arg.SetAttr _) = no_arm (number op.SetAttr)
kept_arm (arg.Write a) = arm (number op.Write) write_args a
kept_arm (arg.Bind a) = arm (number op.Bind) bind a
kept_arm (arg.ExchangeId a) = arm (number op.ExchangeId) exchange_id a
kept_arm (arg.CreateSession a) = arm (number op.CreateSession) create_session a
kept_arm (arg.DestroySession sid) = arm (number op.DestroySession) session sid
kept_arm (arg.FreeStateid s) = arm (number op.FreeStateid) stateid s
kept_arm (arg.Sequence a) = arm (number op.Sequence) sequence a
kept_arm (arg.TestStateid list) = arm (number op.TestStateid) stateids list
kept_arm (arg.DestroyClient client) = arm (number op.DestroyClient) hyper client
kept_arm (arg.ReclaimComplete one_fs) = arm (number op.ReclaimComplete) flag one_fs
kept_arm arg.Illegal = none (number op.Illegal)

abbrev pub arg_arm : ToldArg → Arm
arg_arm (Kept a) = kept_arm a
arg_arm (Create a) = arm (number op.Create) told_create a
arg_arm (Open a) = arm (number op.Open) told_open a
arg_arm (SetAttr a) = arm (number op.SetAttr) told_set_attr a

-- each operation: its number, and how its arguments are read
abbrev pub arg_rows : List (ℕ × (List ℕ → Result (ToldArg × List ℕ) OpFault))
arg_rows =
    (number op.Close, made (λ a. Kept (arg.Close a)) close) ∷
    (number op.Commit, made (λ a. Kept (arg.Commit a)) commit) ∷
    (number op.Create, made (λ a. Create a) told_create) ∷
    (number op.DelegReturn, made (λ s. Kept (arg.DelegReturn s)) stateid) ∷
    (number op.GetAttr, made (λ mask. Kept (arg.GetAttr mask)) bitmap) ∷
    (number op.GetFh, made (λ _. Kept arg.GetFh) nothing) ∷
    (number op.Lock, made (λ a. Kept (arg.Lock a)) lock) ∷
    (number op.LockTest, made (λ a. Kept (arg.LockTest a)) lock_test) ∷
    (number op.Unlock, made (λ a. Kept (arg.Unlock a)) unlock) ∷
    (number op.Lookup, made (λ name. Kept (arg.Lookup name)) string) ∷
    (number op.Open, made (λ a. Open a) told_open) ∷
    (number op.OpenDowngrade, made (λ a. Kept (arg.OpenDowngrade a)) downgrade) ∷
    (number op.PutFh, made (λ x. Kept (arg.PutFh x)) fh) ∷
    (number op.PutRootFh, made (λ _. Kept arg.PutRootFh) nothing) ∷
    (number op.Read, made (λ a. Kept (arg.Read a)) read_args) ∷
    (number op.ReadDir, made (λ a. Kept (arg.ReadDir a)) read_dir) ∷
    (number op.Remove, made (λ name. Kept (arg.Remove name)) string) ∷
    (number op.Rename, made (λ a. Kept (arg.Rename a)) rename) ∷
    (number op.SaveFh, made (λ _. Kept arg.SaveFh) nothing) ∷
    (number op.SetAttr, made (λ a. SetAttr a) told_set_attr) ∷
    (number op.Write, made (λ a. Kept (arg.Write a)) write_args) ∷
    (number op.Bind, made (λ a. Kept (arg.Bind a)) bind) ∷
    (number op.ExchangeId, made (λ a. Kept (arg.ExchangeId a)) exchange_id) ∷
    (number op.CreateSession, made (λ a. Kept (arg.CreateSession a)) create_session) ∷
    (number op.DestroySession, made (λ sid. Kept (arg.DestroySession sid)) session) ∷
    (number op.FreeStateid, made (λ s. Kept (arg.FreeStateid s)) stateid) ∷
    (number op.Sequence, made (λ a. Kept (arg.Sequence a)) sequence) ∷
    (number op.TestStateid, made (λ list. Kept (arg.TestStateid list)) stateids) ∷
    (number op.DestroyClient, made (λ client. Kept (arg.DestroyClient client)) hyper) ∷
    (number op.ReclaimComplete, made (λ one_fs. Kept (arg.ReclaimComplete one_fs)) flag) ∷
    (number op.Illegal, made (λ _. Kept arg.Illegal) nothing) ∷
    []

unfoldable pub told_arg : Format OpFault ToldArg
told_arg = union Xdr Illegal arg_rows arg_arm

-- reading, seen as what is kept
abbrev pub as_kept : Result (ToldArg × List ℕ) OpFault → Result (Arg × List ℕ) OpFault
as_kept read = read >>= λ x. Ok (arg_of x.0, x.1)
