-- The results of operations (RFC 8881, nfs_resop4): the number of the operation, a status, and what follows it.
use Rattle.std.specs.Prelude.{◌≡◌, ℕ, List, [], ◌∷◌, Result, Ok, Err}
use Rattle.n41_xdr.specs.Reading.{◌>>=◌}
use Rattle.n41_xdr.specs.Format.{Format, ◌&◌, nothing, made, Arm, arm, union}
use Rattle.n41_types.specs.Operations.{number}
use Rattle.n41_types.specs.declared.operations.Operation.TheVariants as op
use Rattle.n41_types.specs.declared.statuses.Status.{Status}
use Rattle.n41_results.specs.declared.results.Res.{Res}
use Rattle.n41_results.specs.declared.results.Res.TheVariants as res
use Rattle.n41_attr.specs.declared.fault.OpFault.{OpFault}
use Rattle.n41_attr.specs.declared.fault.OpFault.TheVariants.{Xdr, Illegal}
use Rattle.n41_attr.specs.Attributes.{Told, attrs_of, written}
use Rattle.n41_attr.specs.Parts.{stateid, verifier, fh, bitmap, fattr, status, outcome, failure}
use Rattle.n41_ops.specs.Openings.{change_info, opened}
use Rattle.n41_ops.specs.Locks.{lock_outcome}
use Rattle.n41_ops.specs.Sessions.{identity, session_made, bound, sequenced, statuses}
use Rattle.n41_ops.specs.Files.{created, renamed, content, put, ToldListing, told_listing, listing_of, written_listing}

-- A result as it is told. Those of GETATTR and READDIR hold attributes, of which more is told than is kept; the others are kept as they are told.
pub data ToldRes : Type 0 where
  Kept : Res → ToldRes
  GetAttr : Result Told Status → ToldRes
  ReadDir : Result ToldListing Status → ToldRes

abbrev pub answer_as : {A B : Type 0} → (A → B) → Result A Status → Result B Status
answer_as f (Ok x) = Ok (f x)
answer_as f (Err s) = Err s

-- what is kept of a result
abbrev pub res_of : ToldRes → Res
res_of (Kept x) = x
res_of (GetAttr x) = res.GetAttr (answer_as attrs_of x)
res_of (ReadDir x) = res.ReadDir (answer_as listing_of x)

-- what is told of a result where it is written
abbrev pub written_res : Res → ToldRes
written_res (res.GetAttr x) = GetAttr (answer_as written x)
written_res (res.ReadDir x) = ReadDir (answer_as written_listing x)
written_res x = Kept x

-- the arms of the results that are kept as they are told
abbrev pub kept_arm : Res → Arm
kept_arm (res.Close x) = arm (number op.Close) (outcome stateid) x
kept_arm (res.Commit x) = arm (number op.Commit) (outcome verifier) x
kept_arm (res.Create x) = arm (number op.Create) (outcome created) x
kept_arm (res.DelegReturn x) = arm (number op.DelegReturn) status x
kept_arm (res.GetAttr _) = record { number = number op.GetAttr; text = []; Fits = ⊥ }
kept_arm (res.GetFh x) = arm (number op.GetFh) (outcome fh) x
kept_arm (res.Lock x) = arm (number op.Lock) (lock_outcome stateid) x
kept_arm (res.LockTest x) = arm (number op.LockTest) (lock_outcome (nothing {E = OpFault})) x
kept_arm (res.Unlock x) = arm (number op.Unlock) (outcome stateid) x
kept_arm (res.Lookup x) = arm (number op.Lookup) status x
kept_arm (res.Open x) = arm (number op.Open) (outcome opened) x
kept_arm (res.OpenDowngrade x) = arm (number op.OpenDowngrade) (outcome stateid) x
kept_arm (res.PutFh x) = arm (number op.PutFh) status x
kept_arm (res.PutRootFh x) = arm (number op.PutRootFh) status x
kept_arm (res.Read x) = arm (number op.Read) (outcome content) x
kept_arm (res.ReadDir _) = record { number = number op.ReadDir; text = []; Fits = ⊥ }
kept_arm (res.Remove x) = arm (number op.Remove) (outcome change_info) x
kept_arm (res.Rename x) = arm (number op.Rename) (outcome renamed) x
kept_arm (res.SaveFh x) = arm (number op.SaveFh) status x
kept_arm (res.SetAttr s set) = arm (number op.SetAttr) (status & bitmap) (s, set)
kept_arm (res.Write x) = arm (number op.Write) (outcome put) x
kept_arm (res.Bind x) = arm (number op.Bind) (outcome bound) x
kept_arm (res.ExchangeId x) = arm (number op.ExchangeId) (outcome identity) x
kept_arm (res.CreateSession x) = arm (number op.CreateSession) (outcome session_made) x
kept_arm (res.DestroySession x) = arm (number op.DestroySession) status x
kept_arm (res.FreeStateid x) = arm (number op.FreeStateid) status x
kept_arm (res.Sequence x) = arm (number op.Sequence) (outcome sequenced) x
kept_arm (res.TestStateid x) = arm (number op.TestStateid) (outcome statuses) x
kept_arm (res.DestroyClient x) = arm (number op.DestroyClient) status x
kept_arm (res.ReclaimComplete x) = arm (number op.ReclaimComplete) status x
kept_arm (res.Illegal x) = arm (number op.Illegal) failure x

abbrev pub res_arm : ToldRes → Arm
res_arm (Kept x) = kept_arm x
res_arm (GetAttr x) = arm (number op.GetAttr) (outcome fattr) x
res_arm (ReadDir x) = arm (number op.ReadDir) (outcome told_listing) x

abbrev pub res_rows : List (ℕ × (List ℕ → Result (ToldRes × List ℕ) OpFault))
res_rows =
    (number op.Close, made (λ x. Kept (res.Close x)) (outcome stateid)) ∷
    (number op.Commit, made (λ x. Kept (res.Commit x)) (outcome verifier)) ∷
    (number op.Create, made (λ x. Kept (res.Create x)) (outcome created)) ∷
    (number op.DelegReturn, made (λ x. Kept (res.DelegReturn x)) status) ∷
    (number op.GetAttr, made (λ x. GetAttr x) (outcome fattr)) ∷
    (number op.GetFh, made (λ x. Kept (res.GetFh x)) (outcome fh)) ∷
    (number op.Lock, made (λ x. Kept (res.Lock x)) (lock_outcome stateid)) ∷
    (number op.LockTest, made (λ x. Kept (res.LockTest x)) (lock_outcome nothing)) ∷
    (number op.Unlock, made (λ x. Kept (res.Unlock x)) (outcome stateid)) ∷
    (number op.Lookup, made (λ x. Kept (res.Lookup x)) status) ∷
    (number op.Open, made (λ x. Kept (res.Open x)) (outcome opened)) ∷
    (number op.OpenDowngrade, made (λ x. Kept (res.OpenDowngrade x)) (outcome stateid)) ∷
    (number op.PutFh, made (λ x. Kept (res.PutFh x)) status) ∷
    (number op.PutRootFh, made (λ x. Kept (res.PutRootFh x)) status) ∷
    (number op.Read, made (λ x. Kept (res.Read x)) (outcome content)) ∷
    (number op.ReadDir, made (λ x. ReadDir x) (outcome told_listing)) ∷
    (number op.Remove, made (λ x. Kept (res.Remove x)) (outcome change_info)) ∷
    (number op.Rename, made (λ x. Kept (res.Rename x)) (outcome renamed)) ∷
    (number op.SaveFh, made (λ x. Kept (res.SaveFh x)) status) ∷
    (number op.SetAttr, made (λ x. Kept (res.SetAttr x.0 x.1)) (status & bitmap)) ∷
    (number op.Write, made (λ x. Kept (res.Write x)) (outcome put)) ∷
    (number op.Bind, made (λ x. Kept (res.Bind x)) (outcome bound)) ∷
    (number op.ExchangeId, made (λ x. Kept (res.ExchangeId x)) (outcome identity)) ∷
    (number op.CreateSession, made (λ x. Kept (res.CreateSession x)) (outcome session_made)) ∷
    (number op.DestroySession, made (λ x. Kept (res.DestroySession x)) status) ∷
    (number op.FreeStateid, made (λ x. Kept (res.FreeStateid x)) status) ∷
    (number op.Sequence, made (λ x. Kept (res.Sequence x)) (outcome sequenced)) ∷
    (number op.TestStateid, made (λ x. Kept (res.TestStateid x)) (outcome statuses)) ∷
    (number op.DestroyClient, made (λ x. Kept (res.DestroyClient x)) status) ∷
    (number op.ReclaimComplete, made (λ x. Kept (res.ReclaimComplete x)) status) ∷
    (number op.Illegal, made (λ x. Kept (res.Illegal x)) failure) ∷
    []

unfoldable pub told_res : Format OpFault ToldRes
told_res = union Xdr Illegal res_rows res_arm

-- reading, seen as what is kept
abbrev pub as_kept : Result (ToldRes × List ℕ) OpFault → Result (Res × List ℕ) OpFault
as_kept read = read >>= λ x. Ok (res_of x.0, x.1)
