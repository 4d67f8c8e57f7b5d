-- The operation and the status of a result.
use Rattle.std.specs.Prelude.{Result, Ok, Err}
use Rattle.n41_types.specs.declared.operations.Operation.{Operation}
use Rattle.n41_types.specs.declared.operations.Operation.TheVariants as op
use Rattle.n41_types.specs.declared.statuses.Status.{Status}
use Rattle.n41_results.specs.declared.results.LockRefusal.{LockRefusal}
use Rattle.n41_results.specs.declared.results.LockRefusal.TheVariants.{Denied, Other}
use Rattle.n41_results.specs.declared.results.Res.{Res}
use Rattle.n41_results.specs.declared.results.Res.TheVariants as res

-- the operation that a result answers
abbrev pub operation_of : Res → Operation
operation_of (res.Close _) = op.Close
operation_of (res.Commit _) = op.Commit
operation_of (res.Create _) = op.Create
operation_of (res.DelegReturn _) = op.DelegReturn
operation_of (res.GetAttr _) = op.GetAttr
operation_of (res.GetFh _) = op.GetFh
operation_of (res.Lock _) = op.Lock
operation_of (res.LockTest _) = op.LockTest
operation_of (res.Unlock _) = op.Unlock
operation_of (res.Lookup _) = op.Lookup
operation_of (res.Open _) = op.Open
operation_of (res.OpenDowngrade _) = op.OpenDowngrade
operation_of (res.PutFh _) = op.PutFh
operation_of (res.PutRootFh _) = op.PutRootFh
operation_of (res.Read _) = op.Read
operation_of (res.ReadDir _) = op.ReadDir
operation_of (res.Remove _) = op.Remove
operation_of (res.Rename _) = op.Rename
operation_of (res.SaveFh _) = op.SaveFh
operation_of (res.SetAttr s b) = op.SetAttr
operation_of (res.Write _) = op.Write
operation_of (res.Bind _) = op.Bind
operation_of (res.ExchangeId _) = op.ExchangeId
operation_of (res.CreateSession _) = op.CreateSession
operation_of (res.DestroySession _) = op.DestroySession
operation_of (res.FreeStateid _) = op.FreeStateid
operation_of (res.Sequence _) = op.Sequence
operation_of (res.TestStateid _) = op.TestStateid
operation_of (res.DestroyClient _) = op.DestroyClient
operation_of (res.ReclaimComplete _) = op.ReclaimComplete
operation_of (res.Illegal _) = op.Illegal

abbrev pub ok : Status
ok = record { 0 = 0 }

abbrev pub denied : Status
denied = record { 0 = 10010 }

-- the status of an answer, or of a refusal
abbrev pub outcome : {A : Type 0} → Result A Status → Status
outcome (Ok _) = ok
outcome (Err s) = s

-- the same of a lock, which DENIED tells more
abbrev pub lock_outcome : {A : Type 0} → Result A LockRefusal → Status
lock_outcome (Ok _) = ok
lock_outcome (Err (Denied _)) = denied
lock_outcome (Err (Other s)) = s

-- the status of a result
abbrev pub status_of : Res → Status
status_of (res.Close r) = outcome r
status_of (res.Commit r) = outcome r
status_of (res.Create r) = outcome r
status_of (res.DelegReturn s) = s
status_of (res.GetAttr r) = outcome r
status_of (res.GetFh r) = outcome r
status_of (res.Lock r) = lock_outcome r
status_of (res.LockTest r) = lock_outcome r
status_of (res.Unlock r) = outcome r
status_of (res.Lookup s) = s
status_of (res.Open r) = outcome r
status_of (res.OpenDowngrade r) = outcome r
status_of (res.PutFh s) = s
status_of (res.PutRootFh s) = s
status_of (res.Read r) = outcome r
status_of (res.ReadDir r) = outcome r
status_of (res.Remove r) = outcome r
status_of (res.Rename r) = outcome r
status_of (res.SaveFh s) = s
status_of (res.SetAttr s b) = s
status_of (res.Write r) = outcome r
status_of (res.Bind r) = outcome r
status_of (res.ExchangeId r) = outcome r
status_of (res.CreateSession r) = outcome r
status_of (res.DestroySession s) = s
status_of (res.FreeStateid s) = s
status_of (res.Sequence r) = outcome r
status_of (res.TestStateid r) = outcome r
status_of (res.DestroyClient s) = s
status_of (res.ReclaimComplete s) = s
status_of (res.Illegal s) = s
