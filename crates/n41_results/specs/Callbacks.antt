-- The operation and the status of a result of a callback.
use Rattle.std.specs.Prelude.{ℕ, Result, Ok, Err}
use Rattle.n41_types.specs.declared.statuses.Status.{Status}
use Rattle.n41_results.specs.declared.callbacks.CbRes.{CbRes}
use Rattle.n41_results.specs.declared.callbacks.CbRes.TheVariants as res
use Rattle.n41_results.specs.declared.callbacks.Unserved.{Unserved}
use Rattle.n41_results.specs.declared.callbacks.Unserved.TheVariants as op
use Rattle.n41_results.specs.Results.{outcome}

-- the number of an operation that is not served (RFC 8881, nfs_cb_opnum4)
abbrev pub number_of : Unserved → ℕ
number_of op.GetAttr = 3
number_of op.LayoutRecall = 5
number_of op.Notify = 6
number_of op.PushDeleg = 7
number_of op.ObjectAvailable = 9
number_of op.WantsCancelled = 12
number_of op.NotifyLock = 13
number_of op.NotifyDevice = 14

-- the number of the operation that a result answers
abbrev pub cb_number_of : CbRes → ℕ
cb_number_of (res.Recall _) = 4
cb_number_of (res.RecallAny _) = 8
cb_number_of (res.RecallSlot _) = 10
cb_number_of (res.Sequence _) = 11
cb_number_of (res.Unserved op _) = number_of op
cb_number_of (res.Illegal _) = 10044

-- the status of a result
abbrev pub cb_status_of : CbRes → Status
cb_status_of (res.Recall s) = s
cb_status_of (res.RecallAny s) = s
cb_status_of (res.RecallSlot s) = s
cb_status_of (res.Sequence r) = outcome r
cb_status_of (res.Unserved _ s) = s
cb_status_of (res.Illegal s) = s
