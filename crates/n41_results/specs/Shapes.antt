-- Which results answer a request.
use Rattle.std.specs.Prelude.{ℕ, suc, zero, ◌+◌, ◌==◌, Bool, true, false, not, ◌&&◌, ◌||◌, List, [], ◌∷◌, ◌++◌, length, replicate, map, Option, Some, None, Result, Ok, Err, if◌then◌else◌, is_some, min, ◌^◌, ◌-◌}
use Rattle.std.specs.List.{list_any}
use Rattle.n41_types.specs.declared.attributes.Attrs.{Attrs}
use Rattle.n41_types.specs.declared.operations.Operation.{Operation}
use Rattle.n41_types.specs.declared.operations.Operation.TheVariants as op
use Rattle.n41_types.specs.declared.plans.Place.{Place}
use Rattle.n41_types.specs.declared.plans.Place.TheVariants.{Root, At}
use Rattle.n41_types.specs.declared.plans.Plan.{Plan}
use Rattle.n41_types.specs.declared.plans.Plan.TheVariants as plan
use Rattle.n41_types.specs.declared.plans.Request.{Request}
use Rattle.n41_types.specs.declared.plans.SlotUse.{SlotUse}
use Rattle.n41_results.specs.declared.replies.Reply.{Reply}
use Rattle.n41_results.specs.declared.replies.ReplyBody.{ReplyBody}
use Rattle.n41_results.specs.declared.replies.ReplyBody.TheVariants.{Denied, Rejected, Results}
use Rattle.n41_results.specs.declared.results.Entry.{Entry}
use Rattle.n41_results.specs.declared.results.Res.{Res}
use Rattle.n41_results.specs.declared.results.Res.TheVariants as res
use Rattle.n41_results.specs.declared.shapes.Shape.{Shape}
use Rattle.n41_results.specs.declared.shapes.Shape.TheVariants as shape
use Rattle.n41_types.specs.declared.statuses.Status.{Status}
use Rattle.n41_types.specs.Operations.{number}
use Rattle.n41_results.specs.Results.{operation_of, status_of}

-- how a place becomes the current filehandle (RFC 8881, PUTROOTFH and PUTFH)
abbrev pub put_of : Place → Operation
put_of Root = op.PutRootFh
put_of (At _) = op.PutFh

-- the operations of a plan, behind its SEQUENCE where it has one
abbrev pub operations_of : Plan → List Operation
operations_of (plan.ExchangeId _ _) = op.ExchangeId ∷ []
operations_of (plan.CreateSession _ _) = op.CreateSession ∷ []
operations_of (plan.Bind _) = op.Bind ∷ []
operations_of (plan.DestroySession _) = op.DestroySession ∷ []
operations_of (plan.DestroyClient _) = op.DestroyClient ∷ []
operations_of (plan.Walk from names) = put_of from ∷ (replicate (length names) op.Lookup ++ op.GetFh ∷ [])
operations_of (plan.Stat at) = put_of at ∷ op.GetAttr ∷ []
operations_of plan.LeaseTime = op.PutRootFh ∷ op.GetAttr ∷ []
operations_of (plan.Read _ _ _ _) = op.PutFh ∷ op.Read ∷ []
operations_of (plan.List at _ _ _) = put_of at ∷ op.ReadDir ∷ []
operations_of (plan.TestLock _ _ _ _) = op.PutFh ∷ op.LockTest ∷ []
operations_of (plan.Test _) = op.TestStateid ∷ []
operations_of plan.Renew = []
operations_of (plan.OpenAt _ _ _ _) = op.PutFh ∷ op.Open ∷ op.GetFh ∷ []
operations_of (plan.Downgrade _ _ _) = op.PutFh ∷ op.OpenDowngrade ∷ []
operations_of (plan.CloseState _ _) = op.PutFh ∷ op.Close ∷ []
operations_of (plan.LockBytes _ _ _ _ _) = op.PutFh ∷ op.Lock ∷ []
operations_of (plan.UnlockBytes _ _ _) = op.PutFh ∷ op.Unlock ∷ []
operations_of (plan.ReturnDeleg _ _) = op.PutFh ∷ op.DelegReturn ∷ []
operations_of (plan.Free _) = op.FreeStateid ∷ []
operations_of plan.Complete = op.ReclaimComplete ∷ []
operations_of (plan.CreateFile dir _ _ _) = put_of dir ∷ op.Open ∷ op.GetFh ∷ []
operations_of (plan.WriteBytes _ _ _ _) = op.PutFh ∷ op.Write ∷ []
operations_of (plan.Resize _ _ _) = op.PutFh ∷ op.SetAttr ∷ []
operations_of (plan.MakeDir dir _) = put_of dir ∷ op.Create ∷ []
operations_of (plan.Remove dir _) = put_of dir ∷ op.Remove ∷ []
operations_of (plan.Rename from _ to _) = put_of from ∷ op.SaveFh ∷ put_of to ∷ op.Rename ∷ []

abbrev pub behind : Option SlotUse → List Operation → List Operation
behind None ops = ops
behind (Some _) ops = op.Sequence ∷ ops

-- the operations of a request: SEQUENCE is the first of every request with a slot
abbrev pub asked_of : Request → List Operation
asked_of q = behind q.slot (operations_of q.plan)

-- the attribute numbers that a plan asks for (RFC 8881, section 5)
abbrev pub asked_attrs : Plan → List ℕ
asked_attrs (plan.Stat _) = 1 ∷ 3 ∷ 4 ∷ 20 ∷ 33 ∷ []
asked_attrs plan.LeaseTime = 10 ∷ []
asked_attrs _ = []

abbrev pub unasked_number : List ℕ → ℕ → Bool → Option ℕ → Option ℕ
unasked_number asked n there rest = if there && not (list_any (λ m. m == n) asked) then Some n else rest

-- the least attribute number that is told and was not asked for
abbrev pub unasked : List ℕ → Attrs → Option ℕ
unasked asked a =
    unasked_number asked 1 (is_some a.kind) (unasked_number asked 3 (is_some a.change) (unasked_number asked 4 (is_some a.size)
    (unasked_number asked 10 (is_some a.lease) (unasked_number asked 20 (is_some a.fileid) (unasked_number asked 33 (is_some a.mode) None)))))

abbrev pub first_of_two : Option ℕ → Option ℕ → Option ℕ
first_of_two None o = o
first_of_two (Some n) o = Some n

abbrev pub unasked_entry : List ℕ → List Entry → Option ℕ
unasked_entry asked [] = None
unasked_entry asked (e ∷ es) = first_of_two (unasked asked e.attrs) (unasked_entry asked es)

-- the attribute that the result of a plan tells unasked
abbrev pub unasked_in : Plan → Res → Option ℕ
unasked_in p (res.GetAttr (Ok a)) = unasked (asked_attrs p) a
unasked_in p (res.ReadDir (Ok l)) = unasked_entry [] l.entries
unasked_in p _ = None

-- the results do not fit at this place, where this operation was asked, or where none was asked this one was answered
abbrev pub misfit : ℕ → List Operation → Res → Option Shape
misfit n [] x = Some (shape.Op n (number (operation_of x)))
misfit n (o ∷ os) x = Some (shape.Op n (number o))

-- nothing follows an operation that was not OK
abbrev pub nothing_after : ℕ → List Operation → List Res → Option Shape
nothing_after n os [] = None
nothing_after n os (x ∷ xs) = misfit n os x

abbrev pub attr_or : Option ℕ → Option Shape → Option Shape
attr_or None rest = rest
attr_or (Some a) rest = Some (shape.Attr a)

-- the first place, from this one on, where results are not those of the operations that were asked:
-- they run in order, up to the first that is not OK (RFC 8881, section 2.10.6)
abbrev pub shape_from : Plan → ℕ → List Operation → List Res → Option Shape
shape_from p n [] [] = None
shape_from p n (o ∷ os) [] = Some (shape.Op n (number o))
shape_from p n [] (x ∷ xs) = misfit n [] x
shape_from p n (o ∷ os) (x ∷ xs) =
    if number (operation_of x) == number o
    then attr_or (unasked_in p x) (if (status_of x).0 == 0 then shape_from p (n + 1) os xs else nothing_after (n + 1) os xs)
    else misfit n (o ∷ os) x

-- no results at all come with MINOR_VERS_MISMATCH alone
abbrev pub shape_of_none : Status → Option Shape → Option Shape
shape_of_none s rest = if s.0 == 10021 then None else rest

abbrev pub body_shape : Request → ReplyBody → Option Shape
body_shape q (Denied _) = None
body_shape q (Rejected _) = None
body_shape q (Results s []) = shape_of_none s (shape_from q.plan 0 (asked_of q) [])
body_shape q (Results s (x ∷ xs)) = shape_from q.plan 0 (asked_of q) (x ∷ xs)

-- the first thing in which a reply is no reply to this request; None where it is one
abbrev pub shape_of : Request → Reply → Option Shape
shape_of q r = if q.xid == r.xid then body_shape q r.body else Some (shape.Xid r.xid)

-- What `fits` tells of it: a place that a u32 does not hold is told as the greatest u32 (own).
abbrev pub told : Shape → Shape
told (shape.Op n o) = shape.Op (min n (2 ^ 32 - 1)) o
told s = s
