-- Which call a request is seen as (RFC 5531, section 9; RFC 8881, section 16.2).
use Rattle.std.specs.Prelude.{◌≡◌, ◌<◌, ◌^◌}
use Rattle.n41_types.specs.Spans.{IsLength}
use Rattle.n41_types.specs.declared.plans.Plan.{Plan}
use Rattle.n41_types.specs.declared.plans.Plan.TheVariants as plan
use Rattle.n41_types.specs.declared.plans.Request.{Request}
use Rattle.n41_requests.specs.Plans.{request_args}
use Rattle.n41_requests.specs.Requests.{call_head, HasNames}
use Rattle.n41_seen.specs.declared.calls.CallSeen.{CallSeen}
use Rattle.n41_seen.specs.Calls.{whole_call}

-- what is seen of the call that a request is spelled as, which has no fault
abbrev pub seen_of : Request → CallSeen
seen_of q = whole_call q.xid (call_head q).cred q.minor (request_args q)

-- the call is the one that the request is spelled as
abbrev pub IsSpelledBy : CallSeen → Request → Type 0
IsSpelledBy c q = c ≡ seen_of q

-- the lengths of the spans in the plan are lengths
abbrev pub HasSpans : Plan → Type 0
HasSpans (plan.TestLock fh kind span owner) = IsLength span.len
HasSpans (plan.LockBytes fh kind span reclaim locker) = IsLength span.len
HasSpans (plan.UnlockBytes fh span stateid) = IsLength span.len
HasSpans _ = Unit {0}

-- what the types of a plan's parts say: its names are names, and the lengths of its spans are lengths
abbrev pub IsLawfulPlan : Plan → Type 0
IsLawfulPlan p = HasNames p × HasSpans p

-- what the types of a request's parts say: its two ids are those of a u32, and its plan is lawful
abbrev pub IsLawful : Request → Type 0
IsLawful q = (q.uid < 2 ^ 32) × (q.gid < 2 ^ 32) × IsLawfulPlan q.plan
