-- The messages of a client, its journal in a run, and what the server and the net did. A run is a list of steps, the newest first.
use Rattle.std.specs.Prelude.{ℕ, suc, ◌==◌, Bool, true, false, List, [], ◌∷◌, Option, Some, None, Ok, Err, if◌then◌else◌}
use Rattle.n41_types.specs.declared.plans.Plan.{Plan}
use Rattle.n41_types.specs.declared.plans.Plan.TheVariants as plan
use Rattle.n41_types.specs.declared.plans.Request.{Request}
use Rattle.n41_types.specs.declared.plans.SlotUse.{SlotUse}
use Rattle.n41_types.specs.declared.statuses.Status.{Status}
use Rattle.n41_results.specs.declared.replies.Reply.{Reply}
use Rattle.n41_results.specs.declared.replies.ReplyBody.TheVariants.{Results}
use Rattle.n41_results.specs.declared.results.Res.{Res}
use Rattle.n41_results.specs.declared.results.Res.TheVariants as res
use Rattle.n41_results.specs.declared.sessions.Bound.{Bound}
use Rattle.n41_results.specs.declared.sessions.Identity.{Identity}
use Rattle.n41_results.specs.declared.sessions.Sequenced.{Sequenced}
use Rattle.n41_results.specs.declared.sessions.SessionMade.{SessionMade}
use Rattle.n41_results.specs.Results.{ok, status_of}
use Rattle.n41_journal.specs.declared.events.Event.{Event}
use Rattle.n41_journal.specs.declared.events.Event.TheVariants.{Put, Took}
use Rattle.n41_runs.specs.declared.steps.Step.{Step}
use Rattle.n41_runs.specs.declared.steps.Step.TheVariants.{Does, Takes, Runs, Repeats, Refuses, Names, Makes, Binds, Ends}

-- ---- messages: the requests that the client put, numbered from 0 over all its connections (own)

-- how many messages were put
abbrev pub messages : List Event → ℕ
messages [] = 0
messages (Put c p r ∷ js) = suc (messages js)
messages (e ∷ js) = messages js

-- the request in message k
abbrev pub message : List Event → ℕ → Option Request
message [] k = None
message (Put c p r ∷ js) k = if messages js == k then Some r else message js k
message (e ∷ js) k = message js k

-- the connection on which message k was put
abbrev pub carrier : List Event → ℕ → ℕ
carrier [] k = 0
carrier (Put c p r ∷ js) k = if messages js == k then c else carrier js k
carrier (e ∷ js) k = carrier js k

-- ---- steps

-- the journal of the client
abbrev pub client : List Step → List Event
client [] = []
client (Does e ∷ w) = e ∷ client w
client (Takes k c p y ∷ w) = Took c p y ∷ client w
client (st ∷ w) = client w

-- ---- what the server answers (RFC 8881, section 16.2)

abbrev pub reply_to : Request → Status → List Res → Reply
reply_to r s xs = record { xid = r.xid; body = Results s xs }

-- the status of the last of these results
abbrev pub end_status : Status → List Res → Status
end_status s [] = s
end_status s (x ∷ xs) = end_status (status_of x) xs

-- a request with a slot ran: SEQUENCE answered q, the operations behind it xs
abbrev pub ran_reply : Request → Sequenced → List Res → Reply
ran_reply r q xs = reply_to r (end_status ok xs) (res.Sequence (Ok q) ∷ xs)

-- the result of the one operation of a request without a slot that is refused
abbrev pub refused_result : Plan → Status → Res
refused_result (plan.ExchangeId v o) s = res.ExchangeId (Err s)
refused_result (plan.CreateSession i n) s = res.CreateSession (Err s)
refused_result (plan.Bind i) s = res.Bind (Err s)
refused_result (plan.DestroySession i) s = res.DestroySession s
refused_result (plan.DestroyClient i) s = res.DestroyClient s
refused_result p s = res.Illegal s

-- a request with a slot is refused by its SEQUENCE
abbrev pub refusal_by : Option SlotUse → Plan → Status → Res
refusal_by (Some u) p s = res.Sequence (Err s)
refusal_by None p s = refused_result p s

abbrev pub refusal : Request → Status → Reply
refusal r s = reply_to r s (refusal_by r.slot r.plan s ∷ [])

abbrev pub named_reply : Request → Identity → Reply
named_reply r i = reply_to r ok (res.ExchangeId (Ok i) ∷ [])

abbrev pub made_reply : Request → SessionMade → Reply
made_reply r m = reply_to r ok (res.CreateSession (Ok m) ∷ [])

abbrev pub bound_reply : Request → Bound → Reply
bound_reply r b = reply_to r ok (res.Bind (Ok b) ∷ [])

-- a DESTROY_SESSION or a DESTROY_CLIENTID with OK
abbrev pub ended_reply : Request → Reply
ended_reply r = reply_to r ok (refused_result r.plan ok ∷ [])

-- ---- the net (own). A message that is never answered was lost, with its connection or in the server.

-- what the server answered to message k
abbrev pub fate : List Step → ℕ → Option Reply
fate [] k = None
fate (Runs j r q xs ∷ w) k = if j == k then Some (ran_reply r q xs) else fate w k
fate (Repeats j r y ∷ w) k = if j == k then Some y else fate w k
fate (Refuses j r s ∷ w) k = if j == k then Some (refusal r s) else fate w k
fate (Names j r i ∷ w) k = if j == k then Some (named_reply r i) else fate w k
fate (Makes j r m ∷ w) k = if j == k then Some (made_reply r m) else fate w k
fate (Binds j r b ∷ w) k = if j == k then Some (bound_reply r b) else fate w k
fate (Ends j r ∷ w) k = if j == k then Some (ended_reply r) else fate w k
fate (st ∷ w) k = fate w k

-- the client took the answer to message k
abbrev pub taken : List Step → ℕ → Bool
taken [] k = false
taken (Takes j c p y ∷ w) k = if j == k then true else taken w k
taken (st ∷ w) k = taken w k
