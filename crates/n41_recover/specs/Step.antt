-- What is kept after an event, from what was kept before it and the event alone (own).
use Rattle.std.specs.Prelude.{ℕ, ◌==◌, Bool, true, false, List, [], ◌∷◌, Option, Some, None, Ok, Err, if◌then◌else◌}
use Rattle.n41_types.specs.declared.plans.Plan.{Plan}
use Rattle.n41_types.specs.declared.plans.Plan.TheVariants as plan
use Rattle.n41_types.specs.declared.plans.Request.{Request}
use Rattle.n41_types.specs.declared.statuses.Status.{Status}
use Rattle.n41_results.specs.declared.replies.Reply.{Reply}
use Rattle.n41_results.specs.declared.replies.ReplyBody.{ReplyBody}
use Rattle.n41_results.specs.declared.replies.ReplyBody.TheVariants.{Results}
use Rattle.n41_results.specs.declared.results.Res.{Res}
use Rattle.n41_results.specs.declared.results.Res.TheVariants as res
use Rattle.n41_journal.specs.declared.events.Event.{Event}
use Rattle.n41_journal.specs.declared.events.Event.TheVariants.{Put, Took, Dialed, Broke}
use Rattle.n41_model.specs.declared.words.BareVerdict.{BareVerdict}
use Rattle.n41_model.specs.declared.words.BareVerdict.TheVariants as b
use Rattle.n41_model.specs.declared.words.Phase.{Phase}
use Rattle.n41_model.specs.declared.words.Phase.TheVariants.{Dead}
use Rattle.n41_model.specs.declared.words.Verdict.{Verdict}
use Rattle.n41_model.specs.declared.words.Verdict.TheVariants as v
use Rattle.n41_model.specs.Replies.{is_delay, is_not_bound, is_uncached, is_size_refusal, exchange_verdict, create_verdict, bind_verdict, destroy_session_verdict, destroy_client_verdict}
use Rattle.n41_model.specs.Requests.{is_bare}
use Rattle.n41_model.specs.Sessions.{client_after, session_after, dialed_phase, broke_phase, worked}
use Rattle.n41_view.specs.Step.{Said, reply_phase}
use Rattle.n41_recover.specs.declared.words.Kind.{Kind}
use Rattle.n41_recover.specs.declared.words.Kind.TheVariants as kind
use Rattle.n41_recover.specs.declared.words.Lone.{Lone}
use Rattle.n41_recover.specs.Recovery.{Recovery, lone_of, is_xid, put_lease, took_lease}

-- ---- what a reply says

-- of a request without a slot
abbrev pub kind_verdict : Kind → ReplyBody → BareVerdict
kind_verdict kind.ExchangeId body = exchange_verdict body
kind_verdict kind.CreateSession body = create_verdict body
kind_verdict kind.Bind body = bind_verdict body
kind_verdict kind.DestroySession body = destroy_session_verdict body
kind_verdict kind.DestroyClient body = destroy_client_verdict body
kind_verdict kind.Other body = b.Breach

-- behind an OK of SEQUENCE, and where SEQUENCE was refused
abbrev pub told_run : Status → List Res → Verdict
told_run s (x ∷ []) = if is_uncached s then v.Uncached else v.Ran s
told_run s xs = v.Ran s

abbrev pub told_refusal : Status → Verdict
told_refusal e =
    if is_delay e then v.Delayed else
    if is_not_bound e then v.Unbound else
    if is_uncached e then v.Uncached else
    if is_size_refusal e then v.TooBig e else v.Breach

-- Of a request with a slot, as far as the reply alone tells it. That the request makes it a breach is not told by the reply.
abbrev pub told_verdict : ReplyBody → Verdict
told_verdict (Results s (res.Sequence (Ok q) ∷ xs)) = told_run s xs
told_verdict (Results s (res.Sequence (Err e) ∷ xs)) = told_refusal e
told_verdict body = v.Breach

abbrev pub has_lone : Option Lone → ℕ → Bool
has_lone None x = false
has_lone (Some l) x = l.xid == x

abbrev pub lone_said : Option Lone → Reply → Option BareVerdict
lone_said None y = None
lone_said (Some l) y = if l.xid == y.xid then Some (kind_verdict l.kind y.body) else None

abbrev pub slot_said : Bool → Reply → Option Verdict
slot_said true y = None
slot_said false y = Some (told_verdict y.body)

-- of a request with a slot only matters whether it asks for the lease time
abbrev pub plan_said : Bool → Plan
plan_said true = plan.LeaseTime
plan_said false = plan.Renew

abbrev pub said : Recovery → Reply → Said
said r y = record { bare = lone_said r.lone y; slot = slot_said (has_lone r.lone y.xid) y; plan = plan_said (is_xid r.lease y.xid); owner = None }

-- ---- the step

abbrev pub with_phase : Phase → Recovery → Recovery
with_phase p r = record r { phase = p; work = worked p r.work }

abbrev pub put_lone : Request → Option Lone → Option Lone
put_lone q l = if is_bare q then Some (lone_of q) else l

abbrev pub took_lone : Reply → Option Lone → Option Lone
took_lone y l = if has_lone l y.xid then None else l

abbrev pub took : Recovery → Reply → Recovery
took r y = record {
  phase = reply_phase (said r y) r.phase r.work;
  work = worked (reply_phase (said r y) r.phase r.work) r.work;
  session = session_after (lone_said r.lone y) r.session;
  client = client_after (lone_said r.lone y) r.client;
  lone = took_lone y r.lone;
  lease = took_lease y r.lease;
}

abbrev pub step : Recovery → Event → Recovery
step r (Put c p q) = record r { lone = put_lone q r.lone; lease = put_lease q r.lease }
step r (Took c p y) = took r y
step r (Dialed c) = with_phase (dialed_phase r.phase r.session r.client) r
step r (Broke c w) = with_phase (broke_phase r.phase) r
step r e = r

-- no server that keeps the rules gives the last reply
abbrev pub dead : Recovery → Recovery
dead r = record r { phase = Dead; work = Dead }
