-- What is kept of a journal to tell its phase (own).
use Rattle.std.specs.Prelude.{ℕ, ◌==◌, Bool, false, ◌&&◌, not, List, [], ◌∷◌, Option, Some, None, if◌then◌else◌}
use Rattle.n41_types.specs.declared.plans.Plan.{Plan}
use Rattle.n41_types.specs.declared.plans.Plan.TheVariants as plan
use Rattle.n41_types.specs.declared.plans.Request.{Request}
use Rattle.n41_results.specs.declared.replies.Reply.{Reply}
use Rattle.n41_results.specs.declared.sessions.SessionMade.{SessionMade}
use Rattle.n41_journal.specs.declared.events.Event.{Event}
use Rattle.n41_journal.specs.declared.events.Event.TheVariants.{Put, Took}
use Rattle.n41_model.specs.declared.words.KnownClient.{KnownClient}
use Rattle.n41_model.specs.declared.words.Phase.{Phase}
use Rattle.n41_model.specs.Replies.{is_final}
use Rattle.n41_model.specs.Requests.{bare, is_bare}
use Rattle.n41_model.specs.Sessions.{client, session, phases, is_lease_time}
use Rattle.n41_recover.specs.declared.words.Kind.{Kind}
use Rattle.n41_recover.specs.declared.words.Kind.TheVariants as kind
use Rattle.n41_recover.specs.declared.words.Lone.{Lone}

-- the phase and the last that was neither Down nor Binding, the session and the client id that are kept, the request without a slot
-- that is out, and the xid of the request for the lease time that is out
pub record Recovery : Type 0 where
  pub phase : Phase
  pub work : Phase
  pub session : Option SessionMade
  pub client : Option KnownClient
  pub lone : Option Lone
  pub lease : Option ℕ

-- ---- the request without a slot

abbrev pub kind_of : Plan → Kind
kind_of (plan.ExchangeId v o) = kind.ExchangeId
kind_of (plan.CreateSession c s) = kind.CreateSession
kind_of (plan.Bind s) = kind.Bind
kind_of (plan.DestroySession s) = kind.DestroySession
kind_of (plan.DestroyClient c) = kind.DestroyClient
kind_of p = kind.Other

abbrev pub lone_of : Request → Lone
lone_of r = record { xid = r.xid; kind = kind_of r.plan }

abbrev pub lone_in : Option Request → Option Lone
lone_in None = None
lone_in (Some r) = Some (lone_of r)

-- ---- the request for the lease time

-- it asks for the lease time, on a slot
abbrev pub is_lease : Request → Bool
is_lease r = is_lease_time r.plan && not (is_bare r)

abbrev pub is_xid : Option ℕ → ℕ → Bool
is_xid None x = false
is_xid (Some l) x = l == x

abbrev pub put_lease : Request → Option ℕ → Option ℕ
put_lease r l = if is_lease r then Some r.xid else if is_xid l r.xid then None else l

abbrev pub took_lease : Reply → Option ℕ → Option ℕ
took_lease y l = if is_xid l y.xid && is_final y then None else l

-- the xid of the last request for the lease time, until its final reply
abbrev pub lease : List Event → Option ℕ
lease [] = None
lease (Put c p r ∷ js) = put_lease r (lease js)
lease (Took c p y ∷ js) = took_lease y (lease js)
lease (e ∷ js) = lease js

-- what is kept of a journal
abbrev pub recovery : List Event → Recovery
recovery js = record {
  phase = (phases js).0;
  work = (phases js).1;
  session = session js;
  client = client js;
  lone = lone_in (bare js);
  lease = lease js;
}
