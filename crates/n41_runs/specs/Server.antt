-- What a server has: sessions with their slots, client ids and bindings, each as a function of the run.
use Rattle.std.specs.Prelude.{ℕ, ◌+◌, ◌%◌, ◌^◌, ◌==◌, Bool, false, ◌&&◌, ◌||◌, List, [], ◌∷◌, Option, Some, None, if◌then◌else◌, is_some, is_none}
use Rattle.n41_types.specs.declared.identities.SessionId.{SessionId}
use Rattle.n41_types.specs.declared.plans.Plan.{Plan}
use Rattle.n41_types.specs.declared.plans.Plan.TheVariants as plan
use Rattle.n41_types.specs.declared.plans.SlotUse.{SlotUse}
use Rattle.n41_types.specs.contracts.identities.SessionIdPartialEq.TheImpl as session_id
use Rattle.n41_results.specs.declared.replies.ReplyBody.{ReplyBody}
use Rattle.n41_results.specs.declared.sessions.SessionMade.{SessionMade}
use Rattle.n41_model.specs.Requests.{turn_of}
use Rattle.n41_runs.specs.declared.steps.Step.{Step}
use Rattle.n41_runs.specs.declared.steps.Step.TheVariants.{Runs, Names, Makes, Binds, Ends}
use Rattle.n41_runs.specs.Steps.{client, carrier, ran_reply}

abbrev pub is_session : SessionId → SessionId → Bool
is_session a b = session_id.ghosts.eq a b

-- ---- slots (RFC 8881, section 2.10.6.1)

abbrev pub is_at : Option SlotUse → SessionId → ℕ → Bool
is_at None i n = false
is_at (Some u) i n = is_session u.sid i && (u.slot == n)

-- the last turn that ran on a slot of a session; 0 where none did
abbrev pub last : List Step → SessionId → ℕ → ℕ
last [] i n = 0
last (Runs k r q xs ∷ w) i n = if is_at r.slot i n then turn_of r.slot else last w i n
last (st ∷ w) i n = last w i n

-- the reply that is kept for that turn
abbrev pub kept : List Step → SessionId → ℕ → Option ReplyBody
kept [] i n = None
kept (Runs k r q xs ∷ w) i n = if is_at r.slot i n then Some (ran_reply r q xs).body else kept w i n
kept (st ∷ w) i n = kept w i n

-- ---- sessions (RFC 8881, sections 18.36 and 18.37)

-- whether the session was ever made
abbrev pub was_made : List Step → SessionId → Bool
was_made [] i = false
was_made (Makes k r m ∷ w) i = is_session m.sid i || was_made w i
was_made (st ∷ w) i = was_made w i

abbrev pub is_end_of : Plan → SessionId → Bool
is_end_of (plan.DestroySession j) i = is_session j i
is_end_of p i = false

-- whether the session is there
abbrev pub alive : List Step → SessionId → Bool
alive [] i = false
alive (Makes k r m ∷ w) i = is_session m.sid i || alive w i
alive (Ends k r ∷ w) i = if is_end_of r.plan i then false else alive w i
alive (st ∷ w) i = alive w i

-- how many slots the session was given
abbrev pub slots_given : List Step → SessionId → ℕ
slots_given [] i = 0
slots_given (Makes k r m ∷ w) i = if is_session m.sid i then m.fore.requests_max else slots_given w i
slots_given (st ∷ w) i = slots_given w i

abbrev pub client_in : Plan → Option ℕ
client_in (plan.CreateSession c n) = Some c
client_in (plan.DestroyClient c) = Some c
client_in p = None

-- the client id for which the session was made
abbrev pub made_for : List Step → SessionId → Option ℕ
made_for [] i = None
made_for (Makes k r m ∷ w) i = if is_session m.sid i then client_in r.plan else made_for w i
made_for (st ∷ w) i = made_for w i

abbrev pub is_bind_of : Plan → SessionId → Bool
is_bind_of (plan.Bind j) i = is_session j i
is_bind_of p i = false

-- whether the connection is bound to the session (RFC 8881, section 2.10.3.1)
abbrev pub is_bound : List Step → SessionId → ℕ → Bool
is_bound [] i c = false
is_bound (Makes k r m ∷ w) i c = (is_session m.sid i && (carrier (client w) k == c)) || is_bound w i c
is_bound (Binds k r b ∷ w) i c = (is_bind_of r.plan i && (carrier (client w) k == c)) || is_bound w i c
is_bound (st ∷ w) i c = is_bound w i c

-- ---- client ids (RFC 8881, section 18.35). A run has one client, so there is one owner with one verifier.

abbrev pub is_id : Option ℕ → ℕ → Bool
is_id None c = false
is_id (Some d) c = d == c

abbrev pub unless_ended : Option ℕ → Plan → Option ℕ
unless_ended None p = None
unless_ended (Some c) p = if is_id (client_in p) c then None else Some c

-- whether the client id was ever given
abbrev pub was_named : List Step → ℕ → Bool
was_named [] c = false
was_named (Names k r i ∷ w) c = (i.client == c) || was_named w c
was_named (st ∷ w) c = was_named w c

-- the client id that is confirmed: by its first session
abbrev pub confirmed : List Step → Option ℕ
confirmed [] = None
confirmed (Makes k r m ∷ w) = client_in r.plan
confirmed (Ends k r ∷ w) = unless_ended (confirmed w) r.plan
confirmed (st ∷ w) = confirmed w

-- the client id that is not confirmed yet: the last one given, where none is confirmed
abbrev pub unconfirmed : List Step → Option ℕ
unconfirmed [] = None
unconfirmed (Names k r i ∷ w) = if is_some (confirmed w) then unconfirmed w else Some i.client
unconfirmed (Makes k r m ∷ w) = None
unconfirmed (Ends k r ∷ w) = unless_ended (unconfirmed w) r.plan
unconfirmed (st ∷ w) = unconfirmed w

-- whether the client id is there
abbrev pub is_there : List Step → ℕ → Bool
is_there w c = is_id (confirmed w) c || is_id (unconfirmed w) c

-- the sequence of the next CREATE_SESSION of a client id, modulo 2^32
abbrev pub next_sequence : List Step → ℕ → ℕ
next_sequence [] c = 0
next_sequence (Names k r i ∷ w) c = if (i.client == c) && is_none (confirmed w) then i.sequence else next_sequence w c
next_sequence (Makes k r m ∷ w) c = if is_id (client_in r.plan) c then (next_sequence w c + 1) % 2 ^ 32 else next_sequence w c
next_sequence (st ∷ w) c = next_sequence w c

-- the session that the last CREATE_SESSION of a client id made
abbrev pub last_made : List Step → ℕ → Option SessionMade
last_made [] c = None
last_made (Makes k r m ∷ w) c = if is_id (client_in r.plan) c then Some m else last_made w c
last_made (st ∷ w) c = last_made w c
