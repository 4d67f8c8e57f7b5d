-- What the replies to requests without a slot can tell.
use Rattle.std.proofs.Common.{◌≡◌, ℕ, ◌==◌, Bool, true, false, List, [], ◌∷◌, Ok, Err, if◌then◌else◌, refl}
use Rattle.n41_types.specs.declared.identities.SessionId.{SessionId}
use Rattle.n41_types.specs.declared.plans.Plan.{Plan}
use Rattle.n41_types.specs.declared.plans.Plan.TheVariants as plan
use Rattle.n41_types.specs.declared.statuses.Status.{Status}
use Rattle.n41_results.specs.declared.replies.ReplyBody.{ReplyBody}
use Rattle.n41_results.specs.declared.replies.ReplyBody.TheVariants.{Results}
use Rattle.n41_results.specs.declared.results.Res.TheVariants as res
use Rattle.n41_results.specs.declared.sessions.SessionMade.{SessionMade}
use Rattle.n41_model.specs.declared.words.BareVerdict.{BareVerdict}
use Rattle.n41_model.specs.declared.words.BareVerdict.TheVariants as b
use Rattle.n41_model.specs.Replies.{is_delay, is_wide_enough, delayed_or_breach, exchange_verdict, create_verdict, bind_verdict, destroy_session_verdict, destroy_client_verdict, bare_body_verdict}

abbrev pub is_exchange : Plan → Bool
is_exchange (plan.ExchangeId v o) = true
is_exchange p = false

abbrev pub is_create : Plan → Bool
is_create (plan.CreateSession c n) = true
is_create p = false

abbrev pub is_end : Plan → Bool
is_end (plan.DestroySession i) = true
is_end p = false

-- the verdicts that a plan can have
abbrev pub may_be : Plan → BareVerdict → Bool
may_be p (b.Named c s) = is_exchange p
may_be p (b.Made m) = is_create p
may_be p b.Stale = is_create p
may_be p b.SessionGone = is_end p
may_be p v = true

delayed_may : (p : Plan) (s : Status) → may_be p (delayed_or_breach s) ≡ true
delayed_may p s = at (is_delay s) refl where
  at : (d : Bool) → is_delay s ≡ d → may_be p (delayed_or_breach s) ≡ true
  at true e = rw e refl
  at false e = rw e refl

exchange_may : (v o : List ℕ) (y : ReplyBody) → may_be (plan.ExchangeId v o) (exchange_verdict y) ≡ true
exchange_may v o (Results s (res.ExchangeId (Ok i) ∷ [])) = refl
exchange_may v o (Results s (res.ExchangeId (Err e) ∷ [])) = delayed_may (plan.ExchangeId v o) e
exchange_may v o y = refl

made_may : (c n : ℕ) (m : SessionMade) (d : Bool) → may_be (plan.CreateSession c n) (if d then b.Made m else b.Breach) ≡ true
made_may c n m true = refl
made_may c n m false = refl

stale_may : (c n : ℕ) (e : Status) (d : Bool) → may_be (plan.CreateSession c n) (if d then b.Stale else delayed_or_breach e) ≡ true
stale_may c n e true = refl
stale_may c n e false = delayed_may (plan.CreateSession c n) e

create_may : (c n : ℕ) (y : ReplyBody) → may_be (plan.CreateSession c n) (create_verdict y) ≡ true
create_may c n (Results s (res.CreateSession (Ok m) ∷ [])) = made_may c n m (is_wide_enough m)
create_may c n (Results s (res.CreateSession (Err e) ∷ [])) = stale_may c n e (e.0 == 10022)
create_may c n y = refl

bind_may : (p : Plan) (y : ReplyBody) → may_be p (bind_verdict y) ≡ true
bind_may p (Results s (res.Bind (Ok x) ∷ [])) = refl
bind_may p (Results s (res.Bind (Err e) ∷ [])) = delayed_may p e
bind_may p y = refl

end_may : (i : SessionId) (y : ReplyBody) → may_be (plan.DestroySession i) (destroy_session_verdict y) ≡ true
end_may i (Results s (res.DestroySession e ∷ [])) = refl
end_may i y = refl

drop_may : (p : Plan) (y : ReplyBody) → may_be p (destroy_client_verdict y) ≡ true
drop_may p (Results s (res.DestroyClient e ∷ [])) = refl
drop_may p y = refl

pub may_be_so : (p : Plan) (y : ReplyBody) → may_be p (bare_body_verdict p y) ≡ true
may_be_so (plan.ExchangeId v o) y = exchange_may v o y
may_be_so (plan.CreateSession c n) y = create_may c n y
may_be_so (plan.Bind i) y = bind_may (plan.Bind i) y
may_be_so (plan.DestroySession i) y = end_may i y
may_be_so (plan.DestroyClient c) y = drop_may (plan.DestroyClient c) y
may_be_so p y = refl
