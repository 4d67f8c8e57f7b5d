-- The session that the client was given is there, until the client gives it up.
use Rattle.std.proofs.Common.{◌≡◌, ◌⊎◌, inl, inr, ℕ, ◌==◌, Bool, true, false, ◌||◌, List, [], ◌∷◌, Option, Some, None, Ok, Err, if◌then◌else◌, refl, sym, ◌∙◌, ap, subst, arith, true≢false}
use Rattle.std.proofs.lemmas.Bool.Decides.{nat_tests}
use Rattle.n41_types.specs.declared.identities.SessionId.{SessionId}
use Rattle.n41_types.specs.declared.plans.Plan.{Plan}
use Rattle.n41_types.specs.declared.plans.Plan.TheVariants as plan
use Rattle.n41_types.specs.declared.plans.Request.{Request}
use Rattle.n41_types.specs.declared.plans.SlotUse.{SlotUse}
use Rattle.n41_types.specs.declared.statuses.Status.{Status}
use Rattle.n41_results.specs.declared.replies.Reply.{Reply}
use Rattle.n41_results.specs.declared.replies.ReplyBody.{ReplyBody}
use Rattle.n41_results.specs.declared.replies.ReplyBody.TheVariants.{Results}
use Rattle.n41_results.specs.declared.results.Res.{Res}
use Rattle.n41_results.specs.declared.results.Res.TheVariants as res
use Rattle.n41_results.specs.declared.sessions.Bound.{Bound}
use Rattle.n41_results.specs.declared.sessions.Identity.{Identity}
use Rattle.n41_results.specs.declared.sessions.Sequenced.{Sequenced}
use Rattle.n41_results.specs.declared.sessions.SessionMade.{SessionMade}
use Rattle.n41_results.specs.Results.{ok}
use Rattle.n41_journal.specs.declared.events.Event.{Event}
use Rattle.n41_journal.specs.declared.events.Event.TheVariants.{Began, Put, Took, CbTook, CbPut, Dialed, DialFailed, Broke, Ticked, Answered, Quit}
use Rattle.n41_model.specs.declared.words.BareVerdict.{BareVerdict}
use Rattle.n41_model.specs.declared.words.BareVerdict.TheVariants as b
use Rattle.n41_model.specs.declared.words.Setup.{Setup}
use Rattle.n41_calls.specs.Due.{finishing}
use Rattle.n41_calls.specs.Kept.{Kept, May}
use Rattle.n41_model.specs.Replies.{is_delay, is_wide_enough, delayed_or_breach, exchange_verdict, create_verdict, bind_verdict, destroy_session_verdict, destroy_client_verdict, bare_body_verdict, bare_verdict_of}
use Rattle.n41_model.specs.Requests.{made, session_in, bare_verdict, is_bare, is_bare_use}
use Rattle.n41_calls.proofs.Slots.{seats}
use Rattle.n41_moves.proofs.Bares.{is_end}
use Rattle.n41_view.proofs.Known.{known}
use Rattle.n41_moves.proofs.Moves.{takes_is}
use Rattle.n41_net.proofs.Net.{Net, net, TakenIs, taken_is, put_message, put_fresh}
use Rattle.n41_moves.proofs.Said.{made_first}
use Rattle.n41_moves.proofs.Single.{Single, single, given, sid_in, or_made, still_finishing}
use Rattle.n41_moves.proofs.Suits.{session_same, session_itself}
use Rattle.n41_runs.specs.Rules.{IsNoReply, Sizes, Allowed, LegalBy, MayBeTaken, MayRepeat, MayMakeAgain, MayMake}
use Rattle.n41_runs.specs.Server.{is_session, is_end_of, was_made, alive, slots_given, last_made, client_in, is_id}
use Rattle.n41_runs.specs.declared.steps.Step.{Step}
use Rattle.n41_runs.specs.declared.steps.Step.TheVariants.{Does, Takes, Runs, Repeats, Refuses, Names, Makes, Binds, Ends}
use Rattle.n41_runs.specs.Steps.{client, message, messages, carrier, fate, ran_reply, refusal, refused_result, named_reply, made_reply, bound_reply, ended_reply}

-- the session that a reply brings
abbrev pub made_in : ReplyBody → Option SessionMade
made_in (Results s (res.CreateSession (Ok m) ∷ [])) = Some m
made_in y = None

-- the session was made with so many slots
pub record WasMade (w : List Step) (m : SessionMade) : Type 0 where
  pub was : was_made w m.sid ≡ true
  pub slots : slots_given w m.sid ≡ m.fore.requests_max

pub record Lives (u : Setup) (w : List Step) : Type 0 where
  pub there : (i : SessionId) → sid_in (given (client w)) ≡ Some i → (alive w i ≡ true) ⊎ (finishing u.callers (client w) ≡ true)
  pub ever : (i : SessionId) → given (client w) ≡ None → was_made w i ≡ true → alive w i ≡ true
  pub told : (k : ℕ) (r : Request) (y : Reply) (m : SessionMade) → message (client w) k ≡ Some r → r.slot ≡ None → fate w k ≡ Some y → made_in y.body ≡ Some m → WasMade w m
  pub again : (c : ℕ) (m : SessionMade) → last_made w c ≡ Some m → WasMade w m
  pub given_made : (m : SessionMade) → given (client w) ≡ Some m → WasMade w m

-- ---- what a verdict comes from

delayed_made : (s : Status) (m : SessionMade) → session_in (Some (delayed_or_breach s)) ≡ Some m → ⊥
delayed_made s m e = at (is_delay s) refl where
  at : (d : Bool) → is_delay s ≡ d → ⊥
  at true f = absurd (let g : None ≡ Some m = (rw f at e) in cc)
  at false f = absurd (let g : None ≡ Some m = (rw f at e) in cc)

wide_made : (d : Bool) (k m : SessionMade) → session_in (Some (if d then b.Made k else b.Breach)) ≡ Some m → Some k ≡ Some m
wide_made true k m e = e
wide_made false k m e = absurd (cc)

stale_made : (d : Bool) (s : Status) (m : SessionMade) → session_in (Some (if d then b.Stale else delayed_or_breach s)) ≡ Some m → ⊥
stale_made true s m e = absurd (cc)
stale_made false s m e = delayed_made s m e

create_made : (y : ReplyBody) (m : SessionMade) → session_in (Some (create_verdict y)) ≡ Some m → made_in y ≡ Some m
create_made (Results s (res.CreateSession (Ok k) ∷ [])) m e = wide_made (is_wide_enough k) k m e
create_made (Results s (res.CreateSession (Err x) ∷ [])) m e = absurd (stale_made (x.0 == 10022) x m e)
create_made y m e = absurd (cc)

exchange_made : (y : ReplyBody) (m : SessionMade) → session_in (Some (exchange_verdict y)) ≡ Some m → ⊥
exchange_made (Results s (res.ExchangeId (Ok i) ∷ [])) m e = absurd (cc)
exchange_made (Results s (res.ExchangeId (Err x) ∷ [])) m e = delayed_made x m e
exchange_made y m e = absurd (cc)

bind_made : (y : ReplyBody) (m : SessionMade) → session_in (Some (bind_verdict y)) ≡ Some m → ⊥
bind_made (Results s (res.Bind (Ok i) ∷ [])) m e = absurd (cc)
bind_made (Results s (res.Bind (Err x) ∷ [])) m e = delayed_made x m e
bind_made y m e = absurd (cc)

end_made : (y : ReplyBody) (m : SessionMade) → session_in (Some (destroy_session_verdict y)) ≡ Some m → ⊥
end_made (Results s (res.DestroySession x ∷ [])) m e = absurd (cc)
end_made y m e = absurd (cc)

drop_made : (y : ReplyBody) (m : SessionMade) → session_in (Some (destroy_client_verdict y)) ≡ Some m → ⊥
drop_made (Results s (res.DestroyClient x ∷ [])) m e = absurd (cc)
drop_made y m e = absurd (cc)

body_made : (p : Plan) (y : ReplyBody) (m : SessionMade) → session_in (Some (bare_body_verdict p y)) ≡ Some m → made_in y ≡ Some m
body_made (plan.ExchangeId v o) y m e = absurd (exchange_made y m e)
body_made (plan.CreateSession c n) y m e = create_made y m e
body_made (plan.Bind i) y m e = absurd (bind_made y m e)
body_made (plan.DestroySession i) y m e = absurd (end_made y m e)
body_made (plan.DestroyClient c) y m e = absurd (drop_made y m e)
body_made p y m e = absurd (cc)

refused_made : (p : Plan) (s : Status) → made_in (Results s (refused_result p s ∷ [])) ≡ None
refused_made (plan.ExchangeId v o) s = refl
refused_made (plan.CreateSession c n) s = refl
refused_made (plan.Bind i) s = refl
refused_made (plan.DestroySession i) s = refl
refused_made (plan.DestroyClient c) s = refl
refused_made p s = refl

-- ---- a step that makes no session and ends none

record Idle (w : List Step) (st : Step) (j : ℕ) (y : Reply) : Type 0 where
  same : client (st ∷ w) ≡ client w
  was : (i : SessionId) → was_made (st ∷ w) i ≡ was_made w i
  lives : (i : SessionId) → alive (st ∷ w) i ≡ alive w i
  slots : (i : SessionId) → slots_given (st ∷ w) i ≡ slots_given w i
  lasts : (c : ℕ) → last_made (st ∷ w) c ≡ last_made w c
  fates : (k : ℕ) → fate (st ∷ w) k ≡ (if j == k then Some y else fate w k)
  tells : (r : Request) (m : SessionMade) → message (client w) j ≡ Some r → r.slot ≡ None → made_in y.body ≡ Some m → WasMade w m

idle_lives : (u : Setup) (w : List Step) (st : Step) (j : ℕ) (y : Reply) → Lives u w → Idle w st j y → Lives u (st ∷ w)
idle_lives u w st j y v s = record {
  there = λ i e. let d = s.same in let f = s.lives i in rw (d, f) (v.there i (rw d at e));
  ever = λ i e f. let d = s.same in s.lives i ∙ v.ever i (rw d at e) (sym (s.was i) ∙ f);
  told = λ k r z m e f g h. let d = s.same in made_still m (told_by k r z m (rw d at e) f (j == k) refl (sym (s.fates k) ∙ g) h);
  again = λ c m e. made_still m (v.again c m (sym (s.lasts c) ∙ e));
  given_made = λ m e. let d = s.same in made_still m (v.given_made m (rw d at e));
} where
  made_still : (m : SessionMade) → WasMade w m → WasMade (st ∷ w) m
  made_still m x = record { was = s.was m.sid ∙ x.was; slots = s.slots m.sid ∙ x.slots }

  told_by : (k : ℕ) (r : Request) (z : Reply) (m : SessionMade) → message (client w) k ≡ Some r → r.slot ≡ None → (t : Bool) → (j == k) ≡ t → (if j == k then Some y else fate w k) ≡ Some z → made_in z.body ≡ Some m → WasMade w m
  told_by k r z m e f true g h i =
      let q : j ≡ k = grind (arith, nat_tests, g) in
      let x : Some y ≡ Some z = (rw g at h) in
      let d : y ≡ z = cc in
      s.tells r m (subst (λ (n : ℕ). message (client w) n ≡ Some r) (sym q) e) f (ap (λ (a : Reply). made_in a.body) d ∙ i)
  told_by k r z m e f false g h i = v.told k r z m e f (rw g at h) i

-- ---- each step of the server

slotted_none : (r : Request) (p : SlotUse) → r.slot ≡ Some p → r.slot ≡ None → ⊥
slotted_none r p e f = absurd (let g : Some p ≡ None = sym e ∙ f in cc)

at_message : (w : List Step) (j : ℕ) (r q : Request) → message (client w) j ≡ Some r → message (client w) j ≡ Some q → r ≡ q
at_message w j r q e f = let g : Some r ≡ Some q = sym e ∙ f in cc

runs_lives : (u : Setup) (sizes : Sizes) (w : List Step) (j : ℕ) (r : Request) (q : Sequenced) (xs : List Res) → Lives u w → Allowed sizes w (Runs j r q xs) → Lives u (Runs j r q xs ∷ w)
runs_lives u sizes w j r q xs v a = idle_lives u w (Runs j r q xs) j (ran_reply r q xs) v (record {
  same = refl;
  was = λ i. refl;
  lives = λ i. refl;
  slots = λ i. refl;
  lasts = λ c. refl;
  fates = λ k. refl;
  tells = λ z m e f g. absurd (slotted_none z a.1.0 (ap (λ (x : Request). x.slot) (sym (at_message w j r z a.0.put e)) ∙ a.1.1.slot) f);
})

again_made : (u : Setup) (w : List Step) (r : Request) (y : Reply) (m : SessionMade) → Lives u w → (p : Plan) → MayMakeAgain w r p y → made_in y.body ≡ Some m → WasMade w m
again_made u w r y m v (plan.CreateSession c n) (k, h) e =
    let f : made_in y.body ≡ Some k = ap (λ (z : Reply). made_in z.body) h.answer in
    let d : k ≡ m = (let g : Some k ≡ Some m = sym f ∙ e in cc) in
    subst (λ (z : SessionMade). WasMade w z) d (v.again c k h.same)
again_made u w r y m v p h e = absurd h

repeats_lives : (u : Setup) (sizes : Sizes) (w : List Step) (j : ℕ) (r : Request) (y : Reply) → Lives u w → Allowed sizes w (Repeats j r y) → Lives u (Repeats j r y ∷ w)
repeats_lives u sizes w j r y v a = idle_lives u w (Repeats j r y) j y v (record {
  same = refl;
  was = λ i. refl;
  lives = λ i. refl;
  slots = λ i. refl;
  lasts = λ c. refl;
  fates = λ k. refl;
  tells = λ z m e f g. tells_by z m f g (at_message w j r z a.0.put e) a.1;
}) where
  tells_by : (z : Request) (m : SessionMade) → z.slot ≡ None → made_in y.body ≡ Some m → r ≡ z → ((q : SlotUse) × MayRepeat sizes w r q y) ⊎ ((r.slot ≡ None) × MayMakeAgain w r r.plan y) → WasMade w m
  tells_by z m f g d (inl (q, h)) = absurd (slotted_none z q (ap (λ (x : Request). x.slot) (sym d) ∙ h.slot) f)
  tells_by z m f g d (inr (n, h)) = again_made u w r y m v r.plan h g

refuses_lives : (u : Setup) (sizes : Sizes) (w : List Step) (j : ℕ) (r : Request) (s : Status) → Lives u w → Allowed sizes w (Refuses j r s) → Lives u (Refuses j r s ∷ w)
refuses_lives u sizes w j r s v a = idle_lives u w (Refuses j r s) j (refusal r s) v (record {
  same = refl;
  was = λ i. refl;
  lives = λ i. refl;
  slots = λ i. refl;
  lasts = λ c. refl;
  fates = λ k. refl;
  tells = λ z m e f g. absurd (none_made z m f g (at_message w j r z a.0.put e));
}) where
  none_made : (z : Request) (m : SessionMade) → z.slot ≡ None → made_in (refusal r s).body ≡ Some m → r ≡ z → ⊥
  none_made z m f g d =
      let n : r.slot ≡ None = ap (λ (x : Request). x.slot) d ∙ f in
      let h : made_in (refusal r s).body ≡ None = rw n (refused_made r.plan s) in
      absurd (let i : None ≡ Some m = sym h ∙ g in cc)

names_lives : (u : Setup) (w : List Step) (j : ℕ) (r : Request) (i : Identity) → Lives u w → Lives u (Names j r i ∷ w)
names_lives u w j r i v = idle_lives u w (Names j r i) j (named_reply r i) v (record {
  same = refl;
  was = λ n. refl;
  lives = λ n. refl;
  slots = λ n. refl;
  lasts = λ c. refl;
  fates = λ k. refl;
  tells = λ z m e f g. absurd (let h : None ≡ Some m = g in cc);
})

binds_lives : (u : Setup) (w : List Step) (j : ℕ) (r : Request) (x : Bound) → Lives u w → Lives u (Binds j r x ∷ w)
binds_lives u w j r x v = idle_lives u w (Binds j r x) j (bound_reply r x) v (record {
  same = refl;
  was = λ n. refl;
  lives = λ n. refl;
  slots = λ n. refl;
  lasts = λ c. refl;
  fates = λ k. refl;
  tells = λ z m e f g. absurd (let h : None ≡ Some m = g in cc);
})

end_of : (p : Plan) (i : SessionId) → is_end_of p i ≡ true → is_end p ≡ true
end_of (plan.DestroySession j) i e = refl
end_of p i e = absurd (true≢false (sym e))

alive_or : (p : Plan) (i : SessionId) (b : Bool) → (is_end_of p i ≡ false → b ≡ true) → is_end p ≡ false → (if is_end_of p i then false else b) ≡ true
alive_or p i b f e = at (is_end_of p i) refl where
  at : (t : Bool) → is_end_of p i ≡ t → (if is_end_of p i then false else b) ≡ true
  at true g = absurd (true≢false (sym (end_of p i g) ∙ e))
  at false g = rw g (f g)

-- what ends a session is put only where the client finishes
ends_lives : (u : Setup) (sizes : Sizes) (w : List Step) (j : ℕ) (r : Request) → Single u (client w) → Lives u w → Allowed sizes w (Ends j r) → Lives u (Ends j r ∷ w)
ends_lives u sizes w j r z v a = at (is_end r.plan) refl where
  still : (m : SessionMade) → WasMade w m → WasMade (Ends j r ∷ w) m
  still m x = record { was = x.was; slots = x.slots }

  told_by : (k : ℕ) (q : Request) (y : Reply) (m : SessionMade) → message (client w) k ≡ Some q → q.slot ≡ None → (if j == k then Some (ended_reply r) else fate w k) ≡ Some y → made_in y.body ≡ Some m → WasMade (Ends j r ∷ w) m
  told_by k q y m e f g h = told_at (j == k) refl where
    told_at : (t : Bool) → (j == k) ≡ t → WasMade (Ends j r ∷ w) m
    told_at true i =
        let x : Some (ended_reply r) ≡ Some y = (rw i at g) in
        let d : ended_reply r ≡ y = cc in
        absurd (let n : None ≡ Some m = sym (refused_made r.plan ok) ∙ (ap (λ (s : Reply). made_in s.body) d ∙ h) in cc)
    told_at false i = still m (v.told k q y m e f (rw i at g) h)

  with_there : ((i : SessionId) → sid_in (given (client w)) ≡ Some i → (alive (Ends j r ∷ w) i ≡ true) ⊎ (finishing u.callers (client w) ≡ true)) → ((i : SessionId) → given (client w) ≡ None → was_made w i ≡ true → alive (Ends j r ∷ w) i ≡ true) → Lives u (Ends j r ∷ w)
  with_there f g = record { there = f; ever = g; told = told_by; again = λ c m e. still m (v.again c m e); given_made = λ m e. still m (v.given_made m e) }

  kept_alive : is_end r.plan ≡ false → (i : SessionId) → (alive w i ≡ true) ⊎ (finishing u.callers (client w) ≡ true) → (alive (Ends j r ∷ w) i ≡ true) ⊎ (finishing u.callers (client w) ≡ true)
  kept_alive e i (inl f) = inl (alive_or r.plan i (alive w i) (λ _. f) e)
  kept_alive e i (inr f) = inr f

  at : (t : Bool) → is_end r.plan ≡ t → Lives u (Ends j r ∷ w)
  at true e = let h = z.ends j r a.0.put a.1 e in with_there (λ i f. inr h.0) (λ i f g. absurd (h.1 f))
  at false e = with_there (λ i f. kept_alive e i (v.there i f)) (λ i f g. alive_or r.plan i (alive w i) (λ _. v.ever i f g) e)

-- ---- a session is made

next_made : (w : List Step) (p : Plan) (m : SessionMade) → MayMake w p m → was_made w m.sid ≡ false
next_made w (plan.CreateSession c n) m h = h.fresh
next_made w p m h = absurd h

or_right : (a b : Bool) → b ≡ true → (a || b) ≡ true
or_right true b e = refl
or_right false b e = e

or_first : (a b : Bool) → a ≡ true → (a || b) ≡ true
or_first true b e = refl
or_first false b e = absurd (true≢false (sym e))

makes_lives : (u : Setup) (sizes : Sizes) (w : List Step) (j : ℕ) (r : Request) (m : SessionMade) → Lives u w → Allowed sizes w (Makes j r m) → Lives u (Makes j r m ∷ w)
makes_lives u sizes w j r m v a = record {
  there = λ i e. there_by i (v.there i e);
  ever = λ i e f. ever_by i e (is_session m.sid i) refl f;
  told = λ k q y n e f g h. told_by k q y n e f (j == k) refl g h;
  again = λ c n e. again_by c n (is_id (client_in r.plan) c) refl e;
  given_made = λ n e. still n (v.given_made n e);
} where
  new : WasMade (Makes j r m ∷ w) m
  new = let d = session_itself m.sid in record { was = or_first (is_session m.sid m.sid) (was_made w m.sid) d; slots = rw d refl }

  other : (n : SessionMade) → WasMade w n → (t : Bool) → is_session m.sid n.sid ≡ t → WasMade (Makes j r m ∷ w) n
  other n x true e =
      let d = session_same m.sid n.sid e in
      absurd (true≢false (sym x.was ∙ subst (λ (i : SessionId). was_made w i ≡ false) d (next_made w r.plan m a.2)))
  other n x false e = record { was = or_right (is_session m.sid n.sid) (was_made w n.sid) x.was; slots = rw e x.slots }

  still : (n : SessionMade) → WasMade w n → WasMade (Makes j r m ∷ w) n
  still n x = other n x (is_session m.sid n.sid) refl

  there_by : (i : SessionId) → (alive w i ≡ true) ⊎ (finishing u.callers (client w) ≡ true) → (alive (Makes j r m ∷ w) i ≡ true) ⊎ (finishing u.callers (client w) ≡ true)
  there_by i (inl e) = inl (or_right (is_session m.sid i) (alive w i) e)
  there_by i (inr e) = inr e

  ever_by : (i : SessionId) → given (client w) ≡ None → (t : Bool) → is_session m.sid i ≡ t → was_made (Makes j r m ∷ w) i ≡ true → alive (Makes j r m ∷ w) i ≡ true
  ever_by i e true f g = rw f refl
  ever_by i e false f g = or_right (is_session m.sid i) (alive w i) (v.ever i e (rw f at g))

  told_by : (k : ℕ) (q : Request) (y : Reply) (n : SessionMade) → message (client w) k ≡ Some q → q.slot ≡ None → (t : Bool) → (j == k) ≡ t → (if j == k then Some (made_reply r m) else fate w k) ≡ Some y → made_in y.body ≡ Some n → WasMade (Makes j r m ∷ w) n
  told_by k q y n e f true g h i =
      let x : Some (made_reply r m) ≡ Some y = (rw g at h) in
      let d : made_reply r m ≡ y = cc in
      let o : Some m ≡ Some n = ap (λ (s : Reply). made_in s.body) d ∙ i in
      let s : m ≡ n = cc in
      subst (λ (z : SessionMade). WasMade (Makes j r m ∷ w) z) s new
  told_by k q y n e f false g h i = still n (v.told k q y n e f (rw g at h) i)

  again_by : (c : ℕ) (n : SessionMade) → (t : Bool) → is_id (client_in r.plan) c ≡ t → (if is_id (client_in r.plan) c then Some m else last_made w c) ≡ Some n → WasMade (Makes j r m ∷ w) n
  again_by c n true e f =
      let o : Some m ≡ Some n = (rw e at f) in
      let s : m ≡ n = cc in
      subst (λ (z : SessionMade). WasMade (Makes j r m ∷ w) z) s new
  again_by c n false e f = still n (v.again c n (rw e at f))

-- ---- the client

was_still : (w : List Step) (e : Event) (m : SessionMade) → WasMade w m → WasMade (Does e ∷ w) m
was_still w e m x = record { was = x.was; slots = x.slots }

-- a Put brings no message that has an answer
does_lives : (u : Setup) (w : List Step) (e : Event) → Net w → May u (client w) e → given (e ∷ client w) ≡ given (client w) → ((k : ℕ) (r : Request) (y : Reply) → message (e ∷ client w) k ≡ Some r → fate w k ≡ Some y → message (client w) k ≡ Some r) → Lives u w → Lives u (Does e ∷ w)
does_lives u w e n h g f v = record {
  there = λ i d. there_by i (v.there i (sym (ap (λ (o : Option SessionMade). sid_in o) g) ∙ d));
  ever = λ i d x. v.ever i (sym g ∙ d) x;
  told = λ k r y m d x z o. was_still w e m (v.told k r y m (f k r y d z) x z o);
  again = λ c m d. was_still w e m (v.again c m d);
  given_made = λ m d. was_still w e m (v.given_made m (sym g ∙ d));
} where
  there_by : (i : SessionId) → (alive w i ≡ true) ⊎ (finishing u.callers (client w) ≡ true) → (alive w i ≡ true) ⊎ (finishing u.callers (e ∷ client w) ≡ true)
  there_by i (inl d) = inl d
  there_by i (inr d) = inr (still_finishing u (client w) e h d)

no_new : (w : List Step) (c p : ℕ) (q : Request) → Net w → (k : ℕ) (r : Request) (y : Reply) → message (Put c p q ∷ client w) k ≡ Some r → fate w k ≡ Some y → message (client w) k ≡ Some r
no_new w c p q n k r y e f = by (put_message (client w) c p k q r e) where
  by : ((messages (client w) ≡ k) × (q ≡ r)) ⊎ ((message (client w) k ≡ Some r) × (carrier (Put c p q ∷ client w) k ≡ carrier (client w) k)) → message (client w) k ≡ Some r
  by (inl (d, x)) = absurd (let g : None ≡ Some y = sym (put_fresh w c p q n) ∙ (ap (λ (z : ℕ). fate w z) d ∙ f) in cc)
  by (inr (d, x)) = d

takes_lives : (u : Setup) (w : List Step) (k c p : ℕ) (y : Reply) (r : Request) → Single u (client w) → May u (client w) (Took c p y) → MayBeTaken w k c y → TakenIs (client w) k y r → Lives u w → Lives u (Takes k c p y ∷ w)
takes_lives u w k c p y r z h a t v = by (made (client w) y) refl where
  still : (m : SessionMade) → WasMade w m → WasMade (Takes k c p y ∷ w) m
  still m x = record { was = x.was; slots = x.slots }

  rest : ((i : SessionId) → sid_in (given (Took c p y ∷ client w)) ≡ Some i → (alive w i ≡ true) ⊎ (finishing u.callers (client w) ≡ true)) → ((i : SessionId) → given (Took c p y ∷ client w) ≡ None → given (client w) ≡ None) → ((m : SessionMade) → given (Took c p y ∷ client w) ≡ Some m → WasMade w m) → Lives u (Takes k c p y ∷ w)
  rest f g d = record {
    there = λ i e. there_by (f i e);
    ever = λ i e x. v.ever i (g i e) x;
    told = λ j q s m e x o b. still m (v.told j q s m e x o b);
    again = λ j m e. still m (v.again j m e);
    given_made = λ m e. still m (d m e);
  } where
    there_by : {A : Type 0} → A ⊎ (finishing u.callers (client w) ≡ true) → A ⊎ (finishing u.callers (Took c p y ∷ client w) ≡ true)
    there_by (inl e) = inl e
    there_by (inr e) = inr (still_finishing u (client w) (Took c p y) h e)

  made_bare : (m : SessionMade) → made (client w) y ≡ Some m → TakenIs (client w) k y r → (given (client w) ≡ None) × WasMade w m
  made_bare m e (inl (x, d, l)) =
      let b : is_bare r ≡ true = ap (λ (o : Option SlotUse). is_bare_use o) x.no_slot in
      let f : bare_verdict (client w) y ≡ Some (bare_verdict_of r.plan y) = rw (x.found, b) refl in
      let g = body_made r.plan y.body m (sym (ap (λ (o : Option BareVerdict). session_in o) f) ∙ e) in
      (made_first u (client w) y r m z x e, v.told k r y m d x.no_slot a.made g)
  made_bare m e (inr (q, x, d, l)) = absurd (let f : None ≡ Some m = sym x.makes ∙ e in cc)

  by : (o : Option SessionMade) → made (client w) y ≡ o → Lives u (Takes k c p y ∷ w)
  by None e = let g : given (Took c p y ∷ client w) ≡ given (client w) = ap (λ (o : Option SessionMade). or_made o (given (client w))) e in rest (λ i d. v.there i (sym (ap (λ (o : Option SessionMade). sid_in o) g) ∙ d)) (λ i d. sym g ∙ d) (λ m d. v.given_made m (sym g ∙ d))
  by (Some m) e =
      let g : given (Took c p y ∷ client w) ≡ Some m = ap (λ (o : Option SessionMade). or_made o (given (client w))) e in
      let x = made_bare m e t in
      rest (λ i d. inl (let s : Some m.sid ≡ Some i = sym (ap (λ (o : Option SessionMade). sid_in o) g) ∙ d in let q : m.sid ≡ i = cc in v.ever i x.0 (subst (λ (n : SessionId). was_made w n ≡ true) q x.1.was))) (λ i d. absurd (let s : Some m ≡ None = sym g ∙ d in cc)) (λ n d. let s : Some m ≡ Some n = sym g ∙ d in let q : m ≡ n = cc in subst (λ (b : SessionMade). WasMade w b) q x.1)

none_lives : (u : Setup) → Lives u []
none_lives u = record { there = λ i e. absurd (cc); ever = λ i e f. absurd (true≢false (sym f)); told = λ k r y m e f g h. absurd (cc); again = λ c m e. absurd (cc); given_made = λ m e. absurd (cc) }

does_by : (u : Setup) (w : List Step) (e : Event) → Net w → May u (client w) e → IsNoReply e → Lives u w → Lives u (Does e ∷ w)
does_by u w (Began c n k m) x h l v = does_lives u w (Began c n k m) x h refl (λ k r y e f. e) v
does_by u w (Put c p r) x h l v = does_lives u w (Put c p r) x h refl (no_new w c p r x) v
does_by u w (Took c p y) x h l v = absurd l
does_by u w (CbTook c p y) x h l v = absurd l
does_by u w (CbPut c p y) x h l v = absurd h
does_by u w (Dialed c) x h l v = does_lives u w (Dialed c) x h refl (λ k r y e f. e) v
does_by u w DialFailed x h l v = does_lives u w DialFailed x h refl (λ k r y e f. e) v
does_by u w (Broke c b) x h l v = does_lives u w (Broke c b) x h refl (λ k r y e f. e) v
does_by u w (Ticked m) x h l v = does_lives u w (Ticked m) x h refl (λ k r y e f. e) v
does_by u w (Answered c n a) x h l v = does_lives u w (Answered c n a) x h refl (λ k r y e f. e) v
does_by u w Quit x h l v = does_lives u w Quit x h refl (λ k r y e f. e) v

pub lives : (u : Setup) (sizes : Sizes) (w : List Step) → LegalBy sizes w → Kept u (client w) → Lives u w
lives u sizes [] l k = none_lives u
lives u sizes (Does e ∷ w) l k = does_by u w e (net u sizes w l.0 k.0) k.1 l.1 (lives u sizes w l.0 k.0)
lives u sizes (Takes j c p y ∷ w) l k =
    let t = seats u (client w) k.0 in
    let v = known u (client w) k.0 in
    takes_lives u w j c p y k.1.0 (single u (client w) k.0) k.1 l.1 (taken_is w j c y k.1.0 v (net u sizes w l.0 k.0) l.1 (takes_is (client w) c p y k.1.0 t v k.1.1)) (lives u sizes w l.0 k.0)
lives u sizes (Runs j r q xs ∷ w) l k = runs_lives u sizes w j r q xs (lives u sizes w l.0 k) l.1
lives u sizes (Repeats j r y ∷ w) l k = repeats_lives u sizes w j r y (lives u sizes w l.0 k) l.1
lives u sizes (Refuses j r s ∷ w) l k = refuses_lives u sizes w j r s (lives u sizes w l.0 k) l.1
lives u sizes (Names j r i ∷ w) l k = names_lives u w j r i (lives u sizes w l.0 k)
lives u sizes (Makes j r m ∷ w) l k = makes_lives u sizes w j r m (lives u sizes w l.0 k) l.1
lives u sizes (Binds j r b ∷ w) l k = binds_lives u w j r b (lives u sizes w l.0 k)
lives u sizes (Ends j r ∷ w) l k = ends_lives u sizes w j r (single u (client w) k) (lives u sizes w l.0 k) l.1
