-- What the steps of the client do to the client ids.
use Rattle.std.proofs.Common.{◌≡◌, ◌≢◌, ◌⊎◌, inl, inr, ℕ, ◌==◌, Bool, true, false, ◌&&◌, List, [], ◌∷◌, Option, Some, None, Ok, Err, if◌then◌else◌, refl, sym, ◌∙◌, ap, subst, true≢false}
use Rattle.n41_types.specs.declared.plans.Plan.{Plan}
use Rattle.n41_types.specs.declared.plans.Plan.TheVariants as plan
use Rattle.n41_types.specs.declared.plans.Request.{Request}
use Rattle.n41_types.specs.declared.plans.SlotUse.{SlotUse}
use Rattle.n41_types.specs.declared.statuses.Status.{Status}
use Rattle.n41_results.specs.declared.replies.Reply.{Reply}
use Rattle.n41_results.specs.declared.replies.ReplyBody.{ReplyBody}
use Rattle.n41_results.specs.declared.replies.ReplyBody.TheVariants.{Results}
use Rattle.n41_results.specs.declared.results.Res.TheVariants as res
use Rattle.n41_results.specs.declared.sessions.SessionMade.{SessionMade}
use Rattle.n41_journal.specs.declared.events.Event.{Event}
use Rattle.n41_journal.specs.declared.events.Event.TheVariants.{Began, Put, Took, CbTook, CbPut, Dialed, DialFailed, Broke, Ticked, Answered, Quit}
use Rattle.n41_model.specs.declared.words.BareVerdict.{BareVerdict}
use Rattle.n41_model.specs.declared.words.BareVerdict.TheVariants as b
use Rattle.n41_model.specs.declared.words.KnownClient.{KnownClient}
use Rattle.n41_model.specs.declared.words.Setup.{Setup}
use Rattle.n41_calls.specs.Kept.{May}
use Rattle.n41_model.specs.Replies.{bare_verdict_of, bare_body_verdict, is_delay, is_wide_enough, delayed_or_breach, exchange_verdict, create_verdict, bind_verdict, destroy_session_verdict}
use Rattle.n41_model.specs.Requests.{bare, bare_waits, session_in, bare_verdict, is_bare, is_bare_use}
use Rattle.n41_model.specs.Sessions.{client as client_id, client_after}
use Rattle.n41_calls.proofs.Slots.{Seats}
use Rattle.n41_moves.proofs.Bares.{is_exchange, is_create, may_be, may_be_so}
use Rattle.n41_moves.proofs.Moves.{TakesOn, TakesBare}
use Rattle.n41_moves.proofs.Single.{given, or_made, took_bares}
use Rattle.n41_net.proofs.Net.{Net, TakenIs, last_bare, put_fresh, put_message}
use Rattle.n41_view.proofs.Fresh.{put_placed}
use Rattle.n41_view.proofs.Known.{Known, put_out_bare}
use Rattle.n41_breaches.proofs.Parted.{Parted, put_drop, put_create, create_of, has_id, is_drop, or_right, bare_gone}
use Rattle.n41_breaches.proofs.Numbers.{Starts, BareSays, Whereabouts, Clients, or_case, and_case}
use Rattle.n41_breaches.proofs.Serving.{same_test, is_same}
use Rattle.n41_runs.specs.Rules.{IsNoReply, MayBeTaken}
use Rattle.n41_runs.specs.Server.{is_there, was_named}
use Rattle.n41_runs.specs.declared.steps.Step.{Step}
use Rattle.n41_runs.specs.declared.steps.Step.TheVariants.{Does, Takes}
use Rattle.n41_runs.specs.Steps.{client, message, messages, carrier, fate}

does_says : (w : List Step) (e : Event) (r : Request) (y : Reply) → BareSays w r y → BareSays (Does e ∷ w) r y
does_says w e r y s = record { named = s.named; stale = s.stale; fine = s.fine }

-- ---- what puts no request and breaks no connection

quiet_clients : (w : List Step) (e : Event) → ((k : ℕ) → message (e ∷ client w) k ≡ message (client w) k) → ((c : ℕ) → put_create (e ∷ client w) c ≡ put_create (client w) c) → client_id (e ∷ client w) ≡ client_id (client w) → given (e ∷ client w) ≡ given (client w) → put_drop (e ∷ client w) ≡ put_drop (client w) → bare (e ∷ client w) ≡ bare (client w) → (bare_waits (e ∷ client w) ≡ true → bare_waits (client w) ≡ true) → last_bare (e ∷ client w) ≡ last_bare (client w) → Clients w → Clients (Does e ∷ w)
quiet_clients w e m n i g d x t l c = record {
  create_start = λ k r q f h o. c.create_start k r q (sym (m k) ∙ f) h o;
  created_named = λ k f. c.created_named k (sym (n k) ∙ f);
  client_start = λ q f h. c.client_start q (sym i ∙ f) (sym g ∙ h);
  kept_create = λ k f. by k (c.kept_create k (sym (n k) ∙ f));
  awaited = λ r y f h o. does_says w e r y (c.awaited r y (sym x ∙ f) (t h) (ap (λ (k : ℕ). fate w k) (sym l) ∙ o));
} where
  by : (k : ℕ) → Whereabouts w k → Whereabouts (Does e ∷ w) k
  by k (inl f) = inl (ap (λ (o : Option KnownClient). has_id o k) i ∙ f)
  by k (inr (inl f)) = inr (inl f)
  by k (inr (inr (inl f))) = inr (inr (inl (λ h. f (sym g ∙ h))))
  by k (inr (inr (inr f))) = inr (inr (inr (d ∙ f)))

-- ---- a Put

id_in : (o : Option KnownClient) (i : ℕ) → has_id o i ≡ true → (k : KnownClient) × (o ≡ Some k) × (k.id ≡ i)
id_in None i e = absurd (true≢false (sym e))
id_in (Some k) i e = (k, refl, is_same k.id i e)

-- a new CREATE_SESSION names the client id that is kept
put_clients : (w : List Step) (c p : ℕ) (r : Request) → Net w → (is_bare r ≡ true → bare (Put c p r ∷ client w) ≡ Some r) → ((k : KnownClient) → bare (Put c p r ∷ client w) ≡ Some r → create_of r.plan ≡ Some k → (client_id (client w) ≡ Some k) × (given (client w) ≡ None)) → Clients w → Clients (Does (Put c p r) ∷ w)
put_clients w c p r net out asks x = record {
  create_start = λ k q y e f h. start_by k q y f h (put_message (client w) c p k r q e);
  created_named = λ i e. named_by i (or_case (is_bare r && has_id (create_of r.plan) i) (put_create (client w) i) e);
  client_start = x.client_start;
  kept_create = λ i e. kept_by i (or_case (is_bare r && has_id (create_of r.plan) i) (put_create (client w) i) e);
  awaited = λ q y e f h. awaited_by q y e f h (is_bare r) refl;
} where
  new_start : is_bare r ≡ true → (k : KnownClient) → create_of r.plan ≡ Some k → Starts w k.id k.sequence
  new_start e k f = let d = asks k (out e) f in x.client_start k d.0 d.1

  start_by : (k : ℕ) (q : Request) (y : KnownClient) → q.slot ≡ None → create_of q.plan ≡ Some y → ((messages (client w) ≡ k) × (r ≡ q)) ⊎ ((message (client w) k ≡ Some q) × (carrier (Put c p r ∷ client w) k ≡ carrier (client w) k)) → Starts w y.id y.sequence
  start_by k q y f h (inl e) =
      let d : r.slot ≡ None = subst (λ (z : Request). z.slot ≡ None) (sym e.1) f in
      new_start (ap (λ (o : Option SlotUse). is_bare_use o) d) y (subst (λ (z : Request). create_of z.plan ≡ Some y) (sym e.1) h)
  start_by k q y f h (inr e) = x.create_start k q y e.0 f h

  named_by : (i : ℕ) → ((is_bare r && has_id (create_of r.plan) i) ≡ true) ⊎ (put_create (client w) i ≡ true) → was_named w i ≡ true
  named_by i (inl e) =
      let d = and_case (is_bare r) (has_id (create_of r.plan) i) e in
      let k = id_in (create_of r.plan) i d.1 in
      subst (λ (z : ℕ). was_named w z ≡ true) k.2 (new_start d.0 k.0 k.1).0
  named_by i (inr e) = x.created_named i e

  kept_by : (i : ℕ) → ((is_bare r && has_id (create_of r.plan) i) ≡ true) ⊎ (put_create (client w) i ≡ true) → Whereabouts (Does (Put c p r) ∷ w) i
  kept_by i (inl e) =
      let d = and_case (is_bare r) (has_id (create_of r.plan) i) e in
      let k = id_in (create_of r.plan) i d.1 in
      let l = asks k.0 (out d.0) k.1 in
      inl (ap (λ (o : Option KnownClient). has_id o i) l.0 ∙ subst (λ (z : ℕ). (k.0.id == z) ≡ true) k.2 (same_test k.0.id))
  kept_by i (inr e) = still (x.kept_create i e) where
    still : Whereabouts w i → Whereabouts (Does (Put c p r) ∷ w) i
    still (inl f) = inl f
    still (inr (inl f)) = inr (inl f)
    still (inr (inr (inl f))) = inr (inr (inl f))
    still (inr (inr (inr f))) = inr (inr (inr (or_right (is_bare r && is_drop r.plan) (put_drop (client w)) f)))

  awaited_by : (q : Request) (y : Reply) → bare (Put c p r ∷ client w) ≡ Some q → bare_waits (Put c p r ∷ client w) ≡ true → fate w (last_bare (Put c p r ∷ client w)) ≡ Some y → (t : Bool) → is_bare r ≡ t → BareSays (Does (Put c p r) ∷ w) q y
  awaited_by q y e f h true g = absurd (let d : None ≡ Some y = sym (put_fresh w c p r net) ∙ (rw g at h) in cc)
  awaited_by q y e f h false g = does_says w (Put c p r) q y (x.awaited q y (rw g at e) (rw g at f) (rw g at h))

pub does_clients : (u : Setup) (w : List Step) (e : Event) → Seats (client w) → Known (client w) → Net w → Parted u (e ∷ client w) → May u (client w) e → IsNoReply e → Clients w → Clients (Does e ∷ w)
does_clients u w (Began c n k m) z v net t h l x = quiet_clients w (Began c n k m) (λ _. refl) (λ _. refl) refl refl refl refl (λ f. f) refl x
does_clients u w (Put c p r) z v net t h l x = put_clients w c p r net (put_out_bare (client w) c p r z v (put_placed u (client w) h.0 r h.1.is_due)) (λ k e f. t.create_on r k e f) x
does_clients u w (Took c p y) z v net t h l x = absurd l
does_clients u w (CbTook c p y) z v net t h l x = absurd l
does_clients u w (CbPut c p y) z v net t h l x = absurd h
does_clients u w (Dialed c) z v net t h l x = quiet_clients w (Dialed c) (λ _. refl) (λ _. refl) refl refl refl refl (λ f. absurd (true≢false (sym f))) refl x
does_clients u w DialFailed z v net t h l x = quiet_clients w DialFailed (λ _. refl) (λ _. refl) refl refl refl refl (λ f. f) refl x
does_clients u w (Broke c k) z v net t h l x = quiet_clients w (Broke c k) (λ _. refl) (λ _. refl) refl refl refl refl (λ f. absurd (true≢false (sym f))) refl x
does_clients u w (Ticked m) z v net t h l x = quiet_clients w (Ticked m) (λ _. refl) (λ _. refl) refl refl refl refl (λ f. f) refl x
does_clients u w (Answered c n a) z v net t h l x = quiet_clients w (Answered c n a) (λ _. refl) (λ _. refl) refl refl refl refl (λ f. f) refl x
does_clients u w Quit z v net t h l x = quiet_clients w Quit (λ _. refl) (λ _. refl) refl refl refl refl (λ f. f) refl x

-- ---- a reply to a request without a slot

-- only a DESTROY_CLIENTID is told that the client id is gone
abbrev drops : Plan → BareVerdict → Bool
drops p b.ClientGone = is_drop p
drops p x = true

delayed_drops : (p : Plan) (s : Status) → drops p (delayed_or_breach s) ≡ true
delayed_drops p s = at (is_delay s) refl where
  at : (d : Bool) → is_delay s ≡ d → drops p (delayed_or_breach s) ≡ true
  at true e = rw e refl
  at false e = rw e refl

exchange_drops : (p : Plan) (y : ReplyBody) → drops p (exchange_verdict y) ≡ true
exchange_drops p (Results s (res.ExchangeId (Ok i) ∷ [])) = refl
exchange_drops p (Results s (res.ExchangeId (Err e) ∷ [])) = delayed_drops p e
exchange_drops p y = refl

create_drops : (p : Plan) (y : ReplyBody) → drops p (create_verdict y) ≡ true
create_drops p (Results s (res.CreateSession (Ok m) ∷ [])) = at (is_wide_enough m) where
  at : (d : Bool) → drops p (if d then b.Made m else b.Breach) ≡ true
  at true = refl
  at false = refl
create_drops p (Results s (res.CreateSession (Err e) ∷ [])) = at (e.0 == 10022) where
  at : (d : Bool) → drops p (if d then b.Stale else delayed_or_breach e) ≡ true
  at true = refl
  at false = delayed_drops p e
create_drops p y = refl

bind_drops : (p : Plan) (y : ReplyBody) → drops p (bind_verdict y) ≡ true
bind_drops p (Results s (res.Bind (Ok x) ∷ [])) = refl
bind_drops p (Results s (res.Bind (Err e) ∷ [])) = delayed_drops p e
bind_drops p y = refl

end_drops : (p : Plan) (y : ReplyBody) → drops p (destroy_session_verdict y) ≡ true
end_drops p (Results s (res.DestroySession e ∷ [])) = refl
end_drops p y = refl

any_drops : (x : BareVerdict) (p : Plan) → is_drop p ≡ true → drops p x ≡ true
any_drops b.ClientGone p e = e
any_drops x p e = refl

drops_so : (p : Plan) (y : ReplyBody) → drops p (bare_body_verdict p y) ≡ true
drops_so (plan.ExchangeId v o) y = exchange_drops (plan.ExchangeId v o) y
drops_so (plan.CreateSession c n) y = create_drops (plan.CreateSession c n) y
drops_so (plan.Bind i) y = bind_drops (plan.Bind i) y
drops_so (plan.DestroySession i) y = end_drops (plan.DestroySession i) y
drops_so (plan.DestroyClient c) y = any_drops (bare_body_verdict (plan.DestroyClient c) y) (plan.DestroyClient c) refl
drops_so p y = refl

create_some : (p : Plan) → is_create p ≡ true → (q : KnownClient) × (create_of p ≡ Some q)
create_some (plan.CreateSession c n) e = (record { id = c; sequence = n }, refl)
create_some p e = absurd (true≢false (sym e))

takes_says : (w : List Step) (k c p : ℕ) (z : Reply) (r : Request) (y : Reply) → BareSays w r y → BareSays (Takes k c p z ∷ w) r y
takes_says w k c p z r y s = record { named = s.named; stale = s.stale; fine = s.fine }

-- what is known of the client id once this verdict is in
client_by : (w : List Step) (r : Request) (y : Reply) (x : BareVerdict) → bare_verdict_of r.plan y ≡ x → BareSays w r y → Clients w → (q : KnownClient) → client_after (Some x) (client_id (client w)) ≡ Some q → or_made (session_in (Some x)) (given (client w)) ≡ None → Starts w q.id q.sequence
client_by w r y (b.Named c s) e a l q f g =
    let d : Some (record { id = c; sequence = s }) ≡ Some q = f in
    let h : record { id = c; sequence = s } ≡ q = cc in
    subst (λ (z : KnownClient). Starts w z.id z.sequence) h (a.named c s e)
client_by w r y (b.Made m) e a l q f g = absurd (let d : Some m ≡ None = g in cc)
client_by w r y b.Stale e a l q f g = absurd (let d : None ≡ Some q = f in cc)
client_by w r y b.ClientGone e a l q f g = absurd (let d : None ≡ Some q = f in cc)
client_by w r y b.Bound e a l q f g = l.client_start q f g
client_by w r y b.Breach e a l q f g = l.client_start q f g
client_by w r y b.SessionGone e a l q f g = l.client_start q f g
client_by w r y b.Delayed e a l q f g = l.client_start q f g

-- where a client id is, once the client is told this
abbrev Told : List Step → Option BareVerdict → ℕ → Type 0
Told w o i = (has_id (client_after o (client_id (client w))) i ≡ true) ⊎ ((is_there w i ≡ false) ⊎ ((or_made (session_in o) (given (client w)) ≢ None) ⊎ (put_drop (client w) ≡ true)))

made_some : (o g : Option SessionMade) → g ≢ None → or_made o g ≢ None
made_some None g f = f
made_some (Some m) g f = λ e. absurd (let d : Some m ≡ None = e in cc)

told_by : (u : Setup) (w : List Step) (r : Request) (y : Reply) (x : BareVerdict) → bare_verdict_of r.plan y ≡ x → bare (client w) ≡ Some r → Parted u (client w) → BareSays w r y → (i : ℕ) → Whereabouts w i → Told w (Some x) i
told_by u w r y x e o t s i (inr (inl f)) = inr (inl f)
told_by u w r y x e o t s i (inr (inr (inl f))) = inr (inr (inl (made_some (session_in (Some x)) (given (client w)) f)))
told_by u w r y x e o t s i (inr (inr (inr f))) = inr (inr (inr f))
told_by u w r y (b.Named c n) e o t s i (inl f) =
    let d : is_exchange r.plan ≡ true = subst (λ (z : BareVerdict). may_be r.plan z ≡ true) e (may_be_so r.plan y.body) in
    absurd (true≢false (sym f ∙ ap (λ (z : Option KnownClient). has_id z i) (t.exchange_on r o d).1))
told_by u w r y (b.Made m) e o t s i (inl f) = inr (inr (inl (λ g. absurd (let d : Some m ≡ None = g in cc))))
told_by u w r y b.Stale e o t s i (inl f) =
    let d : is_create r.plan ≡ true = subst (λ (z : BareVerdict). may_be r.plan z ≡ true) e (may_be_so r.plan y.body) in
    let q = create_some r.plan d in
    let k = t.create_on r q.0 o q.1 in
    let l : (q.0.id == i) ≡ true = sym (ap (λ (z : Option KnownClient). has_id z i) k.0) ∙ f in
    inr (inl (subst (λ (z : ℕ). is_there w z ≡ false) (is_same q.0.id i l) (s.stale q.0 q.1 e)))
told_by u w r y b.ClientGone e o t s i (inl f) = inr (inr (inr (t.drop_put r o (subst (λ (z : BareVerdict). drops r.plan z ≡ true) e (drops_so r.plan y.body)))))
told_by u w r y b.Bound e o t s i (inl f) = inl f
told_by u w r y b.Breach e o t s i (inl f) = inl f
told_by u w r y b.SessionGone e o t s i (inl f) = inl f
told_by u w r y b.Delayed e o t s i (inl f) = inl f

pub verdict_bare : (js : List Event) (y : Reply) (r : Request) → TakesBare js y r → bare_verdict js y ≡ Some (bare_verdict_of r.plan y)
verdict_bare js y r x = let d = x.found in let e = x.no_slot in rw (d, e) refl

pub verdict_on_slot : (js : List Event) (y : Reply) (r : Request) (p : SlotUse) → TakesOn js y r p → bare_verdict js y ≡ None
verdict_on_slot js y r p x = let d = x.found in let e : is_bare r ≡ false = ap (λ (o : Option SlotUse). is_bare_use o) x.placed in rw (d, e) refl

-- what the answer that is taken says
pub taken_says : (w : List Step) (k c : ℕ) (y : Reply) (r : Request) → Clients w → MayBeTaken w k c y → TakesBare (client w) y r → last_bare (client w) ≡ k → BareSays w r y
taken_says w k c y r l a x e = l.awaited r y x.is_out x.waits (ap (λ (j : ℕ). fate w j) e ∙ a.made)

bare_clients : (u : Setup) (w : List Step) (k c p : ℕ) (y : Reply) (r : Request) → Seats (client w) → Parted u (client w) → Clients w → TakesBare (client w) y r → BareSays w r y → Clients (Takes k c p y ∷ w)
bare_clients u w k c p y r z t l x s = record {
  create_start = l.create_start;
  created_named = l.created_named;
  client_start = λ q e f. client_by w r y (bare_verdict_of r.plan y) refl s l q (sym (ap (λ (o : Option BareVerdict). client_after o (client_id (client w))) v) ∙ e) (sym (ap (λ (o : Option BareVerdict). or_made (session_in o) (given (client w))) v) ∙ f);
  kept_create = λ i e. subst (λ (o : Option BareVerdict). Told w o i) (sym v) (told_by u w r y (bare_verdict_of r.plan y) refl x.is_out t s i (l.kept_create i e));
  awaited = λ q a e f h. absurd (let d : None ≡ Some q = sym (bare_gone (client w) c p y r z x) ∙ e in cc);
} where
  v : bare_verdict (client w) y ≡ Some (bare_verdict_of r.plan y)
  v = verdict_bare (client w) y r x

slot_clients : (w : List Step) (k c p : ℕ) (y : Reply) (r : Request) (a : SlotUse) → Seats (client w) → Clients w → TakesOn (client w) y r a → Clients (Takes k c p y ∷ w)
slot_clients w k c p y r a z l x = record {
  create_start = l.create_start;
  created_named = l.created_named;
  client_start = λ q e f. l.client_start q (sym (ap (λ (o : Option BareVerdict). client_after o (client_id (client w))) v) ∙ e) (sym (ap (λ (o : Option BareVerdict). or_made (session_in o) (given (client w))) v) ∙ f);
  kept_create = λ i e. subst (λ (o : Option BareVerdict). Told w o i) (sym v) (l.kept_create i e);
  awaited = λ q n e f h. takes_says w k c p y q n (l.awaited q n (took_bares (client w) c p y q z e) f h);
} where
  v : bare_verdict (client w) y ≡ None
  v = verdict_on_slot (client w) y r a x

pub takes_clients : (u : Setup) (w : List Step) (k c p : ℕ) (y : Reply) (r : Request) → Seats (client w) → Parted u (client w) → Clients w → MayBeTaken w k c y → TakenIs (client w) k y r → Clients (Takes k c p y ∷ w)
takes_clients u w k c p y r z t l a (inl (x, e, f)) = bare_clients u w k c p y r z t l x (taken_says w k c y r l a x f)
takes_clients u w k c p y r z t l a (inr (g, x, e, f)) = slot_clients w k c p y r g z l x

pub none_clients : Clients []
none_clients = record {
  create_start = λ k r q e f g. absurd (cc);
  created_named = λ c e. absurd (true≢false (sym e));
  client_start = λ q e f. absurd (cc);
  kept_create = λ c e. absurd (true≢false (sym e));
  awaited = λ r y e f g. absurd (cc);
}
