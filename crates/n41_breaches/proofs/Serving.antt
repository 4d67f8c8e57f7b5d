-- What a step of the server does to the client ids.
use Rattle.std.proofs.Common.{◌≡◌, ◌⊎◌, inl, inr, ℕ, ◌==◌, Bool, true, false, ◌&&◌, ◌||◌, List, ◌∷◌, Option, Some, None, if◌then◌else◌, refl, sym, ◌∙◌, ap, subst, arith, true≢false}
use Rattle.std.proofs.lemmas.Bool.Decides.{nat_tests}
use Rattle.std.specs.Prelude.{is_some, is_none}
use Rattle.n41_types.specs.declared.identities.SessionId.{SessionId}
use Rattle.n41_types.specs.declared.plans.Plan.{Plan}
use Rattle.n41_types.specs.declared.plans.Plan.TheVariants as plan
use Rattle.n41_types.specs.declared.plans.Request.{Request}
use Rattle.n41_types.specs.declared.plans.SlotUse.{SlotUse}
use Rattle.n41_types.specs.declared.statuses.Status.{Status}
use Rattle.n41_results.specs.declared.sessions.Bound.{Bound}
use Rattle.n41_results.specs.declared.sessions.Identity.{Identity}
use Rattle.n41_results.specs.declared.sessions.SessionMade.{SessionMade}
use Rattle.n41_journal.specs.declared.events.Event.{Event}
use Rattle.n41_model.specs.declared.words.BareVerdict.TheVariants as b
use Rattle.n41_model.specs.declared.words.KnownClient.{KnownClient}
use Rattle.n41_model.specs.declared.words.Setup.{Setup}
use Rattle.n41_model.specs.Replies.{bare_verdict_of}
use Rattle.n41_model.specs.Requests.{bare}
use Rattle.n41_model.specs.Sessions.{client as client_id}
use Rattle.n41_moves.proofs.Bares.{is_exchange}
use Rattle.n41_moves.proofs.Single.{given, sid_in}
use Rattle.n41_net.proofs.Lives.{Lives}
use Rattle.n41_net.proofs.Net.{last_bare, refuses_serves, names_serves, makes_serves, binds_serves, ends_serves}
use Rattle.n41_breaches.proofs.Parted.{Parted, put_end, put_drop, create_of, has_id, or_left, or_right}
use Rattle.n41_breaches.proofs.Numbers.{start, Starts, BareSays, States, Whereabouts, Clients, Grows, served_clients, says_by, says_made, says_moved, create_verdict_made, leaves_grow, refusal_says}
use Rattle.n41_runs.specs.Rules.{Sizes, Allowed, NamesAgain, MayName, MayMake, MayBind, MayEnd, plan_refuses, refuses_by}
use Rattle.n41_runs.specs.Server.{is_id, client_in, unless_ended, was_named, confirmed, unconfirmed, is_there, was_made, alive, is_bind_of}
use Rattle.n41_runs.specs.declared.steps.Step.{Step}
use Rattle.n41_runs.specs.declared.steps.Step.TheVariants.{Refuses, Names, Makes, Binds, Ends}
use Rattle.n41_runs.specs.Steps.{client, message, refusal, named_reply, made_reply, bound_reply, ended_reply}

-- the request without a slot that is out is the last one that was put
abbrev pub BareIs : List Event → Type 0
BareIs js = (q : Request) → bare js ≡ Some q → (message js (last_bare js) ≡ Some q) × (q.slot ≡ None)

pub sid_some : (o : Option SessionMade) (i : SessionId) → sid_in o ≡ Some i → (m : SessionMade) × (o ≡ Some m) × (m.sid ≡ i)
sid_some None i e = absurd (cc)
sid_some (Some m) i e = (m, refl, cc)

pub same_test : (c : ℕ) → (c == c) ≡ true
same_test c = grind (arith, nat_tests)

pub is_same : (c d : ℕ) → (c == d) ≡ true → c ≡ d
is_same c d e = grind (arith, nat_tests, e)

-- ---- a refusal

pub refuses_clients : (u : Setup) (sizes : Sizes) (w : List Step) (j : ℕ) (r : Request) (s : Status) → BareIs (client w) → Parted u (client w) → Lives u w → States w → Clients w → Allowed sizes w (Refuses j r s) → Clients (Refuses j r s ∷ w)
refuses_clients u sizes w j r s m t v n c a = served_clients w (Refuses j r s) j r (refusal r s) m c (refuses_serves sizes w j r s a) g by where
  g : Grows w (Refuses j r s)
  g = leaves_grow w (Refuses j r s) (record { names = λ _. refl; begins = λ _. refl; theres = λ _. refl })

  starts : r.slot ≡ None → (q : KnownClient) → create_of r.plan ≡ Some q → Starts w q.id q.sequence
  starts e q f = c.create_start j r q a.0.put e f

  still_alive : (i : SessionId) → put_end (client w) ≡ false → (alive w i ≡ true) ⊎ (put_end (client w) ≡ true) → alive w i ≡ true
  still_alive i e (inl f) = f
  still_alive i e (inr f) = absurd (true≢false (sym f ∙ e))

  binds : (x : Request) → bare (client w) ≡ Some x → x ≡ r → (i : SessionId) → is_bind_of r.plan i ≡ true → alive w i ≡ true
  binds x e f i h =
      let d = t.bind_on x i e (subst (λ (z : Request). is_bind_of z.plan i ≡ true) (sym f) h) in
      let k = sid_some (given (client w)) i d.0 in
      let l = v.given_made k.0 k.1 in
      still_alive i d.1 (n.ended i (subst (λ (z : SessionId). was_made w z ≡ true) k.2 l.was))

  refused : r.slot ≡ None → plan_refuses w r.plan s ≡ true
  refused e = sym (ap (λ (o : Option SlotUse). refuses_by sizes w j r o s) e) ∙ a.1

  by : (x : Request) → bare (client w) ≡ Some x → x ≡ r → x.slot ≡ None → BareSays (Refuses j r s ∷ w) x (refusal r s)
  by x e f h =
      let o : r.slot ≡ None = subst (λ (z : Request). z.slot ≡ None) f h in
      let d = refusal_says w r s r.plan refl o n (starts o) (binds x e f) (refused o) in
      subst (λ (z : Request). BareSays (Refuses j r s ∷ w) z (refusal r s)) (sym f) (says_moved w (Refuses j r s) g r (refusal r s) (λ q y. (starts o q y).0) d)

-- ---- a client id is given

pub other_id : (w : List Step) (i c : ℕ) → was_named w i ≡ false → was_named w c ≡ true → (i == c) ≡ false
other_id w i c e f = at (i == c) refl where
  at : (t : Bool) → (i == c) ≡ t → (i == c) ≡ false
  at true g = absurd (true≢false (sym f ∙ subst (λ (z : ℕ). was_named w z ≡ false) (is_same i c g) e))
  at false g = g

if_none : (a : Bool) (x y : ℕ) → (if a && false then x else y) ≡ y
if_none true x y = refl
if_none false x y = refl

names_grow : (w : List Step) (j : ℕ) (r : Request) (i : Identity) → NamesAgain w i → Grows w (Names j r i)
names_grow w j r i (inl e) = record {
  named = λ c f. or_right (i.client == c) (was_named w c) f;
  starts = λ c f. ap (λ (o : Option ℕ). if (i.client == c) && is_none o then i.sequence else start w c) e ∙ if_none (i.client == c) i.sequence (start w c);
  gone = λ c f h. ap (λ (o : Option ℕ). is_id (confirmed w) c || is_id (if is_some o then unconfirmed w else Some i.client) c) e ∙ h;
}
names_grow w j r i (inr (e, f)) = record {
  named = λ c h. or_right (i.client == c) (was_named w c) h;
  starts = λ c h. let d = other_id w i.client c f h in ap (λ (t : Bool). if t && is_none (confirmed w) then i.sequence else start w c) d;
  gone = λ c h k. ap (λ (o : Option ℕ). is_id o c || is_id (if is_some o then unconfirmed w else Some i.client) c) e ∙ other_id w i.client c f h;
}

new_starts : (w : List Step) (j : ℕ) (r : Request) (i : Identity) → confirmed w ≡ None → Starts (Names j r i ∷ w) i.client i.sequence
new_starts w j r i e = (or_left (i.client == i.client) (was_named w i.client) (same_test i.client), ap (λ (t : Bool). if t && is_none (confirmed w) then i.sequence else start w i.client) (same_test i.client) ∙ ap (λ (o : Option ℕ). if is_none o then i.sequence else start w i.client) e)

new_says : (w : List Step) (j : ℕ) (r : Request) (i : Identity) (v o : List ℕ) → r.plan ≡ plan.ExchangeId v o → confirmed w ≡ None → BareSays (Names j r i ∷ w) r (named_reply r i)
new_says w j r i v o g e = says_by (Names j r i ∷ w) r (named_reply r i) (b.Named i.client i.sequence) (ap (λ (p : Plan). bare_verdict_of p (named_reply r i)) g) starts (λ q k l. absurd (cc)) refl where
  starts : (c s : ℕ) → b.Named i.client i.sequence ≡ b.Named c s → Starts (Names j r i ∷ w) c s
  starts c s k =
      let d : i.client ≡ c = cc in
      let f : i.sequence ≡ s = cc in
      subst (λ (z : ℕ). Starts (Names j r i ∷ w) c z) f (subst (λ (z : ℕ). Starts (Names j r i ∷ w) z i.sequence) d (new_starts w j r i e))

-- a confirmed client does not ask for an id
pub no_again : (u : Setup) (w : List Step) (x : Request) (c : ℕ) → Parted u (client w) → States w → Clients w → bare (client w) ≡ Some x → is_exchange x.plan ≡ true → confirmed w ≡ Some c → ⊥
no_again u w x c t n l e f h = by (l.kept_create c (n.confirmed_put c h)) (t.exchange_on x e f) where
  there : is_there w c ≡ true
  there = or_left (is_id (confirmed w) c) (is_id (unconfirmed w) c) (ap (λ (o : Option ℕ). is_id o c) h ∙ same_test c)

  by : Whereabouts w c → (given (client w) ≡ None) × (client_id (client w) ≡ None) × (put_drop (client w) ≡ false) → ⊥
  by (inl k) d = true≢false (sym k ∙ ap (λ (o : Option KnownClient). has_id o c) d.1)
  by (inr (inl k)) d = true≢false (sym there ∙ k)
  by (inr (inr (inl k))) d = k d.0
  by (inr (inr (inr k))) d = true≢false (sym k ∙ d.2)

pub names_clients : (u : Setup) (sizes : Sizes) (w : List Step) (j : ℕ) (r : Request) (i : Identity) → BareIs (client w) → Parted u (client w) → States w → Clients w → Allowed sizes w (Names j r i) → Clients (Names j r i ∷ w)
names_clients u sizes w j r i m t n c a = served_clients w (Names j r i) j r (named_reply r i) m c (names_serves sizes w j r i a) (names_grow w j r i (may r.plan a.2)) (λ x e f h. by x e f r.plan refl a.2) where
  may : (p : Plan) → MayName w p i → NamesAgain w i
  may (plan.ExchangeId v o) h = h
  may p h = absurd h

  by : (x : Request) → bare (client w) ≡ Some x → x ≡ r → (p : Plan) → r.plan ≡ p → MayName w p i → BareSays (Names j r i ∷ w) x (named_reply r i)
  by x e f (plan.ExchangeId v o) g (inl h) = absurd (no_again u w x i.client t n c e (ap (λ (z : Request). is_exchange z.plan) f ∙ ap (λ (z : Plan). is_exchange z) g) h)
  by x e f (plan.ExchangeId v o) g (inr h) = subst (λ (z : Request). BareSays (Names j r i ∷ w) z (named_reply r i)) (sym f) (new_says w j r i v o g h.0)
  by x e f p g h = absurd h

-- ---- a session is made

makes_grow : (w : List Step) (j : ℕ) (r : Request) (m : SessionMade) (c n : ℕ) → r.plan ≡ plan.CreateSession c n → is_there w c ≡ true → Grows w (Makes j r m)
makes_grow w j r m c n g t = record {
  named = λ x e. e;
  starts = λ x e. refl;
  gone = λ x e f. ap (λ (p : Plan). is_id (client_in p) x || false) g ∙ at x f (c == x) refl;
} where
  at : (x : ℕ) → is_there w x ≡ false → (d : Bool) → (c == x) ≡ d → ((c == x) || false) ≡ false
  at x f true k = absurd (true≢false (sym (subst (λ (z : ℕ). is_there w z ≡ true) (is_same c x k) t) ∙ f))
  at x f false k = ap (λ (d : Bool). d || false) k

pub makes_clients : (sizes : Sizes) (w : List Step) (j : ℕ) (r : Request) (m : SessionMade) → BareIs (client w) → Clients w → Allowed sizes w (Makes j r m) → Clients (Makes j r m ∷ w)
makes_clients sizes w j r m d c a = served_clients w (Makes j r m) j r (made_reply r m) d c (makes_serves sizes w j r m a) (grow r.plan refl a.2) (λ x e f h. subst (λ (z : Request). BareSays (Makes j r m ∷ w) z (made_reply r m)) (sym f) (says r.plan refl a.2)) where
  grow : (p : Plan) → r.plan ≡ p → MayMake w p m → Grows w (Makes j r m)
  grow (plan.CreateSession i n) g h = makes_grow w j r m i n g h.there
  grow p g h = absurd h

  says : (p : Plan) → r.plan ≡ p → MayMake w p m → BareSays (Makes j r m ∷ w) r (made_reply r m)
  says (plan.CreateSession i n) g h = says_made (Makes j r m ∷ w) r m (made_reply r m) (ap (λ (z : Plan). bare_verdict_of z (made_reply r m)) g ∙ create_verdict_made (plan.CreateSession i n) r m h.wide refl)
  says p g h = absurd h

-- ---- a connection is bound

pub binds_clients : (sizes : Sizes) (w : List Step) (j : ℕ) (r : Request) (k : Bound) → BareIs (client w) → Clients w → Allowed sizes w (Binds j r k) → Clients (Binds j r k ∷ w)
binds_clients sizes w j r k m c a = served_clients w (Binds j r k) j r (bound_reply r k) m c (binds_serves sizes w j r k a) (leaves_grow w (Binds j r k) (record { names = λ _. refl; begins = λ _. refl; theres = λ _. refl })) (λ x e f h. subst (λ (z : Request). BareSays (Binds j r k ∷ w) z (bound_reply r k)) (sym f) (says r.plan refl a.2)) where
  says : (p : Plan) → r.plan ≡ p → MayBind w p → BareSays (Binds j r k ∷ w) r (bound_reply r k)
  says (plan.Bind i) g h = says_by (Binds j r k ∷ w) r (bound_reply r k) b.Bound (ap (λ (z : Plan). bare_verdict_of z (bound_reply r k)) g) (λ x s l. absurd (cc)) (λ q l o. absurd (cc)) refl
  says p g h = absurd h

-- ---- a session or a client id is given up

ended_id : (o : Option ℕ) (p : Plan) (x : ℕ) → is_id o x ≡ false → is_id (unless_ended o p) x ≡ false
ended_id None p x e = refl
ended_id (Some d) p x e = at (is_id (client_in p) d) refl where
  at : (t : Bool) → is_id (client_in p) d ≡ t → is_id (unless_ended (Some d) p) x ≡ false
  at true f = rw f refl
  at false f = rw f e

pub or_none : (a d : Bool) → (a || d) ≡ false → (a ≡ false) × (d ≡ false)
or_none true d e = absurd (true≢false e)
or_none false d e = (refl, e)

both_none : (a d : Bool) → a ≡ false → d ≡ false → (a || d) ≡ false
both_none true d e f = absurd (true≢false e)
both_none false d e f = f

ends_grow : (w : List Step) (j : ℕ) (r : Request) → Grows w (Ends j r)
ends_grow w j r = record {
  named = λ c e. e;
  starts = λ c e. refl;
  gone = λ c e f. let d = or_none (is_id (confirmed w) c) (is_id (unconfirmed w) c) f in both_none (is_id (unless_ended (confirmed w) r.plan) c) (is_id (unless_ended (unconfirmed w) r.plan) c) (ended_id (confirmed w) r.plan c d.0) (ended_id (unconfirmed w) r.plan c d.1);
}

pub ends_clients : (sizes : Sizes) (w : List Step) (j : ℕ) (r : Request) → BareIs (client w) → Clients w → Allowed sizes w (Ends j r) → Clients (Ends j r ∷ w)
ends_clients sizes w j r m c a = served_clients w (Ends j r) j r (ended_reply r) m c (ends_serves sizes w j r a) (ends_grow w j r) (λ x e f h. subst (λ (z : Request). BareSays (Ends j r ∷ w) z (ended_reply r)) (sym f) (says r.plan refl a.2)) where
  says : (p : Plan) → r.plan ≡ p → MayEnd w p → BareSays (Ends j r ∷ w) r (ended_reply r)
  says (plan.DestroySession i) g h = says_by (Ends j r ∷ w) r (ended_reply r) b.SessionGone (rw g refl) (λ x s l. absurd (cc)) (λ q l o. absurd (cc)) refl
  says (plan.DestroyClient i) g h = says_by (Ends j r ∷ w) r (ended_reply r) b.ClientGone (rw g refl) (λ x s l. absurd (cc)) (λ q l o. absurd (cc)) refl
  says p g h = absurd h
