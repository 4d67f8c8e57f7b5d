-- The client ids that a server has, after each step.
use Rattle.std.proofs.Common.{◌≡◌, ◌⊎◌, inl, inr, ℕ, ◌+◌, ◌==◌, ◌%◌, ◌^◌, Bool, true, false, ◌&&◌, ◌||◌, List, [], ◌∷◌, Option, Some, None, if◌then◌else◌, refl, sym, ◌∙◌, ap, subst, true≢false}
use Rattle.std.specs.Prelude.{is_some, is_none}
use Rattle.n41_types.specs.declared.identities.SessionId.{SessionId}
use Rattle.n41_types.specs.declared.plans.Plan.{Plan}
use Rattle.n41_types.specs.declared.plans.Plan.TheVariants as plan
use Rattle.n41_types.specs.declared.plans.Request.{Request}
use Rattle.n41_types.specs.declared.plans.SlotUse.{SlotUse}
use Rattle.n41_types.specs.declared.statuses.Status.{Status}
use Rattle.n41_results.specs.declared.replies.Reply.{Reply}
use Rattle.n41_results.specs.declared.results.Res.{Res}
use Rattle.n41_results.specs.declared.sessions.Bound.{Bound}
use Rattle.n41_results.specs.declared.sessions.Identity.{Identity}
use Rattle.n41_results.specs.declared.sessions.Sequenced.{Sequenced}
use Rattle.n41_results.specs.declared.sessions.SessionMade.{SessionMade}
use Rattle.n41_journal.specs.declared.events.Event.{Event}
use Rattle.n41_journal.specs.declared.events.Event.TheVariants.{Began, Put, Took, CbTook, CbPut, Dialed, DialFailed, Broke, Ticked, Answered, Quit}
use Rattle.n41_model.specs.declared.words.KnownClient.{KnownClient}
use Rattle.n41_model.specs.Replies.{is_wide_enough}
use Rattle.n41_model.specs.Requests.{is_bare, is_bare_use}
use Rattle.n41_moves.proofs.Bares.{is_end}
use Rattle.n41_breaches.proofs.Parted.{put_end, put_create, create_of, has_id, or_left, or_right}
use Rattle.n41_breaches.proofs.Numbers.{start, State, States, Clients, or_case}
use Rattle.n41_breaches.proofs.Serving.{same_test, is_same, other_id, or_none}
use Rattle.n41_runs.specs.Rules.{Sizes, Allowed, MayName, MakesNext, MayMake}
use Rattle.n41_runs.specs.Server.{is_id, client_in, unless_ended, was_named, confirmed, unconfirmed, is_there, next_sequence, last_made, was_made, alive, is_session, is_end_of}
use Rattle.n41_runs.specs.declared.steps.Step.{Step}
use Rattle.n41_runs.specs.declared.steps.Step.TheVariants.{Does, Takes, Runs, Repeats, Refuses, Names, Makes, Binds, Ends}
use Rattle.n41_runs.specs.Steps.{client, message, messages}

-- ---- what was put

both : (a d : Bool) → a ≡ true → d ≡ true → (a && d) ≡ true
both true d e f = f
both false d e f = absurd (true≢false (sym e))

message_end : (js : List Event) (k : ℕ) (r : Request) → message js k ≡ Some r → is_bare r ≡ true → is_end r.plan ≡ true → put_end js ≡ true
message_end [] k r e f g = absurd (cc)
message_end (Put c p q ∷ js) k r e f g = at (messages js == k) refl (message_end js k r) where
  at : (t : Bool) → (messages js == k) ≡ t → (message js k ≡ Some r → is_bare r ≡ true → is_end r.plan ≡ true → put_end js ≡ true) → put_end (Put c p q ∷ js) ≡ true
  at true h x =
      let d : Some q ≡ Some r = (rw h at e) in
      let l : q ≡ r = cc in
      or_left (is_bare q && is_end q.plan) (put_end js) (subst (λ (z : Request). (is_bare z && is_end z.plan) ≡ true) (sym l) (both (is_bare r) (is_end r.plan) f g))
  at false h x = or_right (is_bare q && is_end q.plan) (put_end js) (x (rw h at e) f g)
message_end (Began c n q t ∷ js) k r e f g = message_end js k r e f g
message_end (Took c p y ∷ js) k r e f g = message_end js k r e f g
message_end (CbTook c p y ∷ js) k r e f g = message_end js k r e f g
message_end (CbPut c p y ∷ js) k r e f g = message_end js k r e f g
message_end (Dialed c ∷ js) k r e f g = message_end js k r e f g
message_end (DialFailed ∷ js) k r e f g = message_end js k r e f g
message_end (Broke c w ∷ js) k r e f g = message_end js k r e f g
message_end (Ticked t ∷ js) k r e f g = message_end js k r e f g
message_end (Answered c n a ∷ js) k r e f g = message_end js k r e f g
message_end (Quit ∷ js) k r e f g = message_end js k r e f g

message_create : (js : List Event) (k i : ℕ) (r : Request) → message js k ≡ Some r → is_bare r ≡ true → has_id (create_of r.plan) i ≡ true → put_create js i ≡ true
message_create [] k i r e f g = absurd (cc)
message_create (Put c p q ∷ js) k i r e f g = at (messages js == k) refl (message_create js k i r) where
  at : (t : Bool) → (messages js == k) ≡ t → (message js k ≡ Some r → is_bare r ≡ true → has_id (create_of r.plan) i ≡ true → put_create js i ≡ true) → put_create (Put c p q ∷ js) i ≡ true
  at true h x =
      let d : Some q ≡ Some r = (rw h at e) in
      let l : q ≡ r = cc in
      or_left (is_bare q && has_id (create_of q.plan) i) (put_create js i) (subst (λ (z : Request). (is_bare z && has_id (create_of z.plan) i) ≡ true) (sym l) (both (is_bare r) (has_id (create_of r.plan) i) f g))
  at false h x = or_right (is_bare q && has_id (create_of q.plan) i) (put_create js i) (x (rw h at e) f g)
message_create (Began c n q t ∷ js) k i r e f g = message_create js k i r e f g
message_create (Took c p y ∷ js) k i r e f g = message_create js k i r e f g
message_create (CbTook c p y ∷ js) k i r e f g = message_create js k i r e f g
message_create (CbPut c p y ∷ js) k i r e f g = message_create js k i r e f g
message_create (Dialed c ∷ js) k i r e f g = message_create js k i r e f g
message_create (DialFailed ∷ js) k i r e f g = message_create js k i r e f g
message_create (Broke c w ∷ js) k i r e f g = message_create js k i r e f g
message_create (Ticked t ∷ js) k i r e f g = message_create js k i r e f g
message_create (Answered c n a ∷ js) k i r e f g = message_create js k i r e f g
message_create (Quit ∷ js) k i r e f g = message_create js k i r e f g

end_grows : (e : Event) (js : List Event) → put_end js ≡ true → put_end (e ∷ js) ≡ true
end_grows (Put c p q) js f = or_right (is_bare q && is_end q.plan) (put_end js) f
end_grows (Began c n q t) js f = f
end_grows (Took c p y) js f = f
end_grows (CbTook c p y) js f = f
end_grows (CbPut c p y) js f = f
end_grows (Dialed c) js f = f
end_grows DialFailed js f = f
end_grows (Broke c w) js f = f
end_grows (Ticked t) js f = f
end_grows (Answered c n a) js f = f
end_grows Quit js f = f

create_grows : (e : Event) (js : List Event) (i : ℕ) → put_create js i ≡ true → put_create (e ∷ js) i ≡ true
create_grows (Put c p q) js i f = or_right (is_bare q && has_id (create_of q.plan) i) (put_create js i) f
create_grows (Began c n q t) js i f = f
create_grows (Took c p y) js i f = f
create_grows (CbTook c p y) js i f = f
create_grows (CbPut c p y) js i f = f
create_grows (Dialed c) js i f = f
create_grows DialFailed js i f = f
create_grows (Broke c w) js i f = f
create_grows (Ticked t) js i f = f
create_grows (Answered c n a) js i f = f
create_grows Quit js i f = f

-- ---- steps that leave what the server has

pub does_states : (w : List Step) (e : Event) → States w → States (Does e ∷ w)
does_states w e n = record { unnamed = n.unnamed; state = n.state; there_named = n.there_named; wide = n.wide; confirmed_put = λ c f. create_grows e (client w) c (n.confirmed_put c f); ended = λ i f. still i (n.ended i f) } where
  still : (i : SessionId) → (alive w i ≡ true) ⊎ (put_end (client w) ≡ true) → (alive w i ≡ true) ⊎ (put_end (e ∷ client w) ≡ true)
  still i (inl f) = inl f
  still i (inr f) = inr (end_grows e (client w) f)

pub takes_states : (w : List Step) (k c p : ℕ) (y : Reply) → States w → States (Takes k c p y ∷ w)
takes_states w k c p y n = record { unnamed = n.unnamed; state = n.state; there_named = n.there_named; wide = n.wide; confirmed_put = n.confirmed_put; ended = n.ended }

pub runs_states : (w : List Step) (k : ℕ) (r : Request) (q : Sequenced) (xs : List Res) → States w → States (Runs k r q xs ∷ w)
runs_states w k r q xs n = record { unnamed = n.unnamed; state = n.state; there_named = n.there_named; wide = n.wide; confirmed_put = n.confirmed_put; ended = n.ended }

pub repeats_states : (w : List Step) (k : ℕ) (r : Request) (y : Reply) → States w → States (Repeats k r y ∷ w)
repeats_states w k r y n = record { unnamed = n.unnamed; state = n.state; there_named = n.there_named; wide = n.wide; confirmed_put = n.confirmed_put; ended = n.ended }

pub refuses_states : (w : List Step) (k : ℕ) (r : Request) (s : Status) → States w → States (Refuses k r s ∷ w)
refuses_states w k r s n = record { unnamed = n.unnamed; state = n.state; there_named = n.there_named; wide = n.wide; confirmed_put = n.confirmed_put; ended = n.ended }

pub binds_states : (w : List Step) (k : ℕ) (r : Request) (b : Bound) → States w → States (Binds k r b ∷ w)
binds_states w k r b n = record { unnamed = n.unnamed; state = n.state; there_named = n.there_named; wide = n.wide; confirmed_put = n.confirmed_put; ended = n.ended }

-- ---- a client id is given

same_state : (w : List Step) (st : Step) (c : ℕ) → next_sequence (st ∷ w) c ≡ next_sequence w c → start (st ∷ w) c ≡ start w c → last_made (st ∷ w) c ≡ last_made w c → State w c → State (st ∷ w) c
same_state w st c a d e (inl (f, g)) = inl (a ∙ (f ∙ sym d), e ∙ g)
same_state w st c a d e (inr (f, g)) = inr (a ∙ (f ∙ ap (λ (x : ℕ). (x + 1) % 2 ^ 32) (sym d)), λ h. g (sym e ∙ h))

if_none : (a : Bool) (x y : ℕ) → (if a && false then x else y) ≡ y
if_none true x y = refl
if_none false x y = refl

again_states : (w : List Step) (j : ℕ) (r : Request) (i : Identity) → confirmed w ≡ Some i.client → States w → States (Names j r i ∷ w)
again_states w j r i e n = record {
  unnamed = λ c f. n.unnamed c (or_none (i.client == c) (was_named w c) f).1;
  state = λ c f. same_state w (Names j r i) c (left c (next_sequence w c)) (left c (start w c)) refl (n.state c (again c (or_case (i.client == c) (was_named w c) f)));
  there_named = λ c f. or_right (i.client == c) (was_named w c) (n.there_named c (sym (there c) ∙ f));
  wide = n.wide;
  confirmed_put = n.confirmed_put;
  ended = n.ended;
} where
  there : (c : ℕ) → is_there (Names j r i ∷ w) c ≡ is_there w c
  there c = ap (λ (o : Option ℕ). is_id (confirmed w) c || is_id (if is_some o then unconfirmed w else Some i.client) c) e

  left : (c x : ℕ) → (if (i.client == c) && is_none (confirmed w) then i.sequence else x) ≡ x
  left c x = ap (λ (o : Option ℕ). if (i.client == c) && is_none o then i.sequence else x) e ∙ if_none (i.client == c) i.sequence x

  named : was_named w i.client ≡ true
  named = n.there_named i.client (or_left (is_id (confirmed w) i.client) (is_id (unconfirmed w) i.client) (ap (λ (o : Option ℕ). is_id o i.client) e ∙ same_test i.client))

  again : (c : ℕ) → ((i.client == c) ≡ true) ⊎ (was_named w c ≡ true) → was_named w c ≡ true
  again c (inl f) = subst (λ (z : ℕ). was_named w z ≡ true) (is_same i.client c f) named
  again c (inr f) = f

new_states : (w : List Step) (j : ℕ) (r : Request) (i : Identity) → confirmed w ≡ None → was_named w i.client ≡ false → States w → States (Names j r i ∷ w)
new_states w j r i e f n = record {
  unnamed = λ c h. n.unnamed c (or_none (i.client == c) (was_named w c) h).1;
  state = λ c h. by c (or_case (i.client == c) (was_named w c) h);
  there_named = λ c h. or_left (i.client == c) (was_named w c) (sym (ap (λ (o : Option ℕ). is_id o c || is_id (if is_some o then unconfirmed w else Some i.client) c) e) ∙ h);
  wide = n.wide;
  confirmed_put = n.confirmed_put;
  ended = n.ended;
} where
  first : (x : ℕ) → (if (i.client == i.client) && is_none (confirmed w) then i.sequence else x) ≡ i.sequence
  first x = ap (λ (t : Bool). if t && is_none (confirmed w) then i.sequence else x) (same_test i.client) ∙ ap (λ (o : Option ℕ). if is_none o then i.sequence else x) e

  left : (c x : ℕ) → (i.client == c) ≡ false → (if (i.client == c) && is_none (confirmed w) then i.sequence else x) ≡ x
  left c x d = ap (λ (t : Bool). if t && is_none (confirmed w) then i.sequence else x) d

  here : State (Names j r i ∷ w) i.client
  here = inl (first (next_sequence w i.client) ∙ sym (first (start w i.client)), n.unnamed i.client f)

  by : (c : ℕ) → ((i.client == c) ≡ true) ⊎ (was_named w c ≡ true) → State (Names j r i ∷ w) c
  by c (inl h) = subst (λ (z : ℕ). State (Names j r i ∷ w) z) (is_same i.client c h) here
  by c (inr h) = let d = other_id w i.client c f h in same_state w (Names j r i) c (left c (next_sequence w c) d) (left c (start w c) d) refl (n.state c h)

pub names_states : (sizes : Sizes) (w : List Step) (j : ℕ) (r : Request) (i : Identity) → Allowed sizes w (Names j r i) → States w → States (Names j r i ∷ w)
names_states sizes w j r i a n = by r.plan a.2 where
  by : (p : Plan) → MayName w p i → States (Names j r i ∷ w)
  by (plan.ExchangeId v o) (inl e) = again_states w j r i e n
  by (plan.ExchangeId v o) (inr e) = new_states w j r i e.0 e.1 n
  by p h = absurd h

-- ---- a session is made

bare_use : (r : Request) → r.slot ≡ None → is_bare r ≡ true
bare_use r e = ap (λ (o : Option SlotUse). is_bare_use o) e

made_states : (w : List Step) (j : ℕ) (r : Request) (m : SessionMade) (c s : ℕ) → message (client w) j ≡ Some r → r.slot ≡ None → r.plan ≡ plan.CreateSession c s → MakesNext w c s m → States w → Clients w → States (Makes j r m ∷ w)
made_states w j r m c s put e g a n l = record {
  unnamed = λ x f. ap (λ (t : Bool). if t then Some m else last_made w x) (test x ∙ not_here x f (c == x) refl) ∙ n.unnamed x f;
  state = λ x f. state_at x f (c == x) refl;
  there_named = λ x f. named_at x (or_case (is_id (client_in r.plan) x) false f);
  wide = λ x y f. wide_at x y f (c == x) refl;
  confirmed_put = λ x f. confirmed_at x (let d : Some c ≡ Some x = sym (ap (λ (p : Plan). client_in p) g) ∙ f in cc);
  ended = λ i f. ended_at i (or_case (is_session m.sid i) (was_made w i) f);
} where
  test : (x : ℕ) → is_id (client_in r.plan) x ≡ (c == x)
  test x = ap (λ (p : Plan). is_id (client_in p) x) g

  named : was_named w c ≡ true
  named = n.there_named c a.there

  not_here : (x : ℕ) → was_named w x ≡ false → (t : Bool) → (c == x) ≡ t → (c == x) ≡ false
  not_here x f true h = absurd (true≢false (sym (subst (λ (z : ℕ). was_named w z ≡ true) (is_same c x h) named) ∙ f))
  not_here x f false h = h

  create : create_of r.plan ≡ Some (record { id = c; sequence = s })
  create = ap (λ (p : Plan). create_of p) g

  in_turn : next_sequence w c ≡ start w c
  in_turn = let d = (l.create_start j r (record { id = c; sequence = s }) put e create).1 in sym a.next ∙ sym d

  here : State (Makes j r m ∷ w) c
  here = inr (ap (λ (t : Bool). if t then (next_sequence w c + 1) % 2 ^ 32 else next_sequence w c) (test c ∙ same_test c) ∙ ap (λ (x : ℕ). (x + 1) % 2 ^ 32) in_turn, λ f. (let d : Some m ≡ None = sym (ap (λ (t : Bool). if t then Some m else last_made w c) (test c ∙ same_test c)) ∙ f in absurd (cc)))

  state_at : (x : ℕ) → was_named w x ≡ true → (t : Bool) → (c == x) ≡ t → State (Makes j r m ∷ w) x
  state_at x f true h = subst (λ (z : ℕ). State (Makes j r m ∷ w) z) (is_same c x h) here
  state_at x f false h = let d = test x ∙ h in same_state w (Makes j r m) x (ap (λ (t : Bool). if t then (next_sequence w x + 1) % 2 ^ 32 else next_sequence w x) d) refl (ap (λ (t : Bool). if t then Some m else last_made w x) d) (n.state x f)

  named_at : (x : ℕ) → (is_id (client_in r.plan) x ≡ true) ⊎ (false ≡ true) → was_named w x ≡ true
  named_at x (inl f) = subst (λ (z : ℕ). was_named w z ≡ true) (is_same c x (sym (test x) ∙ f)) named
  named_at x (inr f) = absurd (true≢false (sym f))

  wide_at : (x : ℕ) (y : SessionMade) → last_made (Makes j r m ∷ w) x ≡ Some y → (t : Bool) → (c == x) ≡ t → is_wide_enough y ≡ true
  wide_at x y f true h =
      let d : Some m ≡ Some y = sym (ap (λ (t : Bool). if t then Some m else last_made w x) (test x ∙ h)) ∙ f in
      let k : m ≡ y = cc in
      subst (λ (z : SessionMade). is_wide_enough z ≡ true) k a.wide
  wide_at x y f false h = n.wide x y (sym (ap (λ (t : Bool). if t then Some m else last_made w x) (test x ∙ h)) ∙ f)

  confirmed_at : (x : ℕ) → c ≡ x → put_create (client w) x ≡ true
  confirmed_at x f = message_create (client w) j x r put (bare_use r e) (ap (λ (o : Option KnownClient). has_id o x) create ∙ subst (λ (z : ℕ). (c == z) ≡ true) f (same_test c))

  ended_at : (i : SessionId) → (is_session m.sid i ≡ true) ⊎ (was_made w i ≡ true) → (alive (Makes j r m ∷ w) i ≡ true) ⊎ (put_end (client w) ≡ true)
  ended_at i (inl f) = inl (or_left (is_session m.sid i) (alive w i) f)
  ended_at i (inr f) = by (n.ended i f) where
    by : (alive w i ≡ true) ⊎ (put_end (client w) ≡ true) → (alive (Makes j r m ∷ w) i ≡ true) ⊎ (put_end (client w) ≡ true)
    by (inl h) = inl (or_right (is_session m.sid i) (alive w i) h)
    by (inr h) = inr h

pub makes_states : (sizes : Sizes) (w : List Step) (j : ℕ) (r : Request) (m : SessionMade) → Allowed sizes w (Makes j r m) → States w → Clients w → States (Makes j r m ∷ w)
makes_states sizes w j r m a n l = by r.plan refl a.2 where
  by : (p : Plan) → r.plan ≡ p → MayMake w p m → States (Makes j r m ∷ w)
  by (plan.CreateSession c s) g h = made_states w j r m c s a.0.put a.1 g h n l
  by p g h = absurd h

-- ---- a session or a client id is given up

still_id : (o : Option ℕ) (p : Plan) (x : ℕ) → unless_ended o p ≡ Some x → o ≡ Some x
still_id None p x e = absurd (cc)
still_id (Some d) p x e = at (is_id (client_in p) d) refl where
  at : (t : Bool) → is_id (client_in p) d ≡ t → Some d ≡ Some x
  at true f = absurd (let g : None ≡ Some x = (rw f at e) in cc)
  at false f = (rw f at e)

some_id : (o : Option ℕ) (x : ℕ) → is_id o x ≡ true → o ≡ Some x
some_id None x e = absurd (true≢false (sym e))
some_id (Some d) x e = ap (λ (z : ℕ). Some z) (is_same d x e)

id_some : (o : Option ℕ) (x : ℕ) → o ≡ Some x → is_id o x ≡ true
id_some o x e = ap (λ (z : Option ℕ). is_id z x) e ∙ same_test x

end_of_is : (p : Plan) (i : SessionId) → is_end_of p i ≡ true → is_end p ≡ true
end_of_is (plan.DestroySession j) i e = refl
end_of_is p i e = absurd (true≢false (sym e))

pub ends_states : (sizes : Sizes) (w : List Step) (j : ℕ) (r : Request) → Allowed sizes w (Ends j r) → States w → States (Ends j r ∷ w)
ends_states sizes w j r a n = record {
  unnamed = n.unnamed;
  state = n.state;
  there_named = λ c f. n.there_named c (was_there c (or_case (is_id (unless_ended (confirmed w) r.plan) c) (is_id (unless_ended (unconfirmed w) r.plan) c) f));
  wide = n.wide;
  confirmed_put = λ c f. n.confirmed_put c (still_id (confirmed w) r.plan c f);
  ended = λ i f. ended_at i (n.ended i f) (is_end_of r.plan i) refl;
} where
  was_there : (c : ℕ) → (is_id (unless_ended (confirmed w) r.plan) c ≡ true) ⊎ (is_id (unless_ended (unconfirmed w) r.plan) c ≡ true) → is_there w c ≡ true
  was_there c (inl f) = or_left (is_id (confirmed w) c) (is_id (unconfirmed w) c) (id_some (confirmed w) c (still_id (confirmed w) r.plan c (some_id (unless_ended (confirmed w) r.plan) c f)))
  was_there c (inr f) = or_right (is_id (confirmed w) c) (is_id (unconfirmed w) c) (id_some (unconfirmed w) c (still_id (unconfirmed w) r.plan c (some_id (unless_ended (unconfirmed w) r.plan) c f)))

  ended_at : (i : SessionId) → (alive w i ≡ true) ⊎ (put_end (client w) ≡ true) → (t : Bool) → is_end_of r.plan i ≡ t → (alive (Ends j r ∷ w) i ≡ true) ⊎ (put_end (client w) ≡ true)
  ended_at i (inr f) t g = inr f
  ended_at i (inl f) true g = inr (message_end (client w) j r a.0.put (bare_use r a.1) (end_of_is r.plan i g))
  ended_at i (inl f) false g = inl (ap (λ (t : Bool). if t then false else alive w i) g ∙ f)

pub none_states : States []
none_states = record {
  unnamed = λ c e. refl;
  state = λ c e. absurd (true≢false (sym e));
  there_named = λ c e. absurd (true≢false (sym e));
  wide = λ c m e. absurd (cc);
  confirmed_put = λ c e. absurd (cc);
  ended = λ i e. absurd (true≢false (sym e));
}
