-- What a kept journal says of messages and of what is out.
use Rattle.std.proofs.Common.{◌≡◌, ◌≢◌, ◌⊎◌, inl, inr, ℕ, suc, ◌-◌, ◌<◌, ◌≤◌, ◌==◌, Bool, true, false, ◌&&◌, ◌||◌, not, List, [], ◌∷◌, Option, Some, None, if◌then◌else◌, refl, sym, ◌∙◌, ap, subst, arith, true≢false}
use Rattle.std.proofs.lemmas.Bool.Decides.{nat_tests}
use Rattle.std.specs.Prelude.{is_some, min}
use Rattle.n41_types.specs.declared.plans.Request.{Request}
use Rattle.n41_types.specs.declared.plans.SlotUse.{SlotUse}
use Rattle.n41_types.specs.declared.statuses.Status.{Status}
use Rattle.n41_types.specs.Plans.{class_of, is_cached}
use Rattle.n41_results.specs.declared.replies.Reply.{Reply}
use Rattle.n41_results.specs.declared.sessions.SessionMade.{SessionMade}
use Rattle.n41_journal.specs.declared.events.Event.{Event}
use Rattle.n41_journal.specs.declared.events.Event.TheVariants.{Began, Put, Took, CbTook, CbPut, Dialed, DialFailed, Broke, Ticked, Answered, Quit}
use Rattle.n41_model.specs.declared.words.BareVerdict.{BareVerdict}
use Rattle.n41_model.specs.declared.words.BareVerdict.TheVariants as b
use Rattle.n41_model.specs.declared.words.Sent.TheVariants.{Never, Waits, Delayed, Unbound}
use Rattle.n41_model.specs.declared.words.Setup.{Setup}
use Rattle.n41_calls.specs.Answers.{round_limit}
use Rattle.n41_calls.specs.Kept.{Kept, May}
use Rattle.n41_model.specs.Replies.{bare_verdict_of, is_final, gives_back, is_delay, is_not_bound, is_size_refusal, sequence_status, status_passes, status_refuses}
use Rattle.n41_model.specs.Requests.{bares, outs, out, used, sent, sent_after, made, session_in, bare_verdict, is_bare, is_bare_use, is_on, standing, dials, rounds, moment}
use Rattle.n41_model.specs.Sessions.{slots, slots_after}
use Rattle.n41_calls.proofs.Slots.{Seats, seats}
use Rattle.n41_moves.proofs.Bares.{is_create, may_be, may_be_so}
use Rattle.n41_view.proofs.Found.{no_use, use_on}
use Rattle.n41_view.proofs.Known.{Known, known}
use Rattle.n41_view.proofs.Lists.{first_on, first_bare}
use Rattle.n41_moves.proofs.Moves.{PutsAgain, puts_again, puts_new, again_out, new_out, bare_outs, bare_on_none, TakesOn, TakesBare, TakesIs, takes_is, took_out, took_used, took_sent, bare_took, bare_took_used, bare_took_sent}
use Rattle.n41_moves.proofs.Puts.{PutOf, PutIs, NewOn, put_of}
use Rattle.n41_moves.proofs.Single.{Single, single, given, sid_in, or_made, took_outs}
use Rattle.n41_runs.specs.Steps.{message, messages, carrier}

-- the last message that was put on a slot
abbrev pub last_put : List Event → ℕ → ℕ
last_put [] n = 0
last_put (Put c p r ∷ js) n = if is_on r n then messages js else last_put js n
last_put (e ∷ js) n = last_put js n

pub record Said (js : List Event) : Type 0 where
  pub below : (k : ℕ) (r : Request) → message js k ≡ Some r → k < messages js
  pub dialed : (c : ℕ) → standing js ≡ Some c → c ≤ dials js
  pub carried : (k : ℕ) (r : Request) → message js k ≡ Some r → carrier js k ≤ dials js
  pub out_message : (n : ℕ) (r : Request) → out js n ≡ Some r → message js (last_put js n) ≡ Some r
  pub out_turn : (n : ℕ) (r : Request) (p : SlotUse) → out js n ≡ Some r → r.slot ≡ Some p → (p.turn ≡ used js n) × (p.slot ≡ n) × (p.cache ≡ is_cached (class_of r.plan))
  pub waits_out : (n : ℕ) → sent js n ≡ Waits → out js n ≢ None
  pub waits_stands : (n : ℕ) → sent js n ≡ Waits → standing js ≢ None
  pub waits_few : (n : ℕ) → sent js n ≡ Waits → rounds js < round_limit

-- ---- slots of the session that was made

pub slots_are : (js : List Event) (m : SessionMade) → given js ≡ Some m → slots js ≡ min 64 m.fore.requests_max
slots_are [] m e = absurd (cc)
slots_are (Began c n k t ∷ js) m e = slots_are js m e
slots_are (Put c p r ∷ js) m e = slots_are js m e
slots_are (Took c p y ∷ js) m e = at (made js y) (slots_are js m) e where
  at : (o : Option SessionMade) → (given js ≡ Some m → slots js ≡ min 64 m.fore.requests_max) → or_made o (given js) ≡ Some m → slots_after o (slots js) ≡ min 64 m.fore.requests_max
  at None f e = f e
  at (Some k) f e = let d : k ≡ m = cc in ap (λ (z : SessionMade). min 64 z.fore.requests_max) d
slots_are (CbTook c p y ∷ js) m e = slots_are js m e
slots_are (CbPut c p y ∷ js) m e = slots_are js m e
slots_are (Dialed c ∷ js) m e = slots_are js m e
slots_are (DialFailed ∷ js) m e = slots_are js m e
slots_are (Broke c w ∷ js) m e = slots_are js m e
slots_are (Ticked t ∷ js) m e = slots_are js m e
slots_are (Answered c n a ∷ js) m e = slots_are js m e
slots_are (Quit ∷ js) m e = slots_are js m e

-- ---- where a session is made nothing is out

made_by : (r : Request) (x : BareVerdict) (m : SessionMade) → may_be r.plan x ≡ true → session_in (Some x) ≡ Some m → is_create r.plan ≡ true
made_by r (b.Made k) m h e = h
made_by r x m h e = absurd (cc)

pub made_first : (u : Setup) (js : List Event) (y : Reply) (r : Request) (m : SessionMade) → Single u js → TakesBare js y r → made js y ≡ Some m → given js ≡ None
made_first u js y r m s t e =
    let f : is_bare r ≡ true = ap (λ (o : Option SlotUse). is_bare_use o) t.no_slot in
    let d : bare_verdict js y ≡ Some (bare_verdict_of r.plan y) = rw (t.found, f) refl in
    s.create_first r t.is_out (made_by r (bare_verdict_of r.plan y) m (may_be_so r.plan y.body) (sym (ap (λ (x : Option BareVerdict). session_in x) d) ∙ e))

none_at : (u : Setup) (js : List Event) (n : ℕ) → Seats js → Single u js → given js ≡ None → (o : Option Request) → out js n ≡ o → out js n ≡ None
none_at u js n t s g None e = e
none_at u js n t s g (Some r) e =
    let p = use_on r.slot n (first_on n (outs js n) r (t.on n) e) in
    absurd (let h : None ≡ Some p.0.sid = ap (λ (o : Option SessionMade). sid_in o) (sym g) ∙ s.on_slot n r p.0 e p.1 in cc)

pub none_out : (u : Setup) (js : List Event) (n : ℕ) → Seats js → Single u js → given js ≡ None → out js n ≡ None
none_out u js n t s g = none_at u js n t s g (out js n) refl

-- ---- a Put

pub new_carrier : (js : List Event) (c p k : ℕ) (r : Request) → (carrier (Put c p r ∷ js) k ≡ c) ⊎ (carrier (Put c p r ∷ js) k ≡ carrier js k)
new_carrier js c p k r = at (messages js == k) refl where
  at : (t : Bool) → (messages js == k) ≡ t → (carrier (Put c p r ∷ js) k ≡ c) ⊎ (carrier (Put c p r ∷ js) k ≡ carrier js k)
  at true e = inl (rw e refl)
  at false e = inr (rw e refl)

put_below : (js : List Event) (c p : ℕ) (r : Request) → Said js → (k : ℕ) (q : Request) → message (Put c p r ∷ js) k ≡ Some q → k < messages (Put c p r ∷ js)
put_below js c p r s k q e = grind (arith, nat_tests, s.below k q, e)

put_carried : (js : List Event) (c p : ℕ) (r : Request) → Said js → standing js ≡ Some c → (k : ℕ) (q : Request) → message (Put c p r ∷ js) k ≡ Some q → carrier (Put c p r ∷ js) k ≤ dials js
put_carried js c p r s h k q e = grind (arith, nat_tests, s.carried k q, s.dialed c h, e)

-- the old last message of a slot is where it was
kept_message : (js : List Event) (c p k : ℕ) (r q : Request) → Said js → message js k ≡ Some q → message (Put c p r ∷ js) k ≡ Some q
kept_message js c p k r q s e = grind (arith, nat_tests, s.below k q e, e)

put_message_at : (js : List Event) (c p n : ℕ) (r q : Request) → Said js → (t : Bool) → is_on r n ≡ t → (t ≡ true → q ≡ r) → (t ≡ false → out js n ≡ Some q) → message (Put c p r ∷ js) (last_put (Put c p r ∷ js) n) ≡ Some q
put_message_at js c p n r q s true i f g = let d = f refl in rw i (grind (arith, nat_tests, d))
put_message_at js c p n r q s false i f g = rw i (kept_message js c p (last_put js n) r q s (s.out_message n q (g refl)))

-- what a slot is like after a Put on it
record OnSlot (js es : List Event) (r : Request) (p : SlotUse) : Type 0 where
  placed : r.slot ≡ Some p
  on : (n : ℕ) → is_on r n ≡ (p.slot == n)
  cached : p.cache ≡ is_cached (class_of r.plan)
  outs : (n : ℕ) → out es n ≡ (if p.slot == n then Some r else out js n)

put_on_said : (js : List Event) (c k : ℕ) (r : Request) (p : SlotUse) → Said js → standing js ≡ Some c → rounds js < round_limit → OnSlot js (Put c k r ∷ js) r p → Said (Put c k r ∷ js)
put_on_said js c k r p s h f o = record {
  below = put_below js c k r s;
  dialed = s.dialed;
  carried = put_carried js c k r s h;
  out_message = λ n q e. message_at n q (o.outs n) e;
  out_turn = λ n q a e g. turn_at n q a (o.outs n) e g;
  waits_out = λ n e. out_at n (o.outs n) e;
  waits_stands = λ n e. stands_at (is_on r n) n refl e;
  waits_few = λ n e. f;
} where
  message_at : (n : ℕ) (q : Request) → out (Put c k r ∷ js) n ≡ (if p.slot == n then Some r else out js n) → out (Put c k r ∷ js) n ≡ Some q → message (Put c k r ∷ js) (last_put (Put c k r ∷ js) n) ≡ Some q
  message_at n q g e = put_message_at js c k n r q s (p.slot == n) (o.on n) (λ t. grind (arith, g, e, t)) (λ t. grind (arith, g, e, t))

  turn_at : (n : ℕ) (q : Request) (a : SlotUse) → out (Put c k r ∷ js) n ≡ (if p.slot == n then Some r else out js n) → out (Put c k r ∷ js) n ≡ Some q → q.slot ≡ Some a → (a.turn ≡ used (Put c k r ∷ js) n) × (a.slot ≡ n) × (a.cache ≡ is_cached (class_of q.plan))
  turn_at n q a g e i = grind (arith, nat_tests, g, e, i, o.on n, o.placed, o.cached, s.out_turn n q a)

  out_at : (n : ℕ) → out (Put c k r ∷ js) n ≡ (if p.slot == n then Some r else out js n) → sent (Put c k r ∷ js) n ≡ Waits → out (Put c k r ∷ js) n ≢ None
  out_at n g e = grind (arith, g, e, o.on n, s.waits_out n)

  stands_at : (t : Bool) (n : ℕ) → is_on r n ≡ t → sent (Put c k r ∷ js) n ≡ Waits → standing js ≢ None
  stands_at t n i e d = absurd (let g : Some c ≡ None = sym h ∙ d in cc)

put_bare_said : (js : List Event) (c k : ℕ) (r : Request) → Said js → standing js ≡ Some c → r.slot ≡ None → Said (Put c k r ∷ js)
put_bare_said js c k r s h z = record {
  below = put_below js c k r s;
  dialed = s.dialed;
  carried = put_carried js c k r s h;
  out_message = λ n q e. put_message_at js c k n r q s false (bare_on_none r z n) (λ t. absurd (true≢false (sym t))) (λ t. outs_at n q e);
  out_turn = λ n q a e g. let i = bare_on_none r z n in let d = s.out_turn n q a (outs_at n q e) g in rw i d;
  waits_out = λ n e g. s.waits_out n (sent_at n e) (sym (first_at n) ∙ g);
  waits_stands = λ n e. s.waits_stands n (sent_at n e);
  waits_few = λ n e. s.waits_few n (sent_at n e);
} where
  first_at : (n : ℕ) → out (Put c k r ∷ js) n ≡ out js n
  first_at n = let d = bare_outs js c k n r z in rw d refl

  outs_at : (n : ℕ) (q : Request) → out (Put c k r ∷ js) n ≡ Some q → out js n ≡ Some q
  outs_at n q e = sym (first_at n) ∙ e

  sent_at : (n : ℕ) → sent (Put c k r ∷ js) n ≡ Waits → sent js n ≡ Waits
  sent_at n e = let i = bare_on_none r z n in (rw i at e)

again_on : (js : List Event) (c k : ℕ) (r : Request) (p : SlotUse) → Said js → PutsAgain js r p → OnSlot js (Put c k r ∷ js) r p
again_on js c k r p s a = record {
  placed = a.placed;
  on = a.on;
  cached = (s.out_turn p.slot r p a.is_out a.placed).2;
  outs = λ n. again_out js c k n r p a ∙ at (p.slot == n) n refl;
} where
  at : (t : Bool) (n : ℕ) → (p.slot == n) ≡ t → out js n ≡ (if t then Some r else out js n)
  at true n e = let d : p.slot ≡ n = grind (arith, nat_tests, e) in subst (λ (i : ℕ). out js i ≡ Some r) d a.is_out
  at false n e = refl

new_on : (u : Setup) (js : List Event) (c k : ℕ) (r : Request) → Seats js → (a : NewOn u js r) → OnSlot js (Put c k r ∷ js) r a.place
new_on u js c k r t a = let b = puts_new u js r t a in record { placed = a.placed; on = b.on; cached = a.cached; outs = λ n. new_out js c k n r a.place b }

put_said : (u : Setup) (js : List Event) (c k : ℕ) (r : Request) → Seats js → Said js → standing js ≡ Some c → PutOf u js r → Said (Put c k r ∷ js)
put_said u js c k r t s h o = by o.form where
  by : PutIs u js r → Said (Put c k r ∷ js)
  by (inl a) = put_bare_said js c k r s h (no_use r.slot (first_bare (bares js) r t.lone a.is_out))
  by (inr (inl a)) = let q = puts_again js r t a in put_on_said js c k r q.0 s h o.few (again_on js c k r q.0 s q.1)
  by (inr (inr (inl a))) = put_bare_said js c k r s h a.no_slot
  by (inr (inr (inr a))) = put_on_said js c k r a.place s h o.few (new_on u js c k r t a)

-- ---- a reply

delayed_not : (b d : Bool) (m : ℕ) → (if b then Delayed m else if d then Unbound else Never) ≢ Waits
delayed_not true d m e = absurd (cc)
delayed_not false true m e = absurd (cc)
delayed_not false false m e = absurd (cc)

pub sent_after_not : (m : ℕ) (o : Option Status) → sent_after m o ≢ Waits
sent_after_not m None e = absurd (cc)
sent_after_not m (Some s) e = delayed_not (is_delay s) (is_not_bound s) m e

size_passes : (s : Status) → is_size_refusal s ≡ true → not (is_delay s || is_not_bound s) ≡ true
size_passes s e = grind (arith, nat_tests, e)

refuses_passes : (o : Option Status) → status_refuses o ≡ true → status_passes o ≡ true
refuses_passes None e = absurd (true≢false (sym e))
refuses_passes (Some s) e = size_passes s e

-- a turn is given back only by a final reply
pub gives_final : (y : Reply) → gives_back y ≡ true → is_final y ≡ true
gives_final y e = refuses_passes (sequence_status y.body) e

pub used_kept : (t f g : Bool) (u : ℕ) → (t && f) ≡ false → (g ≡ true → f ≡ true) → (if t && g then u - 1 else u) ≡ u
used_kept true true g u e h = absurd (true≢false e)
used_kept true false true u e h = absurd (true≢false (sym (h refl)))
used_kept true false false u e h = refl
used_kept false f g u e h = refl

pub stays : (t f : Bool) (o : Option Request) (q : Request) → (if t && f then None else o) ≡ Some q → (t && f) ≡ false
stays true true o q e = absurd (cc)
stays true false o q e = refl
stays false f o q e = refl

took_on_said : (js : List Event) (c k : ℕ) (y : Reply) (r : Request) (p : SlotUse) → Seats js → Said js → TakesOn js y r p → Said (Took c k y ∷ js)
took_on_said js c k y r p t s a = record {
  below = s.below;
  dialed = s.dialed;
  carried = s.carried;
  out_message = λ n q e. s.out_message n q (took_outs js c k n y r q t (inr (p, a)) e);
  out_turn = λ n q z e g. turn_at n q z e (s.out_turn n q z (took_outs js c k n y r q t (inr (p, a)) e) g);
  waits_out = λ n e. out_at n (p.slot == n) refl e;
  waits_stands = λ n e. s.waits_stands n (sent_at n (p.slot == n) refl e);
  waits_few = λ n e. zero_few;
} where
  zero_few : 0 < round_limit
  zero_few = grind arith

  turn_at : (n : ℕ) (q : Request) (z : SlotUse) → out (Took c k y ∷ js) n ≡ Some q → (z.turn ≡ used js n) × (z.slot ≡ n) × (z.cache ≡ is_cached (class_of q.plan)) → (z.turn ≡ used (Took c k y ∷ js) n) × (z.slot ≡ n) × (z.cache ≡ is_cached (class_of q.plan))
  turn_at n q z e (g, i, j) =
      let d = stays (p.slot == n) (is_final y) (out js n) q (sym (took_out js c k n y r p t a) ∙ e) in
      let f = took_used js c k n y r p a ∙ used_kept (p.slot == n) (is_final y) (gives_back y) (used js n) d (gives_final y) in
      (g ∙ sym f, i, j)

  sent_at : (n : ℕ) (b : Bool) → (p.slot == n) ≡ b → sent (Took c k y ∷ js) n ≡ Waits → sent js n ≡ Waits
  sent_at n true f e = absurd (sent_after_not (moment js) (sequence_status y.body) (sym (ap (λ (z : Bool). if z then sent_after (moment js) (sequence_status y.body) else sent js n) f) ∙ (sym (took_sent js c k n y r p a) ∙ e)))
  sent_at n false f e = sym (ap (λ (z : Bool). if z then sent_after (moment js) (sequence_status y.body) else sent js n) f) ∙ (sym (took_sent js c k n y r p a) ∙ e)

  out_at : (n : ℕ) (b : Bool) → (p.slot == n) ≡ b → sent (Took c k y ∷ js) n ≡ Waits → out (Took c k y ∷ js) n ≢ None
  out_at n true f e = absurd (sent_after_not (moment js) (sequence_status y.body) (sym (ap (λ (z : Bool). if z then sent_after (moment js) (sequence_status y.body) else sent js n) f) ∙ (sym (took_sent js c k n y r p a) ∙ e)))
  out_at n false f e = λ g. s.waits_out n (sent_at n false f e) (sym (took_out js c k n y r p t a ∙ ap (λ (z : Bool). if z && is_final y then None else out js n) f) ∙ g)

took_bare_said : (u : Setup) (js : List Event) (c k : ℕ) (y : Reply) (r : Request) → Seats js → Single u js → Said js → TakesBare js y r → Said (Took c k y ∷ js)
took_bare_said u js c k y r t z s a = record {
  below = s.below;
  dialed = s.dialed;
  carried = s.carried;
  out_message = λ n q e. s.out_message n q (took_outs js c k n y r q t (inl a) e);
  out_turn = λ n q x e g. turn_at n q x e (s.out_turn n q x (took_outs js c k n y r q t (inl a) e) g);
  waits_out = λ n e. out_at n (sent_at n e) (made js y) refl;
  waits_stands = λ n e. s.waits_stands n (sent_at n e);
  waits_few = λ n e. zero_few;
} where
  zero_few : 0 < round_limit
  zero_few = grind arith

  sent_at : (n : ℕ) → sent (Took c k y ∷ js) n ≡ Waits → sent js n ≡ Waits
  sent_at n e = sym (bare_took_sent js c k n y r a) ∙ e

  turn_at : (n : ℕ) (q : Request) (x : SlotUse) → out (Took c k y ∷ js) n ≡ Some q → (x.turn ≡ used js n) × (x.slot ≡ n) × (x.cache ≡ is_cached (class_of q.plan)) → (x.turn ≡ used (Took c k y ∷ js) n) × (x.slot ≡ n) × (x.cache ≡ is_cached (class_of q.plan))
  turn_at n q x e (g, i, j) = (g ∙ sym (same_used (is_some (made js y)) (bare_took js c k n y r t a) (bare_took_used js c k n y r a)), i, j) where
    same_used : (b : Bool) → out (Took c k y ∷ js) n ≡ (if b then None else out js n) → used (Took c k y ∷ js) n ≡ (if b then 0 else used js n) → used (Took c k y ∷ js) n ≡ used js n
    same_used true f g = absurd (let h : None ≡ Some q = sym f ∙ e in cc)
    same_used false f g = g

  out_at : (n : ℕ) → sent js n ≡ Waits → (m : Option SessionMade) → made js y ≡ m → out (Took c k y ∷ js) n ≢ None
  out_at n e None d f = s.waits_out n e (sym (bare_took js c k n y r t a ∙ ap (λ (o : Option SessionMade). if is_some o then None else out js n) d) ∙ f)
  out_at n e (Some m) d f = s.waits_out n e (none_out u js n t z (made_first u js y r m z a d))

-- ---- all events

dialed_said : (js : List Event) (c : ℕ) → Said js → c ≡ suc (dials js) → Said (Dialed c ∷ js)
dialed_said js c s e = record {
  below = s.below;
  dialed = λ d f. grind (arith, f, e);
  carried = λ k r f. grind (arith, s.carried k r f);
  out_message = s.out_message;
  out_turn = s.out_turn;
  waits_out = λ n f. absurd (cc);
  waits_stands = λ n f. absurd (cc);
  waits_few = λ n f. absurd (cc);
}

step_said : (u : Setup) (js : List Event) (e : Event) → May u js e → Seats js → Known js → Single u js → Said js → Said (e ∷ js)
step_said u js (Began c n k m) h t v z s = record { below = s.below; dialed = s.dialed; carried = s.carried; out_message = s.out_message; out_turn = s.out_turn; waits_out = s.waits_out; waits_stands = s.waits_stands; waits_few = s.waits_few }
step_said u js (Put c p r) h t v z s = put_said u js c p r t s h.1.stands (put_of u js h.0 r h.1.is_due)
step_said u js (Took c p y) h t v z s = by (takes_is js c p y h.0 t v h.1) where
  by : TakesIs js y h.0 → Said (Took c p y ∷ js)
  by (inl a) = took_bare_said u js c p y h.0 t z s a
  by (inr (q, a)) = took_on_said js c p y h.0 q t s a
step_said u js (CbTook c p x) h t v z s = absurd h
step_said u js (CbPut c p x) h t v z s = absurd h
step_said u js (Dialed c) h t v z s = dialed_said js c s h.1
step_said u js DialFailed h t v z s = record { below = s.below; dialed = s.dialed; carried = s.carried; out_message = s.out_message; out_turn = s.out_turn; waits_out = s.waits_out; waits_stands = s.waits_stands; waits_few = λ n e. absurd (s.waits_stands n e h) }
step_said u js (Broke c w) h t v z s = record { below = s.below; dialed = λ d f. absurd (cc); carried = s.carried; out_message = s.out_message; out_turn = s.out_turn; waits_out = λ n f. absurd (cc); waits_stands = λ n f. absurd (cc); waits_few = λ n f. absurd (cc) }
step_said u js (Ticked m) h t v z s = record { below = s.below; dialed = s.dialed; carried = s.carried; out_message = s.out_message; out_turn = s.out_turn; waits_out = s.waits_out; waits_stands = s.waits_stands; waits_few = s.waits_few }
step_said u js (Answered c n a) h t v z s = record { below = s.below; dialed = s.dialed; carried = s.carried; out_message = s.out_message; out_turn = s.out_turn; waits_out = s.waits_out; waits_stands = s.waits_stands; waits_few = s.waits_few }
step_said u js Quit h t v z s = record { below = s.below; dialed = s.dialed; carried = s.carried; out_message = s.out_message; out_turn = s.out_turn; waits_out = s.waits_out; waits_stands = s.waits_stands; waits_few = s.waits_few }

none_said : Said []
none_said = record {
  below = λ k r e. absurd (cc);
  dialed = λ c e. absurd (cc);
  carried = λ k r e. absurd (cc);
  out_message = λ n r e. absurd (cc);
  out_turn = λ n r p e f. absurd (cc);
  waits_out = λ n e. absurd (cc);
  waits_stands = λ n e. absurd (cc);
  waits_few = λ n e. absurd (cc);
}

pub said : (u : Setup) (js : List Event) → Kept u js → Said js
said u [] k = none_said
said u (e ∷ js) k = step_said u js e k.1 (seats u js k.0) (known u js k.0) (single u js k.0) (said u js k.0)
