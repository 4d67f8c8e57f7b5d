-- What is under way on the connection that stands.
use Rattle.std.proofs.Common.{◌≡◌, ◌≢◌, ◌⊎◌, inl, inr, ℕ, ◌<◌, ◌==◌, Bool, true, false, ◌&&◌, List, [], ◌∷◌, Option, Some, None, if◌then◌else◌, refl, sym, ◌∙◌, ap, subst, arith, true≢false}
use Rattle.std.proofs.lemmas.Bool.Decides.{nat_tests}
use Rattle.std.specs.Prelude.{is_some}
use Rattle.n41_types.specs.declared.plans.Plan.{Plan}
use Rattle.n41_types.specs.declared.plans.Plan.TheVariants as plan
use Rattle.n41_types.specs.declared.plans.Request.{Request}
use Rattle.n41_types.specs.declared.plans.SlotUse.{SlotUse}
use Rattle.n41_types.specs.declared.statuses.Status.{Status}
use Rattle.n41_results.specs.declared.replies.Reply.{Reply}
use Rattle.n41_results.specs.declared.results.Res.{Res}
use Rattle.n41_results.specs.declared.sessions.Bound.{Bound}
use Rattle.n41_results.specs.declared.sessions.Identity.{Identity}
use Rattle.n41_results.specs.declared.sessions.Sequenced.{Sequenced}
use Rattle.n41_results.specs.declared.sessions.SessionMade.{SessionMade}
use Rattle.n41_journal.specs.declared.events.Event.{Event}
use Rattle.n41_journal.specs.declared.events.Event.TheVariants.{Began, Put, Took, CbTook, CbPut, Dialed, DialFailed, Broke, Ticked, Answered, Quit}
use Rattle.n41_model.specs.declared.words.Sent.TheVariants.{Waits}
use Rattle.n41_model.specs.declared.words.Setup.{Setup}
use Rattle.n41_calls.specs.Kept.{Kept, May}
use Rattle.n41_model.specs.Replies.{is_final, sequence_status}
use Rattle.n41_model.specs.Requests.{request, bares, bare, bare_waits, outs, out, sent, made, is_bare, is_bare_use, is_on, standing, first, sent_after, moment}
use Rattle.n41_calls.proofs.Slots.{Seats, seats}
use Rattle.n41_view.proofs.Fresh.{Placed, put_placed}
use Rattle.n41_view.proofs.Found.{no_use, not_bare}
use Rattle.n41_view.proofs.Known.{Known, known, put_out_bare}
use Rattle.n41_view.proofs.Lists.{first_bare, one_bare, without_is}
use Rattle.n41_moves.proofs.Moves.{PutsAgain, puts_again, puts_new, again_out, new_out, bare_outs, bare_on_none, TakesOn, TakesBare, TakesIs, takes_is, took_out, took_sent, bare_took, bare_took_sent}
use Rattle.n41_moves.proofs.Puts.{PutIs, put_of}
use Rattle.n41_moves.proofs.Said.{Said, said, last_put, made_first, none_out}
use Rattle.n41_moves.proofs.Single.{Single, single}
use Rattle.n41_runs.specs.Rules.{IsNoReply, Sizes, Allowed, LegalBy, Pending, MayBeTaken, MayRepeat, MayMakeAgain}
use Rattle.n41_runs.specs.declared.steps.Step.{Step}
use Rattle.n41_runs.specs.declared.steps.Step.TheVariants.{Does, Takes, Runs, Repeats, Refuses, Names, Makes, Binds, Ends}
use Rattle.n41_runs.specs.Steps.{client, message, messages, carrier, fate, taken, ran_reply, refusal, named_reply, made_reply, bound_reply, ended_reply}

-- the last message that was put without a slot
abbrev pub last_bare : List Event → ℕ
last_bare [] = 0
last_bare (Put c p r ∷ js) = if is_bare r then messages js else last_bare js
last_bare (e ∷ js) = last_bare js

-- what a message that is under way belongs to
pub record OnSlot (js : List Event) (k : ℕ) (r : Request) (p : SlotUse) : Type 0 where
  pub is_out : out js p.slot ≡ Some r
  pub waits : sent js p.slot ≡ Waits
  pub last : last_put js p.slot ≡ k

pub record Alone (js : List Event) (k : ℕ) (r : Request) : Type 0 where
  pub is_out : bare js ≡ Some r
  pub waits : bare_waits js ≡ true
  pub last : last_bare js ≡ k

pub record Net (w : List Step) : Type 0 where
  pub below : (k : ℕ) → fate w k ≢ None → k < messages (client w)
  pub xid : (k : ℕ) (r : Request) (y : Reply) → message (client w) k ≡ Some r → fate w k ≡ Some y → y.xid ≡ r.xid
  pub taken_below : (k : ℕ) → taken w k ≡ true → k < messages (client w)
  pub on : (k : ℕ) (r : Request) (p : SlotUse) → message (client w) k ≡ Some r → r.slot ≡ Some p → standing (client w) ≡ Some (carrier (client w) k) → taken w k ≡ false → OnSlot (client w) k r p
  pub lone : (k : ℕ) (r : Request) → message (client w) k ≡ Some r → r.slot ≡ None → standing (client w) ≡ Some (carrier (client w) k) → taken w k ≡ false → Alone (client w) k r

-- ---- messages

pub known_message : (js : List Event) (k : ℕ) → k < messages js → message js k ≢ None
known_message [] k l = absurd (omega arith)
known_message (Put c p r ∷ js) k l = at (messages js == k) refl (known_message js k) where
  at : (t : Bool) → (messages js == k) ≡ t → (k < messages js → message js k ≢ None) → message (Put c p r ∷ js) k ≢ None
  at true e f g = absurd (let h : Some r ≡ None = (rw e at g) in cc)
  at false e f g = f (grind (arith, nat_tests, e, l)) (rw e at g)
known_message (Began c n q t ∷ js) k l = known_message js k l
known_message (Took c p y ∷ js) k l = known_message js k l
known_message (CbTook c p y ∷ js) k l = known_message js k l
known_message (CbPut c p y ∷ js) k l = known_message js k l
known_message (Dialed c ∷ js) k l = known_message js k l
known_message (DialFailed ∷ js) k l = known_message js k l
known_message (Broke c w ∷ js) k l = known_message js k l
known_message (Ticked t ∷ js) k l = known_message js k l
known_message (Answered c n a ∷ js) k l = known_message js k l
known_message (Quit ∷ js) k l = known_message js k l

-- ---- what the server answers

-- the step answers message j by y, and does nothing else to the net
pub record Serves (w : List Step) (st : Step) (j : ℕ) (r : Request) (y : Reply) : Type 0 where
  pub pending : Pending w j r
  pub here : y.xid ≡ r.xid
  pub same : client (st ∷ w) ≡ client w
  pub takes : (k : ℕ) → taken (st ∷ w) k ≡ taken w k
  pub fates : (k : ℕ) → fate (st ∷ w) k ≡ (if j == k then Some y else fate w k)

served_net : (w : List Step) (st : Step) (j : ℕ) (r : Request) (y : Reply) → Said (client w) → Net w → Serves w st j r y → Net (st ∷ w)
served_net w st j r y i n s = record {
  below = λ k e. let d = s.same in let l = i.below j r s.pending.put in rw d (grind (arith, nat_tests, s.fates k, n.below k, l, e));
  xid = λ k q z e f. let d = s.same in (let g : message (client w) k ≡ Some q = (rw d at e) in xid_at k q z g (s.fates k) f);
  taken_below = λ k e. let d = s.same in rw d (n.taken_below k (sym (s.takes k) ∙ e));
  on = λ k q p e f g h. let d = s.same in rw d (n.on k q p (rw d at e) f (rw d at g) (sym (s.takes k) ∙ h));
  lone = λ k q e f g h. let d = s.same in rw d (n.lone k q (rw d at e) f (rw d at g) (sym (s.takes k) ∙ h));
} where
  xid_at : (k : ℕ) (q : Request) (z : Reply) → message (client w) k ≡ Some q → fate (st ∷ w) k ≡ (if j == k then Some y else fate w k) → fate (st ∷ w) k ≡ Some z → z.xid ≡ q.xid
  xid_at k q z e f g = grind (arith, nat_tests, e, f, g, s.pending.put, s.here, n.xid k q z)

-- the answers that are repeated have the xid of the request
repeats_xid : (sizes : Sizes) (w : List Step) (k : ℕ) (r : Request) (y : Reply) → Allowed sizes w (Repeats k r y) → y.xid ≡ r.xid
repeats_xid sizes w k r y a = by a.1 where
  makes_xid : (q : Plan) → MayMakeAgain w r q y → y.xid ≡ r.xid
  makes_xid (plan.CreateSession c n) (m, h) = ap (λ (z : Reply). z.xid) h.answer
  makes_xid q h = absurd h

  by : ((u : SlotUse) × MayRepeat sizes w r u y) ⊎ ((r.slot ≡ None) × MayMakeAgain w r r.plan y) → y.xid ≡ r.xid
  by (inl (u, h)) = h.xid
  by (inr (n, h)) = makes_xid r.plan h

pub runs_serves : (sizes : Sizes) (w : List Step) (k : ℕ) (r : Request) (q : Sequenced) (xs : List Res) → Allowed sizes w (Runs k r q xs) → Serves w (Runs k r q xs) k r (ran_reply r q xs)
runs_serves sizes w k r q xs a = record { pending = a.0; here = refl; same = refl; takes = λ j. refl; fates = λ j. refl }

pub repeats_serves : (sizes : Sizes) (w : List Step) (k : ℕ) (r : Request) (y : Reply) → Allowed sizes w (Repeats k r y) → Serves w (Repeats k r y) k r y
repeats_serves sizes w k r y a = record { pending = a.0; here = repeats_xid sizes w k r y a; same = refl; takes = λ j. refl; fates = λ j. refl }

pub refuses_serves : (sizes : Sizes) (w : List Step) (k : ℕ) (r : Request) (s : Status) → Allowed sizes w (Refuses k r s) → Serves w (Refuses k r s) k r (refusal r s)
refuses_serves sizes w k r s a = record { pending = a.0; here = refl; same = refl; takes = λ j. refl; fates = λ j. refl }

pub names_serves : (sizes : Sizes) (w : List Step) (k : ℕ) (r : Request) (i : Identity) → Allowed sizes w (Names k r i) → Serves w (Names k r i) k r (named_reply r i)
names_serves sizes w k r i a = record { pending = a.0; here = refl; same = refl; takes = λ j. refl; fates = λ j. refl }

pub makes_serves : (sizes : Sizes) (w : List Step) (k : ℕ) (r : Request) (m : SessionMade) → Allowed sizes w (Makes k r m) → Serves w (Makes k r m) k r (made_reply r m)
makes_serves sizes w k r m a = record { pending = a.0; here = refl; same = refl; takes = λ j. refl; fates = λ j. refl }

pub binds_serves : (sizes : Sizes) (w : List Step) (k : ℕ) (r : Request) (b : Bound) → Allowed sizes w (Binds k r b) → Serves w (Binds k r b) k r (bound_reply r b)
binds_serves sizes w k r b a = record { pending = a.0; here = refl; same = refl; takes = λ j. refl; fates = λ j. refl }

pub ends_serves : (sizes : Sizes) (w : List Step) (k : ℕ) (r : Request) → Allowed sizes w (Ends k r) → Serves w (Ends k r) k r (ended_reply r)
ends_serves sizes w k r a = record { pending = a.0; here = refl; same = refl; takes = λ j. refl; fates = λ j. refl }

-- ---- a Put

pub put_fresh : (w : List Step) (c p : ℕ) (r : Request) → Net w → fate w (messages (client w)) ≡ None
put_fresh w c p r n = at (fate w (messages (client w))) refl where
  at : (o : Option Reply) → fate w (messages (client w)) ≡ o → fate w (messages (client w)) ≡ None
  at None e = e
  at (Some y) e = absurd (let h = n.below (messages (client w)) (λ f. (let g : Some y ≡ None = sym e ∙ f in absurd (cc))) in omega arith)

-- the message is the one that was put, or another one that was put before
pub put_message : (js : List Event) (c p k : ℕ) (r q : Request) → message (Put c p r ∷ js) k ≡ Some q → ((messages js ≡ k) × (r ≡ q)) ⊎ ((message js k ≡ Some q) × (carrier (Put c p r ∷ js) k ≡ carrier js k))
put_message js c p k r q e = at (messages js == k) refl where
  at : (t : Bool) → (messages js == k) ≡ t → ((messages js ≡ k) × (r ≡ q)) ⊎ ((message js k ≡ Some q) × (carrier (Put c p r ∷ js) k ≡ carrier js k))
  at true f = inl (grind (arith, nat_tests, f), let g : Some r ≡ Some q = (rw f at e) in cc)
  at false f = inr ((rw f at e), rw f refl)

-- a Put on a slot leaves what is under way
record Leaves (js es : List Event) (r : Request) : Type 0 where
  on : (k : ℕ) (q : Request) (p : SlotUse) → q.slot ≡ Some p → OnSlot js k q p → OnSlot es k q p
  lone : (k : ℕ) (q : Request) → Alone js k q → Alone es k q
  new_on : (p : SlotUse) → r.slot ≡ Some p → OnSlot es (messages js) r p
  new_lone : r.slot ≡ None → Alone es (messages js) r

put_net : (w : List Step) (c p : ℕ) (r : Request) → Net w → standing (client w) ≡ Some c → Leaves (client w) (Put c p r ∷ client w) r → Net (Does (Put c p r) ∷ w)
put_net w c p r n h l = record {
  below = λ k e. let d = n.below k e in omega arith;
  xid = λ k q y e f. xid_by k q y f (put_message (client w) c p k r q e);
  taken_below = λ k e. let d = n.taken_below k e in omega arith;
  on = λ k q a e f g t. on_by k q a f g t (put_message (client w) c p k r q e);
  lone = λ k q e f g t. lone_by k q f g t (put_message (client w) c p k r q e);
} where
  xid_by : (k : ℕ) (q : Request) (y : Reply) → fate w k ≡ Some y → ((messages (client w) ≡ k) × (r ≡ q)) ⊎ ((message (client w) k ≡ Some q) × (carrier (Put c p r ∷ client w) k ≡ carrier (client w) k)) → y.xid ≡ q.xid
  xid_by k q y f (inl (e, g)) = absurd (let i : None ≡ Some y = sym (put_fresh w c p r n) ∙ (ap (λ (z : ℕ). fate w z) e ∙ f) in cc)
  xid_by k q y f (inr (e, g)) = n.xid k q y e f

  on_by : (k : ℕ) (q : Request) (a : SlotUse) → q.slot ≡ Some a → standing (client w) ≡ Some (carrier (Put c p r ∷ client w) k) → taken w k ≡ false → ((messages (client w) ≡ k) × (r ≡ q)) ⊎ ((message (client w) k ≡ Some q) × (carrier (Put c p r ∷ client w) k ≡ carrier (client w) k)) → OnSlot (Put c p r ∷ client w) k q a
  on_by k q a f g t (inl (e, i)) = subst (λ (z : Request). OnSlot (Put c p r ∷ client w) k z a) i (subst (λ (z : ℕ). OnSlot (Put c p r ∷ client w) z r a) e (l.new_on a (ap (λ (z : Request). z.slot) i ∙ f)))
  on_by k q a f g t (inr (e, i)) = l.on k q a f (n.on k q a e f (g ∙ ap (λ (z : ℕ). Some z) i) t)

  lone_by : (k : ℕ) (q : Request) → q.slot ≡ None → standing (client w) ≡ Some (carrier (Put c p r ∷ client w) k) → taken w k ≡ false → ((messages (client w) ≡ k) × (r ≡ q)) ⊎ ((message (client w) k ≡ Some q) × (carrier (Put c p r ∷ client w) k ≡ carrier (client w) k)) → Alone (Put c p r ∷ client w) k q
  lone_by k q f g t (inl (e, i)) = subst (λ (z : Request). Alone (Put c p r ∷ client w) k z) i (subst (λ (z : ℕ). Alone (Put c p r ∷ client w) z r) e (l.new_lone (ap (λ (z : Request). z.slot) i ∙ f)))
  lone_by k q f g t (inr (e, i)) = l.lone k q (n.lone k q e f (g ∙ ap (λ (z : ℕ). Some z) i) t)

-- on a slot: whatever waits there does not go again
on_leaves : (js : List Event) (c k : ℕ) (r : Request) (p : SlotUse) → r.slot ≡ Some p → ((n : ℕ) → is_on r n ≡ (p.slot == n)) → ((n : ℕ) → out (Put c k r ∷ js) n ≡ (if p.slot == n then Some r else out js n)) → ((sent js p.slot ≢ Waits) ⊎ (out js p.slot ≡ None)) → Leaves js (Put c k r ∷ js) r
on_leaves js c k r p e on outs quiet = record {
  on = λ m q a f s. on_at m q a s (p.slot == a.slot) refl;
  lone = λ m q s. let b : is_bare r ≡ false = ap (λ (o : Option SlotUse). is_bare_use o) e in record { is_out = rw b s.is_out; waits = rw b s.waits; last = rw b s.last };
  new_on = λ a f. new_at a (let g : Some p ≡ Some a = sym e ∙ f in cc);
  new_lone = λ f. absurd (let g : Some p ≡ None = sym e ∙ f in cc);
} where
  quiet_not : (m : ℕ) (q : Request) (a : SlotUse) → p.slot ≡ a.slot → OnSlot js m q a → (sent js p.slot ≢ Waits) ⊎ (out js p.slot ≡ None) → ⊥
  quiet_not m q a d s (inl f) = f (subst (λ (i : ℕ). sent js i ≡ Waits) (sym d) s.waits)
  quiet_not m q a d s (inr f) = let g : Some q ≡ None = sym s.is_out ∙ subst (λ (i : ℕ). out js i ≡ None) d f in absurd (cc)

  on_at : (m : ℕ) (q : Request) (a : SlotUse) → OnSlot js m q a → (t : Bool) → (p.slot == a.slot) ≡ t → OnSlot (Put c k r ∷ js) m q a
  on_at m q a s true f = absurd (quiet_not m q a (grind (arith, nat_tests, f)) s quiet)
  on_at m q a s false f =
      let i = on a.slot ∙ f in
      record { is_out = outs a.slot ∙ (ap (λ (z : Bool). if z then Some r else out js a.slot) f ∙ s.is_out); waits = rw i s.waits; last = rw i s.last }

  here : (p.slot == p.slot) ≡ true
  here = grind (arith, nat_tests)

  new_here : OnSlot (Put c k r ∷ js) (messages js) r p
  new_here = let i = on p.slot ∙ here in record { is_out = outs p.slot ∙ ap (λ (z : Bool). if z then Some r else out js p.slot) here; waits = rw i refl; last = rw i refl }

  new_at : (a : SlotUse) → p ≡ a → OnSlot (Put c k r ∷ js) (messages js) r a
  new_at a d = subst (λ (z : SlotUse). OnSlot (Put c k r ∷ js) (messages js) r z) d new_here

-- without one: whatever waits there does not go again
bare_leaves : (js : List Event) (c k : ℕ) (r : Request) → r.slot ≡ None → bare (Put c k r ∷ js) ≡ Some r → ((bare_waits js ≡ false) ⊎ (bare js ≡ None)) → Leaves js (Put c k r ∷ js) r
bare_leaves js c k r e out_is quiet = record {
  on = λ m q a f s. let i = bare_on_none r e a.slot in record { is_out = ap (λ (l : List Request). first l) (bare_outs js c k a.slot r e) ∙ s.is_out; waits = rw i s.waits; last = rw i s.last };
  lone = λ m q s. absurd (quiet_not m q s quiet);
  new_on = λ a f. absurd (let g : None ≡ Some a = sym e ∙ f in cc);
  new_lone = λ f. let b : is_bare r ≡ true = ap (λ (o : Option SlotUse). is_bare_use o) e in record { is_out = out_is; waits = rw b refl; last = rw b refl };
} where
  quiet_not : (m : ℕ) (q : Request) → Alone js m q → (bare_waits js ≡ false) ⊎ (bare js ≡ None) → ⊥
  quiet_not m q s (inl f) = true≢false (sym s.waits ∙ f)
  quiet_not m q s (inr f) = let g : Some q ≡ None = sym s.is_out ∙ f in absurd (cc)

leaves : (u : Setup) (js : List Event) (c k : ℕ) (r : Request) → Seats js → Known js → Placed js r → PutIs u js r → Leaves js (Put c k r ∷ js) r
leaves u js c k r t v l (inl a) =
    let b = first_bare (bares js) r t.lone a.is_out in
    bare_leaves js c k r (no_use r.slot b) (put_out_bare js c k r t v l b) (inl a.quiet)
leaves u js c k r t v l (inr (inl a)) = let q = puts_again js r t a in on_leaves js c k r q.0 q.1.placed q.1.on (λ n. outs_at q.0 q.1 n (q.0.slot == n) refl) (inl q.1.quiet) where
  outs_at : (p : SlotUse) → PutsAgain js r p → (n : ℕ) (t : Bool) → (p.slot == n) ≡ t → out (Put c k r ∷ js) n ≡ (if t then Some r else out js n)
  outs_at p s n true e = let d : p.slot ≡ n = grind (arith, nat_tests, e) in again_out js c k n r p s ∙ subst (λ (i : ℕ). out js i ≡ Some r) d s.is_out
  outs_at p s n false e = again_out js c k n r p s
leaves u js c k r t v l (inr (inr (inl a))) =
    let b : is_bare r ≡ true = ap (λ (o : Option SlotUse). is_bare_use o) a.no_slot in
    bare_leaves js c k r a.no_slot (put_out_bare js c k r t v l b) (inr (ap (λ (z : List Request). first z) a.alone))
leaves u js c k r t v l (inr (inr (inr a))) = let b = puts_new u js r t a in on_leaves js c k r a.place a.placed b.on (λ n. new_out js c k n r a.place b) (inr b.free)

-- ---- a reply

-- the answer to message k is the reply to what waits there
abbrev pub TakenIs : List Event → ℕ → Reply → Request → Type 0
TakenIs js k y r = (TakesBare js y r × (message js k ≡ Some r) × (last_bare js ≡ k)) ⊎ ((p : SlotUse) × TakesOn js y r p × (message js k ≡ Some r) × (last_put js p.slot ≡ k))

same_found : (js : List Event) (x : ℕ) (r q : Request) → request js x ≡ Some r → request js q.xid ≡ Some q → x ≡ q.xid → q ≡ r
same_found js x r q e f g = let h : request js x ≡ Some q = subst (λ (z : ℕ). request js z ≡ Some q) (sym g) f in cc

slot_not_none : (q : Request) (p : SlotUse) → q.slot ≡ Some p → q.slot ≡ None → ⊥
slot_not_none q p e f = absurd (let g : Some p ≡ None = sym e ∙ f in cc)

taken_at : (w : List Step) (k c : ℕ) (y : Reply) (r q : Request) → Known (client w) → Net w → MayBeTaken w k c y → TakesIs (client w) y r → message (client w) k ≡ Some q → (o : Option SlotUse) → q.slot ≡ o → TakenIs (client w) k y r
taken_at w k c y r q v n a (inl b) e None f =
    let s = n.lone k q e f (a.stands ∙ ap (λ (z : ℕ). Some z) (sym a.here)) a.new in
    let d = same_found (client w) y.xid r q b.found (v.lone q s.is_out) (n.xid k q y e a.made) in
    inl (b, ap (λ (z : Option Request). z) e ∙ ap (λ (z : Request). Some z) d, s.last)
taken_at w k c y r q v n a (inl b) e (Some p) f =
    let s = n.on k q p e f (a.stands ∙ ap (λ (z : ℕ). Some z) (sym a.here)) a.new in
    let d = same_found (client w) y.xid r q b.found (v.on p.slot q s.is_out) (n.xid k q y e a.made) in
    absurd (slot_not_none r p (subst (λ (z : Request). z.slot ≡ Some p) d f) b.no_slot)
taken_at w k c y r q v n a (inr (p, b)) e None f =
    let s = n.lone k q e f (a.stands ∙ ap (λ (z : ℕ). Some z) (sym a.here)) a.new in
    let d = same_found (client w) y.xid r q b.found (v.lone q s.is_out) (n.xid k q y e a.made) in
    absurd (slot_not_none r p b.placed (subst (λ (z : Request). z.slot ≡ None) d f))
taken_at w k c y r q v n a (inr (p, b)) e (Some g) f =
    let s = n.on k q g e f (a.stands ∙ ap (λ (z : ℕ). Some z) (sym a.here)) a.new in
    let d = same_found (client w) y.xid r q b.found (v.on g.slot q s.is_out) (n.xid k q y e a.made) in
    let i : p ≡ g = (let j : Some p ≡ Some g = sym b.placed ∙ subst (λ (z : Request). z.slot ≡ Some g) d f in cc) in
    inr (p, b, e ∙ ap (λ (z : Request). Some z) d, ap (λ (z : SlotUse). last_put (client w) z.slot) i ∙ s.last)

taken_some : (w : List Step) (k c : ℕ) (y : Reply) (r : Request) → Known (client w) → Net w → MayBeTaken w k c y → TakesIs (client w) y r → (o : Option Request) → message (client w) k ≡ o → TakenIs (client w) k y r
taken_some w k c y r v n a b None e = absurd (known_message (client w) k (n.below k (λ f. (let g : Some y ≡ None = sym a.made ∙ f in absurd (cc)))) e)
taken_some w k c y r v n a b (Some q) e = taken_at w k c y r q v n a b e q.slot refl

pub taken_is : (w : List Step) (k c : ℕ) (y : Reply) (r : Request) → Known (client w) → Net w → MayBeTaken w k c y → TakesIs (client w) y r → TakenIs (client w) k y r
taken_is w k c y r v n a b = taken_some w k c y r v n a b (message (client w) k) refl

not_taken : (w : List Step) (k c p j : ℕ) (y : Reply) → taken (Takes k c p y ∷ w) j ≡ false → (k ≢ j) × (taken w j ≡ false)
not_taken w k c p j y e = at (k == j) refl where
  at : (t : Bool) → (k == j) ≡ t → (k ≢ j) × (taken w j ≡ false)
  at true f = absurd (true≢false (rw f at e))
  at false f = ((λ g. absurd (grind (arith, nat_tests, f, g))), (rw f at e))

-- what a reply leaves under way
on_stays : (js : List Event) (c k i : ℕ) (y : Reply) (r : Request) (p : SlotUse) (j : ℕ) (q : Request) (a : SlotUse) → Seats js → TakesOn js y r p → last_put js p.slot ≡ i → i ≢ j → OnSlot js j q a → OnSlot (Took c k y ∷ js) j q a
on_stays js c k i y r p j q a t b l d s = at (p.slot == a.slot) refl where
  at : (z : Bool) → (p.slot == a.slot) ≡ z → OnSlot (Took c k y ∷ js) j q a
  at true f = let e : p.slot ≡ a.slot = grind (arith, nat_tests, f) in absurd (d (sym l ∙ (ap (λ (n : ℕ). last_put js n) e ∙ s.last)))
  at false f = record {
    is_out = took_out js c k a.slot y r p t b ∙ (ap (λ (z : Bool). if z && is_final y then None else out js a.slot) f ∙ s.is_out);
    waits = took_sent js c k a.slot y r p b ∙ (ap (λ (z : Bool). if z then sent_after (moment js) (sequence_status y.body) else sent js a.slot) f ∙ s.waits);
    last = s.last;
  }

on_stays_bare : (u : Setup) (js : List Event) (c k : ℕ) (y : Reply) (r : Request) (j : ℕ) (q : Request) (a : SlotUse) → Seats js → Single u js → TakesBare js y r → OnSlot js j q a → OnSlot (Took c k y ∷ js) j q a
on_stays_bare u js c k y r j q a t z b s = record { is_out = bare_took js c k a.slot y r t b ∙ out_at (made js y) refl; waits = bare_took_sent js c k a.slot y r b ∙ s.waits; last = s.last } where
  out_at : (m : Option SessionMade) → made js y ≡ m → (if is_some m then None else out js a.slot) ≡ Some q
  out_at None e = s.is_out
  out_at (Some m) e = absurd (let g : Some q ≡ None = sym s.is_out ∙ none_out u js a.slot t z (made_first u js y r m z b e) in cc)

lone_stays : (js : List Event) (c k : ℕ) (y : Reply) (r : Request) (p : SlotUse) (j : ℕ) (q : Request) → Seats js → Known js → TakesOn js y r p → Alone js j q → Alone (Took c k y ∷ js) j q
lone_stays js c k y r p j q t v b s = record {
  is_out = without_is (bares js) y.xid (one_bare (bares js) t.lone) ∙ (ap (λ (z : Bool). if z then None else bare js) (not_bare js y.xid r p t v b.found b.placed (bare js) refl) ∙ s.is_out);
  waits = s.waits;
  last = s.last;
}

takes_net : (u : Setup) (w : List Step) (k c p : ℕ) (y : Reply) (r : Request) → Seats (client w) → Known (client w) → Single u (client w) → Net w → MayBeTaken w k c y → TakenIs (client w) k y r → Net (Takes k c p y ∷ w)
takes_net u w k c p y r t v z n a b = record {
  below = n.below;
  xid = n.xid;
  taken_below = λ j e. taken_at_below j e;
  on = λ j q g e f h i. let d = not_taken w k c p j y i in on_by j q g d.0 (n.on j q g e f h d.1) b;
  lone = λ j q e f h i. let d = not_taken w k c p j y i in lone_by j q d.0 (n.lone j q e f h d.1) b;
} where
  taken_at_below : (j : ℕ) → taken (Takes k c p y ∷ w) j ≡ true → j < messages (client w)
  taken_at_below j e = at (k == j) refl where
    at : (s : Bool) → (k == j) ≡ s → j < messages (client w)
    at true f = let d : k ≡ j = grind (arith, nat_tests, f) in subst (λ (i : ℕ). i < messages (client w)) d (n.below k (λ g. (let h : Some y ≡ None = sym a.made ∙ g in absurd (cc))))
    at false f = n.taken_below j (rw f at e)

  on_by : (j : ℕ) (q : Request) (g : SlotUse) → k ≢ j → OnSlot (client w) j q g → TakenIs (client w) k y r → OnSlot (Took c p y ∷ client w) j q g
  on_by j q g d s (inl (x, e, l)) = on_stays_bare u (client w) c p y r j q g t z x s
  on_by j q g d s (inr (f, x, e, l)) = on_stays (client w) c p k y r f j q g t x l d s

  lone_by : (j : ℕ) (q : Request) → k ≢ j → Alone (client w) j q → TakenIs (client w) k y r → Alone (Took c p y ∷ client w) j q
  lone_by j q d s (inl (x, e, l)) = absurd (d (sym l ∙ s.last))
  lone_by j q d s (inr (f, x, e, l)) = lone_stays (client w) c p y r f j q t v x s

-- ---- all steps

does_net : (u : Setup) (w : List Step) (e : Event) → Seats (client w) → Known (client w) → Said (client w) → Net w → May u (client w) e → IsNoReply e → Net (Does e ∷ w)
does_net u w (Began c n k m) t v i x h l = record { below = x.below; xid = x.xid; taken_below = x.taken_below; on = λ k r p e f g d. assumption (x.on k r p e f g d); lone = λ k r e f g d. assumption (x.lone k r e f g d) }
does_net u w (Put c p r) t v i x h l = put_net w c p r x h.1.stands (leaves u (client w) c p r t v (put_placed u (client w) h.0 r h.1.is_due) (put_of u (client w) h.0 r h.1.is_due).form)
does_net u w (Took c p y) t v i x h l = absurd l
does_net u w (CbTook c p y) t v i x h l = absurd l
does_net u w (CbPut c p y) t v i x h l = absurd h
does_net u w (Dialed c) t v i x h l = record {
  below = x.below;
  xid = x.xid;
  taken_below = x.taken_below;
  on = λ k r p e f g d. absurd (let b = i.carried k r e in let o : c ≡ carrier (client w) k = (let z : Some c ≡ Some (carrier (client w) k) = g in cc) in let q = h.1 in omega arith);
  lone = λ k r e f g d. absurd (let b = i.carried k r e in let o : c ≡ carrier (client w) k = (let z : Some c ≡ Some (carrier (client w) k) = g in cc) in let q = h.1 in omega arith);
}
does_net u w DialFailed t v i x h l = record { below = x.below; xid = x.xid; taken_below = x.taken_below; on = λ k r p e f g d. assumption (x.on k r p e f g d); lone = λ k r e f g d. assumption (x.lone k r e f g d) }
does_net u w (Broke c b) t v i x h l = record { below = x.below; xid = x.xid; taken_below = x.taken_below; on = λ k r p e f g d. absurd (cc); lone = λ k r e f g d. absurd (cc) }
does_net u w (Ticked m) t v i x h l = record { below = x.below; xid = x.xid; taken_below = x.taken_below; on = λ k r p e f g d. assumption (x.on k r p e f g d); lone = λ k r e f g d. assumption (x.lone k r e f g d) }
does_net u w (Answered c n a) t v i x h l = record { below = x.below; xid = x.xid; taken_below = x.taken_below; on = λ k r p e f g d. assumption (x.on k r p e f g d); lone = λ k r e f g d. assumption (x.lone k r e f g d) }
does_net u w Quit t v i x h l = record { below = x.below; xid = x.xid; taken_below = x.taken_below; on = λ k r p e f g d. assumption (x.on k r p e f g d); lone = λ k r e f g d. assumption (x.lone k r e f g d) }

none_net : Net []
none_net = record { below = λ k e. absurd (e refl); xid = λ k r y e f. absurd (cc); taken_below = λ k e. absurd (cc); on = λ k r p e f g h. absurd (cc); lone = λ k r e f g h. absurd (cc) }

pub net : (u : Setup) (sizes : Sizes) (w : List Step) → LegalBy sizes w → Kept u (client w) → Net w
net u sizes [] l k = none_net
net u sizes (Does e ∷ w) l k = does_net u w e (seats u (client w) k.0) (known u (client w) k.0) (said u (client w) k.0) (net u sizes w l.0 k.0) k.1 l.1
net u sizes (Takes j c p y ∷ w) l k =
    let t = seats u (client w) k.0 in
    let v = known u (client w) k.0 in
    let n = net u sizes w l.0 k.0 in
    takes_net u w j c p y k.1.0 t v (single u (client w) k.0) n l.1 (taken_is w j c y k.1.0 v n l.1 (takes_is (client w) c p y k.1.0 t v k.1.1))
net u sizes (Runs j r q xs ∷ w) l k = served_net w (Runs j r q xs) j r (ran_reply r q xs) (said u (client w) k) (net u sizes w l.0 k) (runs_serves sizes w j r q xs l.1)
net u sizes (Repeats j r y ∷ w) l k = served_net w (Repeats j r y) j r y (said u (client w) k) (net u sizes w l.0 k) (repeats_serves sizes w j r y l.1)
net u sizes (Refuses j r s ∷ w) l k = served_net w (Refuses j r s) j r (refusal r s) (said u (client w) k) (net u sizes w l.0 k) (refuses_serves sizes w j r s l.1)
net u sizes (Names j r i ∷ w) l k = served_net w (Names j r i) j r (named_reply r i) (said u (client w) k) (net u sizes w l.0 k) (names_serves sizes w j r i l.1)
net u sizes (Makes j r m ∷ w) l k = served_net w (Makes j r m) j r (made_reply r m) (said u (client w) k) (net u sizes w l.0 k) (makes_serves sizes w j r m l.1)
net u sizes (Binds j r b ∷ w) l k = served_net w (Binds j r b) j r (bound_reply r b) (said u (client w) k) (net u sizes w l.0 k) (binds_serves sizes w j r b l.1)
net u sizes (Ends j r ∷ w) l k = served_net w (Ends j r) j r (ended_reply r) (said u (client w) k) (net u sizes w l.0 k) (ends_serves sizes w j r l.1)
