-- What is out is found by its xid among all that was put, and stands on a slot of the last session.
use Rattle.std.proofs.Common.{◌≡◌, inl, inr, ℕ, ◌<◌, ◌==◌, Bool, true, false, List, [], ◌∷◌, Option, Some, None, if◌then◌else◌, refl, sym, ◌∙◌, ap, subst, arith}
use Rattle.std.proofs.lemmas.Bool.Decides.{nat_tests}
use Rattle.n41_types.specs.declared.plans.Request.{Request}
use Rattle.n41_types.specs.declared.plans.SlotUse.{SlotUse}
use Rattle.n41_results.specs.declared.replies.Reply.{Reply}
use Rattle.n41_results.specs.declared.sessions.SessionMade.{SessionMade}
use Rattle.n41_journal.specs.declared.events.Event.{Event}
use Rattle.n41_journal.specs.declared.events.Event.TheVariants.{Began, Put, Took, CbTook, CbPut, Dialed, DialFailed, Broke, Ticked, Answered, Quit}
use Rattle.n41_model.specs.declared.words.Setup.{Setup}
use Rattle.n41_model.specs.Replies.{is_final}
use Rattle.n41_model.specs.Requests.{request, bares, bare, outs, out, made, is_on, is_bare, is_use_of, has_xid, is_bare_use, without, first}
use Rattle.n41_model.specs.Sessions.{slots}
use Rattle.n41_calls.specs.Kept.{Kept, May}
use Rattle.n41_calls.proofs.Slots.{Seats, seats}
use Rattle.n41_view.proofs.Lists.{one_on, one_bare, knows_is, without_is, joined_is, first_on, first_bare}
use Rattle.n41_view.proofs.Fresh.{Placed, put_placed, unknown_on, unknown_bare}
use Rattle.n41_view.specs.Step.{has}

pub record Known (js : List Event) : Type 0 where
  pub below : (n : ℕ) (r : Request) → out js n ≡ Some r → n < slots js
  pub on : (n : ℕ) (r : Request) → out js n ≡ Some r → request js r.xid ≡ Some r
  pub lone : (r : Request) → bare js ≡ Some r → request js r.xid ≡ Some r

same_by : (js : List Event) (r q : Request) → request js r.xid ≡ Some r → request js q.xid ≡ Some q → r.xid ≡ q.xid → r ≡ q
same_by js r q a b e = let c = ap (λ (x : ℕ). request js x) e in cc

-- what is put with the xid of a request that is out is that request
pub put_same_on : (js : List Event) (n : ℕ) (r q : Request) → Seats js → Known js → Placed js r → out js n ≡ Some q → r.xid ≡ q.xid → r ≡ q
put_same_on js n r q s k (inl (inl o)) e x = same_by js r q (k.lone r o) (k.on n q e) x
put_same_on js n r q s k (inl (inr o)) e x = same_by js r q (k.on o.0 r o.1) (k.on n q e) x
put_same_on js n r q s k (inr f) e x =
    let u = unknown_on js r.xid n f.unknown (k.below n q e) in
    let g = knows_is (outs js n) r.xid (one_on n (outs js n) (s.on n)) in
    let h : has r.xid (Some q) ≡ false = subst (λ (o : Option Request). has r.xid o ≡ false) e (sym g ∙ u) in
    absurd (grind (arith, nat_tests, h, x))

pub put_same_bare : (js : List Event) (r q : Request) → Seats js → Known js → Placed js r → bare js ≡ Some q → r.xid ≡ q.xid → r ≡ q
put_same_bare js r q s k (inl (inl o)) e x = same_by js r q (k.lone r o) (k.lone q e) x
put_same_bare js r q s k (inl (inr o)) e x = same_by js r q (k.on o.0 r o.1) (k.lone q e) x
put_same_bare js r q s k (inr f) e x =
    let u = unknown_bare js r.xid f.unknown in
    let g = knows_is (bares js) r.xid (one_bare (bares js) s.lone) in
    let h : has r.xid (Some q) ≡ false = subst (λ (o : Option Request). has r.xid o ≡ false) e (sym g ∙ u) in
    absurd (grind (arith, nat_tests, h, x))

on_is_slotted : (o : Option SlotUse) (n : ℕ) → is_use_of o n ≡ true → is_bare_use o ≡ false
on_is_slotted None n e = absurd (cc)
on_is_slotted (Some p) n e = refl

use_is : (o : Option SlotUse) (n m : ℕ) → is_use_of o n ≡ true → is_use_of o m ≡ true → n ≡ m
use_is None n m a b = absurd (cc)
use_is (Some p) n m a b = grind (arith, nat_tests, a, b)

-- what is put on a slot stands below the number of slots
pub put_below : (js : List Event) (r : Request) (n : ℕ) → Seats js → Known js → Placed js r → is_on r n ≡ true → n < slots js
put_below js r n s k (inl (inl o)) i = absurd (let b = first_bare (bares js) r s.lone o in let d = on_is_slotted r.slot n i in cc)
put_below js r n s k (inl (inr o)) i =
    let d = use_is r.slot o.0 n (first_on o.0 (outs js o.0) r (s.on o.0) o.1) i in
    subst (λ (m : ℕ). m < slots js) d (k.below o.0 r o.1)
put_below js r n s k (inr f) i = f.below n i

-- ---- a Put

-- a request joins those that are out: it is then the first, where it is the one that has its xid
joins : (r : Request) (o : Option Request) → ((q : Request) → o ≡ Some q → r.xid ≡ q.xid → r ≡ q) → (if has r.xid o then o else Some r) ≡ Some r
joins r None f = refl
joins r (Some q) f = at (has_xid r.xid q) refl where
  at : (b : Bool) → has_xid r.xid q ≡ b → (if has_xid r.xid q then Some q else Some r) ≡ Some r
  at true e = let x : r.xid ≡ q.xid = grind (arith, nat_tests, e) in let g = f q refl x in rw e (ap (λ (z : Request). Some z) (sym g))
  at false e = rw e refl

-- what is out on the slot after it
pub put_out : (js : List Event) (c p n : ℕ) (r : Request) → Seats js → Known js → Placed js r → is_on r n ≡ true → out (Put c p r ∷ js) n ≡ Some r
put_out js c p n r s k l i = rw i (joined_is (outs js n) r (one_on n (outs js n) (s.on n)) ∙ joins r (out js n) (λ q e. put_same_on js n r q s k l e))

pub put_out_bare : (js : List Event) (c p : ℕ) (r : Request) → Seats js → Known js → Placed js r → is_bare r ≡ true → bare (Put c p r ∷ js) ≡ Some r
put_out_bare js c p r s k l i = rw i (joined_is (bares js) r (one_bare (bares js) s.lone) ∙ joins r (bare js) (λ q e. put_same_bare js r q s k l e))

found_itself : (js : List Event) (c p : ℕ) (r q : Request) → Some r ≡ Some q → request (Put c p r ∷ js) q.xid ≡ Some q
found_itself js c p r q e = let f : r ≡ q = cc in subst (λ (x : Request). request (Put c p r ∷ js) x.xid ≡ Some x) f (grind (arith, nat_tests))

found_old : (js : List Event) (c p : ℕ) (r q : Request) → request js q.xid ≡ Some q → (r.xid ≡ q.xid → r ≡ q) → request (Put c p r ∷ js) q.xid ≡ Some q
found_old js c p r q o f = at (r.xid == q.xid) refl where
  at : (b : Bool) → (r.xid == q.xid) ≡ b → request (Put c p r ∷ js) q.xid ≡ Some q
  at true e = let x : r.xid ≡ q.xid = grind (arith, nat_tests, e) in let g = f x in rw e (ap (λ (z : Request). Some z) g)
  at false e = rw e o

put_on : (js : List Event) (c p n : ℕ) (r q : Request) → Seats js → Known js → Placed js r → (b : Bool) → is_on r n ≡ b → out (Put c p r ∷ js) n ≡ Some q → request (Put c p r ∷ js) q.xid ≡ Some q
put_on js c p n r q s k l true i e = found_itself js c p r q (sym (put_out js c p n r s k l i) ∙ e)
put_on js c p n r q s k l false i e =
    let o : out js n ≡ Some q = (rw i at e) in
    found_old js c p r q (k.on n q o) (put_same_on js n r q s k l o)

put_lone : (js : List Event) (c p : ℕ) (r q : Request) → Seats js → Known js → Placed js r → (b : Bool) → is_bare r ≡ b → bare (Put c p r ∷ js) ≡ Some q → request (Put c p r ∷ js) q.xid ≡ Some q
put_lone js c p r q s k l true i e = found_itself js c p r q (sym (put_out_bare js c p r s k l i) ∙ e)
put_lone js c p r q s k l false i e =
    let o : bare js ≡ Some q = (rw i at e) in
    found_old js c p r q (k.lone q o) (put_same_bare js r q s k l o)

put_under : (js : List Event) (c p n : ℕ) (r q : Request) → Seats js → Known js → Placed js r → (b : Bool) → is_on r n ≡ b → out (Put c p r ∷ js) n ≡ Some q → n < slots js
put_under js c p n r q s k l true i e = put_below js r n s k l i
put_under js c p n r q s k l false i e = k.below n q (rw i at e)

put_known : (js : List Event) (c p : ℕ) (r : Request) → Seats js → Known js → Placed js r → Known (Put c p r ∷ js)
put_known js c p r s k l = record {
  below = λ n q e. put_under js c p n r q s k l (is_on r n) refl e;
  on = λ n q e. put_on js c p n r q s k l (is_on r n) refl e;
  lone = λ q e. put_lone js c p r q s k l (is_bare r) refl e;
}

-- ---- a Took

unless : (b : Bool) (o : Option Request) (q : Request) → (if b then None else o) ≡ Some q → o ≡ Some q
unless true o q e = absurd (cc)
unless false o q e = e

-- what is out after it was out before it, and it made no session
took_out : (js : List Event) (c p n : ℕ) (y : Reply) (q : Request) → Seats js → (m : Option SessionMade) → made js y ≡ m → (b : Bool) → is_final y ≡ b → out (Took c p y ∷ js) n ≡ Some q → (out js n ≡ Some q) × (made js y ≡ None)
took_out js c p n y q s (Some m) d b f e = absurd (let z : None ≡ Some q = (rw d at e) in cc)
took_out js c p n y q s None d true f e =
    let z : first (without (outs js n) y.xid) ≡ Some q = (rw (d, f) at e) in
    (unless (has y.xid (out js n)) (out js n) q (sym (without_is (outs js n) y.xid (one_on n (outs js n) (s.on n))) ∙ z), d)
took_out js c p n y q s None d false f e = ((rw (d, f) at e), d)

took_below : (js : List Event) (c p n : ℕ) (y : Reply) (q : Request) → Known js → (out js n ≡ Some q) × (made js y ≡ None) → n < slots (Took c p y ∷ js)
took_below js c p n y q k h = let d = h.1 in rw d (k.below n q h.0)

took_known : (js : List Event) (c p : ℕ) (y : Reply) → Seats js → Known js → Known (Took c p y ∷ js)
took_known js c p y s k = record {
  below = λ n q e. took_below js c p n y q k (took_out js c p n y q s (made js y) refl (is_final y) refl e);
  on = λ n q e. k.on n q (took_out js c p n y q s (made js y) refl (is_final y) refl e).0;
  lone = λ q e. k.lone q (unless (has y.xid (bare js)) (bare js) q (sym (without_is (bares js) y.xid (one_bare (bares js) s.lone)) ∙ e));
}

-- ---- all events

same_known : (js : List Event) (e : Event) → ((n : ℕ) → out (e ∷ js) n ≡ out js n) → bare (e ∷ js) ≡ bare js → slots (e ∷ js) ≡ slots js → ((x : ℕ) → request (e ∷ js) x ≡ request js x) → Known js → Known (e ∷ js)
same_known js e o b s r k = record {
  below = λ n q h. rw s (k.below n q (sym (o n) ∙ h));
  on = λ n q h. r q.xid ∙ k.on n q (sym (o n) ∙ h);
  lone = λ q h. r q.xid ∙ k.lone q (sym b ∙ h);
}

step_known : (u : Setup) (js : List Event) (e : Event) → May u js e → Seats js → Known js → Known (e ∷ js)
step_known u js (Began c n k m) h s v = assumption v
step_known u js (Put c p r) h s v = put_known js c p r s v (put_placed u js h.0 r h.1.is_due)
step_known u js (Took c p y) h s v = took_known js c p y s v
step_known u js (CbTook c p x) h s v = absurd h
step_known u js (CbPut c p x) h s v = absurd h
step_known u js (Dialed c) h s v = assumption v
step_known u js DialFailed h s v = assumption v
step_known u js (Broke c w) h s v = assumption v
step_known u js (Ticked m) h s v = assumption v
step_known u js (Answered c n a) h s v = assumption v
step_known u js Quit h s v = assumption v

none_known : Known []
none_known = record { below = λ n r e. absurd (cc); on = λ n r e. absurd (cc); lone = λ r e. absurd (cc) }

pub known : (u : Setup) (js : List Event) → Kept u js → Known js
known u [] k = none_known
known u (e ∷ js) k = step_known u js e k.1 (seats u js k.0) (known u js k.0)
