-- A journal of a client that keeps its rules breaks none of the five.
use Rattle.std.proofs.Common.{◌≡◌, ℕ, suc, ◌+◌, ◌≤◌, ◌<◌, Bool, true, false, ◌&&◌, List, [], ◌∷◌, length, Option, Some, None, refl, sym, subst, ◌∙◌, ap, arith, add-one}
use Rattle.std.proofs.lemmas.Bool.Decides.{nat_tests}
use Rattle.std.specs.Prelude.{is_some}
use Rattle.n41_types.specs.declared.commands.Answer.{Answer}
use Rattle.n41_types.specs.declared.commands.Answer.TheVariants as answer
use Rattle.n41_types.specs.declared.plans.Request.{Request}
use Rattle.n41_types.specs.declared.plans.SlotUse.{SlotUse}
use Rattle.n41_types.specs.declared.statuses.Status.{Status}
use Rattle.n41_results.specs.declared.replies.Reply.{Reply}
use Rattle.n41_journal.specs.declared.events.Event.{Event}
use Rattle.n41_journal.specs.declared.events.Event.TheVariants.{Began, Put, Took, CbTook, CbPut, Dialed, DialFailed, Broke, Ticked, Answered, Quit}
use Rattle.n41_calls.specs.Answers.{HasCause}
use Rattle.n41_calls.specs.Kept.{Kept, May}
use Rattle.n41_calls.specs.OneOut.{IsOrderly, IsOrderlyOn}
use Rattle.n41_model.specs.Replies.{gives_back, is_final, sequence_status, status_passes, status_refuses}
use Rattle.n41_model.specs.Requests.{has_xid, is_on, is_use_of, joined, knows, made, outs, turn_of, used, without}
use Rattle.n41_model.specs.declared.words.Setup.{Setup}
use Rattle.n41_calls.proofs.Slots.{keeps_one_out}
use Rattle.n41_check.specs.Rules.{IsCaused, IsNext, IsSame, Keeps, KeptIsClean, callers, is_repeat, last_put}
use Rattle.n41_check.specs.declared.rules.Rule.{Rule}
use Rattle.n41_check.specs.declared.rules.Rule.TheVariants.{Slots, Retries, Turns, Causes, Answers}
use Rattle.n41_check.proofs.Puts.{use_only}

-- what is out on a slot is the last that was put there, and its turn is the last that was used
pub record IsLast (js : List Event) (s : ℕ) (q : Request) : Type 0 where
  pub last : last_put js s ≡ Some q
  pub turn : used js s ≡ turn_of q.slot
  pub above : 0 < used js s

abbrev pub Lasts : List Event → Type 0
Lasts js = (s : ℕ) (q : Request) → outs js s ≡ q ∷ [] → IsLast js s q

one_of : (p q : Request) → p ∷ [] ≡ q ∷ [] → p ≡ q
one_of p q e = cc

-- ---- a Put

turn_is : (r : Request) (u : SlotUse) → r.slot ≡ Some u → turn_of r.slot ≡ u.turn
turn_is r u e = ap turn_of e

joined_itself : (r : Request) → joined (r ∷ []) r ≡ r ∷ []
joined_itself r = let e : knows (r ∷ []) r.xid ≡ true = grind (arith, nat_tests) in rw e refl

put_on : (js : List Event) (c p : ℕ) (r q : Request) (u : SlotUse) (rs : List Request) → r.slot ≡ Some u → is_on r u.slot ≡ true → outs js u.slot ≡ rs → length rs ≤ 1 → IsOrderlyOn js u r → Lasts js → outs (Put c p r ∷ js) u.slot ≡ q ∷ [] → IsLast (Put c p r ∷ js) u.slot q
put_on js c p r q u [] e o h l d k g =
    let a : outs (Put c p r ∷ js) u.slot ≡ r ∷ [] = (let z : outs (Put c p r ∷ js) u.slot ≡ joined (outs js u.slot) r = rw o refl in z ∙ ap (λ rs. joined rs r) h) in
    let f : r ≡ q = one_of r q (sym a ∙ g) in
    let t : used (Put c p r ∷ js) u.slot ≡ turn_of r.slot = rw o refl in
    let n : turn_of r.slot ≡ suc (used js u.slot) = turn_is r u e ∙ d.next h in
    record {
      last = (let z : last_put (Put c p r ∷ js) u.slot ≡ Some r = rw o refl in z ∙ ap (λ (x : Request). Some x) f);
      turn = t ∙ ap (λ (x : Request). turn_of x.slot) f;
      above = omega (arith, t, n);
    }
put_on js c p r q u (v ∷ []) e o h l d k g =
    let w : r ≡ v = (d.same v h).0 in
    let m : outs js u.slot ≡ r ∷ [] = h ∙ ap (λ (x : Request). x ∷ []) (sym w) in
    let a : outs (Put c p r ∷ js) u.slot ≡ r ∷ [] = (let z : outs (Put c p r ∷ js) u.slot ≡ joined (outs js u.slot) r = rw o refl in z ∙ (ap (λ rs. joined rs r) m ∙ joined_itself r)) in
    let f : r ≡ q = one_of r q (sym a ∙ g) in
    let t : used (Put c p r ∷ js) u.slot ≡ turn_of r.slot = rw o refl in
    let i = k u.slot r m in
    let b = i.turn in
    let j = i.above in
    record {
      last = (let z : last_put (Put c p r ∷ js) u.slot ≡ Some r = rw o refl in z ∙ ap (λ (x : Request). Some x) f);
      turn = t ∙ ap (λ (x : Request). turn_of x.slot) f;
      above = omega (arith, t, b, j);
    }
put_on js c p r q u (v ∷ w ∷ rs) e o h l d k g = absurd (omega (arith, l))

put_off : (js : List Event) (c p : ℕ) (r q : Request) (s : ℕ) → is_on r s ≡ false → Lasts js → outs (Put c p r ∷ js) s ≡ q ∷ [] → IsLast (Put c p r ∷ js) s q
put_off js c p r q s o k g =
    let a : outs js s ≡ q ∷ [] = (let z : outs (Put c p r ∷ js) s ≡ outs js s = rw o refl in sym z ∙ g) in
    let i = k s q a in
    record { last = rw o i.last; turn = rw o i.turn; above = rw o i.above }

put_by : (js : List Event) (c p : ℕ) (r q : Request) (s : ℕ) (v : Option SlotUse) (b : Bool) → r.slot ≡ v → is_on r s ≡ b → ((t : ℕ) → length (outs js t) ≤ 1) → IsOrderly js v r → Lasts js → outs (Put c p r ∷ js) s ≡ q ∷ [] → IsLast (Put c p r ∷ js) s q
put_by js c p r q s v false e o l d k g = put_off js c p r q s o k g
put_by js c p r q s None true e o l d k g = absurd (let z = sym (ap (λ w. is_use_of w s) e) ∙ o in cc)
put_by js c p r q s (Some u) true e o l d k g =
    let x : u.slot ≡ s = use_only u s (sym (ap (λ w. is_use_of w s) e) ∙ o) in
    subst (λ (t : ℕ). is_on r t ≡ true → outs (Put c p r ∷ js) t ≡ q ∷ [] → IsLast (Put c p r ∷ js) t q) x
    (λ o2 g2. put_on js c p r q u (outs js u.slot) e o2 refl (l u.slot) d k g2) o g

-- ---- a Took

final_of : (o : Option Status) → status_passes o ≡ false → status_refuses o ≡ false
final_of None e = refl
final_of (Some t) e = grind (arith, nat_tests, e)

not_back : (y : Reply) → is_final y ≡ false → gives_back y ≡ false
not_back y e = final_of (sequence_status y.body) e

-- what is left where one request is left of one at most
left_of : (rs : List Request) (x : ℕ) (q : Request) → length rs ≤ 1 → without rs x ≡ q ∷ [] → (rs ≡ q ∷ []) × (knows rs x ≡ false)
left_of [] x q l e = absurd (cc)
left_of (r ∷ []) x q l e = left_one (has_xid x r) refl where
  left_one : (b : Bool) → has_xid x r ≡ b → (r ∷ [] ≡ q ∷ []) × (knows (r ∷ []) x ≡ false)
  left_one true h = absurd (let z : [] ≡ q ∷ [] = rw h at e in cc)
  left_one false h = (rw h at e, rw h refl)
left_of (r ∷ s ∷ rs) x q l e = absurd (omega (arith, l))

took_kept : (js : List Event) (c p : ℕ) (y : Reply) (s : ℕ) (q : Request) → is_some (made js y) ≡ false → (knows (outs js s) y.xid && gives_back y) ≡ false → outs js s ≡ q ∷ [] → Lasts js → IsLast (Took c p y ∷ js) s q
took_kept js c p y s q m b g k =
    let i = k s q g in
    let u : used (Took c p y ∷ js) s ≡ used js s = rw (m, b) refl in
    record { last = rw m i.last; turn = u ∙ i.turn; above = subst (λ (n : ℕ). 0 < n) (sym u) i.above }

and_false : (a b : Bool) → b ≡ false → (a && b) ≡ false
and_false true b e = e
and_false false b e = refl

false_and : (a b : Bool) → a ≡ false → (a && b) ≡ false
false_and true b e = absurd (cc)
false_and false b e = refl

took_by : (js : List Event) (c p : ℕ) (y : Reply) (s : ℕ) (q : Request) (m f : Bool) → is_some (made js y) ≡ m → is_final y ≡ f → length (outs js s) ≤ 1 → Lasts js → outs (Took c p y ∷ js) s ≡ q ∷ [] → IsLast (Took c p y ∷ js) s q
took_by js c p y s q true f e h l k g = absurd (let z : [] ≡ q ∷ [] = rw e at g in cc)
took_by js c p y s q false true e h l k g =
    let a : outs (Took c p y ∷ js) s ≡ without (outs js s) y.xid = rw (e, h) refl in
    let w = left_of (outs js s) y.xid q l (sym a ∙ g) in
    took_kept js c p y s q e (false_and (knows (outs js s) y.xid) (gives_back y) w.1) w.0 k
took_by js c p y s q false false e h l k g =
    let a : outs (Took c p y ∷ js) s ≡ outs js s = rw (e, h) refl in
    took_kept js c p y s q e (and_false (knows (outs js s) y.xid) (gives_back y) (not_back y h)) (sym a ∙ g) k

-- ---- all events

same : (js : List Event) (e : Event) → ((s : ℕ) → outs (e ∷ js) s ≡ outs js s) → ((s : ℕ) → last_put (e ∷ js) s ≡ last_put js s) → ((s : ℕ) → used (e ∷ js) s ≡ used js s) → Lasts js → Lasts (e ∷ js)
same js e a b d k s q g =
    let i = k s q (sym (a s) ∙ g) in
    record { last = b s ∙ i.last; turn = d s ∙ i.turn; above = subst (λ (n : ℕ). 0 < n) (sym (d s)) i.above }

lasts_step : (u : Setup) (js : List Event) (e : Event) → Kept u (e ∷ js) → Lasts js → Lasts (e ∷ js)
lasts_step u js (Put c p r) k h =
    λ s q g. put_by js c p r q s r.slot (is_on r s) refl refl (keeps_one_out u js k.0).slots (keeps_one_out u (Put c p r ∷ js) k).orderly.1 h g
lasts_step u js (Took c p y) k h =
    λ s q g. took_by js c p y s q (is_some (made js y)) (is_final y) refl refl ((keeps_one_out u js k.0).slots s) h g
lasts_step u js (Began c n a m) k h = same js (Began c n a m) (λ s. refl) (λ s. refl) (λ s. refl) h
lasts_step u js (CbTook c p x) k h = same js (CbTook c p x) (λ s. refl) (λ s. refl) (λ s. refl) h
lasts_step u js (CbPut c p x) k h = same js (CbPut c p x) (λ s. refl) (λ s. refl) (λ s. refl) h
lasts_step u js (Dialed c) k h = same js (Dialed c) (λ s. refl) (λ s. refl) (λ s. refl) h
lasts_step u js DialFailed k h = same js DialFailed (λ s. refl) (λ s. refl) (λ s. refl) h
lasts_step u js (Broke c w) k h = same js (Broke c w) (λ s. refl) (λ s. refl) (λ s. refl) h
lasts_step u js (Ticked m) k h = same js (Ticked m) (λ s. refl) (λ s. refl) (λ s. refl) h
lasts_step u js (Answered c n a) k h = same js (Answered c n a) (λ s. refl) (λ s. refl) (λ s. refl) h
lasts_step u js Quit k h = same js Quit (λ s. refl) (λ s. refl) (λ s. refl) h

lasts : (u : Setup) (js : List Event) → Kept u js → Lasts js
lasts u [] k = λ s q g. absurd (cc)
lasts u (e ∷ js) k = lasts_step u js e k (lasts u js k.0)

-- ---- the rules

same_on : (js : List Event) (r : Request) (u : SlotUse) (rs : List Request) → r.slot ≡ Some u → outs js u.slot ≡ rs → length rs ≤ 1 → IsOrderlyOn js u r → Lasts js → is_repeat js u ≡ true → last_put js u.slot ≡ Some r
same_on js r u [] e h l d k b = absurd (let n = d.next h in grind (arith, nat_tests, b, n))
same_on js r u (q ∷ []) e h l d k b = (k u.slot q h).last ∙ ap (λ (x : Request). Some x) (sym (d.same q h).0)
same_on js r u (p ∷ q ∷ rs) e h l d k b = absurd (omega (arith, l))

next_on : (js : List Event) (r : Request) (u : SlotUse) (rs : List Request) → r.slot ≡ Some u → outs js u.slot ≡ rs → length rs ≤ 1 → IsOrderlyOn js u r → Lasts js → is_repeat js u ≡ false → u.turn ≡ used js u.slot + 1
next_on js r u [] e h l d k b = d.next h ∙ sym (add-one (used js u.slot))
next_on js r u (q ∷ []) e h l d k b =
    let i = k u.slot q h in
    let a : turn_of q.slot ≡ u.turn = ap (λ (x : Request). turn_of x.slot) (sym (d.same q h).0) ∙ turn_is r u e in
    let t = i.turn in
    let z = i.above in
    absurd (grind (arith, nat_tests, b, a, t, z))
next_on js r u (p ∷ q ∷ rs) e h l d k b = absurd (omega (arith, l))

same_by : (js : List Event) (r : Request) (v : Option SlotUse) → r.slot ≡ v → ((t : ℕ) → length (outs js t) ≤ 1) → IsOrderly js v r → Lasts js → IsSame js r v
same_by js r None e l d k = tt
same_by js r (Some u) e l d k = same_on js r u (outs js u.slot) e refl (l u.slot) d k

next_by : (js : List Event) (r : Request) (v : Option SlotUse) → r.slot ≡ v → ((t : ℕ) → length (outs js t) ≤ 1) → IsOrderly js v r → Lasts js → IsNext js v
next_by js r None e l d k = tt
next_by js r (Some u) e l d k = next_on js r u (outs js u.slot) e refl (l u.slot) d k

caused : (n : ℕ) (js : List Event) (c : ℕ) (a : Answer) → HasCause n js c a → IsCaused n js c a
caused n js c answer.Unknown h = h
caused n js c (answer.Unreachable k) h = h
caused n js c (answer.Done x) h = tt
caused n js c (answer.Refused x) h = tt
caused n js c (answer.StateLost x) h = tt
caused n js c answer.NotOpen h = tt
caused n js c (answer.Breach p) h = tt

kept_put : (u : Setup) (js : List Event) (c p : ℕ) (r : Request) → Kept u (Put c p r ∷ js) → (x : Rule) → Keeps u.callers js (Put c p r) x
kept_put u js c p r k Slots = (keeps_one_out u (Put c p r ∷ js) k).slots
kept_put u js c p r k Retries = same_by js r r.slot refl (keeps_one_out u js k.0).slots (keeps_one_out u (Put c p r ∷ js) k).orderly.1 (lasts u js k.0)
kept_put u js c p r k Turns = next_by js r r.slot refl (keeps_one_out u js k.0).slots (keeps_one_out u (Put c p r ∷ js) k).orderly.1 (lasts u js k.0)
kept_put u js c p r k Causes = tt
kept_put u js c p r k Answers = tt

kept_answer : (u : Setup) (js : List Event) (c m : ℕ) (a : Answer) → Kept u (Answered c m a ∷ js) → (x : Rule) → Keeps u.callers js (Answered c m a) x
kept_answer u js c m a k Slots = (keeps_one_out u (Answered c m a ∷ js) k).slots
kept_answer u js c m a k Retries = tt
kept_answer u js c m a k Turns = tt
kept_answer u js c m a k Causes = caused u.callers js c a k.1.cause
kept_answer u js c m a k Answers = record { asked = k.1.asked; number_is = k.1.number_is }

kept_event : (u : Setup) (js : List Event) (e : Event) → Kept u (e ∷ js) → (x : Rule) → Keeps u.callers js e x
kept_event u js (Put c p r) k x = kept_put u js c p r k x
kept_event u js (Answered c m a) k x = kept_answer u js c m a k x
kept_event u js e k Slots = (keeps_one_out u (e ∷ js) k).slots
kept_event u js e k Retries = tt
kept_event u js e k Turns = tt
kept_event u js e k Causes = tt
kept_event u js e k Answers = tt

pub kept_is_clean : KeptIsClean
kept_is_clean u [] k = tt
kept_is_clean u (e ∷ js) k = (kept_is_clean u js k.0, kept_event u js e k)

-- ---- how many callers there are

few_step : (u : Setup) (js : List Event) (e : Event) → May u js e → callers js ≤ u.callers → callers (e ∷ js) ≤ u.callers
few_step u js (Began c n a m) h l = let b = h.caller in omega (arith, b, l)
few_step u js (Put c p r) h l = l
few_step u js (Took c p y) h l = l
few_step u js (CbTook c p x) h l = l
few_step u js (CbPut c p x) h l = l
few_step u js (Dialed c) h l = l
few_step u js DialFailed h l = l
few_step u js (Broke c w) h l = l
few_step u js (Ticked m) h l = l
few_step u js (Answered c n a) h l = l
few_step u js Quit h l = l

pub kept_few : (u : Setup) (js : List Event) → Kept u js → callers js ≤ u.callers
kept_few u [] k = omega arith
kept_few u (e ∷ js) k = few_step u js e k.1 (kept_few u js k.0)
