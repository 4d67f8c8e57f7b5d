-- Each event that may follow moves what is kept of a journal by the step.
use Rattle.std.proofs.Common.{◌≡◌, inl, inr, ℕ, ◌==◌, Bool, true, false, not, List, [], ◌∷◌, Option, Some, None, if◌then◌else◌, refl, sym, ◌∙◌, ap, subst, arith}
use Rattle.std.proofs.lemmas.Bool.Decides.{nat_tests}
use Rattle.n41_types.specs.declared.plans.Plan.{Plan}
use Rattle.n41_types.specs.declared.plans.Request.{Request}
use Rattle.n41_types.specs.declared.plans.SlotUse.{SlotUse}
use Rattle.n41_results.specs.declared.replies.Reply.{Reply}
use Rattle.n41_journal.specs.declared.events.Event.{Event}
use Rattle.n41_journal.specs.declared.events.Event.TheVariants.{Began, Put, Took, CbTook, CbPut, Dialed, DialFailed, Broke, Ticked, Answered, Quit}
use Rattle.n41_model.specs.declared.words.BareVerdict.{BareVerdict}
use Rattle.n41_model.specs.declared.words.BareVerdict.TheVariants as b
use Rattle.n41_model.specs.declared.words.Phase.{Phase}
use Rattle.n41_model.specs.declared.words.Phase.TheVariants.{Down, Binding, Session, ClientId, Settling, Reclaiming, Completing, Running, Dead}
use Rattle.n41_model.specs.declared.words.Setup.{Setup}
use Rattle.n41_model.specs.declared.words.Verdict.{Verdict}
use Rattle.n41_model.specs.declared.words.Verdict.TheVariants as v
use Rattle.n41_calls.specs.Answers.{breaks}
use Rattle.n41_calls.specs.Kept.{Kept, May, MayTake, IsAwaited}
use Rattle.n41_model.specs.Replies.{is_breach, is_bare_breach, verdict_of, bare_verdict_of}
use Rattle.n41_model.specs.Requests.{request, bares, bare, outs, out, is_on, is_bare, retried, verdict, bare_verdict}
use Rattle.n41_model.specs.Sessions.{client, session, phases, took_phase, plan_of, slot_phase, bare_phase, session_after, client_after, worked, is_lease_time}
use Rattle.n41_calls.proofs.Slots.{Seats, seats}
use Rattle.n41_view.specs.Step.{Said, has, took_bare, reply_phase}
use Rattle.n41_view.proofs.Lists.{first_on, first_bare}
use Rattle.n41_view.proofs.Fresh.{put_placed}
use Rattle.n41_view.proofs.Known.{Known, known, put_out_bare}
use Rattle.n41_view.proofs.Found.{fits_xid, no_use, use_on, found_bare, found_on, not_bare}
use Rattle.n41_view.proofs.TookStep.{took_bare_is}
use Rattle.n41_recover.specs.declared.words.Lone.{Lone}
use Rattle.n41_recover.specs.Laws.{RecoverySteps, TellsPhase, after, stepped}
use Rattle.n41_recover.specs.Recovery.{Recovery, recovery, kind_of, lone_of, lone_in, is_lease, is_xid, lease, took_lease}
use Rattle.n41_recover.specs.Step.{kind_verdict, told_verdict, has_lone, lone_said, slot_said, plan_said, said, put_lone, took_lone, took, step, dead}
use Rattle.n41_recover.proofs.Plans.{kind_is, slot_phase_by, body_told}
use Rattle.n41_recover.proofs.Leases.{leases, xid_is, lease_plan}
use Rattle.n41_recover.proofs.Owns.{and_left}
use Rattle.n41_recover.proofs.Alone.{Alone, alone}

abbrev with_phases : Phase → Phase → Option BareVerdict → Option Lone → List Event → Reply → Recovery
with_phases f w v l js y = record { phase = f; work = w; session = session_after v (session js); client = client_after v (client js); lone = l; lease = took_lease y (lease js) }

-- ---- a Put

put_lone_at : (js : List Event) (c p : ℕ) (r : Request) → (is_bare r ≡ true → bare (Put c p r ∷ js) ≡ Some r) → (b : Bool) → is_bare r ≡ b → put_lone r (lone_in (bare js)) ≡ lone_in (bare (Put c p r ∷ js))
put_lone_at js c p r f true e =
    let a : put_lone r (lone_in (bare js)) ≡ Some (lone_of r) = rw e refl in
    let d : lone_in (bare (Put c p r ∷ js)) ≡ Some (lone_of r) = ap (λ (o : Option Request). lone_in o) (f e) in
    a ∙ sym d
put_lone_at js c p r f false e = rw e refl

put_step : (u : Setup) (js : List Event) (c p : ℕ) (r : Request) → Seats js → Known js → May u js (Put c p r) → step (recovery js) (Put c p r) ≡ recovery (Put c p r ∷ js)
put_step u js c p r t k h =
    let e = put_lone_at js c p r (λ i. put_out_bare js c p r t k (put_placed u js h.0 r h.1.is_due) i) (is_bare r) refl in
    ap (λ (l : Option Lone). record (recovery (Put c p r ∷ js)) { lone = l }) e

-- ---- the request without a slot

lone_taken : (o : Option Request) (y : Reply) → took_lone y (lone_in o) ≡ lone_in (took_bare y o)
lone_taken None y = refl
lone_taken (Some r) y = at (r.xid == y.xid) refl where
  at : (b : Bool) → (r.xid == y.xid) ≡ b → took_lone y (lone_in (Some r)) ≡ lone_in (took_bare y (Some r))
  at true e = rw e refl
  at false e = rw e refl

-- ---- what a reply says of the request without a slot

lone_hit : (r : Request) (y : Reply) → (r.xid == y.xid) ≡ true → lone_said (Some (lone_of r)) y ≡ Some (bare_verdict_of r.plan y)
lone_hit r y e = ap (λ (z : Bool). if z then Some (kind_verdict (kind_of r.plan) y.body) else None) e ∙ ap (λ (z : BareVerdict). Some z) (kind_is r.plan y.body)

lone_missed : (o : Option Request) (y : Reply) → has y.xid o ≡ false → lone_said (lone_in o) y ≡ None
lone_missed None y e = refl
lone_missed (Some r) y e = ap (λ (z : Bool). if z then Some (kind_verdict (kind_of r.plan) y.body) else None) e

has_is : (o : Option Request) (x : ℕ) → has_lone (lone_in o) x ≡ has x o
has_is None x = refl
has_is (Some r) x = refl

bare_told : (js : List Event) (y : Reply) (r : Request) → request js y.xid ≡ Some r → r.slot ≡ None → bare_verdict js y ≡ Some (bare_verdict_of r.plan y)
bare_told js y r e f = rw (e, f) refl

bare_untold : (js : List Event) (y : Reply) (r : Request) → request js y.xid ≡ Some r → r.slot ≡ None → verdict js y ≡ None
bare_untold js y r e f = rw (e, f) refl

slot_told : (js : List Event) (y : Reply) (r : Request) (u : SlotUse) → request js y.xid ≡ Some r → r.slot ≡ Some u → verdict js y ≡ Some (verdict_of r (retried js u.slot) y)
slot_told js y r u e f = rw (e, f) refl

slot_untold : (js : List Event) (y : Reply) (r : Request) (u : SlotUse) → request js y.xid ≡ Some r → r.slot ≡ Some u → bare_verdict js y ≡ None
slot_untold js y r u e f = rw (e, f) refl

plan_told : (js : List Event) (y : Reply) (r : Request) → request js y.xid ≡ Some r → plan_of js y ≡ r.plan
plan_told js y r e = rw e refl

-- ---- the request for the lease time

lease_at : (js : List Event) (y : Reply) (s : ℕ) (r : Request) (u : SlotUse) → Alone js → out js s ≡ Some r → r.xid ≡ y.xid → request js y.xid ≡ Some r → r.slot ≡ Some u → (a : Bool) → is_lease_time r.plan ≡ a → (d : Bool) → is_xid (lease js) y.xid ≡ d → a ≡ d
lease_at js y s r u h o x e f true g true i = refl
lease_at js y s r u h o x e f true g false i =
    let l : is_lease r ≡ true = rw (g, f) refl in
    let m : (r.xid == y.xid) ≡ false = subst (λ (z : Option ℕ). is_xid z y.xid ≡ false) (h s r o l) i in
    absurd (grind (arith, nat_tests, m, x))
lease_at js y s r u h o x e f false g true i =
    let l = lease_plan js y.xid (xid_is (lease js) y.xid i) in
    let m : is_lease r ≡ true = subst (λ (z : Option Request). leases z ≡ true) e l in
    let w : true ≡ false = sym (and_left (is_lease_time r.plan) (not (is_bare r)) m) ∙ g in
    absurd (cc)
lease_at js y s r u h o x e f false g false i = refl

plan_tells : (d : Bool) → is_lease_time (plan_said d) ≡ d
plan_tells true = refl
plan_tells false = refl

-- ---- the phase after a reply

phase_by : (a : Said) (js : List Event) (y : Reply) (p w : Phase) → slot_phase a.plan a.slot (bare_phase a.bare p w) ≡ slot_phase (plan_of js y) (verdict js y) (bare_phase (bare_verdict js y) p w) → reply_phase a p w ≡ took_phase js y p w
phase_by a js y Down w h = h
phase_by a js y Binding w h = h
phase_by a js y Session w h = h
phase_by a js y ClientId w h = h
phase_by a js y Settling w h = h
phase_by a js y Reclaiming w h = h
phase_by a js y Completing w h = h
phase_by a js y Running w h = h
phase_by a js y Dead w h = refl

-- a reply that breaks the rules leads to Dead
dead_slot : (q : Plan) (w : Verdict) (x : Option BareVerdict) (p k : Phase) → is_breach w ≡ true → slot_phase q (Some w) (bare_phase x p k) ≡ Dead
dead_slot q (v.Ran s) x p k e = absurd (cc)
dead_slot q v.Delayed x p k e = absurd (cc)
dead_slot q v.Unbound x p k e = absurd (cc)
dead_slot q v.Uncached x p k e = absurd (cc)
dead_slot q (v.TooBig s) x p k e = absurd (cc)
dead_slot q v.Breach x p k e = refl

dead_bare : (q : Plan) (x : BareVerdict) (p k : Phase) → is_bare_breach x ≡ true → slot_phase q None (bare_phase (Some x) p k) ≡ Dead
dead_bare q (b.Named c s) p k e = absurd (cc)
dead_bare q (b.Made m) p k e = absurd (cc)
dead_bare q b.Stale p k e = absurd (cc)
dead_bare q b.Bound p k e = absurd (cc)
dead_bare q b.SessionGone p k e = absurd (cc)
dead_bare q b.ClientGone p k e = absurd (cc)
dead_bare q b.Delayed p k e = absurd (cc)
dead_bare q b.Breach p k e = refl

breaks_dead : (q : Plan) (w : Option Verdict) (x : Option BareVerdict) (p k : Phase) → breaks w x ≡ true → slot_phase q w (bare_phase x p k) ≡ Dead
breaks_dead q (Some w) x p k e = dead_slot q w x p k e
breaks_dead q None (Some x) p k e = dead_bare q x p k e
breaks_dead q None None p k e = absurd (cc)

dead_by : (js : List Event) (y : Reply) (p w : Phase) → breaks (verdict js y) (bare_verdict js y) ≡ true → took_phase js y p w ≡ Dead
dead_by js y Down w h = breaks_dead (plan_of js y) (verdict js y) (bare_verdict js y) Down w h
dead_by js y Binding w h = breaks_dead (plan_of js y) (verdict js y) (bare_verdict js y) Binding w h
dead_by js y Session w h = breaks_dead (plan_of js y) (verdict js y) (bare_verdict js y) Session w h
dead_by js y ClientId w h = breaks_dead (plan_of js y) (verdict js y) (bare_verdict js y) ClientId w h
dead_by js y Settling w h = breaks_dead (plan_of js y) (verdict js y) (bare_verdict js y) Settling w h
dead_by js y Reclaiming w h = breaks_dead (plan_of js y) (verdict js y) (bare_verdict js y) Reclaiming w h
dead_by js y Completing w h = breaks_dead (plan_of js y) (verdict js y) (bare_verdict js y) Completing w h
dead_by js y Running w h = breaks_dead (plan_of js y) (verdict js y) (bare_verdict js y) Running w h
dead_by js y Dead w h = refl

-- ---- a reply

-- what the reply says of the request without a slot, and where it breaks no rules the phase after it
pub record Heard (js : List Event) (y : Reply) : Type 0 where
  pub bare_is : lone_said (lone_in (bare js)) y ≡ bare_verdict js y
  pub phase_is : breaks (verdict js y) (bare_verdict js y) ≡ false → slot_phase (said (recovery js) y).plan (said (recovery js) y).slot (bare_phase (said (recovery js) y).bare (phases js).0 (phases js).1) ≡ slot_phase (plan_of js y) (verdict js y) (bare_phase (bare_verdict js y) (phases js).0 (phases js).1)

phase_same : (p q : Plan) (w : Option Verdict) (x z : Option BareVerdict) (f k : Phase) → w ≡ None → x ≡ z → slot_phase p None (bare_phase x f k) ≡ slot_phase q w (bare_phase z f k)
phase_same p q w x z f k e g = rw (e, g) refl

heard_bare : (js : List Event) (y : Reply) (r : Request) → Seats js → Known js → bare js ≡ Some r → r.xid ≡ y.xid → Heard js y
heard_bare js y r t k o x =
    let e = found_bare js y.xid r k o x in
    let f : r.slot ≡ None = no_use r.slot (first_bare (bares js) r t.lone o) in
    let i : (r.xid == y.xid) ≡ true = grind (arith, nat_tests, x) in
    let l : lone_said (lone_in (bare js)) y ≡ bare_verdict js y = ap (λ (z : Option Request). lone_said (lone_in z) y) o ∙ (lone_hit r y i ∙ sym (bare_told js y r e f)) in
    let n : has_lone (lone_in (bare js)) y.xid ≡ true = ap (λ (z : Option Request). has_lone (lone_in z) y.xid) o ∙ i in
    let s : slot_said (has_lone (lone_in (bare js)) y.xid) y ≡ None = ap (λ (z : Bool). slot_said z y) n in
    record {
      bare_is = l;
      phase_is = λ z. rw s (phase_same (plan_said (is_xid (lease js) y.xid)) (plan_of js y) (verdict js y) (lone_said (lone_in (bare js)) y) (bare_verdict js y) (phases js).0 (phases js).1 (bare_untold js y r e f) l);
    }

slot_same : (p q : Plan) (w g : Option Verdict) (x z : Option BareVerdict) (f k : Phase) → w ≡ g → x ≡ None → z ≡ None → is_lease_time p ≡ is_lease_time q → slot_phase p w (bare_phase x f k) ≡ slot_phase q g (bare_phase z f k)
slot_same p q w g x z f k e h i l = rw (e, h, i) (slot_phase_by p q g f l)

heard_on : (js : List Event) (y : Reply) (s : ℕ) (r : Request) → Seats js → Known js → Alone js → out js s ≡ Some r → r.xid ≡ y.xid → Heard js y
heard_on js y s r t k a o x =
    let e = found_on js y.xid s r k o x in
    let i : is_on r s ≡ true = first_on s (outs js s) r (t.on s) o in
    let u = use_on r.slot s i in
    let h = not_bare js y.xid r u.0 t k e u.1 (bare js) refl in
    let l = lone_missed (bare js) y h in
    let m = slot_untold js y r u.0 e u.1 in
    let n : slot_said (has_lone (lone_in (bare js)) y.xid) y ≡ Some (told_verdict y.body) = ap (λ (z : Bool). slot_said z y) (has_is (bare js) y.xid ∙ h) in
    let w = slot_told js y r u.0 e u.1 in
    let d = lease_at js y s r u.0 a o x e u.1 (is_lease_time r.plan) refl (is_xid (lease js) y.xid) refl in
    let q : is_lease_time (plan_said (is_xid (lease js) y.xid)) ≡ is_lease_time (plan_of js y) = plan_tells (is_xid (lease js) y.xid) ∙ (sym d ∙ ap (λ (z : Plan). is_lease_time z) (sym (plan_told js y r e))) in
    record {
      bare_is = l ∙ sym m;
      phase_is = λ z.
          let g : is_breach (verdict_of r (retried js u.0.slot) y) ≡ false = subst (λ (c : Option Verdict). breaks c (bare_verdict js y) ≡ false) w z in
          let c : Some (told_verdict y.body) ≡ verdict js y = ap (λ (j : Verdict). Some j) (sym (body_told r (retried js u.0.slot) y.body g)) ∙ sym w in
          slot_same (plan_said (is_xid (lease js) y.xid)) (plan_of js y) (slot_said (has_lone (lone_in (bare js)) y.xid) y) (verdict js y) (lone_said (lone_in (bare js)) y) (bare_verdict js y) (phases js).0 (phases js).1 (n ∙ c) l m q;
    }

heard : (js : List Event) (c p : ℕ) (y : Reply) (r : Request) → Seats js → Known js → Alone js → MayTake js c p y r → Heard js y
heard js c p y r t k a m = by m.awaited where
  by : IsAwaited js r → Heard js y
  by (inl w) = heard_bare js y r t k w.is_out (fits_xid r y m.fits)
  by (inr w) = heard_on js y w.0 r t k a w.1.is_out (fits_xid r y m.fits)

-- all but the phases
rest_is : (js : List Event) (c p : ℕ) (y : Reply) → Seats js → Heard js y → (f w : Phase) → with_phases f w (lone_said (lone_in (bare js)) y) (took_lone y (lone_in (bare js))) js y ≡ with_phases f w (bare_verdict js y) (lone_in (bare (Took c p y ∷ js))) js y
rest_is js c p y t h f w =
    let l : took_lone y (lone_in (bare js)) ≡ lone_in (bare (Took c p y ∷ js)) = lone_taken (bare js) y ∙ ap (λ (o : Option Request). lone_in o) (took_bare_is js c p y t) in
    ap (λ (z : Option BareVerdict). with_phases f w z (took_lone y (lone_in (bare js))) js y) h.bare_is ∙ ap (λ (z : Option Lone). with_phases f w (bare_verdict js y) z js y) l

took_at : (js : List Event) (c p : ℕ) (y : Reply) → Seats js → Heard js y → (d : Bool) → breaks (verdict js y) (bare_verdict js y) ≡ d → (if d then dead (took (recovery js) y) else took (recovery js) y) ≡ recovery (Took c p y ∷ js)
took_at js c p y t h true e =
    let f = dead_by js y (phases js).0 (phases js).1 e in
    let g : with_phases Dead Dead (bare_verdict js y) (lone_in (bare (Took c p y ∷ js))) js y ≡ recovery (Took c p y ∷ js) = ap (λ (z : Phase). with_phases z (worked z (phases js).1) (bare_verdict js y) (lone_in (bare (Took c p y ∷ js))) js y) (sym f) in
    rest_is js c p y t h Dead Dead ∙ g
took_at js c p y t h false e =
    let f = phase_by (said (recovery js) y) js y (phases js).0 (phases js).1 (h.phase_is e) in
    let g : took (recovery js) y ≡ with_phases (took_phase js y (phases js).0 (phases js).1) (worked (took_phase js y (phases js).0 (phases js).1) (phases js).1) (lone_said (lone_in (bare js)) y) (took_lone y (lone_in (bare js))) js y = ap (λ (z : Phase). with_phases z (worked z (phases js).1) (lone_said (lone_in (bare js)) y) (took_lone y (lone_in (bare js))) js y) f in
    g ∙ rest_is js c p y t h (took_phase js y (phases js).0 (phases js).1) (worked (took_phase js y (phases js).0 (phases js).1) (phases js).1)

took_after : (js : List Event) (c p : ℕ) (y : Reply) (r : Request) → Seats js → Known js → Alone js → MayTake js c p y r → after js (Took c p y) (recovery js) ≡ recovery (Took c p y ∷ js)
took_after js c p y r t k a m = took_at js c p y t (heard js c p y r t k a m) (breaks (verdict js y) (bare_verdict js y)) refl

event_step : (u : Setup) (js : List Event) (e : Event) → Kept u js → May u js e → Seats js → Known js → after js e (recovery js) ≡ recovery (e ∷ js)
event_step u js (Began c n k m) d h t v = refl
event_step u js (Put c p r) d h t v = put_step u js c p r t v h
event_step u js (Took c p y) d h t v = took_after js c p y h.0 t v (alone u js d) h.1
event_step u js (CbTook c p x) d h t v = absurd h
event_step u js (CbPut c p x) d h t v = absurd h
event_step u js (Dialed c) d h t v = refl
event_step u js DialFailed d h t v = refl
event_step u js (Broke c w) d h t v = refl
event_step u js (Ticked m) d h t v = refl
event_step u js (Answered c n a) d h t v = refl
event_step u js Quit d h t v = refl

pub recovery_steps : RecoverySteps
recovery_steps u js e k = event_step u js e k.0 k.1 (seats u js k.0) (known u js k.0)

stepped_is : (u : Setup) (js : List Event) → Kept u js → stepped js ≡ recovery js
stepped_is u [] k = refl
stepped_is u (e ∷ js) k = ap (λ (r : Recovery). after js e r) (stepped_is u js k.0) ∙ recovery_steps u js e k

pub tells_phase : TellsPhase
tells_phase u js k = ap (λ (r : Recovery). r.phase) (stepped_is u js k)
