-- The tables after a reply.
use Rattle.std.proofs.Common.{◌≡◌, ℕ, zero, suc, ◌+◌, ◌-◌, min, Bool, true, false, ◌&&◌, List, ◌∷◌, map, Option, Some, None, if◌then◌else◌, refl, sym, ◌∙◌, ap}
use Rattle.std.specs.Prelude.{is_some}
use Rattle.n41_types.specs.declared.plans.Request.{Request}
use Rattle.n41_results.specs.declared.replies.Reply.{Reply}
use Rattle.n41_results.specs.declared.sessions.SessionMade.{SessionMade}
use Rattle.n41_journal.specs.declared.events.Event.{Event}
use Rattle.n41_journal.specs.declared.events.Event.TheVariants.{Took}
use Rattle.n41_model.specs.declared.words.Phase.{Phase}
use Rattle.n41_model.specs.declared.words.Phase.TheVariants.{Down, Binding, Session, ClientId, Settling, Reclaiming, Completing, Running, Dead}
use Rattle.n41_model.specs.declared.words.Sent.{Sent}
use Rattle.n41_model.specs.Replies.{is_final, gives_back, sequence_status}
use Rattle.n41_model.specs.Requests.{moment, used, retried, sent, put_at, doubt, made, sent_after, bares, bare, outs, out, knows, has_xid, request, verdict, session_in}
use Rattle.n41_model.specs.Sessions.{slots, phases, took_phase, plan_of, worked}
use Rattle.n41_calls.specs.Calls.{Call, command, call, owner, owner_at, slot_in, ledger, took_call, is_caller}
use Rattle.n41_calls.specs.Kept.{MayTake}
use Rattle.n41_calls.proofs.Slots.{Seats}
use Rattle.n41_view.specs.View.{View, view, facts_of, held_of, slot_of, slots_from, seat_of, seat_with, seats_from}
use Rattle.n41_view.specs.Step.{has, holds, counted, took_facts, took_bare, took_held, took_slot, took_seat, new_slots, slots_made, reply_phase, Said, said, step}
use Rattle.n41_view.proofs.Lists.{one_on, one_bare, knows_is, without_is}
use Rattle.n41_view.proofs.Known.{Known}
use Rattle.n41_view.proofs.Lookups.{parts, slot_is, held_same, tables, tables_are, slots_map, seats_map, holds_is}
use Rattle.n41_view.proofs.Told.{told, said_told}

-- ---- facts

phase_is : (n : ℕ) (js : List Event) (y : Reply) (p w : Phase) → reply_phase (told n js y) p w ≡ took_phase js y p w
phase_is n js y Down w = refl
phase_is n js y Binding w = refl
phase_is n js y Session w = refl
phase_is n js y ClientId w = refl
phase_is n js y Settling w = refl
phase_is n js y Reclaiming w = refl
phase_is n js y Completing w = refl
phase_is n js y Running w = refl
phase_is n js y Dead w = refl

pub took_facts_are : (n : ℕ) (js : List Event) (c p : ℕ) (y : Reply) → counted (took_facts (told n js y) y (facts_of js)) ≡ facts_of (Took c p y ∷ js)
took_facts_are n js c p y =
    let e = phase_is n js y (phases js).0 (phases js).1 in
    ap (λ (z : Phase). record (facts_of (Took c p y ∷ js)) { phase = z; work = worked z (phases js).1 }) e

-- ---- the request without a slot

pub took_bare_is : (js : List Event) (c p : ℕ) (y : Reply) → Seats js → took_bare y (bare js) ≡ bare (Took c p y ∷ js)
took_bare_is js c p y s = sym (without_is (bares js) y.xid (one_bare (bares js) s.lone))

-- ---- slots

-- of a session that is made
new_slots_are : (n : ℕ) (js : List Event) (c p : ℕ) (y : Reply) → is_some (made js y) ≡ true → (i k : ℕ) → new_slots i k ≡ slots_from n (Took c p y ∷ js) i k
new_slots_are n js c p y d i zero = refl
new_slots_are n js c p y d i (suc k) =
    let u : used (Took c p y ∷ js) i ≡ 0 = rw d refl in
    let o : out (Took c p y ∷ js) i ≡ None = rw d refl in
    let h : held_of n (Took c p y ∷ js) i None ≡ held_of n (Took c p y ∷ js) i (out (Took c p y ∷ js) i) = ap (λ (z : Option Request). held_of n (Took c p y ∷ js) i z) (sym o) in
    let a = slot_is i (sym u) h in
    let b = new_slots_are n js c p y d (i + 1) k in
    cc

-- what is out on a slot after a reply that made no session
out_after : (js : List Event) (c p s : ℕ) (y : Reply) → Seats js → is_some (made js y) ≡ false → (f : Bool) → is_final y ≡ f → out (Took c p y ∷ js) s ≡ (if f then (if has y.xid (out js s) then None else out js s) else out js s)
out_after js c p s y t d true f = rw (d, f) (without_is (outs js s) y.xid (one_on s (outs js s) (t.on s)))
out_after js c p s y t d false f = rw (d, f) refl

used_after : (n : ℕ) (js : List Event) (c p s : ℕ) (y : Reply) → Seats js → is_some (made js y) ≡ false → (if holds y.xid (held_of n js s (out js s)) && gives_back y then used js s - 1 else used js s) ≡ used (Took c p y ∷ js) s
used_after n js c p s y t d =
    let a = holds_is n js s y.xid (out js s) in
    let b = knows_is (outs js s) y.xid (one_on s (outs js s) (t.on s)) in
    let e : used (Took c p y ∷ js) s ≡ (if knows (outs js s) y.xid && gives_back y then used js s - 1 else used js s) = rw d refl in
    ap (λ (z : Bool). if z && gives_back y then used js s - 1 else used js s) (a ∙ sym b) ∙ sym e

-- what is held on a slot where the reply finds nothing
held_missed : (n : ℕ) (js : List Event) (c p s : ℕ) (y : Reply) → Seats js → (q : Request) → knows (outs js s) y.xid ≡ false → held_of n js s (Some q) ≡ held_of n (Took c p y ∷ js) s (Some q)
held_missed n js c p s y t q k =
    let b : sent js s ≡ sent (Took c p y ∷ js) s = rw k refl in
    held_same n js (Took c p y ∷ js) s (Some q) refl b refl refl refl

-- and where it finds its request, which stays
held_stays : (n : ℕ) (js : List Event) (c p s : ℕ) (y : Reply) (q : Request) → knows (outs js s) y.xid ≡ true → Some (parts q (retried js s) (sent_after (moment js) (sequence_status y.body)) (put_at js s) (doubt js s) (owner n js s)) ≡ held_of n (Took c p y ∷ js) s (Some q)
held_stays n js c p s y q k =
    let b : sent (Took c p y ∷ js) s ≡ sent_after (moment js) (sequence_status y.body) = rw k refl in
    ap (λ (z : Sent). Some (parts q (retried js s) z (put_at js s) (doubt js s) (owner n js s))) (sym b)

held_after : (n : ℕ) (js : List Event) (c p s : ℕ) (y : Reply) → Seats js → (q : Option Request) → knows (outs js s) y.xid ≡ has y.xid q → (b : Bool) → has y.xid q ≡ b → (f : Bool) → is_final y ≡ f → took_held (moment js) y (held_of n js s q) ≡ held_of n (Took c p y ∷ js) s (if f then (if has y.xid q then None else q) else q)
held_after n js c p s y t None k b h true f = refl
held_after n js c p s y t None k b h false f = refl
held_after n js c p s y t (Some q) k false h true f =
    let l : took_held (moment js) y (held_of n js s (Some q)) ≡ held_of n js s (Some q) = rw h refl in
    let m : held_of n (Took c p y ∷ js) s (if has_xid y.xid q then None else Some q) ≡ held_of n (Took c p y ∷ js) s (Some q) = rw h refl in
    l ∙ (held_missed n js c p s y t q (k ∙ h) ∙ sym m)
held_after n js c p s y t (Some q) k false h false f =
    let l : took_held (moment js) y (held_of n js s (Some q)) ≡ held_of n js s (Some q) = rw h refl in
    l ∙ held_missed n js c p s y t q (k ∙ h)
held_after n js c p s y t (Some q) k true h true f =
    let l : took_held (moment js) y (held_of n js s (Some q)) ≡ None = rw (h, f) refl in
    let m : held_of n (Took c p y ∷ js) s (if has_xid y.xid q then None else Some q) ≡ None = rw h refl in
    l ∙ sym m
held_after n js c p s y t (Some q) k true h false f =
    let l : took_held (moment js) y (held_of n js s (Some q)) ≡ Some (parts q (retried js s) (sent_after (moment js) (sequence_status y.body)) (put_at js s) (doubt js s) (owner n js s)) = rw (h, f) refl in
    l ∙ held_stays n js c p s y q (k ∙ h)

took_slot_is : (n : ℕ) (js : List Event) (c p s : ℕ) (y : Reply) → Seats js → is_some (made js y) ≡ false → took_slot (moment js) y (slot_of n js s) ≡ slot_of n (Took c p y ∷ js) s
took_slot_is n js c p s y t d =
    let k = knows_is (outs js s) y.xid (one_on s (outs js s) (t.on s)) in
    let h = held_after n js c p s y t (out js s) k (has y.xid (out js s)) refl (is_final y) refl in
    let o = out_after js c p s y t d (is_final y) refl in
    let g = ap (λ (z : Option Request). held_of n (Took c p y ∷ js) s z) (sym o) in
    slot_is s (used_after n js c p s y t d) (h ∙ g)

pub took_slots_are : (n : ℕ) (js : List Event) (c p : ℕ) (y : Reply) → Seats js → (o : Option SessionMade) → made js y ≡ o → slots_made o (map (took_slot (moment js) y) (slots_from n js 0 (slots js))) ≡ slots_from n (Took c p y ∷ js) 0 (slots (Took c p y ∷ js))
took_slots_are n js c p y t (Some m) e =
    let d : is_some (made js y) ≡ true = rw e refl in
    let k : slots (Took c p y ∷ js) ≡ min 64 m.fore.requests_max = rw e refl in
    rw k (new_slots_are n js c p y d 0 (min 64 m.fore.requests_max))
took_slots_are n js c p y t None e =
    let d : is_some (made js y) ≡ false = rw e refl in
    let k : slots (Took c p y ∷ js) ≡ slots js = rw e refl in
    rw k (slots_map n js (Took c p y ∷ js) (took_slot (moment js) y) (λ s. took_slot_is n js c p s y t d) 0 (slots js))

-- ---- seats

abbrev asked_by : ℕ → List Event → Reply → Option ℕ
asked_by n js y = owner_at (ledger n js).owners (slot_in (request js y.xid))

took_seat_at : (n : ℕ) (js : List Event) (c p d : ℕ) (y : Reply) (b : Bool) → is_caller (asked_by n js y) d ≡ b → took_seat (moment js) (told n js y) y (seat_of n js d) ≡ seat_of n (Took c p y ∷ js) d
took_seat_at n js c p d y b e =
    let a : took_seat (moment js) (told n js y) y (seat_of n js d) ≡ (if b then seat_with n js d (took_call (moment js) (command js d) (plan_of js y) (verdict js y) y (call n js d)) else seat_of n js d) = ap (λ (z : Bool). if z then seat_with n js d (took_call (moment js) (command js d) (plan_of js y) (verdict js y) y (call n js d)) else seat_of n js d) e in
    let f : call n (Took c p y ∷ js) d ≡ (if b then took_call (moment js) (command js d) (plan_of js y) (verdict js y) y (call n js d) else call n js d) = ap (λ (z : Bool). if z then took_call (moment js) (command js d) (plan_of js y) (verdict js y) y (call n js d) else call n js d) e in
    let g = ap (λ (k : Call). seat_with n js d k) (sym f) in
    a ∙ (both b ∙ g) where
      both : (b : Bool) → (if b then seat_with n js d (took_call (moment js) (command js d) (plan_of js y) (verdict js y) y (call n js d)) else seat_of n js d) ≡ seat_with n js d (if b then took_call (moment js) (command js d) (plan_of js y) (verdict js y) y (call n js d) else call n js d)
      both true = refl
      both false = refl

pub took_seat_is : (n : ℕ) (js : List Event) (c p d : ℕ) (y : Reply) → took_seat (moment js) (told n js y) y (seat_of n js d) ≡ seat_of n (Took c p y ∷ js) d
took_seat_is n js c p d y = took_seat_at n js c p d y (is_caller (asked_by n js y) d) refl

-- ---- the tables

-- the tables after a reply that says this
abbrev after : ℕ → List Event → Reply → Said → View
after n js y a = tables (counted (took_facts a y (facts_of js))) (took_bare y (bare js)) (slots_made (session_in a.bare) (map (took_slot (moment js) y) (slots_from n js 0 (slots js)))) (map (took_seat (moment js) a y) (seats_from n js 0 n))

pub took_step : (n : ℕ) (js : List Event) (c p : ℕ) (y : Reply) (r : Request) → Seats js → Known js → MayTake js c p y r → step (view n js) (Took c p y) ≡ view n (Took c p y ∷ js)
took_step n js c p y r s k m =
    let e : after n js y (said (view n js) y) ≡ after n js y (told n js y) = ap (λ (z : Said). after n js y z) (said_told n js c p y r s k m) in
    let f = seats_map n js (Took c p y ∷ js) (took_seat (moment js) (told n js y) y) (λ d. took_seat_is n js c p d y) 0 n in
    e ∙ tables_are (took_facts_are n js c p y) (took_bare_is js c p y s) (took_slots_are n js c p y s (made js y) refl) f
