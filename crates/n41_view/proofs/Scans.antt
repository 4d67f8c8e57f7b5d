-- What a scan of the tables tells is what the journal tells.
use Rattle.std.proofs.Common.{◌≡◌, ℕ, zero, suc, ◌+◌, max, Bool, true, false, ◌&&◌, ◌||◌, not, List, [], ◌∷◌, length, Option, Some, None, if◌then◌else◌, refl, sym, ◌∙◌, ap, arith, add-one}
use Rattle.std.specs.Prelude.{nat_le, nat_lt, is_none}
use Rattle.n41_types.specs.declared.plans.Plan.{Plan}
use Rattle.n41_types.specs.declared.plans.Request.{Request}
use Rattle.n41_journal.specs.declared.events.Event.{Event}
use Rattle.n41_journal.specs.declared.events.Event.TheVariants.{Began, Put, Took, CbTook, CbPut, Dialed, DialFailed, Broke, Ticked, Answered, Quit}
use Rattle.n41_model.specs.declared.words.Phase.{Phase}
use Rattle.n41_model.specs.declared.words.Phase.TheVariants.{Down, Binding, Session, ClientId, Settling, Reclaiming, Completing, Running, Dead}
use Rattle.n41_model.specs.Requests.{outs, out, used, sent, is_waiting, quit}
use Rattle.n41_model.specs.Sessions.{is_step_of, plan_of, slots, target, is_empty, is_free, lowest_free, free_slot, highest_from, highest, put_off, next_xid, unused_xid, xid_after, last_xid}
use Rattle.n41_calls.specs.Calls.{command, owner, all_answered}
use Rattle.n41_calls.specs.Due.{waits_from, any_waits, own_from, any_own, finishing}
use Rattle.n41_calls.proofs.Slots.{Seats}
use Rattle.n41_view.specs.View.{view, held_of, slot_of, slots_from, seats_from, put_offs_of}
use Rattle.n41_view.specs.Due.{all_idle, finishing_in, waits_held, any_waiting, owns_held, any_owned, is_free_slot, first_free, highest_in, put_off_in, xid_in}
use Rattle.n41_view.specs.declared.tables.Slot.{Slot}
use Rattle.n41_view.proofs.Lists.{empty_is_none}
use Rattle.n41_view.proofs.Lookups.{requests_are}

-- ---- callers

and_apart : (a b c : Bool) → ((a && b) && c) ≡ (b && (a && c))
and_apart true true c = refl
and_apart true false c = refl
and_apart false true c = refl
and_apart false false c = refl

and_true : (a : Bool) → (a && true) ≡ a
and_true true = refl
and_true false = refl

idle_from : (n : ℕ) (js : List Event) (i k : ℕ) → (all_idle (seats_from n js i k) && all_answered js i) ≡ all_answered js (i + k)
idle_from n js i zero = let e : i + 0 ≡ i = omega arith in rw e refl
idle_from n js i (suc k) =
    let e : i + suc k ≡ (i + 1) + k = omega arith in
    let f : i + 1 ≡ suc i = add-one i in
    let a = and_apart (is_none (command js i)) (all_idle (seats_from n js (i + 1) k)) (all_answered js i) in
    let b : (all_idle (seats_from n js (i + 1) k) && all_answered js (suc i)) ≡ (all_idle (seats_from n js (i + 1) k) && all_answered js (i + 1)) = ap (λ (m : ℕ). all_idle (seats_from n js (i + 1) k) && all_answered js m) (sym f) in
    a ∙ (b ∙ (idle_from n js (i + 1) k ∙ ap (λ (m : ℕ). all_answered js m) (sym e)))

pub idle_is : (n : ℕ) (js : List Event) → all_idle (seats_from n js 0 n) ≡ all_answered js n
idle_is n js =
    let e : 0 + n ≡ n = omega arith in
    sym (and_true (all_idle (seats_from n js 0 n))) ∙ (idle_from n js 0 n ∙ ap (λ (m : ℕ). all_answered js m) e)

pub finishing_is : (n : ℕ) (js : List Event) → finishing_in (view n js) ≡ finishing n js
finishing_is n js = ap (λ (b : Bool). quit js && b) (idle_is n js)

-- ---- slots

is_none_held : (n : ℕ) (js : List Event) (s : ℕ) (o : Option Request) → is_none (held_of n js s o) ≡ is_none o
is_none_held n js s None = refl
is_none_held n js s (Some r) = refl

-- nothing is held where nothing is out
pub none_held : (n : ℕ) (js : List Event) (s : ℕ) → is_none (held_of n js s (out js s)) ≡ is_empty (outs js s)
none_held n js s = is_none_held n js s (out js s) ∙ sym (empty_is_none (outs js s))

waits_is : (n : ℕ) (js : List Event) (s : ℕ) (o : Option Request) → waits_held (held_of n js s o) ≡ (not (is_none o) && is_waiting (sent js s))
waits_is n js s None = refl
waits_is n js s (Some r) = refl

owns_is : (n : ℕ) (js : List Event) (s : ℕ) (o : Option Request) → owns_held (held_of n js s o) ≡ (not (is_none o) && is_none (owner n js s))
owns_is n js s None = refl
owns_is n js s (Some r) = refl

waiting_from : (n : ℕ) (js : List Event) (i k : ℕ) → any_waiting (slots_from n js i k) ≡ waits_from js i k
waiting_from n js i zero = refl
waiting_from n js i (suc k) =
    let a = waits_is n js i (out js i) ∙ ap (λ (b : Bool). not b && is_waiting (sent js i)) (sym (empty_is_none (outs js i))) in
    ap (λ (b : Bool). b || any_waiting (slots_from n js (i + 1) k)) a ∙ ap (λ (b : Bool). (not (is_empty (outs js i)) && is_waiting (sent js i)) || b) (waiting_from n js (i + 1) k)

pub waiting_is : (n : ℕ) (js : List Event) → any_waiting (slots_from n js 0 (slots js)) ≡ any_waits js
waiting_is n js = waiting_from n js 0 (slots js)

owned_from : (n : ℕ) (js : List Event) (i k : ℕ) → any_owned (slots_from n js i k) ≡ own_from n js i k
owned_from n js i zero = refl
owned_from n js i (suc k) =
    let a = owns_is n js i (out js i) ∙ ap (λ (b : Bool). not b && is_none (owner n js i)) (sym (empty_is_none (outs js i))) in
    ap (λ (b : Bool). b || any_owned (slots_from n js (i + 1) k)) a ∙ ap (λ (b : Bool). (not (is_empty (outs js i)) && is_none (owner n js i)) || b) (owned_from n js (i + 1) k)

pub owned_is : (n : ℕ) (js : List Event) → any_owned (slots_from n js 0 (slots js)) ≡ any_own n js
owned_is n js = owned_from n js 0 (slots js)

-- ---- the lowest slot that is free

abbrev pub slot_in : ℕ → List Event → Option ℕ → Option Slot
slot_in n js None = None
slot_in n js (Some s) = Some (slot_of n js s)

free_is : (n : ℕ) (js : List Event) (s : ℕ) → is_free_slot (target js) (slot_of n js s) ≡ is_free js s
free_is n js s = ap (λ (b : Bool). b && nat_le s (target js) && nat_lt (used js s) 4294967295) (none_held n js s)

free_at : (n : ℕ) (js : List Event) (i k : ℕ) → first_free (target js) (slots_from n js (i + 1) k) ≡ slot_in n js (lowest_free js (i + 1) k) → (b : Bool) → is_free js i ≡ b → first_free (target js) (slots_from n js i (suc k)) ≡ slot_in n js (lowest_free js i (suc k))
free_at n js i k h true e =
    let a : first_free (target js) (slots_from n js i (suc k)) ≡ Some (slot_of n js i) = ap (λ (b : Bool). if b then Some (slot_of n js i) else first_free (target js) (slots_from n js (i + 1) k)) (free_is n js i ∙ e) in
    let b : lowest_free js i (suc k) ≡ Some i = ap (λ (b : Bool). if b then Some i else lowest_free js (i + 1) k) e in
    a ∙ ap (λ (o : Option ℕ). slot_in n js o) (sym b)
free_at n js i k h false e =
    let a : first_free (target js) (slots_from n js i (suc k)) ≡ first_free (target js) (slots_from n js (i + 1) k) = ap (λ (b : Bool). if b then Some (slot_of n js i) else first_free (target js) (slots_from n js (i + 1) k)) (free_is n js i ∙ e) in
    let b : lowest_free js i (suc k) ≡ lowest_free js (i + 1) k = ap (λ (b : Bool). if b then Some i else lowest_free js (i + 1) k) e in
    a ∙ (h ∙ ap (λ (o : Option ℕ). slot_in n js o) (sym b))

free_from : (n : ℕ) (js : List Event) (i k : ℕ) → first_free (target js) (slots_from n js i k) ≡ slot_in n js (lowest_free js i k)
free_from n js i zero = refl
free_from n js i (suc k) = free_at n js i k (free_from n js (i + 1) k) (is_free js i) refl

pub free_slot_is : (n : ℕ) (js : List Event) → first_free (target js) (slots_from n js 0 (slots js)) ≡ slot_in n js (free_slot js)
free_slot_is n js = free_from n js 0 (slots js)

-- ---- the highest slot that is out

high_from : (n : ℕ) (js : List Event) (i k h : ℕ) → highest_in (slots_from n js i k) h ≡ highest_from js i k h
high_from n js i zero h = refl
high_from n js i (suc k) h =
    ap (λ (b : Bool). highest_in (slots_from n js (i + 1) k) (if b then h else max i h)) (none_held n js i) ∙ high_from n js (i + 1) k (if is_empty (outs js i) then h else max i h)

pub highest_is : (n : ℕ) (js : List Event) (h : ℕ) → highest_in (slots_from n js 0 (slots js)) h ≡ highest js h
highest_is n js h = high_from n js 0 (slots js) h

-- ---- xids

pub xid_is : (n : ℕ) (js : List Event) → Seats js → xid_in (view n js) ≡ next_xid js
xid_is n js s = ap (λ (rs : List Request). unused_xid rs (xid_after (last_xid js)) (suc (length rs))) (requests_are n js s)

-- ---- what was put off

-- a phase that puts no request has none that was put off
quiet : (q : Phase) → ((p : Plan) → is_step_of q p ≡ false) → (js : List Event) → put_off js q ≡ None
quiet q h [] = refl
quiet q h (Began c n k m ∷ js) = quiet q h js
quiet q h (Put c p r ∷ js) = rw (h r.plan) (quiet q h js)
quiet q h (Took c p y ∷ js) = rw (h (plan_of js y)) (quiet q h js)
quiet q h (CbTook c p x ∷ js) = quiet q h js
quiet q h (CbPut c p x ∷ js) = quiet q h js
quiet q h (Dialed c ∷ js) = quiet q h js
quiet q h (DialFailed ∷ js) = quiet q h js
quiet q h (Broke c w ∷ js) = quiet q h js
quiet q h (Ticked m ∷ js) = quiet q h js
quiet q h (Answered c n a ∷ js) = quiet q h js
quiet q h (Quit ∷ js) = quiet q h js

pub put_off_is : (js : List Event) (q : Phase) → put_off_in (put_offs_of js) q ≡ put_off js q
put_off_is js Down = sym (quiet Down (λ p. refl) js)
put_off_is js Binding = refl
put_off_is js Session = refl
put_off_is js ClientId = refl
put_off_is js Settling = sym (quiet Settling (λ p. refl) js)
put_off_is js Reclaiming = sym (quiet Reclaiming (λ p. refl) js)
put_off_is js Completing = refl
put_off_is js Running = sym (quiet Running (λ p. refl) js)
put_off_is js Dead = sym (quiet Dead (λ p. refl) js)
