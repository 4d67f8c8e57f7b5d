-- What the machine has is what the journal says, event by event.
use Rattle.std.proofs.Common.{◌≡◌, ℕ, ◌+◌, true, false, List, [], ◌∷◌, length, Option, None, if◌then◌else◌, refl, sym, ◌∙◌, ap, add-one}
use Rattle.std.specs.BTreeMap.{BTreeMap}
use Rattle.n41_types.specs.declared.plans.Request.{Request}
use Rattle.n41_results.specs.declared.replies.Reply.{Reply}
use Rattle.n41_journal.specs.declared.events.Cause.{Cause}
use Rattle.n41_journal.specs.declared.events.Event.{Event}
use Rattle.n41_journal.specs.declared.events.Event.TheVariants.{Put, Took, Dialed, Broke}
use Rattle.n41_model.specs.Requests.{bare_verdict_on, moment, request, slot_number, verdict_in}
use Rattle.n41_model.specs.Sessions.{phase, plan_in}
use Rattle.n41_calls.specs.Calls.{chosen, in_running, is_caller, is_new, ledger, owner_at, slot_in, took_call}
use Rattle.n41_view.specs.Step.{Said, call_of, with_call}
use Rattle.n41_model.specs.declared.words.BareVerdict.{BareVerdict}
use Rattle.n41_model.specs.declared.words.Verdict.{Verdict}
use Rattle.n41_view.specs.View.{seat_of}
use Rattle.n41_view.specs.declared.tables.Seat.{Seat}
use Rattle.n41_check.specs.Asked.{Knows}
use Rattle.n41_check.specs.Callers.{put, seat_at}
use Rattle.n41_check.specs.Shows.{Owns, Shows, now_of, said_of}
use Rattle.n41_check.specs.declared.machine.Machine.{Machine}
use Rattle.n41_check.specs.declared.now.Now.{Now}
use Rattle.n41_check.specs.declared.requests.Requests.{Requests}
use Rattle.n41_check.proofs.Seats.{put_is, took_is}

-- an empty map has nothing of any caller
pub seat_empty : (n : ℕ) (m : BTreeMap ℕ Seat) (c : ℕ) → m.entries ≡ [] → seat_at m c ≡ seat_of n [] c
seat_empty n m c e = rw e refl

-- ---- whose a new request is

pub owns_none : (n : ℕ) (js : List Event) (r : Request) → is_new js r (slot_number r.slot) ≡ false → Owns n js r None
owns_none n js r e = record { new = λ k. (let z : false ≡ true = sym e ∙ k in absurd (cc)); again = λ _. refl }

pub owns_new : (n : ℕ) (js : List Event) (r : Request) (o : Option ℕ) → is_new js r (slot_number r.slot) ≡ true → o ≡ in_running (phase js) (chosen js (ledger n js).calls r.plan n) → Owns n js r o
owns_new n js r o e h = record { new = λ _. h; again = λ k. (let z : true ≡ false = sym e ∙ k in absurd (cc)) }

-- what is said of a reply, part by part
pub said_is : (n : ℕ) (js : List Event) (y : Reply) (o : Option Request) (a : Option BareVerdict) (v : Option Verdict) (w : Option ℕ) → o ≡ request js y.xid → a ≡ bare_verdict_on o y → v ≡ verdict_in js y o → w ≡ owner_at (ledger n js).owners (slot_in o) → (let r : Said = record { bare = a; slot = v; plan = plan_in o; owner = w } in r) ≡ said_of n js y
said_is n js y o a v w e f g h = rw (f, g, h, e) refl

-- ---- events

seats_put : (n : ℕ) (js : List Event) (d p : ℕ) (r : Request) (o : Option ℕ) (m z : BTreeMap ℕ Seat) → Owns n js r o → ((c : ℕ) → seat_at m c ≡ seat_of n js c) → ((c : ℕ) → seat_at z c ≡ (if is_caller o c then put (seat_at m c) else seat_at m c)) → (c : ℕ) → seat_at z c ≡ seat_of n (Put d p r ∷ js) c
seats_put n js d p r o m z w h k c =
    k c ∙ (ap (λ (s : Seat). if is_caller o c then put s else s) (h c) ∙ sym (put_is n js d p r o c w))

pub shows_put : (n : ℕ) (js : List Event) (d p : ℕ) (r : Request) (o : Option ℕ) (m : Machine) (q : Requests) (z : BTreeMap ℕ Seat) → Owns n js r o → Shows n js m → Knows n (Put d p r ∷ js) q → ((c : ℕ) → seat_at z c ≡ (if is_caller o c then put (seat_at m.seats c) else seat_at m.seats c)) → Shows n (Put d p r ∷ js) (record { count = m.count + 1; facts = m.facts; requests = q; seats = z })
shows_put n js d p r o m q z w s k h = record {
  few = s.few;
  count = ap (λ (i : ℕ). i + 1) s.count ∙ add-one (length js);
  facts = s.facts;
  requests = k;
  seats = seats_put n js d p r o m.seats z w s.seats h;
}

took_seats : (n : ℕ) (js : List Event) (d p : ℕ) (y : Reply) (a : Said) (t : ℕ) (m z : BTreeMap ℕ Seat) → a ≡ said_of n js y → t ≡ moment js → ((c : ℕ) → seat_at m c ≡ seat_of n js c) → ((c : ℕ) → seat_at z c ≡ (if is_caller a.owner c then with_call (seat_at m c) (took_call t (seat_at m c).command a.plan a.slot y (call_of (seat_at m c))) else seat_at m c)) → (c : ℕ) → seat_at z c ≡ seat_of n (Took d p y ∷ js) c
took_seats n js d p y a t m z e f h k c =
    let g = λ (b : Said) (i : ℕ) (s : Seat). if is_caller b.owner c then with_call s (took_call i s.command b.plan b.slot y (call_of s)) else s in
    k c
    ∙ (ap (λ (b : Said). g b t (seat_at m c)) e
    ∙ (ap (λ (i : ℕ). g (said_of n js y) i (seat_at m c)) f
    ∙ (ap (g (said_of n js y) (moment js)) (h c) ∙ sym (took_is n js d p y c))))

pub shows_took : (n : ℕ) (js : List Event) (d p : ℕ) (y : Reply) (a : Said) (m : Machine) (f : Now) (q : Requests) (z : BTreeMap ℕ Seat) → a ≡ said_of n js y → Shows n js m → f ≡ now_of (Took d p y ∷ js) → Knows n (Took d p y ∷ js) q → ((c : ℕ) → seat_at z c ≡ (if is_caller a.owner c then with_call (seat_at m.seats c) (took_call m.facts.moment (seat_at m.seats c).command a.plan a.slot y (call_of (seat_at m.seats c))) else seat_at m.seats c)) → Shows n (Took d p y ∷ js) (record { count = m.count + 1; facts = f; requests = q; seats = z })
shows_took n js d p y a m f q z e s g k h = record {
  few = s.few;
  count = ap (λ (i : ℕ). i + 1) s.count ∙ add-one (length js);
  facts = g;
  requests = k;
  seats = took_seats n js d p y a m.facts.moment m.seats z e (ap (λ (w : Now). w.moment) s.facts) s.seats h;
}

pub shows_dialed : (n : ℕ) (js : List Event) (d : ℕ) (m : Machine) (f : Now) (q : Requests) → Shows n js m → f ≡ now_of (Dialed d ∷ js) → Knows n (Dialed d ∷ js) q → Shows n (Dialed d ∷ js) (record { count = m.count + 1; facts = f; requests = q; seats = m.seats })
shows_dialed n js d m f q s g k = record { few = s.few; count = ap (λ (i : ℕ). i + 1) s.count ∙ add-one (length js); facts = g; requests = k; seats = s.seats }

pub shows_broke : (n : ℕ) (js : List Event) (d : ℕ) (w : Cause) (m : Machine) (f : Now) (q : Requests) → Shows n js m → f ≡ now_of (Broke d w ∷ js) → Knows n (Broke d w ∷ js) q → Shows n (Broke d w ∷ js) (record { count = m.count + 1; facts = f; requests = q; seats = m.seats })
shows_broke n js d w m f q s g k = record { few = s.few; count = ap (λ (i : ℕ). i + 1) s.count ∙ add-one (length js); facts = g; requests = k; seats = s.seats }
