-- Which event may follow, by the tables and by the journal.
use Rattle.std.proofs.Common.{◌≡◌, ◌↔◌, ℕ, suc, List, Option, sym, ◌∙◌, ap, subst}
use Rattle.std.specs.Prelude.{IsSome}
use Rattle.n41_types.specs.declared.commands.Answer.{Answer}
use Rattle.n41_types.specs.declared.commands.Command.{Command}
use Rattle.n41_types.specs.declared.plans.Request.{Request}
use Rattle.n41_results.specs.declared.replies.Reply.{Reply}
use Rattle.n41_journal.specs.declared.events.Cause.{Cause}
use Rattle.n41_journal.specs.declared.events.Cause.TheVariants.{Link, Ended, BadRecord, Garbled, Old, NoMemory}
use Rattle.n41_journal.specs.declared.events.Event.{Event}
use Rattle.n41_journal.specs.declared.events.Event.TheVariants.{Began, Put, Took, CbTook, CbPut, Dialed, DialFailed, Broke, Ticked, Answered, Quit}
use Rattle.n41_model.specs.declared.words.Item.{Item}
use Rattle.n41_model.specs.declared.words.Setup.{Setup}
use Rattle.n41_calls.specs.Calls.{command, number}
use Rattle.n41_calls.specs.Kept.{May, MayBegin, MayPut, MayTake, MayBreakBy, MayAnswer}
use Rattle.n41_calls.proofs.Slots.{Seats}
use Rattle.n41_view.specs.View.{view, seat_of}
use Rattle.n41_view.specs.May.{MayIn, MayBeginIn, MayPutIn, MayTakeIn, MayBreakIn, MayAnswerIn}
use Rattle.n41_view.specs.declared.tables.Seat.{Seat}
use Rattle.n41_view.proofs.Awaited.{awaited_is, old_is}
use Rattle.n41_view.proofs.Causes.{cause_is}
use Rattle.n41_view.proofs.Dues.{due_is}
use Rattle.n41_view.proofs.Found.{fits_xid}
use Rattle.n41_view.proofs.Known.{Known}
use Rattle.n41_view.proofs.Lookups.{seat_at, seat_below}

begin_to : (u : Setup) (js : List Event) (c n : ℕ) (k : Command) (m : ℕ) (s : Seat) → MayBeginIn (view u.callers js) c n k m s → MayBegin u js c n k m
begin_to u js c n k m s b =
    let h = seat_at u.callers js u.callers c s b.here in
    let e : command js c ≡ s.command = ap (λ (z : Seat). z.command) h.1 in
    let f : number js c ≡ s.number = ap (λ (z : Seat). z.number) h.1 in
    record { runs = b.runs; caller = h.0; idle = e ∙ b.idle; number_is = b.number_is ∙ ap (λ (z : ℕ). suc z) (sym f); moment_is = b.moment_is; built = b.built }

begin_from : (u : Setup) (js : List Event) (c n : ℕ) (k : Command) (m : ℕ) → MayBegin u js c n k m → (s : Seat) × MayBeginIn (view u.callers js) c n k m s
begin_from u js c n k m b =
    (seat_of u.callers js c, record { runs = b.runs; here = seat_below u.callers js u.callers c b.caller; idle = b.idle; number_is = b.number_is; moment_is = b.moment_is; built = b.built })

put_to : (u : Setup) (js : List Event) (c p : ℕ) (r : Request) (i : Item) → Seats js → Known js → MayPutIn u (view u.callers js) c p r i → MayPut u js c p r i
put_to u js c p r i t k b = record { stands = b.stands; place = b.place; is_due = sym (due_is u js i t k) ∙ b.is_due }

put_from : (u : Setup) (js : List Event) (c p : ℕ) (r : Request) (i : Item) → Seats js → Known js → MayPut u js c p r i → MayPutIn u (view u.callers js) c p r i
put_from u js c p r i t k b = record { stands = b.stands; place = b.place; is_due = due_is u js i t k ∙ b.is_due }

take_to : (n : ℕ) (js : List Event) (c p : ℕ) (y : Reply) (r : Request) → Seats js → Known js → MayTakeIn (view n js) c p y r → MayTake js c p y r
take_to n js c p y r t k b = record { stands = b.stands; place = b.place; awaited = ((awaited_is n js y.xid r t k).0 b.awaited).0; fits = b.fits }

take_from : (n : ℕ) (js : List Event) (c p : ℕ) (y : Reply) (r : Request) → Seats js → Known js → MayTake js c p y r → MayTakeIn (view n js) c p y r
take_from n js c p y r t k b = record { stands = b.stands; place = b.place; awaited = (awaited_is n js y.xid r t k).1 (b.awaited, fits_xid r y b.fits); fits = b.fits }

break_is : (n : ℕ) (js : List Event) (x : Cause) → Known js → MayBreakIn (view n js) x ↔ MayBreakBy js x
break_is n js Link k = (λ h. h, λ h. h)
break_is n js Ended k = (λ h. h, λ h. h)
break_is n js BadRecord k = (λ h. h, λ h. h)
break_is n js Garbled k = (λ h. h, λ h. h)
break_is n js (Old x) k = old_is n js x k
break_is n js NoMemory k = (λ h. h, λ h. h)

answer_to : (u : Setup) (js : List Event) (c n : ℕ) (a : Answer) (s : Seat) → Known js → MayAnswerIn (view u.callers js) c n a s → MayAnswer u js c n a
answer_to u js c n a s k b =
    let h = seat_at u.callers js u.callers c s b.here in
    let e : command js c ≡ s.command = ap (λ (z : Seat). z.command) h.1 in
    let f : number js c ≡ s.number = ap (λ (z : Seat). z.number) h.1 in
    record { caller = h.0; asked = subst (λ (o : Option Command). IsSome o) (sym e) b.asked; number_is = b.number_is ∙ sym f; cause = (cause_is u.callers js c s a k b.here).0 b.cause }

answer_from : (u : Setup) (js : List Event) (c n : ℕ) (a : Answer) → Known js → MayAnswer u js c n a → (s : Seat) × MayAnswerIn (view u.callers js) c n a s
answer_from u js c n a k b =
    let h = seat_below u.callers js u.callers c b.caller in
    (seat_of u.callers js c, record { here = h; asked = b.asked; number_is = b.number_is; cause = (cause_is u.callers js c (seat_of u.callers js c) a k h).1 b.cause })

pub may_is : (u : Setup) (js : List Event) (e : Event) → Seats js → Known js → MayIn u (view u.callers js) e ↔ May u js e
may_is u js (Began c n k m) t v = (λ h. begin_to u js c n k m h.0 h.1, λ h. begin_from u js c n k m h)
may_is u js (Put c p r) t v = (λ h. (h.0, put_to u js c p r h.0 t v h.1), λ h. (h.0, put_from u js c p r h.0 t v h.1))
may_is u js (Took c p y) t v = (λ h. (h.0, take_to u.callers js c p y h.0 t v h.1), λ h. (h.0, take_from u.callers js c p y h.0 t v h.1))
may_is u js (CbTook c p x) t v = (λ h. h, λ h. h)
may_is u js (CbPut c p x) t v = (λ h. h, λ h. h)
may_is u js (Dialed c) t v = (λ h. h, λ h. h)
may_is u js DialFailed t v = (λ h. h, λ h. h)
may_is u js (Broke c x) t v = let b = break_is u.callers js x v in (λ h. (h.0, b.0 h.1), λ h. (h.0, b.1 h.1))
may_is u js (Ticked m) t v = (λ h. h, λ h. h)
may_is u js (Answered c n a) t v = (λ h. answer_to u js c n a h.0 v h.1, λ h. answer_from u js c n a v h)
may_is u js Quit t v = (λ h. h, λ h. h)
