-- What the tables tell is what the journal tells.
use Rattle.std.proofs.Common.{◌≡◌, inl, inr, ℕ, true, false, List, Option, Some, None, Result, Ok, Err, IsSome, refl, sym, ◌∙◌, ap, subst}
use Rattle.std.specs.Prelude.{IfOk, IfSome, IfNone, option_map}
use Rattle.n41_types.specs.declared.plans.Request.{Request}
use Rattle.n41_results.specs.declared.replies.Reply.{Reply}
use Rattle.n41_results.specs.declared.shapes.Shape.{Shape}
use Rattle.n41_results.specs.declared.shapes.Shape.TheVariants as shape
use Rattle.n41_results.specs.Shapes.{shape_of, told}
use Rattle.n41_journal.specs.declared.events.Event.{Event}
use Rattle.n41_model.specs.declared.words.Item.{Item}
use Rattle.n41_model.specs.declared.words.Setup.{Setup}
use Rattle.n41_calls.specs.Due.{due, NothingDue}
use Rattle.n41_calls.specs.Kept.{Kept, IsOld}
use Rattle.n41_view.specs.Causes.{is_old_in, awaited_in}
use Rattle.n41_view.specs.Due.{due_in}
use Rattle.n41_view.specs.Laws.{DueFromView, EndFromView, OldFromView, AwaitedFromView}
use Rattle.n41_view.specs.View.{View, view}
use Rattle.n41_due.specs.Order.{IsNext}
use Rattle.n41_wants.specs.Wants.{WantIn}
use Rattle.n41_wants.specs.declared.wants.Want.{Want}
use Rattle.n41_wants.specs.declared.wants.Want.TheVariants as want
use Rattle.n41_core.specs.Causes.{WantCause, ShapeCause, Unawaited, IsReplyTo}

-- ---- what is due

abbrev Due : Setup → List Event → Request → Type 0
Due u js q = (i : Item) × (due u js i ≡ Some q)

pub due_some : {E : Type 0} (u : Setup) (js : List Event) (w : View) (r : Result (Option Request) E) → w ≡ view u.callers js → DueFromView → Kept u js → IfOk r (λ o. IfSome o (λ q. (i : Item) × IsNext u w q i)) → IfOk r (λ o. IfSome o (λ q. (i : Item) × (due u js i ≡ Some q)))
due_some u js w (Ok (Some q)) e law k h = (h.0, sym (law u js h.0 k) ∙ ap (λ (v : View). due_in u v h.0) (sym e) ∙ h.1.due)
due_some u js w (Ok None) e law k h = tt
due_some u js w (Err x) e law k h = tt

pub due_none : {E : Type 0} (u : Setup) (js : List Event) (w : View) (r : Result (Option Request) E) → w ≡ view u.callers js → DueFromView → Kept u js → IfOk r (λ o. IfNone o ((i : Item) → due_in u w i ≡ None)) → IfOk r (λ o. IfNone o (NothingDue u js))
due_none u js w (Ok (Some q)) e law k h = tt
due_none u js w (Ok None) e law k h = λ i. sym (law u js i k) ∙ ap (λ (v : View). due_in u v i) (sym e) ∙ h i
due_none u js w (Err x) e law k h = tt

-- ---- what is old

pub old_some : (u : Setup) (js : List Event) (w : View) (o : Option ℕ) → w ≡ view u.callers js → OldFromView → Kept u js → IfSome o (λ x. is_old_in w x ≡ true) → IfSome o (λ x. IsOld js x)
old_some u js w (Some x) e law k h = (law u js x k).0 (ap (λ (v : View). is_old_in v x) (sym e) ∙ h)
old_some u js w None e law k h = tt

pub old_none : (u : Setup) (js : List Event) (w : View) (o : Option ℕ) → w ≡ view u.callers js → OldFromView → Kept u js → IfNone o ((x : ℕ) → is_old_in w x ≡ false) → IfNone o ((x : ℕ) → IsOld js x → ⊥)
old_none u js w (Some x) e law k h = tt
old_none u js w None e law k h = λ x i. (let z : true ≡ false = sym ((law u js x k).1 i) ∙ ap (λ (v : View). is_old_in v x) (sym e) ∙ h x in absurd (cc))

-- ---- what is wanted

wanted : (u : Setup) (js : List Event) (a : Want) → DueFromView → EndFromView → Kept u js → WantIn u (view u.callers js) a → WantCause u js a
wanted u js want.Dial d e k h = (sym (e u js k) ∙ h.0, h.1)
wanted u js (want.Send c) d e k h = (record { goes_on = sym (e u js k) ∙ h.0.goes_on; stands = h.0.stands }, (h.1.0, subst (λ (o : Option Request). IsSome o) (d u js h.1.0 k) h.1.1))
wanted u js (want.Read c) d e k h = record {
  runs = record { goes_on = sym (e u js k) ∙ h.runs.goes_on; stands = h.runs.stands };
  idle = λ i. sym (d u js i k) ∙ h.idle i;
  waits = h.waits;
}
wanted u js (want.Pause m) d e k h = (
  h.0,
  record {
    runs = record { goes_on = sym (e u js k) ∙ h.1.runs.goes_on; stands = h.1.runs.stands };
    idle = λ i. sym (d u js i k) ∙ h.1.idle i;
    quiet = h.1.quiet;
    waits = h.1.waits;
  },
)
wanted u js want.Nothing d e k h = sym (e u js k) ∙ h

pub wants_by : (u : Setup) (js : List Event) (w : View) (a : Want) → w ≡ view u.callers js → DueFromView → EndFromView → Kept u js → WantIn u w a → WantCause u js a
wants_by u js w a q d e k h = wanted u js a d e k (subst (λ (v : View). WantIn u v a) q h)

-- ---- what is awaited

unawaited : (u : Setup) (js : List Event) (x : ℕ) → AwaitedFromView → Kept u js → awaited_in (view u.callers js) x ≡ None → Unawaited js x
unawaited u js x law k h = λ r a e. (let z : None ≡ Some r = sym h ∙ (law u js x r k).1 (a, e) in absurd (cc))

pub shape_unawaited : (u : Setup) (js : List Event) (w : View) (y : Reply) → w ≡ view u.callers js → AwaitedFromView → Kept u js → None ≡ awaited_in w y.xid → ShapeCause js y (shape.Xid y.xid)
shape_unawaited u js w y q law k h = inl (refl, unawaited u js y.xid law k (ap (λ (v : View). awaited_in v y.xid) (sym q) ∙ sym h))

pub shape_awaited : (u : Setup) (js : List Event) (w : View) (y : Reply) (r : Request) (s : Shape) → w ≡ view u.callers js → AwaitedFromView → Kept u js → Some r ≡ awaited_in w y.xid → Some s ≡ option_map told (shape_of r y) → ShapeCause js y s
shape_awaited u js w y r s q law k h e =
    let a = (law u js y.xid r k).0 (ap (λ (v : View). awaited_in v y.xid) (sym q) ∙ sym h) in
    inr (r, record { awaited = a.0; same_xid = a.1; shape_is = sym e })

no_shape : (o : Option Shape) → None ≡ option_map told o → o ≡ None
no_shape None e = refl
no_shape (Some s) e = absurd (cc)

pub fits_awaited : (u : Setup) (js : List Event) (w : View) (y : Reply) (r : Request) → w ≡ view u.callers js → AwaitedFromView → Kept u js → Some r ≡ awaited_in w y.xid → None ≡ option_map told (shape_of r y) → (q : Request) × IsReplyTo js y q
fits_awaited u js w y r q law k h e =
    let a = (law u js y.xid r k).0 (ap (λ (v : View). awaited_in v y.xid) (sym q) ∙ sym h) in
    (r, record { awaited = a.0; fits = no_shape (shape_of r y) e })
