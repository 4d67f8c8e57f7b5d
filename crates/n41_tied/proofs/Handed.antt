-- The answer that is handed over, or else the one that the tables give up, is the answer of the journal.
use Rattle.std.proofs.Common.{◌≡◌, ℕ, ◌<◌, ◌-◌, List, ◌∷◌, Option, Some, None, slice_get, unwrap_or, refl, sym, ◌∙◌, ap, subst}
use Rattle.std.specs.Option.{option_or}
use Rattle.n41_types.specs.declared.commands.Answer.{Answer}
use Rattle.n41_journal.specs.declared.events.Event.{Event}
use Rattle.n41_journal.specs.declared.events.Event.TheVariants.{Answered}
use Rattle.n41_journal.specs.Journal.{Log}
use Rattle.n41_model.specs.declared.words.Setup.{Setup}
use Rattle.n41_calls.specs.Calls.{call, either}
use Rattle.n41_calls.specs.Kept.{MayAnswer}
use Rattle.n41_view.specs.declared.tables.Seat.{Seat}
use Rattle.n41_view.specs.View.{View, view}
use Rattle.n41_view.proofs.Lookups.{seat_below}
use Rattle.n41_tables.specs.Earned.{earned_at}
use Rattle.n41_tied.specs.declared.tied.Tied.TheInside.{Inside}
use Rattle.n41_tied.specs.Told.{Told}
use Rattle.n41_tied.specs.Ties.{told, Ties}

or_is : (x y : Option Answer) → option_or x y ≡ either x y
or_is None y = refl
or_is (Some a) y = refl

handed_at : (late earned : Option Answer) (n : ℕ) (js : List Event) (c : ℕ) (a : Answer) → c < n → earned ≡ earned_at (slice_get (view n js).seats c) → either late (call n js c).earned ≡ Some a → option_or late earned ≡ Some a
handed_at late earned n js c a h e g =
    or_is late earned ∙ (ap (λ (o : Option Answer). either late o) (e ∙ ap (λ (s : Option Seat). earned_at s) (seat_below n js n c h)) ∙ g)

pub handed : (t : Inside) (w : Told) (late earned : Option Answer) (c n : ℕ) (a : Answer) → told t ≡ w → Ties t → MayAnswer w.setup w.events c n a → earned ≡ earned_at (slice_get t.tables.seats c) → either late (call w.setup.callers w.events c).earned ≡ Some a → option_or late earned ≡ Some a
handed t w late earned c n a v r m e g =
    let h : c < t.setup.callers = subst (λ (x : Told). c < x.setup.callers) (sym v) m.caller in
    let i : earned ≡ earned_at (slice_get (view t.setup.callers t.journal.events).seats c) = e ∙ ap (λ (x : View). earned_at (slice_get x.seats c)) (sym r.tied) in
    let j : either late (call t.setup.callers t.journal.events c).earned ≡ Some a = subst (λ (x : Told). either late (call x.setup.callers x.events c).earned ≡ Some a) (sym v) g in
    handed_at late earned t.setup.callers t.journal.events c a h i j

pub same_answer : (late earned found : Option Answer) (a b : Answer) → found ≡ option_or late earned → option_or late earned ≡ Some a → found ≡ Some b → a ≡ b
same_answer late earned found a b h i j = ap (λ (x : Option Answer). unwrap_or x a) (sym i ∙ (sym h ∙ j))

abbrev pub told_with : Setup → Log → Told
told_with u j = record { setup = u; events = j.events; room = j.room }

abbrev pub with_answer : Told → ℕ → ℕ → Answer → Told
with_answer t c n a = record { setup = t.setup; events = Answered c n a ∷ t.events; room = t.room - 1 }
