-- A journal that is written is read as the same.
use Rattle.std.proofs.Common.{◌≡◌, ◌≤◌, ℕ, List, [], ◌∷◌, length, map, reverse, All, Result, Ok, Err, ap, ◌∙◌, sym, subst, inl, inr}
use Rattle.std.specs.Prelude.{IfOk, IfErr}
use Rattle.std.proofs.lemmas.List.{reverse-reverse}
use Rattle.std.proofs.lemmas.List.Elements.{All-head, All-tail, All-nil, All-cons}
use Rattle.n41_journal.specs.declared.events.Event.{Event}
use Rattle.n41_journal.specs.Journal.{Log}
use Rattle.n41_words.specs.declared.fault.ScriptFault.{ScriptFault}
use Rattle.n41_words.specs.declared.fault.ScriptFault.TheVariants as fault
use Rattle.n41_script.specs.Scripts.{script_limit, IsTooLong}
use Rattle.n41_tellable.specs.Tellable.{IsTellable}
use Rattle.n41_journal_text.specs.Text.{event_text, journal_lines}
use Rattle.n41_journal_text.specs.Words.{IsLegible}
use Rattle.n41_journal_text.proofs.Lines.{lines_are, kept}
use Rattle.n41_journal_text.proofs.Told.{event_says}
use Rattle.n41_journal_reader.specs.Events.{Says}
use Rattle.n41_journal_reader.specs.Journals.{SaysEvent, told_lines, SayEach, IsJournal, IsFault, IsAnswerTo}
use Rattle.n41_journal_back.specs.Kept.{IsTyped, IsKept, IsTextFault}
use Rattle.n41_journal_back.proofs.Events.{words_back}

pub event_back : (e : Event) → IsKept e → SaysEvent (event_text e) e
event_back e h = subst (λ (ws : List (List ℕ)). Says ws (Ok e)) (sym (event_says e h.1).words_are) (words_back e h)

legible : (events : List Event) → All IsKept events → All IsLegible events
legible [] h = All-nil IsLegible
legible (e ∷ events) h = All-cons IsLegible e events (All-head IsKept e events h).1 (legible events (All-tail IsKept e events h))

each_back : (events : List Event) → All IsKept events → SayEach (told_lines (map event_text events)) events
each_back [] h = tt
each_back (e ∷ events) h =
    let here = All-head IsKept e events h in
    rw (kept e here.1) (event_back e here, each_back events (All-tail IsKept e events h))

pub journal_back : (events : List Event) → All IsKept events → length (journal_lines events) ≤ script_limit → IsJournal (journal_lines events) events
journal_back events h within = record {
  within = within;
  said = subst (λ (ls : List (List ℕ)). SayEach (told_lines ls) events) (sym (lines_are events (legible events h))) (each_back events h);
}

-- ---- what a reader answers

-- events that are told, whose lines have their words, and that are typed, are kept
pub all_kept : (events : List Event) → All IsTellable events → All IsLegible events → All IsTyped events → All IsKept events
all_kept [] h g k = All-nil IsKept
all_kept (e ∷ events) h g k =
    All-cons IsKept e events (All-head IsTellable e events h, All-head IsLegible e events g, All-head IsTyped e events k)
    (all_kept events (All-tail IsTellable e events h) (All-tail IsLegible e events g) (All-tail IsTyped e events k))

-- lists that are the same from the other end are the same
same_reversed : (es fs : List Event) → reverse es ≡ reverse fs → es ≡ fs
same_reversed es fs h = sym (reverse-reverse es) ∙ ap reverse h ∙ reverse-reverse fs

written_back : (events : List Event) (text : List ℕ) → text ≡ journal_lines events → All IsKept events → length text ≤ script_limit → IsJournal text events
written_back events text e h = subst (λ (t : List ℕ). length t ≤ script_limit → IsJournal t events) (sym e) (journal_back events h)

-- the events that are read are those that were written
pub again : (events : List Event) (text : List ℕ) (r : Result Log ScriptFault) → text ≡ journal_lines (reverse events) → All IsKept (reverse events) →
    IfOk r (λ j. IsJournal text (reverse j.events)) → ((es : List Event) → IsJournal text es → IsAnswerTo r es) → IfOk r (λ j. j.events ≡ events)
again events text (Ok j) e h ok only = same_reversed j.events events (only (reverse events) (written_back (reverse events) text e h ok.within))
again events text (Err f) e h ok only = tt

-- and a fault says that the text is too long
pub no_fault : (events : List Event) (text : List ℕ) (r : Result Log ScriptFault) → text ≡ journal_lines (reverse events) → All IsKept (reverse events) →
    IfErr r (λ f. IsFault text f) → ((es : List Event) → IsJournal text es → IsAnswerTo r es) → IfErr r (λ f. IsTextFault (journal_lines (reverse events)) f)
no_fault events text (Ok j) e h err only = tt
no_fault events text (Err fault.NoMemory) e h err only = tt
no_fault events text (Err (fault.Line n k)) e h (inl long) only = subst (λ (t : List ℕ). IsTooLong t n k) e long
no_fault events text (Err (fault.Line n k)) e h (inr refused) only = absurd (only (reverse events) (written_back (reverse events) text e h refused.0))
