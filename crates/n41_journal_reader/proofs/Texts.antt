-- What is said of whole texts.
use Rattle.std.proofs.Common.{◌≡◌, ℕ, List, reverse, Result, Ok, Err, sym, ◌∙◌, inl, inr, arith}
use Rattle.std.specs.Prelude.{IfOk, IfErr}
use Rattle.n41_journal.specs.Journal.{Log}
use Rattle.n41_journal.specs.declared.events.Event.{Event}
use Rattle.n41_words.specs.Lines.{lines}
use Rattle.n41_words.specs.declared.fault.LineKind.{LineKind}
use Rattle.n41_words.specs.declared.fault.ScriptFault.{ScriptFault}
use Rattle.n41_words.specs.declared.fault.ScriptFault.TheVariants.{Line, NoMemory}
use Rattle.n41_journal_reader.specs.Journals.{told_lines, IsJournal, IsFault, IsAnswerTo}
use Rattle.n41_journal_reader.proofs.One.{same_events, not_refused, same_refusal}

pub one_journal : (text : List ℕ) (es fs : List Event) → IsJournal text es → IsJournal text fs → es ≡ fs
one_journal text es fs h g = same_events (told_lines (lines text)) es fs h.said g.said

pub one_fault : (text : List ℕ) (n m : ℕ) (j k : LineKind) → IsFault text (Line n j) → IsFault text (Line m k) → (n ≡ m) × (j ≡ k)
one_fault text n m j k (inl h) (inl g) = (h.no_line ∙ sym g.no_line, h.limit ∙ sym g.limit)
one_fault text n m j k (inl h) (inr g) = let l = h.behind in let w = g.0 in absurd (omega arith)
one_fault text n m j k (inr h) (inl g) = let l = g.behind in let w = h.0 in absurd (omega arith)
one_fault text n m j k (inr h) (inr g) = same_refusal text n m j k h.1 g.1

pub never_both : (text : List ℕ) (es : List Event) (n : ℕ) (k : LineKind) → IsJournal text es → IsFault text (Line n k) → ⊥
never_both text es n k h (inl g) = let w = h.within in let l = g.behind in absurd (omega arith)
never_both text es n k h (inr g) = not_refused text es n k h.said g.1

-- what is answered to a journal
pub answered : (text : List ℕ) (es : List Event) (r : Result Log ScriptFault) → IsJournal text es → IfOk r (λ j. IsJournal text (reverse j.events)) → IfErr r (λ f. IsFault text f) → IsAnswerTo r es
answered text es (Ok j) h ok err = one_journal text (reverse j.events) es ok h
answered text es (Err (Line n k)) h ok err = never_both text es n k h err
answered text es (Err NoMemory) h ok err = tt
