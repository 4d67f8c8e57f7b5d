-- One line more is told.
use Rattle.std.proofs.Common.{◌≡◌, ◌<◌, ◌+◌, ℕ, List, [], ◌∷◌, ◌++◌, length, take, get_or, All, ap, ◌∙◌, sym, subst, append_assoc}
use Rattle.std.proofs.lemmas.List.{take_more, append-nil}
use Rattle.std.proofs.lemmas.List.Concat.{flat_map-append}
use Rattle.std.proofs.lemmas.List.Elements.{All-get_or, All-more}
use Rattle.n41_journal.specs.declared.events.Event.{Event}
use Rattle.n41_journal_text.specs.Text.{event_line, journal_lines}
use Rattle.n41_journal_text.specs.Words.{IsLegible, IsSayable}

line_more : (events : List Event) (i : ℕ) (d : Event) → i < length events → journal_lines (take (i + 1) events) ≡ journal_lines (take i events) ++ event_line (get_or events i d)
line_more events i d lt =
    ap journal_lines (take_more events i d lt)
    ∙ flat_map-append event_line (take i events) (get_or events i d ∷ [])
    ∙ ap (λ (t : List ℕ). journal_lines (take i events) ++ t) (append-nil (event_line (get_or events i d)))

pub lines_more : (events : List Event) (i : ℕ) (x : Event) (start out new : List ℕ) → i < length events → x ≡ get_or events i x →
    out ≡ start ++ journal_lines (take i events) → new ≡ out ++ event_line x → new ≡ start ++ journal_lines (take (i + 1) events)
lines_more events i x start out new lt there h g =
    g
    ∙ ap (λ (t : List ℕ). t ++ event_line x) h
    ∙ append_assoc start (journal_lines (take i events)) (event_line x)
    ∙ ap (λ (y : Event). start ++ (journal_lines (take i events) ++ event_line y)) there
    ∙ ap (λ (t : List ℕ). start ++ t) (sym (line_more events i x lt))

pub legible_more : (events : List Event) (i : ℕ) (x : Event) → i < length events → x ≡ get_or events i x → (All IsSayable events → All IsLegible (take i events)) →
    (IsSayable x → IsLegible x) → All IsSayable events → All IsLegible (take (i + 1) events)
legible_more events i x lt there h g k =
    All-more IsLegible events i x lt (h k) (subst IsLegible there (g (subst IsSayable (sym there) (All-get_or IsSayable events i x lt k))))
