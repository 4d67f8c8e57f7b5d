-- A command is read word by word.
use Rattle.std.proofs.Common.{◌≡◌, ℕ, Bool, List, Result, Ok, Err, refl, ap, sym, ◌∙◌}
use Rattle.n41_types.specs.Spans.{Extent}
use Rattle.n41_types.specs.declared.commands.Command.{Command}
use Rattle.n41_words.specs.Faults.{Gives}
use Rattle.n41_words.specs.declared.fault.LineFault.{LineFault}
use Rattle.n41_words.specs.declared.fault.LineFault.TheVariants.{Kind, NoMemory}
use Rattle.n41_words.specs.declared.fault.LineKind.{LineKind}
use Rattle.n41_commands.specs.Commands.{next, span, ended}
use Rattle.n41_commands.specs.Cursors.{Left, Reads, Spans, Ends}

-- how far a command is read
pub record At (r : Result Command LineKind) (long : Bool) (s : Left) (rest : List (List ℕ) → Result Command LineKind) : Type 0 where
  pub long_is : s.long ≡ long
  pub rest_is : r ≡ rest s.words

pub onto : {X : Type 0} {r : Result Command LineKind} {long : Bool} {s : Left} (form : List ℕ → Result X LineKind) (go : X → List (List ℕ) → Result Command LineKind) (t : Left) (x : X) →
    At r long s (λ ws. next long ws form go) → Reads (Ok x) s t form → At r long t (go x)
onto {s = s} form go t x a h = record {
  long_is = h.0 ∙ a.long_is;
  rest_is = a.rest_is ∙ ap (λ (l : Bool). next l s.words form go) (sym a.long_is) ∙ h.1 go;
}

pub stops : {X : Type 0} {r : Result Command LineKind} {long : Bool} {s : Left} (form : List ℕ → Result X LineKind) (go : X → List (List ℕ) → Result Command LineKind) (t : Left) (f : LineFault) (given : Result Command LineFault) →
    given ≡ Err f → At r long s (λ ws. next long ws form go) → Reads (Err f) s t form → Gives given r
stops {s = s} form go t (Kind k) given e a h = rw e (a.rest_is ∙ ap (λ (l : Bool). next l s.words form go) (sym a.long_is) ∙ h go)
stops form go t NoMemory given e a h = rw e tt

pub onto_span : {r : Result Command LineKind} {long : Bool} {s : Left} (go : Extent → List (List ℕ) → Result Command LineKind) (t : Left) (x : Extent) →
    At r long s (λ ws. span long ws go) → Spans (Ok x) s t → At r long t (go x)
onto_span {s = s} go t x a h = record {
  long_is = h.0 ∙ a.long_is;
  rest_is = a.rest_is ∙ ap (λ (l : Bool). span l s.words go) (sym a.long_is) ∙ h.1 go;
}

pub stops_span : {r : Result Command LineKind} {long : Bool} {s : Left} (go : Extent → List (List ℕ) → Result Command LineKind) (t : Left) (f : LineFault) (given : Result Command LineFault) →
    given ≡ Err f → At r long s (λ ws. span long ws go) → Spans (Err f) s t → Gives given r
stops_span {s = s} go t (Kind k) given e a h = rw e (a.rest_is ∙ ap (λ (l : Bool). span l s.words go) (sym a.long_is) ∙ h go)
stops_span go t NoMemory given e a h = rw e tt

pub at_end : {r : Result Command LineKind} {long : Bool} {s : Left} (c : Command) (u : Unit {0}) → At r long s (λ ws. ended long ws c) → Ends (Ok u) s → r ≡ Ok c
at_end {s = s} c u a h = a.rest_is ∙ ap (λ (l : Bool). ended l s.words c) (sym a.long_is) ∙ h c

pub no_end : {r : Result Command LineKind} {long : Bool} {s : Left} (c : Command) (f : LineFault) (given : Result Command LineFault) → given ≡ Err f → At r long s (λ ws. ended long ws c) → Ends (Err f) s → Gives given r
no_end {s = s} c (Kind k) given e a h = rw e (a.rest_is ∙ ap (λ (l : Bool). ended l s.words c) (sym a.long_is) ∙ h c)
no_end c NoMemory given e a h = rw e tt

pub from_here : (s : Left) (rest : List (List ℕ) → Result Command LineKind) → At (rest s.words) s.long s rest
from_here s rest = record { long_is = refl; rest_is = refl }
