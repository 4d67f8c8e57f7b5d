-- What a reader of words tells, step by step.
use Rattle.std.proofs.Common.{◌≡◌, ℕ, List, Option, Result, Ok, Err, refl, subst, sym}
use Rattle.n41_types.specs.declared.plans.Request.{Request}
use Rattle.n41_journal.specs.declared.events.Event.{Event}
use Rattle.n41_words.specs.Faults.{Gives}
use Rattle.n41_words.specs.declared.fault.LineFault.{LineFault}
use Rattle.n41_words.specs.declared.fault.LineFault.TheVariants.{Kind, NoMemory}
use Rattle.n41_words.specs.declared.fault.LineKind.{LineKind}
use Rattle.n41_journal_words.specs.Reading.{Reads}
use Rattle.n41_journal_reader.specs.Messages.{IsFoundIn}
use Rattle.n41_journal_reader.specs.Events.{put_of, SaysPut, SaysBehind, SaysFirst, Tells}
use Rattle.n41_journal_reader.specs.declared.first.First.{First}

abbrev pub Left : Type 0
Left = List (List ℕ)

-- what is given is told
pub tells : (r : Result Event LineFault) (read : Result Event LineKind) → Gives r read → Tells r (λ s. read ≡ s)
tells (Ok e) read h = h
tells (Err (Kind k)) read h = h
tells (Err NoMemory) read h = tt

-- ---- a request

pub put_stops : (x : Result (((ℕ × ℕ) × List ℕ) × Left) LineKind) (new : Left) (f : LineFault) (r : Result Event LineFault) → r ≡ Err f →
    Reads (λ (y : (ℕ × ℕ) × List ℕ). y) (Err f) new x → Tells r (SaysPut x)
put_stops x new (Kind k) r e h = rw (e, h) refl
put_stops x new NoMemory r e h = rw e tt

found_says : (y : ((ℕ × ℕ) × List ℕ) × Left) (found : Option Request) (r : Result Event LineFault) → IsFoundIn y.0.1 found → Gives r (put_of found y.0.0 y.1) → Tells r (SaysPut (Ok y))
found_says y found (Ok e) h g = (found, h, g)
found_says y found (Err (Kind k)) h g = (found, h, g)
found_says y found (Err NoMemory) h g = tt

pub put_goes_on : (x : Result (((ℕ × ℕ) × List ℕ) × Left) LineKind) (y : ((ℕ × ℕ) × List ℕ) × Left) (found : Option Request) (r : Result Event LineFault) → x ≡ Ok y →
    IsFoundIn y.0.1 found → Gives r (put_of found y.0.0 y.1) → Tells r (SaysPut x)
put_goes_on x y found r e h g = subst (λ (z : Result (((ℕ × ℕ) × List ℕ) × Left) LineKind). Tells r (SaysPut z)) (sym e) (found_says y found r h g)

-- ---- a line

pub line_stops : (x : Result (First × Left) LineKind) (new : Left) (f : LineFault) (r : Result Event LineFault) → r ≡ Err f → Reads (λ (y : First). y) (Err f) new x → Tells r (SaysFirst x)
line_stops x new (Kind k) r e h = rw (e, h) refl
line_stops x new NoMemory r e h = rw e tt

pub line_goes_on : (x : Result (First × Left) LineKind) (y : First × Left) (r : Result Event LineFault) → x ≡ Ok y → Tells r (SaysBehind y.0 y.1) → Tells r (SaysFirst x)
line_goes_on x y r e h = subst (λ (z : Result (First × Left) LineKind). Tells r (SaysFirst z)) (sym e) h
