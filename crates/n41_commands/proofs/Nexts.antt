-- The next word, and the command that goes on behind it.
use Rattle.std.proofs.Common.{◌≡◌, ℕ, Bool, false, List, [], ◌∷◌, Result, Ok, Err, refl, ◌∙◌}
use Rattle.n41_types.specs.declared.commands.Command.{Command}
use Rattle.n41_words.specs.Words.{has_control}
use Rattle.n41_words.specs.Faults.{Gives}
use Rattle.n41_words.specs.declared.fault.LineFault.{LineFault}
use Rattle.n41_words.specs.declared.fault.LineFault.TheVariants.{Kind, NoMemory}
use Rattle.n41_words.specs.declared.fault.LineKind.{LineKind}
use Rattle.n41_commands.specs.Commands.{next, onward}
use Rattle.n41_commands.specs.Cursors.{Left, Took, IsLack, Lacks, Reads}

stepped : {X : Type 0} (form : List ℕ → Result X LineKind) (go : X → List (List ℕ) → Result Command LineKind) (long : Bool) (ws rest : List (List ℕ)) (word : List ℕ) → ws ≡ word ∷ rest → has_control word ≡ false → next long ws form go ≡ onward (form word) (λ x. go x rest)
stepped form go long ws rest word e f = rw (e, f) refl

lacking : {X : Type 0} (form : List ℕ → Result X LineKind) (go : X → List (List ℕ) → Result Command LineKind) (long : Bool) (ws : List (List ℕ)) (k : LineKind) → IsLack long ws k → next long ws form go ≡ Err k
lacking form go long [] k h = rw h refl
lacking form go long (w ∷ ws) k h = rw (h.0, h.1) refl

pub takes : {X : Type 0} (form : List ℕ → Result X LineKind) (s t : Left) (word : List ℕ) (r : Result X LineFault) → Took word s t → Gives r (form word) → Reads r s t form
takes form s t word (Ok x) h g = (h.2, λ go. stepped form go s.long s.words t.words word h.0 h.1 ∙ rw g refl)
takes form s t word (Err (Kind k)) h g = λ go. stepped form go s.long s.words t.words word h.0 h.1 ∙ rw g refl
takes form s t word (Err NoMemory) h g = tt

pub lacks : {X : Type 0} (form : List ℕ → Result X LineKind) (s t : Left) (f : LineFault) (r : Result X LineFault) → r ≡ Err f → Lacks f s → Reads r s t form
lacks form s t (Kind k) r e h = rw e (λ go. lacking form go s.long s.words k h)
lacks form s t NoMemory r e h = absurd h
