-- What a reader of words has taken.
use Rattle.std.specs.Prelude.{◌≡◌, ℕ, Bool, true, false, List, [], ◌∷◌, Result, Ok, Err}
use Rattle.n41_types.specs.declared.commands.Command.{Command}
use Rattle.n41_types.specs.Spans.{Extent}
use Rattle.n41_words.specs.Words.{has_control, missing}
use Rattle.n41_words.specs.declared.fault.LineFault.{LineFault}
use Rattle.n41_words.specs.declared.fault.LineFault.TheVariants.{Kind, NoMemory}
use Rattle.n41_words.specs.declared.fault.LineKind.{LineKind}
use Rattle.n41_words.specs.declared.fault.LineKind.TheVariants as kind
use Rattle.n41_commands.specs.Commands.{next, span, ended}

-- the words that are left of a line, which is too long or not
pub record Left : Type 0 where
  pub long : Bool
  pub words : List (List ℕ)

-- this was the next word, and it was taken
abbrev pub Took : List ℕ → Left → Left → Type 0
Took word s t = (s.words ≡ word ∷ t.words) × (has_control word ≡ false) × (t.long ≡ s.long)

-- what is wrong where a word is to come
abbrev pub IsLack : Bool → List (List ℕ) → LineKind → Type 0
IsLack long [] k = k ≡ missing long kind.Words
IsLack long (word ∷ words) k = (has_control word ≡ true) × (k ≡ kind.Byte)

abbrev pub Lacks : LineFault → Left → Type 0
Lacks (Kind k) s = IsLack s.long s.words k
Lacks NoMemory s = ⊥

-- the next word was taken, and this is what it says by its form: a command goes on with it behind what is left
abbrev pub Reads : {X : Type 0} → Result X LineFault → Left → Left → (List ℕ → Result X LineKind) → Type 0
Reads {X} (Ok x) s t form = (t.long ≡ s.long) × ((go : X → List (List ℕ) → Result Command LineKind) → next s.long s.words form go ≡ go x t.words)
Reads {X} (Err (Kind k)) s t form = (go : X → List (List ℕ) → Result Command LineKind) → next s.long s.words form go ≡ Err k
Reads (Err NoMemory) s t form = Unit {0}

-- the same of the two words of a span
abbrev pub Spans : Result Extent LineFault → Left → Left → Type 0
Spans (Ok x) s t = (t.long ≡ s.long) × ((go : Extent → List (List ℕ) → Result Command LineKind) → span s.long s.words go ≡ go x t.words)
Spans (Err (Kind k)) s t = (go : Extent → List (List ℕ) → Result Command LineKind) → span s.long s.words go ≡ Err k
Spans (Err NoMemory) s t = Unit {0}

-- no word is left
abbrev pub Ends : Result (Unit {0}) LineFault → Left → Type 0
Ends (Ok u) s = (c : Command) → ended s.long s.words c ≡ Ok c
Ends (Err (Kind k)) s = (c : Command) → ended s.long s.words c ≡ Err k
Ends (Err NoMemory) s = Unit {0}
