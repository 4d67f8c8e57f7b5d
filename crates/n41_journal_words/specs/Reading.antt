-- The words of a line, read from left to right (own).
use Rattle.std.specs.Prelude.{◌≡◌, ℕ, List, [], ◌∷◌, if◌then◌else◌, Result, Ok, Err}
use Rattle.n41_xdr.specs.Reading.{◌>>=◌}
use Rattle.n41_words.specs.Words.{has_control, same}
use Rattle.n41_words.specs.declared.fault.LineFault.{LineFault}
use Rattle.n41_words.specs.declared.fault.LineFault.TheVariants.{Kind, NoMemory}
use Rattle.n41_words.specs.declared.fault.LineKind.{LineKind}
use Rattle.n41_words.specs.declared.fault.LineKind.TheVariants as kind

-- the next word, whose bytes are looked at first
abbrev pub word_at : List (List ℕ) → Result (List ℕ × List (List ℕ)) LineKind
word_at [] = Err kind.Words
word_at (word ∷ words) = if has_control word then Err kind.Byte else Ok (word, words)

-- what the next word says by its form
abbrev pub form_at : {X : Type 0} → (List ℕ → Result X LineKind) → List (List ℕ) → Result (X × List (List ℕ)) LineKind
form_at form words = word_at words >>= λ w. form w.0 >>= λ x. Ok (x, w.1)

-- a word that says nothing else
abbrev pub fixed : List ℕ → List ℕ → Result (Unit {0}) LineKind
fixed text word = if same word text then Ok tt else Err kind.Command

-- what stands behind a word that says nothing else
abbrev pub field_at : {X : Type 0} → List ℕ → (List ℕ → Result X LineKind) → List (List ℕ) → Result (X × List (List ℕ)) LineKind
field_at text form words = form_at (fixed text) words >>= λ w. form_at form w.1

-- no word is left
abbrev pub end_at : List (List ℕ) → Result (Unit {0}) LineKind
end_at [] = Ok tt
end_at (word ∷ words) = Err (if has_control word then kind.Byte else kind.Words)

-- this, and no word is left
abbrev pub alone : {X : Type 0} → X → List (List ℕ) → Result X LineKind
alone x words = end_at words >>= λ done. Ok x

-- the last word, by its form
abbrev pub last_at : {X : Type 0} → (List ℕ → Result X LineKind) → List (List ℕ) → Result X LineKind
last_at form words = form_at form words >>= λ x. alone x.0 x.1

-- A call on a reader of words answers what reading gives, unless memory runs out: the value, seen by view, and the words that are left; or the fault.
abbrev pub Reads : {X Y : Type 0} → (X → Y) → Result X LineFault → List (List ℕ) → Result (Y × List (List ℕ)) LineKind → Type 0
Reads view (Ok x) new read = read ≡ Ok (view x, new)
Reads view (Err (Kind k)) new read = read ≡ Err k
Reads view (Err NoMemory) new read = Unit {0}
