-- A name is read byte after byte.
use Rattle.std.proofs.Common.{◌≡◌, ℕ, List, [], ◌∷◌, ◌++◌, Result, Ok, Err, refl, ap, sym, ◌∙◌, append_assoc}
use Rattle.n41_xdr.specs.Reading.{◌>>=◌}
use Rattle.n41_words.specs.declared.fault.LineKind.{LineKind}
use Rattle.n41_journal_words.specs.Names.{in_front, name_of}

-- ---- byte after byte

-- bytes that were read, in front of what is still to be read
abbrev pub before : List ℕ → Result (List ℕ) LineKind → Result (List ℕ) LineKind
before front rest = rest >>= λ bytes. Ok (front ++ bytes)

abbrev read_as : List ℕ → Result (List ℕ) LineKind
read_as bytes = Ok bytes

regroup : (front : List ℕ) (b : ℕ) (rest : Result (List ℕ) LineKind) → before front (in_front (Ok b) rest) ≡ before (front ++ b ∷ []) rest
regroup front b (Ok bytes) = ap read_as (simp append_assoc)
regroup front b (Err k) = refl

pub goes_on : (front : List ℕ) (b : ℕ) (text behind word : List ℕ) → name_of text ≡ in_front (Ok b) (name_of behind) → before front (name_of text) ≡ name_of word → before (front ++ b ∷ []) (name_of behind) ≡ name_of word
goes_on front b text behind word e so_far = sym (regroup front b (name_of behind)) ∙ ap (before front) (sym e) ∙ so_far
