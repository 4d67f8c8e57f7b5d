-- Names read one after the other, as a loop does, and bytes of a name.
use Rattle.std.proofs.Common.{◌≡◌, ℕ, suc, ◌-◌, ◌+◌, ◌≤◌, ◌<◌, List, [], ◌∷◌, ◌++◌, Result, Ok, Err, refl, sym, ap, ◌∙◌, append_assoc, arith}
use Rattle.std.proofs.lemmas.List.{append-nil}
use Rattle.n41_xdr.specs.Reading.{◌>>=◌}
use Rattle.n41_words.specs.declared.fault.LineFault.{LineFault}
use Rattle.n41_words.specs.declared.fault.LineFault.TheVariants.{Kind, NoMemory}
use Rattle.n41_words.specs.declared.fault.LineKind.{LineKind}
use Rattle.n41_journal_words.specs.Names.{name_of}
use Rattle.n41_journal_words.specs.Reading.{form_at, Reads}
use Rattle.n41_journal_words.specs.Answers.{names_at}

abbrev pub Names : Type 0
Names = List (List ℕ)

-- what was read, put before what is still to be read
abbrev pub with_front : Names → Result (Names × Names) LineKind → Result (Names × Names) LineKind
with_front front read = read >>= λ x. Ok (front ++ x.0, x.1)

abbrev read_as : Names → Names → Result (Names × Names) LineKind
read_as words names = Ok (names, words)

regroup : (front : Names) (name : List ℕ) (read : Result (Names × Names) LineKind) → with_front front (read >>= λ y. Ok (name ∷ y.0, y.1)) ≡ with_front (front ++ name ∷ []) read
regroup front name (Ok y) = ap (read_as y.1) (simp append_assoc)
regroup front name (Err e) = refl

abbrev then_names : ℕ → List ℕ × Names → Result (Names × Names) LineKind
then_names n x = names_at n x.1 >>= λ y. Ok (x.0 ∷ y.0, y.1)

step : (count i : ℕ) (words : Names) → i < count → names_at (count - i) words ≡ (form_at name_of words >>= then_names (count - (i + 1)))
step count i words lt = let one_less : count - i ≡ suc (count - (i + 1)) = omega arith in rw one_less refl

pub goes_on : (front : Names) (count i : ℕ) (words : Names) (name : List ℕ) (after : Names) (total : Result (Names × Names) LineKind) → i < count → form_at name_of words ≡ Ok (name, after)
    → with_front front (names_at (count - i) words) ≡ total → with_front (front ++ name ∷ []) (names_at (count - (i + 1)) after) ≡ total
goes_on front count i words name after total lt h so_far =
    let next = step count i words lt ∙ ap (λ r. r >>= then_names (count - (i + 1))) h in
    sym (ap (with_front front) next ∙ regroup front name (names_at (count - (i + 1)) after)) ∙ so_far

ends : (k : LineKind) (front : Names) (count i : ℕ) (words : Names) (total : Result (Names × Names) LineKind) → i < count → form_at name_of words ≡ Err k
    → with_front front (names_at (count - i) words) ≡ total → total ≡ Err k
ends k front count i words total lt h so_far =
    let next = step count i words lt ∙ ap (λ r. r >>= then_names (count - (i + 1))) h in
    sym so_far ∙ ap (with_front front) next

pub fails : (f : LineFault) (front : Names) (count i : ℕ) (words left after : Names) (total : Result (Names × Names) LineKind) (given : Result Names LineFault) → given ≡ Err f → i < count
    → Reads (λ (x : List ℕ). x) (Err f) after (form_at name_of words) → with_front front (names_at (count - i) words) ≡ total → Reads (λ (x : Names). x) given left total
fails (Kind k) front count i words left after total given e lt h so_far = rw e (ends k front count i words total lt h so_far)
fails NoMemory front count i words left after total given e lt h so_far = rw e tt

pub is_done : (front : Names) (count i : ℕ) (words : Names) (total : Result (Names × Names) LineKind) → count ≤ i → with_front front (names_at (count - i) words) ≡ total → total ≡ Ok (front, words)
is_done front count i words total le so_far =
    let none_left : count - i ≡ 0 = omega arith in
    sym so_far ∙ ap (λ (n : ℕ). with_front front (names_at n words)) none_left ∙ ap (read_as words) (append-nil front)
