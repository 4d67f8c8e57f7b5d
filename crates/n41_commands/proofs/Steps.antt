-- Which bytes are a name of a path, and which names are a path.
use Rattle.std.proofs.Common.{◌≡◌, ◌<◌, ◌≤◌, ◌&&◌, ℕ, Bool, true, false, List, [], ◌∷◌, ◌++◌, length, get_or, if◌then◌else◌, Result, Ok, Err, refl, arith, ap, sym, ◌∙◌}
use Rattle.std.specs.Prelude.{nat_le}
use Rattle.std.specs.List.{list_all}
use Rattle.std.proofs.lemmas.List.Sums.{list_all-from_AllPass}
use Rattle.std.proofs.lemmas.List.Folds.{list_all_at, list_all-append}
use Rattle.std.proofs.lemmas.Bool.Decides.{nat_tests}
use Rattle.n41_types.specs.Names.{IsName, IsNameByte, NameOf}
use Rattle.n41_words.specs.Lines.{is_empty}
use Rattle.n41_words.specs.Faults.{Gives}
use Rattle.n41_words.specs.declared.fault.LineFault.{LineFault}
use Rattle.n41_words.specs.declared.fault.LineFault.TheVariants.{Kind, NoMemory}
use Rattle.n41_words.specs.declared.fault.LineKind.{LineKind}
use Rattle.n41_words.specs.declared.fault.LineKind.TheVariants as kind
use Rattle.n41_commands.specs.Paths.{is_name_byte, is_name, is_dots, is_step, step, are_steps}

is_byte : (b : ℕ) → IsNameByte b → is_name_byte b ≡ true
is_byte b h = grind (arith, nat_tests, h.0, h.1)

filled : (bytes : List ℕ) → 0 < length bytes → is_empty bytes ≡ false
filled [] l = absurd (omega (arith, l))
filled (b ∷ bs) l = refl

is_named : (bytes : List ℕ) → IsName bytes → is_name bytes ≡ true
is_named bytes h =
    let e = filled bytes h.0 in
    let f : nat_le (length bytes) 255 ≡ true = grind (arith, nat_tests, h.1) in
    let g = list_all-from_AllPass is_name_byte bytes (λ k d l. is_byte (get_or bytes k d) (h.2 k d l)) in
    rw (e, f, g) refl

pub a_step : (bytes name : List ℕ) → is_dots bytes ≡ false → NameOf bytes (Ok name) → step bytes ≡ Ok name
a_step bytes name e h = let f = is_named bytes h.1 in let g = h.0 in rw (f, e, g) refl

-- ---- the names of a path

abbrev given : Bool → List ℕ → Result (List ℕ) LineKind
given b bytes = if b then Ok bytes else Err kind.Path

passed : (bytes name : List ℕ) → step bytes ≡ Ok name → (is_step bytes ≡ true) × (name ≡ bytes)
passed bytes name e = of (is_step bytes) refl e where
  of : (b : Bool) → is_step bytes ≡ b → given b bytes ≡ Ok name → (is_step bytes ≡ true) × (name ≡ bytes)
  of true f g = (f, cc)
  of false f g = absurd cc

failed : (bytes : List ℕ) (k : LineKind) → step bytes ≡ Err k → (is_step bytes ≡ false) × (k ≡ kind.Path)
failed bytes k e = of (is_step bytes) refl e where
  of : (b : Bool) → is_step bytes ≡ b → given b bytes ≡ Err k → (is_step bytes ≡ false) × (k ≡ kind.Path)
  of true f g = absurd cc
  of false f g = (f, cc)

abbrev pick : Bool → List (List ℕ) → Result (List (List ℕ)) LineKind
pick b names = if b then Ok names else Err kind.Path

none_if : (a : Bool) (names : List (List ℕ)) → pick (a && false) names ≡ Err kind.Path
none_if true names = refl
none_if false names = refl

pub too_many : (all : List (List ℕ)) → 16 < length all → are_steps all ≡ Err kind.Path
too_many all l =
    let e : nat_le (length all) 16 ≡ false = grind (arith, nat_tests, l) in
    rw e (none_if (list_all is_step all) all)

pub no_step : (all : List (List ℕ)) (name : List ℕ) (n : ℕ) (f : LineFault) → (n < length all) × (name ≡ get_or all n name) → Gives (Err f) (step name) → Gives (Err f) (are_steps all)
no_step all name n NoMemory h g = tt
no_step all name n (Kind k) h g =
    let e = failed name k g in
    let s : is_step (get_or all n name) ≡ false = ap is_step (sym h.1) ∙ e.0 in
    let a = list_all_at is_step all n name h.0 s in
    rw (a, e.1) refl

pub one_more : (names : List (List ℕ)) (bytes name : List ℕ) → list_all is_step names ≡ true → step bytes ≡ Ok name → (list_all is_step (names ++ name ∷ []) ≡ true) × (name ≡ bytes)
one_more names bytes name h e =
    let p = passed bytes name e in
    let q : is_step name ≡ true = ap is_step p.1 ∙ p.0 in
    (rw (list_all-append is_step names (name ∷ []), h, q) refl, p.1)

pub a_path : (all names : List (List ℕ)) → names ≡ all → list_all is_step names ≡ true → length names ≤ 16 → are_steps all ≡ Ok names
a_path all names e h l =
    let f : nat_le (length names) 16 ≡ true = grind (arith, nat_tests, l) in
    rw (← e, h, f) refl
