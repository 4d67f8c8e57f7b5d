-- A linked list of lawful elements is lawful.
use Rattle.std.proofs.Common.{◌≡◌, ℕ, zero, suc, ◌<◌, ◌≤◌, Bool, true, false, List, [], ◌∷◌, ◌++◌, length, Option, Some, None, Result, Ok, refl, sym, ap, subst, ◌∙◌, append_assoc, arith}
use Rattle.std.specs.Prelude.{IfSome}
use Rattle.std.specs.List.{flat_map, AllByRecursion}
use Rattle.std.proofs.lemmas.List.{length-append}
use Rattle.std.proofs.lemmas.List.Concat.{flat_map-cons}
use Rattle.n41_xdr.specs.declared.fault.XdrFault.{XdrFault}
use Rattle.n41_xdr.specs.Spelling as spelling
use Rattle.n41_xdr.specs.Reading.{◌>>=◌}
use Rattle.n41_xdr.specs.Format.{Format, optional, optional_text, chain_next, chain_at, chain}
use Rattle.n41_xdr.specs.Lawful.{IsBytes, Takes, IsLawful}
use Rattle.n41_xdr.proofs.Steps.{bind_ok, Takes-then}
use Rattle.n41_xdr.proofs.Arrays.{optional_lawful}

chain_text : {A : Type 0} → (A → List ℕ) → List A → List ℕ
chain_text spell xs = flat_map (λ x. spelling.boolean true ++ spell x) xs ++ spelling.boolean false

chain_text-nil : {A : Type 0} (spell : A → List ℕ) → chain_text spell [] ≡ spelling.boolean false
unfolding chain_text
chain_text-nil spell = refl

chain_text-cons : {A : Type 0} (spell : A → List ℕ) (x : A) (xs : List A) → chain_text spell (x ∷ xs) ≡ optional_text spell (Some x) ++ chain_text spell xs
unfolding chain_text
chain_text-cons spell x xs =
    ap (λ (t : List ℕ). t ++ spelling.boolean false) (flat_map-cons (λ x. spelling.boolean true ++ spell x) x xs)
    ∙ append_assoc (spelling.boolean true ++ spell x) (flat_map (λ x. spelling.boolean true ++ spell x) xs) (spelling.boolean false)

-- what a chain is, at the front of bytes
abbrev TakesChain : {E A : Type 0} → Format E A → List ℕ → List A × List ℕ → Type 0
TakesChain p bytes x = Takes bytes (chain_text p.spell x.0) x.1 × AllByRecursion p.Fits x.0

next_takes : {E A : Type 0} (p : Format E A) (others : List ℕ → Result (List A × List ℕ) E) (bytes : List ℕ) (o : Option A) (after : List ℕ) (x : List A × List ℕ) → Takes bytes (optional_text p.spell o) after → IfSome o p.Fits
    → chain_next o after others ≡ Ok x → ((y : List A × List ℕ) → IsBytes after → others after ≡ Ok y → TakesChain p after y) → TakesChain p bytes x
next_takes {E} {A} p others bytes None after x t fits e more =
    let x-is : ([], after) ≡ x = cc in
    subst (λ (y : List A × List ℕ). TakesChain p bytes y) x-is (subst (λ (text : List ℕ). Takes bytes text after) (sym (chain_text-nil p.spell)) t, tt)
next_takes {E} {A} p others bytes (Some v) after x t fits e more =
    let b = bind_ok (others after) (λ y. Ok (v ∷ y.0, y.1)) x e in
    let s = more b.0 t.rest_fits b.1 in
    let both = Takes-then bytes (optional_text p.spell (Some v)) after (chain_text p.spell b.0.0) b.0.1 t s.0 in
    let x-is : (v ∷ b.0.0, b.0.1) ≡ x = cc in
    subst (λ (y : List A × List ℕ). TakesChain p bytes y) x-is
    (subst (λ (text : List ℕ). Takes bytes text b.0.1) (sym (chain_text-cons p.spell v b.0.0)) both, (fits, s.1))

chain_takes : {E A : Type 0} (f : XdrFault → E) (p : Format E A) → IsLawful p → (n : ℕ) (bytes : List ℕ) (x : List A × List ℕ) → IsBytes bytes → chain_at f p n bytes ≡ Ok x → TakesChain p bytes x
chain_takes f p h zero bytes x fits e = absurd cc
chain_takes f p h (suc n) bytes x fits e =
    let a = bind_ok ((optional f p).read bytes) (λ m. chain_next m.0 m.1 (chain_at f p n)) x e in
    let t = (optional_lawful f p h).takes bytes a.0 fits a.1 in
    next_takes p (chain_at f p n) bytes a.0.0 a.0.1 x t.0 t.1 a.2 (chain_takes f p h n a.0.1)

-- one step of a chain, where the next value or its end is spelled
step_again : {E A : Type 0} (f : XdrFault → E) (p : Format E A) → IsLawful p → (n : ℕ) (o : Option A) (rest : List ℕ) → IfSome o p.Fits → chain_at f p (suc n) (optional_text p.spell o ++ rest) ≡ chain_next o rest (chain_at f p n)
step_again f p h n o rest fits = ap (λ m. m >>= λ m. chain_next m.0 m.1 (chain_at f p n)) ((optional_lawful f p h).again o rest fits)

chain_again : {E A : Type 0} (f : XdrFault → E) (p : Format E A) → IsLawful p → (xs : List A) (n : ℕ) (rest : List ℕ) → length xs < n → AllByRecursion p.Fits xs → chain_at f p n (chain_text p.spell xs ++ rest) ≡ Ok (xs, rest)
chain_again f p h [] zero rest lt fits = absurd (omega arith)
chain_again f p h [] (suc n) rest lt fits =
    ap (λ (t : List ℕ). chain_at f p (suc n) (t ++ rest)) (chain_text-nil p.spell) ∙ step_again f p h n None rest tt
chain_again f p h (x ∷ xs) zero rest lt fits = absurd (omega arith)
chain_again f p h (x ∷ xs) (suc n) rest lt fits =
    let regrouped : chain_text p.spell (x ∷ xs) ++ rest ≡ optional_text p.spell (Some x) ++ (chain_text p.spell xs ++ rest) =
    ap (λ (t : List ℕ). t ++ rest) (chain_text-cons p.spell x xs) ∙ append_assoc (optional_text p.spell (Some x)) (chain_text p.spell xs) rest in
    let more : length xs < n = omega arith in
    ap (λ (t : List ℕ). chain_at f p (suc n) t) regrouped
    ∙ step_again f p h n (Some x) (chain_text p.spell xs ++ rest) fits.0
    ∙ rw (chain_again f p h xs n rest more fits.1) refl

boolean_length : (b : Bool) → length (spelling.boolean b) ≡ 4
unfolding spelling.boolean spelling.word
boolean_length false = refl
boolean_length true = refl

-- there are no more elements than bytes
chain_length : {A : Type 0} (spell : A → List ℕ) (xs : List A) → length xs ≤ length (chain_text spell xs)
chain_length spell [] = omega arith
chain_length spell (x ∷ xs) =
    omega (arith, ap length (chain_text-cons spell x xs), boolean_length true, chain_length spell xs, length-append (spelling.boolean true ++ spell x) (chain_text spell xs), length-append (spelling.boolean true) (spell x))

pub chain_lawful : {E A : Type 0} (f : XdrFault → E) (p : Format E A) → IsLawful p → IsLawful (chain f p)
unfolding chain_text
chain_lawful f p h = record {
  takes = λ bytes x fits e. chain_takes f p h (suc (length bytes)) bytes x fits e;
  again = λ xs rest fits.
      chain_again f p h xs (suc (length (chain_text p.spell xs ++ rest))) rest (omega (arith, chain_length p.spell xs, length-append (chain_text p.spell xs) rest)) fits;
}
