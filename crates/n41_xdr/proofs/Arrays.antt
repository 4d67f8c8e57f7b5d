-- Arrays and optional data of lawful elements are lawful.
use Rattle.std.proofs.Common.{◌≡◌, ℕ, zero, suc, Bool, true, false, List, [], ◌∷◌, ◌++◌, length, Option, Some, None, Ok, refl, sym, ap, subst, ◌∙◌, append_assoc, arith}
use Rattle.std.specs.Prelude.{IfSome, IsSomeAnd}
use Rattle.std.specs.List.{flat_map, AllByRecursion}
use Rattle.std.proofs.lemmas.List.{append-nil}
use Rattle.std.proofs.lemmas.List.Concat.{flat_map-cons}
use Rattle.n41_xdr.specs.declared.fault.XdrFault.{XdrFault}
use Rattle.n41_xdr.specs.declared.fault.XdrFault.TheVariants.{TooLong}
use Rattle.n41_xdr.specs.Spelling as spelling
use Rattle.n41_xdr.specs.Reading.{◌>>=◌}
use Rattle.n41_xdr.specs.Format.{Format, word, flag, given, dependent, choice, lifted, many_at, many, list, option, optional, optional_text}
use Rattle.n41_xdr.specs.Lawful.{IsBytes, Takes, IsLawful}
use Rattle.n41_xdr.proofs.Steps.{bind_ok, Takes-then}
use Rattle.n41_xdr.proofs.Combined.{same_lawful, given_lawful, lifted_lawful, dependent_lawful, choice_lawful}
use Rattle.n41_xdr.proofs.Basic.{word_lawful, flag_lawful, by_number, by_number_lawful}

-- ---- arrays

many_takes : {E A : Type 0} (p : Format E A) → IsLawful p → (n : ℕ) (bytes : List ℕ) (x : List A × List ℕ) → IsBytes bytes → many_at p n bytes ≡ Ok x → Takes bytes (flat_map p.spell x.0) x.1 × ((length x.0 ≡ n) × AllByRecursion p.Fits x.0)
many_takes {E} {A} p h zero bytes x fits e =
    let x-is : ([], bytes) ≡ x = cc in
    subst (λ (y : List A × List ℕ). Takes bytes (flat_map p.spell y.0) y.1 × ((length y.0 ≡ 0) × AllByRecursion p.Fits y.0)) x-is (record { parts = refl; rest_fits = fits }, (refl, tt))
many_takes {E} {A} p h (suc n) bytes x fits e =
    let a = bind_ok (p.read bytes) (λ x. many_at p n x.1 >>= λ y. Ok (x.0 ∷ y.0, y.1)) x e in
    let b = bind_ok (many_at p n a.0.1) (λ y. Ok (a.0.0 ∷ y.0, y.1)) x a.2 in
    let first = h.takes bytes a.0 fits a.1 in
    let others = many_takes p h n a.0.1 b.0 first.0.rest_fits b.1 in
    let both = Takes-then bytes (p.spell a.0.0) a.0.1 (flat_map p.spell b.0.0) b.0.1 first.0 others.0 in
    let x-is : (a.0.0 ∷ b.0.0, b.0.1) ≡ x = cc in
    subst (λ (y : List A × List ℕ). Takes bytes (flat_map p.spell y.0) y.1 × ((length y.0 ≡ suc n) × AllByRecursion p.Fits y.0)) x-is (rw flat_map-cons both, (ap suc others.1.0, (first.1, others.1.1)))

many_again : {E A : Type 0} (p : Format E A) → IsLawful p → (xs : List A) (rest : List ℕ) → AllByRecursion p.Fits xs → many_at p (length xs) (flat_map p.spell xs ++ rest) ≡ Ok (xs, rest)
many_again p h [] rest fits = refl
many_again p h (x ∷ xs) rest fits =
    let regrouped : flat_map p.spell (x ∷ xs) ++ rest ≡ p.spell x ++ (flat_map p.spell xs ++ rest) = ap (λ (t : List ℕ). t ++ rest) (flat_map-cons p.spell x xs) ∙ append_assoc (p.spell x) (flat_map p.spell xs) rest in
    ap (many_at p (suc (length xs))) regrouped ∙ rw (h.again x (flat_map p.spell xs ++ rest) fits.0, many_again p h xs rest fits.1) refl

pub many_lawful : {E A : Type 0} (p : Format E A) (n : ℕ) → IsLawful p → IsLawful (many p n)
many_lawful p n h = record {
  takes = many_takes p h n;
  again = λ xs rest fits. ap (λ (k : ℕ). many_at p k (flat_map p.spell xs ++ rest)) (sym fits.0) ∙ many_again p h xs rest fits.1;
}

pub list_lawful : {E A : Type 0} (f : XdrFault → E) (p : Format E A) → IsLawful p → IsLawful (list f p)
list_lawful f p h =
    same_lawful (list f p) (dependent (lifted f word) (λ xs. length xs) (many p)) (record {
      reads = λ bytes. refl;
      spells = λ xs. refl;
      there = λ xs fits. (fits.0, (refl, fits.1));
      back = λ xs fits. (fits.0, fits.1.1);
    })
    (dependent_lawful (lifted f word) (λ xs. length xs) (many p) (lifted_lawful f word word_lawful) (λ n. many_lawful p n h) (λ n xs fits. fits.0))

-- ---- a value that may be absent

abbrev some_text : {A : Type 0} → (A → List ℕ) → Option A → List ℕ
some_text spell None = []
some_text spell (Some a) = spell a

-- the value is there
abbrev some : {E A : Type 0} → Format E A → Format E (Option A)
some p = record { read = λ bytes. p.read bytes >>= λ x. Ok (Some x.0, x.1); spell = some_text p.spell; Fits = λ o. IsSomeAnd o p.Fits }

some_again : {E A : Type 0} (p : Format E A) → IsLawful p → (o : Option A) (rest : List ℕ) → IsSomeAnd o p.Fits → (some p).read (some_text p.spell o ++ rest) ≡ Ok (o, rest)
some_again p h None rest none = absurd none
some_again p h (Some a) rest fits = rw (h.again a rest fits) refl

some_lawful : {E A : Type 0} (p : Format E A) → IsLawful p → IsLawful (some p)
some_lawful {E} {A} p h = record {
  takes = λ bytes x fits e.
      let b = bind_ok (p.read bytes) (λ x. Ok (Some x.0, x.1)) x e in
      let x-is : (Some b.0.0, b.0.1) ≡ x = cc in
      subst (λ (y : Option A × List ℕ). Takes bytes (some_text p.spell y.0) y.1 × IsSomeAnd y.0 p.Fits) x-is (h.takes bytes b.0 fits b.1);
  again = some_again p h;
}

count_of : {A : Type 0} → Option A → ℕ
count_of None = 0
count_of (Some a) = 1

count_of-none : {A : Type 0} (o : Option A) → o ≡ None → count_of o ≡ 0
unfolding count_of
count_of-none o is = ap count_of is

count_of-some : {A : Type 0} (Fits : A → Type 0) (o : Option A) → IsSomeAnd o Fits → count_of o ≡ 1
unfolding count_of
count_of-some Fits None none = absurd none
count_of-some Fits (Some a) fits = refl

abbrev counted : {E A : Type 0} → (XdrFault → E) → Format E A → Format E (Option A)
counted f p = dependent (lifted f word) count_of (by_number (given None) (some p) (λ n. f (TooLong n 1)))

option_spells : {E A : Type 0} (f : XdrFault → E) (p : Format E A) (o : Option A) → (option f p).spell o ≡ (counted f p).spell o
unfolding count_of
option_spells f p None = sym (append-nil (spelling.word 0))
option_spells f p (Some a) = refl

option_there : {E A : Type 0} (f : XdrFault → E) (p : Format E A) (o : Option A) → IfSome o p.Fits → (counted f p).Fits o
unfolding count_of
option_there f p None fits = (omega arith, refl)
option_there f p (Some a) fits = (omega arith, fits)

option_back : {E A : Type 0} (f : XdrFault → E) (p : Format E A) (o : Option A) → (counted f p).Fits o → IfSome o p.Fits
unfolding count_of
option_back f p None fits = tt
option_back f p (Some a) fits = fits.1

pub option_lawful : {E A : Type 0} (f : XdrFault → E) (p : Format E A) → IsLawful p → IsLawful (option f p)
option_lawful f p h =
    same_lawful (option f p) (counted f p) (record { reads = λ bytes. refl; spells = option_spells f p; there = option_there f p; back = option_back f p })
    (by_number_lawful (lifted f word) count_of (given None) (some p) (λ n. f (TooLong n 1)) (lifted_lawful f word word_lawful) (given_lawful None) (some_lawful p h) count_of-none (count_of-some p.Fits))

is_there : {A : Type 0} → Option A → Bool
is_there None = false
is_there (Some a) = true

is_there-none : {A : Type 0} (o : Option A) → o ≡ None → is_there o ≡ false
unfolding is_there
is_there-none o is = ap is_there is

is_there-some : {A : Type 0} (Fits : A → Type 0) (o : Option A) → IsSomeAnd o Fits → is_there o ≡ true
unfolding is_there
is_there-some Fits None none = absurd none
is_there-some Fits (Some a) fits = refl

abbrev behind_flag : {E A : Type 0} → Format E A → Bool → Format E (Option A)
behind_flag p b = choice b (some p) (given None)

behind_flag_decided : {E A : Type 0} (p : Format E A) (b : Bool) (o : Option A) → (behind_flag p b).Fits o → is_there o ≡ b
behind_flag_decided p true o fits = is_there-some p.Fits o fits
behind_flag_decided p false o fits = is_there-none o fits

abbrev flagged : {E A : Type 0} → (XdrFault → E) → Format E A → Format E (Option A)
flagged f p = dependent (lifted f flag) is_there (behind_flag p)

optional_spells : {E A : Type 0} (f : XdrFault → E) (p : Format E A) (o : Option A) → optional_text p.spell o ≡ (flagged f p).spell o
unfolding is_there
optional_spells f p None = sym (append-nil (spelling.boolean false))
optional_spells f p (Some a) = refl

optional_there : {E A : Type 0} (f : XdrFault → E) (p : Format E A) (o : Option A) → IfSome o p.Fits → (flagged f p).Fits o
unfolding is_there
optional_there f p None fits = (tt, refl)
optional_there f p (Some a) fits = (tt, fits)

optional_back : {E A : Type 0} (f : XdrFault → E) (p : Format E A) (o : Option A) → (flagged f p).Fits o → IfSome o p.Fits
unfolding is_there
optional_back f p None fits = tt
optional_back f p (Some a) fits = fits.1

pub optional_lawful : {E A : Type 0} (f : XdrFault → E) (p : Format E A) → IsLawful p → IsLawful (optional f p)
optional_lawful f p h =
    same_lawful (optional f p) (flagged f p) (record { reads = λ bytes. refl; spells = optional_spells f p; there = optional_there f p; back = optional_back f p })
    (dependent_lawful (lifted f flag) is_there (behind_flag p) (lifted_lawful f flag flag_lawful) (λ b. choice_lawful b _ _ (some_lawful p h) (given_lawful None)) (behind_flag_decided p))
