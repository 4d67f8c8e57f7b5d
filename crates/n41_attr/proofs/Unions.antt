-- A union with a default is lawful where its rows are.
use Rattle.std.proofs.Common.{◌≡◌, ◌<◌, ◌^◌, ℕ, eqb, false, List, [], ◌∷◌, ◌++◌, Result, Ok, refl, sym, ap, subst, ◌∙◌, inl, inr}
use Rattle.std.specs.List.{AllByRecursion}
use Rattle.std.proofs.lemmas.Bool.{eqb-true}
use Rattle.n41_xdr.specs.declared.fault.XdrFault.{XdrFault}
use Rattle.n41_xdr.specs.Format.{Format, word, dependent, lifted, Arm}
use Rattle.n41_xdr.specs.Lawful.{IsBytes, Takes, IsLawful, RowIsLawful}
use Rattle.n41_xdr.proofs.Lawful.{chosen, same_lawful, lifted_lawful, dependent_lawful, word_lawful}
use Rattle.n41_attr.specs.Unions.{choose_or, open_union}

-- no row has the number
abbrev pub NoRow : {B : Type 0} → List (ℕ × B) → ℕ → Type 0
NoRow [] n = Unit {0}
NoRow (row ∷ rows) n = (eqb n row.0 ≡ false) × NoRow rows n

-- the value a is spelled by the number n alone
pub record IsAlone {A : Type 0} (arm_of : A → Arm) (n : ℕ) (a : A) : Type 0 where
  pub number : (arm_of a).number ≡ n
  pub text : (arm_of a).text ≡ []
  pub fits : (arm_of a).Fits

choose_or_takes : {E A : Type 0} (arm_of : A → Arm) (other : ℕ → A) (rows : List (ℕ × (List ℕ → Result (A × List ℕ) E))) (n : ℕ) → AllByRecursion (RowIsLawful arm_of) rows → (NoRow rows n → IsAlone arm_of n (other n))
    → (bytes : List ℕ) (x : A × List ℕ) → IsBytes bytes → choose_or other rows n bytes ≡ Ok x → Takes bytes (arm_of x.0).text x.1 × (((arm_of x.0).number ≡ n) × (arm_of x.0).Fits)
choose_or_takes {E} {A} arm_of other [] n h alone bytes x fits e =
    let a = alone tt in
    let x-is : (other n, bytes) ≡ x = cc in
    let parts : bytes ≡ (arm_of (other n)).text ++ bytes = rw a.text refl in
    subst (λ (y : A × List ℕ). Takes bytes (arm_of y.0).text y.1 × (((arm_of y.0).number ≡ n) × (arm_of y.0).Fits)) x-is (record { parts = parts; rest_fits = fits }, (a.number, a.fits))
choose_or_takes arm_of other (row ∷ rows) n h alone bytes x fits e =
    elim (chosen (eqb n row.0) (row.1 bytes) (choose_or other rows n bytes) (Ok x) e) [
      | inl c ↦
          let t = h.0.takes bytes x fits c.1 in
          (t.1, (t.0 ∙ sym (eqb-true n row.0 c.0), t.2))
      | inr c ↦ choose_or_takes arm_of other rows n h.1 (λ none. alone (c.0, none)) bytes x fits c.1
    ]

-- what stands behind the number n
abbrev behind : {E A : Type 0} → (ℕ → A) → List (ℕ × (List ℕ → Result (A × List ℕ) E)) → (A → Arm) → ℕ → Format E A
behind other rows arm_of n = record { read = choose_or other rows n; spell = λ a. (arm_of a).text; Fits = λ a. ((arm_of a).number ≡ n) × (arm_of a).Fits }

pub open_union_lawful : {E A : Type 0} (f : XdrFault → E) (other : ℕ → A) (rows : List (ℕ × (List ℕ → Result (A × List ℕ) E))) (arm_of : A → Arm)
    → AllByRecursion (RowIsLawful arm_of) rows
    → ((n : ℕ) → NoRow rows n → IsAlone arm_of n (other n))
    → ((a : A) (rest : List ℕ) → (arm_of a).Fits → choose_or other rows (arm_of a).number ((arm_of a).text ++ rest) ≡ Ok (a, rest))
    → IsLawful (open_union f other rows arm_of)
open_union_lawful f other rows arm_of h alone back =
    same_lawful (open_union f other rows arm_of) (dependent (lifted f word) (λ a. (arm_of a).number) (behind other rows arm_of)) (record {
      reads = λ bytes. refl;
      spells = λ a. refl;
      there = λ a fits. (fits.0, (refl, fits.1));
      back = λ a fits. (fits.0, fits.1.1);
    })
    (dependent_lawful (lifted f word) (λ a. (arm_of a).number) (behind other rows arm_of) (lifted_lawful f word word_lawful) (λ n. record {
      takes = choose_or_takes arm_of other rows n h (alone n);
      again = λ a rest fits. ap (λ (k : ℕ). choose_or other rows k ((arm_of a).text ++ rest)) (sym fits.0) ∙ back a rest fits.1;
    })
    (λ n a fits. fits.0))
