-- A discriminated union of lawful arms is lawful.
use Rattle.std.proofs.Common.{◌≡◌, ℕ, eqb, List, [], ◌∷◌, ◌++◌, Result, Ok, refl, sym, ap, subst, ◌∙◌, inl, inr}
use Rattle.std.specs.List.{AllByRecursion}
use Rattle.std.proofs.lemmas.Bool.{eqb-true}
use Rattle.n41_xdr.specs.declared.fault.XdrFault.{XdrFault}
use Rattle.n41_xdr.specs.Format.{Format, word, dependent, lifted, made, choose, Arm, arm, union}
use Rattle.n41_xdr.specs.Lawful.{IsBytes, Takes, IsLawful, RowIsLawful}
use Rattle.n41_xdr.proofs.Steps.{bind_ok, chosen}
use Rattle.n41_xdr.proofs.Combined.{same_lawful, lifted_lawful, dependent_lawful}
use Rattle.n41_xdr.proofs.Basic.{word_lawful}

pub row_lawful : {E A B : Type 0} (arm_of : A → Arm) (n : ℕ) (to : B → A) (p : Format E B) → ((b : B) → arm_of (to b) ≡ arm n p b) → IsLawful p → RowIsLawful arm_of (n, made to p)
row_lawful {E} {A} {B} arm_of n to p is h = record {
  takes = λ bytes x fits e.
      let b = bind_ok (p.read bytes) (λ y. Ok (to y.0, y.1)) x e in
      let t = h.takes bytes b.0 fits b.1 in
      let x-is : (to b.0.0, b.0.1) ≡ x = cc in
      subst (λ (y : A × List ℕ). ((arm_of y.0).number ≡ n) × Takes bytes (arm_of y.0).text y.1 × (arm_of y.0).Fits) x-is
      (subst (λ (a : Arm). (a.number ≡ n) × Takes bytes a.text b.0.1 × a.Fits) (sym (is b.0.0)) (refl, t.0, t.1));
}

pub made_again : {E A B : Type 0} (to : B → A) (p : Format E B) → IsLawful p → (b : B) (rest : List ℕ) → p.Fits b → made to p (p.spell b ++ rest) ≡ Ok (to b, rest)
made_again to p h b rest fits = rw (h.again b rest fits) refl

choose_takes : {E A : Type 0} (arm_of : A → Arm) (other : ℕ → E) (rows : List (ℕ × (List ℕ → Result (A × List ℕ) E))) → AllByRecursion (RowIsLawful arm_of) rows
    → (n : ℕ) (bytes : List ℕ) (x : A × List ℕ) → IsBytes bytes → choose other rows n bytes ≡ Ok x → Takes bytes (arm_of x.0).text x.1 × (((arm_of x.0).number ≡ n) × (arm_of x.0).Fits)
choose_takes arm_of other [] h n bytes x fits e = absurd cc
choose_takes arm_of other (row ∷ rows) h n bytes x fits e =
    elim (chosen (eqb n row.0) (row.1 bytes) (choose other rows n bytes) (Ok x) e) [
      | inl c ↦
          let t = h.0.takes bytes x fits c.1 in
          (t.1, (t.0 ∙ sym (eqb-true n row.0 c.0), t.2))
      | inr c ↦ choose_takes arm_of other rows h.1 n bytes x fits c.1
    ]

-- what stands behind the discriminant n
abbrev behind : {E A : Type 0} → (ℕ → E) → List (ℕ × (List ℕ → Result (A × List ℕ) E)) → (A → Arm) → ℕ → Format E A
behind other rows arm_of n = record { read = choose other rows n; spell = λ a. (arm_of a).text; Fits = λ a. ((arm_of a).number ≡ n) × (arm_of a).Fits }

pub union_lawful : {E A : Type 0} (f : XdrFault → E) (other : ℕ → E) (rows : List (ℕ × (List ℕ → Result (A × List ℕ) E))) (arm_of : A → Arm)
    → AllByRecursion (RowIsLawful arm_of) rows
    → ((a : A) (rest : List ℕ) → (arm_of a).Fits → choose other rows (arm_of a).number ((arm_of a).text ++ rest) ≡ Ok (a, rest))
    → IsLawful (union f other rows arm_of)
union_lawful f other rows arm_of h back =
    same_lawful (union f other rows arm_of) (dependent (lifted f word) (λ a. (arm_of a).number) (behind other rows arm_of)) (record {
      reads = λ bytes. refl;
      spells = λ a. refl;
      there = λ a fits. (fits.0, (refl, fits.1));
      back = λ a fits. (fits.0, fits.1.1);
    })
    (dependent_lawful (lifted f word) (λ a. (arm_of a).number) (behind other rows arm_of) (lifted_lawful f word word_lawful) (λ n. record {
      takes = choose_takes arm_of other rows h n;
      again = λ a rest fits. ap (λ (k : ℕ). choose other rows k ((arm_of a).text ++ rest)) (sym fits.0) ∙ back a rest fits.1;
    })
    (λ n a fits. fits.0))
