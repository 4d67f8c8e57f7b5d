-- What is made of lawful formats is lawful.
use Rattle.std.proofs.Common.{◌≡◌, ℕ, Bool, true, false, List, [], ◌++◌, Result, Ok, refl, sym, ap, subst, ◌∙◌, append_assoc}
use Rattle.n41_xdr.specs.Reading.{◌>>=◌}
use Rattle.n41_xdr.specs.Format.{Format, given, nothing, refused, ◌&◌, dependent, choice, mapped, fault_as, lifted}
use Rattle.n41_xdr.specs.Lawful.{Takes, IsLawful, BeginsNoOther}
use Rattle.n41_xdr.proofs.Steps.{bind_ok, fault_as_ok, Takes-then}

-- two ways to write one format
pub record IsSame {E A : Type 0} (f g : Format E A) : Type 0 where
  pub reads : (bytes : List ℕ) → f.read bytes ≡ g.read bytes
  pub spells : (a : A) → f.spell a ≡ g.spell a
  pub there : (a : A) → f.Fits a → g.Fits a
  pub back : (a : A) → g.Fits a → f.Fits a

pub same_lawful : {E A : Type 0} (f g : Format E A) → IsSame f g → IsLawful g → IsLawful f
same_lawful f g s h = record {
  takes = λ bytes x fits e.
      let t = h.takes bytes x fits (sym (s.reads bytes) ∙ e) in
      (subst (λ (text : List ℕ). Takes bytes text x.1) (sym (s.spells x.0)) t.0, s.back x.0 t.1);
  again = λ a rest fits.
      ap (λ (text : List ℕ). f.read (text ++ rest)) (s.spells a) ∙ s.reads (g.spell a ++ rest) ∙ h.again a rest (s.there a fits);
}

pub given_lawful : {E A : Type 0} (a : A) → IsLawful (given {E = E} a)
given_lawful {E} {A} a = record {
  takes = λ bytes x fits e.
      let x-is : (a, bytes) ≡ x = cc in
      subst (λ (y : A × List ℕ). Takes bytes [] y.1 × (y.0 ≡ a)) x-is (record { parts = refl; rest_fits = fits }, refl);
  again = λ b rest is. ap (λ (c : A). let r : Result (A × List ℕ) E = Ok (c, rest) in r) (sym is);
}

pub nothing_lawful : {E : Type 0} → IsLawful (nothing {E = E})
nothing_lawful = record {
  takes = λ bytes x fits e.
      let x-is : (tt, bytes) ≡ x = cc in
      subst (λ (y : Unit {0} × List ℕ). Takes bytes [] y.1 × Unit {0}) x-is (record { parts = refl; rest_fits = fits }, tt);
  again = λ a rest fits. refl;
}

pub refused_lawful : {E A : Type 0} (e : E) → IsLawful (refused {A = A} e)
refused_lawful e = record { takes = λ bytes x fits is. absurd cc; again = λ a rest none. absurd none }

pub both_lawful : {E A B : Type 0} (p : Format E A) (q : Format E B) → IsLawful p → IsLawful q → IsLawful (p & q)
both_lawful {E} {A} {B} p q hp hq = record {
  takes = λ bytes x fits e.
      let a = bind_ok (p.read bytes) (λ x. q.read x.1 >>= λ y. Ok ((x.0, y.0), y.1)) x e in
      let b = bind_ok (q.read a.0.1) (λ y. Ok ((a.0.0, y.0), y.1)) x a.2 in
      let first = hp.takes bytes a.0 fits a.1 in
      let second = hq.takes a.0.1 b.0 first.0.rest_fits b.1 in
      let x-is : ((a.0.0, b.0.0), b.0.1) ≡ x = cc in
      subst (λ (y : (A × B) × List ℕ). Takes bytes (p.spell y.0.0 ++ q.spell y.0.1) y.1 × (p.Fits y.0.0 × q.Fits y.0.1)) x-is
      (Takes-then bytes (p.spell a.0.0) a.0.1 (q.spell b.0.0) b.0.1 first.0 second.0, (first.1, second.1));
  again = λ v rest fits.
      ap (λ (t : List ℕ). (p & q).read t) (append_assoc (p.spell v.0) (q.spell v.1) rest)
      ∙ rw (hp.again v.0 (q.spell v.1 ++ rest) fits.0, hq.again v.1 rest fits.1) refl;
}

pub dependent_lawful : {E A B : Type 0} (p : Format E A) (first : B → A) (rest : A → Format E B) → IsLawful p → ((a : A) → IsLawful (rest a)) → ((a : A) (b : B) → (rest a).Fits b → first b ≡ a) → IsLawful (dependent p first rest)
dependent_lawful {E} {A} {B} p first rest hp h decided = record {
  takes = λ bytes x fits e.
      let a = bind_ok (p.read bytes) (λ x. (rest x.0).read x.1) x e in
      let t = hp.takes bytes a.0 fits a.1 in
      let s = (h a.0.0).takes a.0.1 x t.0.rest_fits a.2 in
      let is : a.0.0 ≡ first x.0 = sym (decided a.0.0 x.0 s.1) in
      subst (λ (v : A). Takes bytes (p.spell v ++ (rest v).spell x.0) x.1 × (p.Fits v × (rest v).Fits x.0)) is
      (Takes-then bytes (p.spell a.0.0) a.0.1 ((rest a.0.0).spell x.0) x.1 t.0 s.0, (t.1, s.1));
  again = λ b more fits.
      ap (λ (t : List ℕ). (dependent p first rest).read t) (append_assoc (p.spell (first b)) ((rest (first b)).spell b) more)
      ∙ rw (hp.again (first b) ((rest (first b)).spell b ++ more) fits.0) ((h (first b)).again b more fits.1);
}

pub choice_lawful : {E A : Type 0} (b : Bool) (p q : Format E A) → IsLawful p → IsLawful q → IsLawful (choice b p q)
choice_lawful true p q hp hq = record { takes = hp.takes; again = hp.again }
choice_lawful false p q hp hq = record { takes = hq.takes; again = hq.again }

pub mapped_lawful : {E A B : Type 0} (to : A → B) (from : B → A) (p : Format E A) → ((a : A) → from (to a) ≡ a) → ((b : B) → to (from b) ≡ b) → IsLawful p → IsLawful (mapped to from p)
mapped_lawful {E} {A} {B} to from p there back h = record {
  takes = λ bytes x fits e.
      let b = bind_ok (p.read bytes) (λ y. Ok (to y.0, y.1)) x e in
      let x-is : (to b.0.0, b.0.1) ≡ x = cc in
      subst (λ (y : B × List ℕ). Takes bytes (p.spell (from y.0)) y.1 × p.Fits (from y.0)) x-is
      (subst (λ (a : A). Takes bytes (p.spell a) b.0.1 × p.Fits a) (sym (there b.0.0)) (h.takes bytes b.0 fits b.1));
  again = λ b rest fits. rw (h.again (from b) rest fits, back b) refl;
}

pub lifted_lawful : {E F A : Type 0} (f : E → F) (p : Format E A) → IsLawful p → IsLawful (lifted f p)
lifted_lawful f p h = record {
  takes = λ bytes x fits e. h.takes bytes x fits (fault_as_ok f (p.read bytes) x e);
  again = λ a rest fits. ap (fault_as f) (h.again a rest fits);
}

pub one_spelling : {E A : Type 0} (p : Format E A) → IsLawful p → BeginsNoOther p
one_spelling {E} {A} p h a b x y fits_a fits_b e =
    let left : Result (A × List ℕ) E = Ok (a, x) in
    let right : Result (A × List ℕ) E = Ok (b, y) in
    let same : left ≡ right = sym (h.again a x fits_a) ∙ ap p.read e ∙ h.again b y fits_b in
    let pair : (a, x) ≡ (b, y) = cc in
    (ap (λ (v : A × List ℕ). v.0) pair, ap (λ (v : A × List ℕ). v.1) pair)
