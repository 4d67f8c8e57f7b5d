-- Bitmaps and told attributes are lawful.
use Rattle.std.proofs.Common.{◌≡◌, ℕ, Bool, true, false, cond, List, [], ◌∷◌, ◌++◌, ◌<◌, length, take, drop, Option, Some, None, Result, Ok, Err, refl, sym, ap, subst, ◌∙◌, append_assoc, eqb, arith, inl, inr}
use Rattle.std.proofs.lemmas.Bool.{eqb-true}
use Rattle.std.proofs.lemmas.List.{append-nil, take_at}
use Rattle.n41_xdr.specs.declared.fault.XdrFault.{XdrFault}
use Rattle.n41_xdr.specs.Spelling as spelling
use Rattle.n41_xdr.specs.Spelling.{fill}
use Rattle.n41_xdr.specs.Reading.{◌>>=◌, opaque_at}
use Rattle.n41_xdr.specs.Format.{Format, made, fault_as, word}
use Rattle.n41_xdr.specs.Lawful.{IsBytes, Takes, IsLawful}
use Rattle.n41_xdr.proofs.Lawful.{IsBytes-drop, IsBytes-take, bind_ok, fault_as_ok, chosen, mapped_lawful, both_lawful, lifted_lawful, list_lawful, given_lawful, dependent_lawful, opaque_lawful, made_again, word_lawful, hyper_lawful}
use Rattle.n41_attr.specs.declared.fault.AttrFault.{AttrFault}
use Rattle.n41_attr.specs.declared.fault.AttrFault.TheVariants.{Xdr, Length}
use Rattle.n41_attr.specs.Bitmaps.{bitmap, least_unknown}
use Rattle.n41_attr.specs.Attributes.{when, when_text, WhenFits, values, whole, enclosed, all_known, unknown_fault, Told, behind, told}

pub bitmap_lawful : IsLawful bitmap
unfolding bitmap
bitmap_lawful = list_lawful _ _ word_lawful

when_takes : {E A : Type 0} (b : Bool) (p : Format E A) → IsLawful p → (bytes : List ℕ) (x : Option A × List ℕ) → IsBytes bytes → (when b p).read bytes ≡ Ok x → Takes bytes (when_text p.spell x.0) x.1 × WhenFits b p.Fits x.0
when_takes {E} {A} true p h bytes x fits e =
    let a = bind_ok (p.read bytes) (λ y. Ok (Some y.0, y.1)) x e in
    let t = h.takes bytes a.0 fits a.1 in
    let x-is : (Some a.0.0, a.0.1) ≡ x = cc in
    subst (λ (y : Option A × List ℕ). Takes bytes (when_text p.spell y.0) y.1 × WhenFits true p.Fits y.0) x-is (t.0, (refl, t.1))
when_takes {E} {A} false p h bytes x fits e =
    let x-is : (None, bytes) ≡ x = cc in
    subst (λ (y : Option A × List ℕ). Takes bytes (when_text p.spell y.0) y.1 × WhenFits false p.Fits y.0) x-is (record { parts = refl; rest_fits = fits }, refl)

when_again : {E A : Type 0} (b : Bool) (p : Format E A) → IsLawful p → (o : Option A) (rest : List ℕ) → WhenFits b p.Fits o → (when b p).read (when_text p.spell o ++ rest) ≡ Ok (o, rest)
when_again b p h None rest fits = rw fits refl
when_again b p h (Some x) rest fits = rw fits.0 (made_again (λ x. Some x) p h x rest fits.1)

when_lawful : {E A : Type 0} (b : Bool) (p : Format E A) → IsLawful p → IsLawful (when b p)
when_lawful b p h = record { takes = when_takes b p h; again = when_again b p h }

values_lawful : (mask : List ℕ) → IsLawful (values mask)
unfolding values
values_lawful mask =
    mapped_lawful _ _ _ (λ _. refl) (λ _. refl)
    (both_lawful _ _ (when_lawful _ _ word_lawful) (both_lawful _ _ (when_lawful _ _ hyper_lawful) (both_lawful _ _ (when_lawful _ _ hyper_lawful)
    (both_lawful _ _ (when_lawful _ _ word_lawful) (both_lawful _ _ (when_lawful _ _ hyper_lawful) (when_lawful _ _ word_lawful))))))

-- ---- in an opaque

-- what is in an opaque is bytes
inner_fits : (bytes body rest : List ℕ) → IsBytes bytes → bytes ≡ spelling.opaque body ++ rest → IsBytes body
unfolding spelling.opaque spelling.fixed spelling.word
inner_fits bytes body rest fits e =
    let at : take (length body) (drop 4 bytes) ≡ body =
    ap (λ (t : List ℕ). take (length body) (drop 4 t)) e ∙ ap (take (length body)) (append_assoc body (fill (length body)) rest) ∙ take_at body (fill (length body) ++ rest) (length body) refl in
    subst (λ (t : List ℕ). IsBytes t) at (IsBytes-take (length body) (drop 4 bytes) (IsBytes-drop 4 bytes fits))

nothing_left : (bytes : List ℕ) → eqb (length bytes) 0 ≡ true → bytes ≡ []
nothing_left [] e = refl
nothing_left (b ∷ bytes) e = let none : length (b ∷ bytes) ≡ 0 = eqb-true _ _ e in absurd (omega (arith, none))

whole_ok : {A : Type 0} (r : Result (A × List ℕ) XdrFault) (a : A) → whole r ≡ Ok a → r ≡ Ok (a, [])
whole_ok {A} (Ok x) a e =
    elim (chosen (eqb (length x.1) 0) (Ok x.0) (Err Length) (Ok a) e) [
      | inl c ↦
          let none : x.1 ≡ [] = nothing_left x.1 c.0 in
          let same : x.0 ≡ a = cc in
          ap (λ (rest : List ℕ). let r : Result (A × List ℕ) XdrFault = Ok (x.0, rest) in r) none ∙ ap (λ (v : A). let r : Result (A × List ℕ) XdrFault = Ok (v, []) in r) same
      | inr c ↦ absurd cc
    ]
whole_ok (Err f) a e = absurd cc

enclosed_takes : {A : Type 0} (p : Format XdrFault A) → IsLawful p → (bytes : List ℕ) (x : A × List ℕ) → IsBytes bytes → (enclosed p).read bytes ≡ Ok x → Takes bytes ((enclosed p).spell x.0) x.1 × (enclosed p).Fits x.0
enclosed_takes {A} p h bytes x fits e =
    let b = bind_ok (fault_as Xdr (opaque_at 4294967295 bytes)) (λ body. whole (p.read body.0) >>= λ a. Ok (a, body.1)) x e in
    let t = (opaque_lawful 4294967295).takes bytes b.0 fits (fault_as_ok Xdr (opaque_at 4294967295 bytes) b.0 b.1) in
    let c = bind_ok (whole (p.read b.0.0)) (λ a. Ok (a, b.0.1)) x b.2 in
    let s = h.takes b.0.0 (c.0, []) (inner_fits bytes b.0.0 b.0.1 fits t.0.parts) (whole_ok (p.read b.0.0) c.0 c.1) in
    let body-is : b.0.0 ≡ p.spell c.0 = s.0.parts ∙ append-nil (p.spell c.0) in
    let x-is : (c.0, b.0.1) ≡ x = cc in
    let spelled : Takes bytes (spelling.opaque (p.spell c.0)) b.0.1 × (length (p.spell c.0) < 4294967296) = subst (λ (text : List ℕ). Takes bytes (spelling.opaque text) b.0.1 × (length text < 4294967296)) body-is (t.0, t.1.1) in
    subst (λ (y : A × List ℕ). Takes bytes (spelling.opaque (p.spell y.0)) y.1 × (p.Fits y.0 × (length (p.spell y.0) < 4294967296))) x-is (spelled.0, (s.1, spelled.1))

enclosed_again : {A : Type 0} (p : Format XdrFault A) → IsLawful p → (a : A) (rest : List ℕ) → (enclosed p).Fits a → (enclosed p).read ((enclosed p).spell a ++ rest) ≡ Ok (a, rest)
enclosed_again p h a rest fits =
    let inside : p.read (p.spell a) ≡ Ok (a, []) = ap p.read (sym (append-nil (p.spell a))) ∙ h.again a [] fits.0 in
    rw ((opaque_lawful 4294967295).again (p.spell a) rest (omega arith, fits.1), inside) refl

enclosed_lawful : {A : Type 0} (p : Format XdrFault A) → IsLawful p → IsLawful (enclosed p)
enclosed_lawful p h = record { takes = enclosed_takes p h; again = enclosed_again p h }

-- ---- a bitmap, and the values

all_known_lawful : {A : Type 0} (mask : List ℕ) (unknown : Option ℕ) (p : Format AttrFault A) → IsLawful p → IsLawful (all_known mask unknown p)
all_known_lawful mask None p h = record { takes = λ bytes x fits e. let t = h.takes bytes x fits e in (t.0, (refl, t.1)); again = λ a rest fits. h.again a rest fits.1 }
all_known_lawful mask (Some n) p h = record { takes = λ bytes x fits e. absurd cc; again = λ a rest fits. absurd cc }

behind_lawful : (mask : List ℕ) → IsLawful (behind mask)
unfolding behind
behind_lawful mask = mapped_lawful _ _ _ (λ _. refl) (λ _. refl) (both_lawful _ _ (given_lawful mask) (all_known_lawful mask (least_unknown mask) (enclosed (values mask)) (enclosed_lawful (values mask) (values_lawful mask))))

behind_decided : (mask : List ℕ) (t : Told) → (behind mask).Fits t → t.mask ≡ mask
unfolding behind
behind_decided mask t fits = fits.0

pub told_lawful : IsLawful told
unfolding told
told_lawful = dependent_lawful _ _ _ (lifted_lawful _ _ bitmap_lawful) behind_lawful behind_decided
