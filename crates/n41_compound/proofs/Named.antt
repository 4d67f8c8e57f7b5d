-- Names, and bytes that are none.
use Rattle.std.proofs.Common.{◌≡◌, ◌<◌, ◌≤◌, ℕ, Bool, true, false, List, [], length, Option, Some, None, Result, Ok, Err, if◌then◌else◌, refl, sym, ap, subst, ◌∙◌, arith}
use Rattle.std.specs.List.{list_all, All}
use Rattle.std.specs.Prelude.{nat_lt, ◌&&◌, IfOk}
use Rattle.std.proofs.lemmas.Bool.{lt-ltb, ltb-true, ne_eqb}
use Rattle.std.proofs.lemmas.List.Sums.{AllPass-from_list_all, list_all-from_AllPass}
use Rattle.n41_types.specs.Names.{IsName, IsNameByte, NameOf}
use Rattle.n41_types.specs.declared.names.NameFault.{NameFault}
use Rattle.n41_types.specs.declared.names.NameFault.TheVariants.{Empty, TooLong, BadByte, NoMemory}
use Rattle.n41_compound.specs.Nameless.{IsNameless}
use Rattle.n41_compound.specs.Parts.{is_name, is_name_byte, name_of}
use Rattle.n41_compound.proofs.Truths.{and_true, if_some}

name_byte : (b : ℕ) → is_name_byte b ≡ true → IsNameByte b
name_byte b e = (
  λ z. let fails : is_name_byte b ≡ false = ap is_name_byte z in absurd cc,
  λ z. let fails : is_name_byte b ≡ false = ap is_name_byte z in absurd cc,
)

byte_passes : (b : ℕ) → IsNameByte b → is_name_byte b ≡ true
byte_passes b h = rw (ne_eqb b 0 h.0, ne_eqb b 47 h.1) refl

is_lawful : (bytes : List ℕ) → is_name bytes ≡ true → IsName bytes
unfolding is_name
is_lawful bytes e =
    let a = and_true (nat_lt 0 (length bytes) && nat_lt (length bytes) 256) (list_all is_name_byte bytes) e in
    let b = and_true (nat_lt 0 (length bytes)) (nat_lt (length bytes) 256) a.0 in
    let short : length bytes < 256 = ltb-true (length bytes) 256 b.1 in
    let good = AllPass-from_list_all is_name_byte bytes a.1 in
    (ltb-true 0 (length bytes) b.0, omega arith, λ k d lt. name_byte _ (good k d lt))

passes : (bytes : List ℕ) → IsName bytes → is_name bytes ≡ true
unfolding is_name
passes bytes h =
    rw (
      lt-ltb 0 (length bytes) h.0,
      lt-ltb (length bytes) 256 (omega (arith, h.1)),
      list_all-from_AllPass is_name_byte bytes (λ k d lt. byte_passes _ (h.2 k d lt)),
    ) refl

-- a name is found
pub named : (bytes : List ℕ) → IsName bytes → name_of bytes ≡ Some bytes
named bytes h = rw (passes bytes h) refl

-- what is found is the bytes, and a name
pub name_is : (bytes name : List ℕ) → name_of bytes ≡ Some name → (bytes ≡ name) × IsName name
name_is bytes name e =
    let t = if_some (is_name bytes) (Some bytes) name e in
    let same : bytes ≡ name = cc t.1 in
    (same, rw same at (is_lawful bytes t.0))

nameless : (bytes : List ℕ) (b : Bool) → is_name bytes ≡ b → (IsName bytes → ⊥) → name_of bytes ≡ None
nameless bytes true e wrong = absurd (wrong (is_lawful bytes e))
nameless bytes false e wrong = rw e refl

-- bytes that are no name have none
pub unnamed : (bytes : List ℕ) → (IsName bytes → ⊥) → name_of bytes ≡ None
unnamed bytes wrong = nameless bytes (is_name bytes) refl wrong

-- what is found of bytes
pub name_found : (slice bytes name : List ℕ) → slice ≡ bytes → NameOf slice (Ok name) → Some name ≡ name_of bytes
name_found slice bytes name same is =
    subst (λ (b : List ℕ). let r : Option (List ℕ) = Some name in r ≡ name_of b) same
    (ap (λ (b : List ℕ). let r : Option (List ℕ) = Some b in r) is.0 ∙ sym (named slice is.1))

faulty : (bytes : List ℕ) (f : NameFault) (o : Option (List ℕ)) → NameOf bytes (Err f) → IsNameless f o → o ≡ name_of bytes
faulty bytes Empty o is none = none ∙ sym (unnamed bytes (λ n. omega (arith, ap length is, n.0)))
faulty bytes (TooLong n) o is none = none ∙ sym (unnamed bytes (λ m. omega (arith, m.1, is.0, is.1)))
faulty bytes (BadByte p) o is none = none ∙ sym (unnamed bytes (λ m. is.1.2 (m.2 p 0 is.1.0)))
faulty bytes NoMemory o is none = absurd none

-- what is told of bytes that are no name
pub none_found : {E : Type 0} (slice bytes : List ℕ) (f : NameFault) (r : Result (Option (List ℕ)) E) → slice ≡ bytes → NameOf slice (Err f) → IfOk r (λ o. IsNameless f o) → IfOk r (λ o. o ≡ name_of bytes)
none_found slice bytes f (Ok o) same is none = subst (λ (b : List ℕ). o ≡ name_of b) same (faulty slice f o is none)
none_found slice bytes f (Err e) same is none = tt
