-- A format says how the values of one type are read from the front of bytes, how they are spelled, and which of them have a spelling.
-- Formats are combined, so that a message is the list of its parts, as in the tables of its RFC.
use Rattle.std.specs.Prelude.{◌≡◌, ℕ, ◌<◌, ◌≤◌, ◌^◌, ◌==◌, zero, suc, List, [], ◌∷◌, ◌++◌, length, Bool, true, false, Result, Ok, Err, if◌then◌else◌, Option, Some, None, IfSome}
use Rattle.std.specs.Bool.{MatchBool}
use Rattle.std.specs.List.{flat_map, AllByRecursion}
use Rattle.std.specs.Int.{w32, w64}
use Rattle.n41_xdr.specs.declared.fault.XdrFault.{XdrFault}
use Rattle.n41_xdr.specs.declared.fault.XdrFault.TheVariants.{BadArm, TooLong, Short}
use Rattle.n41_xdr.specs.Spelling as spelling
use Rattle.n41_xdr.specs.Reading.{◌>>=◌, number_at, boolean_at, fixed_at, opaque_at}

-- E is the type of faults, A that of values
pub record Format (E A : Type 0) : Type 1 where
  pub read : List ℕ → Result (A × List ℕ) E
  pub spell : A → List ℕ
  pub Fits : A → Type 0

-- ---- the basic types of RFC 4506

abbrev pub word : Format XdrFault ℕ
word = record { read = number_at w32; spell = spelling.word; Fits = λ n. n < 2 ^ 32 }

abbrev pub hyper : Format XdrFault ℕ
hyper = record { read = number_at w64; spell = spelling.hyper; Fits = λ n. n < 2 ^ 64 }

abbrev pub flag : Format XdrFault Bool
flag = record { read = boolean_at; spell = spelling.boolean; Fits = λ _. Unit {0} }

abbrev pub fixed : ℕ → Format XdrFault (List ℕ)
fixed n = record { read = fixed_at n; spell = spelling.fixed; Fits = λ bytes. length bytes ≡ n }

abbrev pub opaque : ℕ → Format XdrFault (List ℕ)
opaque max = record { read = opaque_at max; spell = spelling.opaque; Fits = λ bytes. (length bytes ≤ max) × (length bytes < 2 ^ 32) }

-- ---- no bytes

-- one value, which takes no bytes
abbrev pub given : {E A : Type 0} → A → Format E A
given a = record { read = λ bytes. Ok (a, bytes); spell = λ _. []; Fits = λ x. x ≡ a }

-- void (section 4.16)
abbrev pub nothing : {E : Type 0} → Format E (Unit {0})
nothing = record { read = λ bytes. Ok (tt, bytes); spell = λ _. []; Fits = λ _. Unit {0} }

-- no value, whatever the bytes are
abbrev pub refused : {E A : Type 0} → E → Format E A
refused e = record { read = λ _. Err e; spell = λ _. []; Fits = λ _. ⊥ }

-- ---- made of others

-- one after the other
infixr 6 ◌&◌
abbrev pub ◌&◌ : {E A B : Type 0} → Format E A → Format E B → Format E (A × B)
p & q = record {
  read = λ bytes. p.read bytes >>= λ x. q.read x.1 >>= λ y. Ok ((x.0, y.0), y.1);
  spell = λ v. p.spell v.0 ++ q.spell v.1;
  Fits = λ v. p.Fits v.0 × q.Fits v.1;
}

-- the first part decides the format of the rest; first tells it from the value
abbrev pub dependent : {E A B : Type 0} → Format E A → (B → A) → (A → Format E B) → Format E B
dependent p first rest = record {
  read = λ bytes. p.read bytes >>= λ x. (rest x.0).read x.1;
  spell = λ b. p.spell (first b) ++ (rest (first b)).spell b;
  Fits = λ b. p.Fits (first b) × (rest (first b)).Fits b;
}

-- the one or the other, by a test
abbrev pub choice : {E A : Type 0} → Bool → Format E A → Format E A → Format E A
choice b p q = record {
  read = λ bytes. if b then p.read bytes else q.read bytes;
  spell = λ a. if b then p.spell a else q.spell a;
  Fits = λ a. MatchBool b (p.Fits a) (q.Fits a);
}

-- the same bytes, seen as another value
abbrev pub mapped : {E A B : Type 0} → (A → B) → (B → A) → Format E A → Format E B
mapped to from p = record {
  read = λ bytes. p.read bytes >>= λ x. Ok (to x.0, x.1);
  spell = λ b. p.spell (from b);
  Fits = λ b. p.Fits (from b);
}

-- the same, with the fault seen as another
abbrev pub fault_as : {E F A : Type 0} → (E → F) → Result A E → Result A F
fault_as f (Ok x) = Ok x
fault_as f (Err e) = Err (f e)

abbrev pub lifted : {E F A : Type 0} → (E → F) → Format E A → Format F A
lifted f p = record { read = λ bytes. fault_as f (p.read bytes); spell = p.spell; Fits = p.Fits }

-- a number that can only be n
abbrev pub only : ℕ → Format XdrFault (Unit {0})
only n = record {
  read = λ bytes. number_at w32 bytes >>= λ m. if m.0 == n then Ok (tt, m.1) else Err (BadArm m.0);
  spell = λ _. spelling.word n;
  Fits = λ _. n < 2 ^ 32;
}

-- ---- arrays and optional data

-- an array of n elements (section 4.12)
abbrev pub many_at : {E A : Type 0} → Format E A → ℕ → List ℕ → Result (List A × List ℕ) E
many_at p zero bytes = Ok ([], bytes)
many_at p (suc n) bytes = p.read bytes >>= λ x. many_at p n x.1 >>= λ y. Ok (x.0 ∷ y.0, y.1)

abbrev pub many : {E A : Type 0} → Format E A → ℕ → Format E (List A)
many p n = record { read = many_at p n; spell = flat_map p.spell; Fits = λ xs. (length xs ≡ n) × AllByRecursion p.Fits xs }

-- an array: a count, and that many elements (section 4.13)
abbrev pub list : {E A : Type 0} → (XdrFault → E) → Format E A → Format E (List A)
list f p = record {
  read = λ bytes. fault_as f (number_at w32 bytes) >>= λ n. many_at p n.0 n.1;
  spell = λ xs. spelling.word (length xs) ++ flat_map p.spell xs;
  Fits = λ xs. (length xs < 2 ^ 32) × AllByRecursion p.Fits xs;
}

-- an array of at most one element
abbrev pub option : {E A : Type 0} → (XdrFault → E) → Format E A → Format E (Option A)
option f p = record {
  read = λ bytes. fault_as f (number_at w32 bytes) >>= λ n.
      if n.0 == 0 then Ok (None, n.1) else if n.0 == 1 then (p.read n.1 >>= λ x. Ok (Some x.0, x.1)) else Err (f (TooLong n.0 1));
  spell = λ o. elim o [ None ↦ spelling.word 0 | Some x ↦ spelling.word 1 ++ p.spell x ];
  Fits = λ o. IfSome o p.Fits;
}

-- optional data: a bool, and the value behind a true (section 4.19)
abbrev pub optional_text : {A : Type 0} → (A → List ℕ) → Option A → List ℕ
optional_text spell None = spelling.boolean false
optional_text spell (Some x) = spelling.boolean true ++ spell x

abbrev pub optional : {E A : Type 0} → (XdrFault → E) → Format E A → Format E (Option A)
optional f p = record {
  read = λ bytes. fault_as f (boolean_at bytes) >>= λ more. if more.0 then (p.read more.1 >>= λ x. Ok (Some x.0, x.1)) else Ok (None, more.1);
  spell = optional_text p.spell;
  Fits = λ o. IfSome o p.Fits;
}

-- a linked list: each element behind a true, and a false behind the last (section 4.19)
abbrev pub chain_next : {E A : Type 0} → Option A → List ℕ → (List ℕ → Result (List A × List ℕ) E) → Result (List A × List ℕ) E
chain_next None bytes others = Ok ([], bytes)
chain_next (Some x) bytes others = others bytes >>= λ y. Ok (x ∷ y.0, y.1)

-- n is more than the elements can be, since each takes the four bytes of its bool at least
abbrev pub chain_at : {E A : Type 0} → (XdrFault → E) → Format E A → ℕ → List ℕ → Result (List A × List ℕ) E
chain_at f p zero bytes = Err (f (Short 4 0))
chain_at f p (suc n) bytes = (optional f p).read bytes >>= λ m. chain_next m.0 m.1 (chain_at f p n)

abbrev pub chain : {E A : Type 0} → (XdrFault → E) → Format E A → Format E (List A)
chain f p = record {
  read = λ bytes. chain_at f p (suc (length bytes)) bytes;
  spell = λ xs. flat_map (λ x. spelling.boolean true ++ p.spell x) xs ++ spelling.boolean false;
  Fits = AllByRecursion p.Fits;
}

-- ---- discriminated unions (section 4.15)

-- how the bytes behind the discriminant are read, in the arm that has it
abbrev pub made : {E A B : Type 0} → (B → A) → Format E B → List ℕ → Result (A × List ℕ) E
made to p bytes = p.read bytes >>= λ x. Ok (to x.0, x.1)

-- the first row that has the discriminant n reads; where none has, the fault is other n
abbrev pub choose : {E A : Type 0} → (ℕ → E) → List (ℕ × (List ℕ → Result (A × List ℕ) E)) → ℕ → List ℕ → Result (A × List ℕ) E
choose other [] n bytes = Err (other n)
choose other (row ∷ rows) n bytes = if n == row.0 then row.1 bytes else choose other rows n bytes

-- the arm that a value stands in: its discriminant, and the spelling behind it
pub record Arm : Type 1 where
  pub number : ℕ
  pub text : List ℕ
  pub Fits : Type 0

abbrev pub arm : {E B : Type 0} → ℕ → Format E B → B → Arm
arm n p b = record { number = n; text = p.spell b; Fits = p.Fits b }

abbrev pub union : {E A : Type 0} → (XdrFault → E) → (ℕ → E) → List (ℕ × (List ℕ → Result (A × List ℕ) E)) → (A → Arm) → Format E A
union f other rows arm_of = record {
  read = λ bytes. fault_as f (number_at w32 bytes) >>= λ n. choose other rows n.0 n.1;
  spell = λ a. spelling.word (arm_of a).number ++ (arm_of a).text;
  Fits = λ a. ((arm_of a).number < 2 ^ 32) × (arm_of a).Fits;
}
