-- Own: what makes a format lawful, and what follows for two spellings.
use Rattle.std.specs.Prelude.{◌≡◌, ℕ, ◌<◌, List, ◌++◌, get_or, Result, Ok}
use Rattle.n41_xdr.specs.Format.{Format, Arm}

abbrev pub IsBytes : List ℕ → Type 0
IsBytes bytes = (i : ℕ) → get_or bytes i 0 < 256

-- bytes begin with a text, and the rest is what stands behind it
pub record Takes (bytes text rest : List ℕ) : Type 0 where
  pub parts : bytes ≡ text ++ rest
  pub rest_fits : IsBytes rest

-- What is read is spelled so, and what is spelled so is read, whatever follows it.
pub record IsLawful {E A : Type 0} (f : Format E A) : Type 0 where
  pub takes : (bytes : List ℕ) (x : A × List ℕ) → IsBytes bytes → f.read bytes ≡ Ok x → Takes bytes (f.spell x.0) x.1 × f.Fits x.0
  pub again : (a : A) (rest : List ℕ) → f.Fits a → f.read (f.spell a ++ rest) ≡ Ok (a, rest)

-- No spelling begins another: where two spellings begin the same bytes, they are of one value and end at one place.
abbrev pub BeginsNoOther : {E A : Type 0} → Format E A → Type 0
BeginsNoOther {E} {A} f = (a b : A) (x y : List ℕ) → f.Fits a → f.Fits b → f.spell a ++ x ≡ f.spell b ++ y → (a ≡ b) × (x ≡ y)

-- what a row of a union reads stands in the arm of its discriminant
pub record RowIsLawful {E A : Type 0} (arm_of : A → Arm) (row : ℕ × (List ℕ → Result (A × List ℕ) E)) : Type 0 where
  pub takes : (bytes : List ℕ) (x : A × List ℕ) → IsBytes bytes → row.1 bytes ≡ Ok x → ((arm_of x.0).number ≡ row.0) × Takes bytes (arm_of x.0).text x.1 × (arm_of x.0).Fits
