-- Discriminated unions with a default: a number that no row has is a value by itself, with nothing behind it (RFC 4506, section 4.15).
use Rattle.std.specs.Prelude.{◌≡◌, ◌<◌, ◌^◌, ◌++◌, ◌==◌, ℕ, List, [], ◌∷◌, Result, Ok, Err, if◌then◌else◌}
use Rattle.std.specs.Int.{w32}
use Rattle.n41_xdr.specs.declared.fault.XdrFault.{XdrFault}
use Rattle.n41_xdr.specs.Spelling as spelling
use Rattle.n41_xdr.specs.Reading.{◌>>=◌, number_at}
use Rattle.n41_xdr.specs.Format.{Format, fault_as, Arm}

-- the first row that has the number n reads; where none has, the value is other n
abbrev pub choose_or : {E A : Type 0} → (ℕ → A) → List (ℕ × (List ℕ → Result (A × List ℕ) E)) → ℕ → List ℕ → Result (A × List ℕ) E
choose_or other [] n bytes = Ok (other n, bytes)
choose_or other (row ∷ rows) n bytes = if n == row.0 then row.1 bytes else choose_or other rows n bytes

abbrev pub open_union : {E A : Type 0} → (XdrFault → E) → (ℕ → A) → List (ℕ × (List ℕ → Result (A × List ℕ) E)) → (A → Arm) → Format E A
open_union f other rows arm_of = record {
  read = λ bytes. fault_as f (number_at w32 bytes) >>= λ n. choose_or other rows n.0 n.1;
  spell = λ a. spelling.word (arm_of a).number ++ (arm_of a).text;
  Fits = λ a. ((arm_of a).number < 2 ^ 32) × (arm_of a).Fits;
}
