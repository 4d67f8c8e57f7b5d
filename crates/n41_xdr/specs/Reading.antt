-- Reading from left to right: a value and the bytes behind it, or the first fault that is met.
use Rattle.std.specs.Prelude.{◌≡◌, ℕ, ◌+◌, List, [], ◌∷◌, length, take, drop, Bool, true, false, Result, Ok, Err, nat_lt, ◌==◌, ◌&&◌, if◌then◌else◌}
use Rattle.std.specs.Int.{Width, w32, byte_len, from_be_bytes}
use Rattle.n41_xdr.specs.declared.fault.XdrFault.{XdrFault}
use Rattle.n41_xdr.specs.declared.fault.XdrFault.TheVariants.{Short, BadBool, BadPad, TooLong}
use Rattle.n41_xdr.specs.Spelling.{fill_len}

-- go on from what was read, unless there is a fault
infixl 10 ◌>>=◌
abbrev pub ◌>>=◌ : {A B E : Type 0} → Result A E → (A → Result B E) → Result B E
(Ok x) >>= f = f x
(Err e) >>= f = Err e

-- A call on a reader answers what reading gives: the value, seen by view, and the bytes that are left; or the fault, and then nothing is taken.
abbrev pub Reads : {X Y E : Type 0} → (X → Y) → Result X E → List ℕ → List ℕ → Result (Y × List ℕ) E → Type 0
Reads view (Ok x) old new read = read ≡ Ok (view x, new)
Reads view (Err e) old new read = (read ≡ Err e) × (new ≡ old)

-- n bytes with no fill
abbrev pub taken_at : ℕ → List ℕ → Result (List ℕ × List ℕ) XdrFault
taken_at n bytes = if nat_lt (length bytes) n then Err (Short n (length bytes)) else Ok (take n bytes, drop n bytes)

abbrev pub number_at : Width → List ℕ → Result (ℕ × List ℕ) XdrFault
number_at w bytes = taken_at (byte_len w) bytes >>= λ x. Ok (from_be_bytes w x.0, x.1)

unfoldable pub boolean_at : List ℕ → Result (Bool × List ℕ) XdrFault
boolean_at bytes = do
  n ← number_at w32 bytes
  if n.0 == 0 then Ok (false, n.1) else if n.0 == 1 then Ok (true, n.1) else Err (BadBool n.0)

abbrev pub all_zero : List ℕ → Bool
all_zero [] = true
all_zero (b ∷ bytes) = (b == 0) && all_zero bytes

-- n bytes and their fill
unfoldable pub fixed_at : ℕ → List ℕ → Result (List ℕ × List ℕ) XdrFault
fixed_at n bytes = do
  x ← taken_at (n + fill_len n) bytes
  if all_zero (drop n x.0) then Ok (take n x.0, x.1) else Err BadPad

-- a length of at most max, and that many bytes with their fill
unfoldable pub opaque_at : ℕ → List ℕ → Result (List ℕ × List ℕ) XdrFault
opaque_at max bytes = do
  n ← number_at w32 bytes
  if nat_lt max n.0 then Err (TooLong n.0 max) else fixed_at n.0 n.1
