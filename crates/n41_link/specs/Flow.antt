-- What reads and writes do to bytes that are told. (own)
use Rattle.std.specs.Prelude.{◌≡◌, ◌⊎◌, Some, None, ℕ, ◌≤◌, ◌<◌, Bool, true, false, List, [], ◌∷◌, ◌++◌, length, take, Result, Ok, Err, IfOk}
use Rattle.std.specs.declared.option.Option.{Option}
use Rattle.std.specs.Io.KnownBytes.{append_known, prepend_known, IsAtEnd}
use Rattle.n41_link.specs.declared.stream.Failed.{Failed}
use Rattle.n41_link.specs.declared.connection.Came.{Came}
use Rattle.n41_link.specs.declared.connection.Came.TheVariants.{Bytes, End, Quiet}

-- where it is told, it is this
abbrev pub KnownAs : Option (List ℕ) → List ℕ → Type 0
KnownAs told bytes = (xs : List ℕ) → told ≡ Some xs → xs ≡ bytes

-- at most as many bytes as there is room for
abbrev pub FitsIn : {E : Type 0} → Result ℕ E → List ℕ → Type 0
FitsIn result buf = IfOk result (λ n. n ≤ length buf)

-- a write takes a prefix, of one byte at least where there is one
abbrev pub TakesPrefix : {E : Type 0} → Result ℕ E → List ℕ → Type 0
TakesPrefix result piece = IfOk result (λ n. (n ≤ length piece) × (0 < length piece → 0 < n))

-- The bytes that are left lose those that a read gave, and none where it failed. None are given only at the end or with no room.
abbrev pub GivesOut : {E : Type 0} → Option (List ℕ) → Option (List ℕ) → Result ℕ E → List ℕ → Type 0
GivesOut old new (Ok n) buf = (old ≡ prepend_known (take n buf) new) × (n ≡ 0 → 0 < length buf → IsAtEnd new)
GivesOut old new (Err e) buf = new ≡ old

-- the bytes that were written grow by those that a write took, and by none where it failed
abbrev pub TakesIn : {E : Type 0} → Option (List ℕ) → Option (List ℕ) → Result ℕ E → List ℕ → Type 0
TakesIn old new (Ok n) piece = new ≡ append_known old (take n piece)
TakesIn old new (Err e) piece = new ≡ old

-- the bytes that a read brought stand at the front of its buffer, one at least where there is room
abbrev pub BringsAtMost : Result Came Failed → List ℕ → Type 0
BringsAtMost (Ok (Bytes n)) buf = (n ≤ length buf) × (0 < length buf → 0 < n)
BringsAtMost (Ok End) buf = Unit {0}
BringsAtMost (Ok Quiet) buf = Unit {0}
BringsAtMost (Err e) buf = Unit {0}

-- the bytes that were read grow by those that a read brought, and by none where it was quiet, ended or failed
abbrev pub Brings : Option (List ℕ) → Option (List ℕ) → Result Came Failed → List ℕ → Type 0
Brings old new (Ok (Bytes n)) buf = new ≡ append_known old (take n buf)
Brings old new (Ok End) buf = new ≡ old
Brings old new (Ok Quiet) buf = new ≡ old
Brings old new (Err e) buf = new ≡ old

abbrev pub is_quiet : Result Came Failed → Bool
is_quiet (Ok (Bytes n)) = false
is_quiet (Ok End) = false
is_quiet (Ok Quiet) = true
is_quiet (Err e) = false

abbrev pub is_end : Result Came Failed → Bool
is_end (Ok (Bytes n)) = false
is_end (Ok End) = true
is_end (Ok Quiet) = false
is_end (Err e) = false

-- pieces with what is left of the first, where something is left of it
abbrev pub with_rest : List ℕ → List (List ℕ) → List (List ℕ)
with_rest [] pieces = pieces
with_rest (b ∷ bytes) pieces = (b ∷ bytes) ∷ pieces

-- A read of prepared pieces: an empty piece is one quiet, and after the last comes the end. Of another piece come as many bytes as there is room for.
abbrev pub ReadsPiece : List (List ℕ) → List (List ℕ) → Result Came Failed → List ℕ → Type 0
ReadsPiece old new (Ok (Bytes n)) buf = (rest : List ℕ) × (more : List (List ℕ)) × (old ≡ (take n buf ++ rest) ∷ more) × (new ≡ with_rest rest more) × ((rest ≡ []) ⊎ (n ≡ length buf))
ReadsPiece old new (Ok Quiet) buf = old ≡ [] ∷ new
ReadsPiece old new (Ok End) buf = (old ≡ []) × (new ≡ [])
ReadsPiece old new (Err e) buf = new ≡ old

-- the same, where the pieces that are to come are told
abbrev pub ReadsAhead : Option (List (List ℕ)) → Option (List (List ℕ)) → Result Came Failed → List ℕ → Type 0
ReadsAhead None new result buf = new ≡ None
ReadsAhead (Some old) new result buf = (now : List (List ℕ)) × (new ≡ Some now) × ReadsPiece old now result buf
