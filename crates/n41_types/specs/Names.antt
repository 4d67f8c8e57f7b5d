-- What a name may be.
use Rattle.std.specs.Prelude.{◌≡◌, ◌≢◌, ℕ, ◌<◌, ◌≤◌, List, [], length, take, slice_index, All, Result, Ok, Err}
use Rattle.n41_types.specs.declared.names.NameFault.{NameFault}
use Rattle.n41_types.specs.declared.names.NameFault.TheVariants.{Empty, TooLong, BadByte, NoMemory}

-- neither a zero byte nor `/` stands in a name (own; RFC 8881, component4, leaves it to the server)
abbrev pub IsNameByte : ℕ → Type 0
IsNameByte b = (b ≢ 0) × (b ≢ 47)

abbrev pub IsName : List ℕ → Type 0
IsName bytes = (0 < length bytes) × (length bytes ≤ 255) × All IsNameByte bytes

-- the place is that of the first byte that may not stand in a name
abbrev pub IsFirstBad : List ℕ → ℕ → Type 0
IsFirstBad bytes place =
    (place < length bytes) × All IsNameByte (take place bytes) × (IsNameByte (slice_index bytes place) → ⊥)

-- which answer bytes get: the name, or the first fault that applies
abbrev pub NameOf : List ℕ → Result (List ℕ) NameFault → Type 0
NameOf bytes (Ok name) = (name ≡ bytes) × IsName bytes
NameOf bytes (Err Empty) = bytes ≡ []
NameOf bytes (Err (TooLong n)) = (n ≡ length bytes) × (255 < n)
NameOf bytes (Err (BadByte place)) = (length bytes ≤ 255) × IsFirstBad bytes place
NameOf bytes (Err NoMemory) = IsName bytes
