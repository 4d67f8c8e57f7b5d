-- What was read from a source, and what a sink took. (own)
use Rattle.std.specs.Prelude.{◌≡◌, ◌≤◌, ◌<◌, ℕ, List, ◌++◌, length, Bool, true, false, Result, Ok, Err}
use Rattle.std.specs.declared.option.Option.{Option}
use Rattle.std.specs.Io.KnownBytes.{prepend_known, append_known, IsAtEnd}
use Rattle.n41_streams.specs.declared.reading.ReadFault.{ReadFault}
use Rattle.n41_streams.specs.declared.reading.ReadFault.TheVariants.{TooLong, Failed, NoMemory}

-- a source that had these left gave these bytes, and has these left now
abbrev pub Gave : Option (List ℕ) → Option (List ℕ) → List ℕ → Type 0
Gave old new bytes = old ≡ prepend_known bytes new

-- it was read to its end, and gave no more bytes than there may be
pub record IsRead (most : ℕ) (old new : Option (List ℕ)) (bytes : List ℕ) : Type 0 where
  pub gave : Gave old new bytes
  pub ended : IsAtEnd new
  pub within : length bytes ≤ most

-- it gave more bytes than there may be
pub record IsTooLong (most : ℕ) (old new : Option (List ℕ)) : Type 0 where
  pub bytes : List ℕ
  pub gave : Gave old new bytes
  pub beyond : most < length bytes

-- the sink took a part of a text
pub record TookPart (old new : Option (List ℕ)) (text : List ℕ) : Type 0 where
  pub part : List ℕ
  pub more : List ℕ
  pub cut : text ≡ part ++ more
  pub took : new ≡ append_known old part

-- why it was not read to its end; a failure has its count
abbrev pub ReadCause : ReadFault → ℕ → Option (List ℕ) → Option (List ℕ) → Type 0
ReadCause TooLong most old new = IsTooLong most old new
ReadCause Failed most old new = Unit {0}
ReadCause NoMemory most old new = Unit {0}

abbrev pub is_failure : {T : Type 0} → Result T ReadFault → Bool
is_failure (Ok x) = false
is_failure (Err TooLong) = false
is_failure (Err Failed) = true
is_failure (Err NoMemory) = false
