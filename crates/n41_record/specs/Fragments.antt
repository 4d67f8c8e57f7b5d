-- Fragments of a record (RFC 5531, section 11).
use Rattle.std.specs.Prelude.{◌≡◌, ℕ, ◌+◌, ◌<◌, ◌≤◌, ◌^◌, ◌⊎◌, Bool, true, false, List, ◌++◌, length, flat_map}
use Rattle.std.specs.List.{concat}
use Rattle.std.specs.Int.{w32, to_be_bytes}
use Rattle.n41_record.specs.declared.fault.GatherFault.{GatherFault}
use Rattle.n41_record.specs.declared.fault.GatherFault.TheVariants.{TooLong, TooMany, NoMemory}

-- a header as a number: 31 bits of length, and the highest bit says that the fragment is the record's last
abbrev pub word_of : Bool → ℕ → ℕ
word_of true n = 2 ^ 31 + n
word_of false n = n

-- the header of a fragment of n bytes
unfoldable pub header : Bool → ℕ → List ℕ
header last n = to_be_bytes w32 (word_of last n)

abbrev pub fragment : Bool → List ℕ → List ℕ
fragment last bytes = header last (length bytes) ++ bytes

-- fragments of which none is the last
abbrev pub earlier : List (List ℕ) → List ℕ
earlier before = flat_map (fragment false) before

-- the limits on a record (own): its bytes, and its fragments
abbrev pub most_bytes : ℕ
most_bytes = 1114112

abbrev pub most_fragments : ℕ
most_fragments = 4096

-- one record on a stream, in some cutting into fragments, within the limits
pub record IsFragments (bytes text : List ℕ) : Type 0 where
  pub before : List (List ℕ)
  pub final : List ℕ
  pub joined : bytes ≡ concat before ++ final
  pub spelled : text ≡ earlier before ++ fragment true final
  pub many : length before < most_fragments
  pub long : length bytes ≤ most_bytes

-- whole fragments of a record that goes on, within the limits
pub record AreWithin (before : List (List ℕ)) : Type 0 where
  pub many : length before ≤ most_fragments
  pub long : length (concat before) ≤ most_bytes

-- less than the next fragment: less than a header, or a header that keeps the limits and less than the bytes that it tells of
pub record IsOpened (before : List (List ℕ)) (tail : List ℕ) : Type 0 where
  pub last : Bool
  pub size : ℕ
  pub came : List ℕ
  pub spelled : tail ≡ header last size ++ came
  pub lacks : length came < size
  pub many : length before < most_fragments
  pub long : length (concat before) + size ≤ most_bytes

abbrev pub IsShort : List (List ℕ) → List ℕ → Type 0
IsShort before tail = (length tail < 4) ⊎ IsOpened before tail

-- a rest: a record's beginning that keeps the limits and lacks something
pub record IsRest (rest : List ℕ) : Type 0 where
  pub before : List (List ℕ)
  pub tail : List ℕ
  pub spelled : rest ≡ earlier before ++ tail
  pub within : AreWithin before
  pub short : IsShort before tail

-- which limit the header of one more fragment of n bytes passes; where it passes both, the record is too long
abbrev pub Passes : List (List ℕ) → ℕ → GatherFault → Type 0
Passes before n (TooLong sum) = (sum ≡ length (concat before) + n) × (most_bytes < sum)
Passes before n TooMany = (most_fragments ≤ length before) × (length (concat before) + n ≤ most_bytes)
Passes before n NoMemory = ⊥

-- a record's beginning whose last header is the first to pass a limit, and whatever comes after that header
pub record IsRefused (text : List ℕ) (fault : GatherFault) : Type 0 where
  pub before : List (List ℕ)
  pub last : Bool
  pub size : ℕ
  pub after : List ℕ
  pub spelled : text ≡ earlier before ++ (header last size ++ after)
  pub within : AreWithin before
  pub fits : size < 2 ^ 31
  pub passes : Passes before size fault
