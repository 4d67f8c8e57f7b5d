-- What a dump prints of a stream (own).
use Rattle.std.specs.Prelude.{◌≡◌, ◌<◌, ℕ, suc, List, [], ◌∷◌, ◌++◌, length}
use Rattle.std.specs.declared.option.Option.{Option}
use Rattle.std.specs.Io.KnownBytes.{append_known}
use Rattle.n41_record.specs.declared.fault.GatherFault.TheVariants.{TooLong, TooMany}
use Rattle.n41_record.specs.Streams.{Records, Refused, BeginsWith}
use Rattle.n41_streams.specs.Streams.{Gave, IsRead, TookPart}
use Rattle.n41_lines.specs.declared.side.Side.{Side}
use Rattle.n41_lines.specs.declared.last.Last.{Last}
use Rattle.n41_lines.specs.declared.last.Last.TheVariants.{Rest, Long, Many}
use Rattle.n41_lines.specs.Lines.{line, last_line}

-- a stream has at most 16 MiB
abbrev pub most_bytes : ℕ
most_bytes = 16777216

-- the lines of records, numbered from a number on
abbrev pub lines : Side → ℕ → List (List ℕ) → List ℕ
lines side n [] = []
lines side n (bytes ∷ list) = line side n bytes ++ lines side (suc n) list

-- what stands behind these records, which are all whole ones of the stream up to a limit that it passes
abbrev pub EndsAs : List ℕ → List (List ℕ) → Last → Type 0
EndsAs stream list (Rest n) = (rest : List ℕ) × Records stream list rest × (n ≡ length rest)
EndsAs stream list Long = (rest : List ℕ) × (sum : ℕ) × Refused stream list rest (TooLong sum)
EndsAs stream list Many = (rest : List ℕ) × Refused stream list rest TooMany

-- the last line behind these records
pub record EndsIn (stream : List ℕ) (list : List (List ℕ)) (text : List ℕ) : Type 0 where
  pub last : Last
  pub ends : EndsAs stream list last
  pub spelled : text ≡ last_line last

-- the text is the lines of a stream's records and the last line
pub record Dumps (side : Side) (stream text : List ℕ) : Type 0 where
  pub list : List (List ℕ)
  pub final : List ℕ
  pub ends : EndsIn stream list final
  pub spelled : text ≡ lines side 1 list ++ final

-- all of the source was dumped
pub record IsDumped (side : Side) (left left_new taken taken_new : Option (List ℕ)) : Type 0 where
  pub stream : List ℕ
  pub text : List ℕ
  pub read : IsRead most_bytes left left_new stream
  pub dumps : Dumps side stream text
  pub took : taken_new ≡ append_known taken text

-- all of the source was read, and a part of its dump was printed
pub record IsPartlyDumped (side : Side) (left left_new taken taken_new : Option (List ℕ)) : Type 0 where
  pub stream : List ℕ
  pub text : List ℕ
  pub read : IsRead most_bytes left left_new stream
  pub dumps : Dumps side stream text
  pub took : TookPart taken taken_new text

-- of the first records of a stream the lines were printed, or a part of them
pub record BeginsDump (side : Side) (stream : List ℕ) (taken taken_new : Option (List ℕ)) : Type 0 where
  pub list : List (List ℕ)
  pub rest : List ℕ
  pub begins : BeginsWith stream list rest
  pub took : TookPart taken taken_new (lines side 1 list)

-- the source gave a stream whose dump began
pub record IsBegun (side : Side) (left left_new taken taken_new : Option (List ℕ)) : Type 0 where
  pub stream : List ℕ
  pub gave : Gave left left_new stream
  pub begun : BeginsDump side stream taken taken_new

-- the same, and the stream is too long
pub record IsTooLong (side : Side) (left left_new taken taken_new : Option (List ℕ)) : Type 0 where
  pub stream : List ℕ
  pub gave : Gave left left_new stream
  pub long : most_bytes < length stream
  pub begun : BeginsDump side stream taken taken_new
