-- How the record under way is held.
use Rattle.std.specs.Prelude.{◌≡◌, ℕ, ◌+◌, ◌<◌, ◌≤◌, Bool, List, [], ◌++◌, length, Option, None, Some, Result, Ok, Err}
use Rattle.std.specs.List.{concat}
use Rattle.std.specs.declared.vec.Vec.{Vec}
use Rattle.std.specs.declared.alloc.Global.{Global}
use Rattle.n41_record.specs.declared.partial.Partial.{Partial}
use Rattle.n41_record.specs.declared.partial.Open.{Open}
use Rattle.n41_record.specs.declared.partial.Taken.{Taken}
use Rattle.n41_record.specs.declared.fault.GatherFault.{GatherFault}
use Rattle.n41_record.specs.declared.fault.GatherFault.TheVariants.{NoMemory}
use Rattle.n41_record.specs.Fragments.{header, earlier, most_bytes, most_fragments, IsFragments, IsRefused}

-- the whole fragments, and what has come of the next header
pub record IsBetween (p : Partial) (rest : List ℕ) : Type 0 where
  pub before : List (List ℕ)
  pub count : p.fragments ≡ length before
  pub many : length before ≤ most_fragments
  pub spelled : rest ≡ earlier before ++ p.head.items
  pub bytes : p.bytes.items ≡ concat before
  pub long : length p.bytes.items ≤ most_bytes
  pub below : length p.head.items ≤ 4

-- the whole fragments, and a header and some of its bytes
pub record IsInside (p : Partial) (last : Bool) (left : ℕ) (rest : List ℕ) : Type 0 where
  pub before : List (List ℕ)
  pub came : List ℕ
  pub count : p.fragments ≡ length before
  pub many : length before < most_fragments
  pub spelled : rest ≡ earlier before ++ (header last (length came + left) ++ came)
  pub bytes : p.bytes.items ≡ concat before ++ came
  pub long : length p.bytes.items + left ≤ most_bytes
  pub head : p.head.items ≡ []

abbrev pub IsPlaced : Partial → List ℕ → Option Open → Type 0
IsPlaced p rest None = IsBetween p rest × (length p.head.items < 4)
IsPlaced p rest (Some o) = IsInside p o.last o.left rest × (0 < o.left)

-- the record under way has come as this rest
pub record Holds (p : Partial) (rest : List ℕ) : Type 0 where
  pub size : p.came ≡ length rest
  pub placed : IsPlaced p rest p.part

abbrev pub IsHeld : Partial → Type 0
IsHeld p = (rest : List ℕ) × Holds p rest

-- after some bytes of the record under way it is held, or whole
abbrev pub Grows : Partial → List ℕ → Option (Vec ℕ Global) → Type 0
Grows p text None = Holds p text
Grows p text (Some whole) = IsFragments whole.items text × Holds p []

-- the front of a piece was used, and some of it was
pub record Uses (p : Partial) (rest piece : List ℕ) (taken : Taken) : Type 0 where
  pub front : List ℕ
  pub cut : piece ≡ front ++ taken.after.now
  pub some : length taken.after.now < length piece
  pub grown : Grows p (rest ++ front) taken.whole

abbrev pub Stops : List ℕ → GatherFault → Type 0
Stops text NoMemory = Unit {0}
Stops text fault = IsRefused text fault

abbrev pub Takes : Partial → List ℕ → List ℕ → Result Taken GatherFault → Type 0
Takes p rest piece (Ok taken) = Uses p rest piece taken
Takes p rest piece (Err fault) = Stops (rest ++ piece) fault

-- a header has come: the fragment is under way, or whole, or refused whatever comes after it
abbrev pub Begins : Partial → List ℕ → Result (Option (Vec ℕ Global)) GatherFault → Type 0
Begins p rest (Ok whole) = Grows p rest whole
Begins p rest (Err fault) = (after : List ℕ) → Stops (rest ++ after) fault
