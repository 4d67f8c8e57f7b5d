-- How far a dump is (own).
use Rattle.std.specs.Prelude.{◌≡◌, ◌≤◌, ◌<◌, ◌+◌, ℕ, List, [], ◌++◌, length, take, Bool, true, false, Some, None, Result, Ok, Err}
use Rattle.std.specs.declared.option.Option.{Option}
use Rattle.std.specs.Io.KnownBytes.{append_known, IsAtEnd}
use Rattle.n41_record.specs.declared.fault.GatherFault.{GatherFault}
use Rattle.n41_record.specs.Gathered.{IsStanding}
use Rattle.n41_link.specs.Counts.{Counts}
use Rattle.n41_lines.specs.declared.side.Side.{Side}
use Rattle.n41_dump.specs.declared.printer.Printer.{Printer}
use Rattle.n41_dump.specs.declared.fault.DumpFault.{DumpFault}
use Rattle.n41_dump.specs.declared.fault.DumpFault.TheVariants.{Limit, ReadFault, WriteFault, NoMemory}
use Rattle.n41_dump.specs.Dumps.{most_bytes, lines, Dumps, BeginsDump, IsBegun, IsTooLong}
use Rattle.n41_streams.specs.Streams.{Gave, IsRead, TookPart}

-- What was printed of a text: all of it, or, where writing has failed, a part.
abbrev pub IsPrinted : Bool → Option (List ℕ) → Option (List ℕ) → List ℕ → Type 0
IsPrinted false start taken text = taken ≡ append_known start text
IsPrinted true start taken text = TookPart start taken text

-- A text is printed behind others; nothing is, once writing has failed.
abbrev pub Puts : Bool → Bool → Option (List ℕ) → Option (List ℕ) → List ℕ → Type 0
Puts false broken old new text = IsPrinted broken old new text
Puts true broken old new text = (broken ≡ true) × (new ≡ old)

-- what was fed of a stream: all of it, or, where a record passes a limit, what came up to that
abbrev pub IsFed : Option GatherFault → List ℕ → List ℕ → Type 0
IsFed None fed stream = stream ≡ fed
IsFed (Some fault) fed stream = (more : List ℕ) × (stream ≡ fed ++ more)

-- of a stream, all records that were given are printed
pub record Stands (p : Printer) (stream : List ℕ) (start taken : Option (List ℕ)) : Type 0 where
  pub fed : IsFed p.gather.fault p.gather.fed stream
  pub standing : IsStanding p.gather
  pub counted : p.number ≡ length p.gather.given
  pub printed : IsPrinted p.broken start taken (lines p.side 1 p.gather.given)

-- After a step all records that were given are printed again. Where memory ran out the dump had begun.
abbrev pub Steps : {T E : Type 0} → Result T E → Printer → List ℕ → Option (List ℕ) → Option (List ℕ) → Type 0
Steps (Ok x) p stream start taken = Stands p stream start taken
Steps (Err e) p stream start taken = BeginsDump p.side stream start taken

-- A read brought the front of a buffer, which is empty only at the end, or more than a stream may have.
abbrev pub Reads : Result ℕ DumpFault → Option (List ℕ) → Option (List ℕ) → List ℕ → ℕ → ℕ → Type 0
Reads (Ok n) left left_new room came came_new = (n ≤ length room) × Gave left left_new (take n room) × (n ≡ 0 → IsAtEnd left_new) × (came_new ≡ came + n) × (came_new ≤ most_bytes)
Reads (Err Limit) left left_new room came came_new = (piece : List ℕ) × Gave left left_new piece × (most_bytes < came + length piece)
Reads (Err ReadFault) left left_new room came came_new = left_new ≡ left
Reads (Err WriteFault) left left_new room came came_new = ⊥
Reads (Err NoMemory) left left_new room came came_new = ⊥

-- A count of the failures of writing rises where writing fails, and stands still from then on.
abbrev pub Raises : Bool → Bool → ℕ → ℕ → Type 0
Raises false broken before now = Counts before now broken
Raises true broken before now = (broken ≡ true) × (now ≡ before)

-- The last line is printed behind the others, or where writing has failed a part of it all.
abbrev pub Finishes : {T : Type 0} → Result T DumpFault → Side → List ℕ → Option (List ℕ) → Option (List ℕ) → Type 0
Finishes (Ok x) side stream start taken = (text : List ℕ) × Dumps side stream text × (taken ≡ append_known start text)
Finishes (Err Limit) side stream start taken = ⊥
Finishes (Err ReadFault) side stream start taken = ⊥
Finishes (Err WriteFault) side stream start taken = (text : List ℕ) × Dumps side stream text × TookPart start taken text
Finishes (Err NoMemory) side stream start taken = BeginsDump side stream start taken

-- nothing was fed, given or printed
pub record IsStarted (p : Printer) : Type 0 where
  pub fed : p.gather ≡ record { fed = []; given = []; waiting = []; fault = None }
  pub number : p.number ≡ 0
  pub whole : p.broken ≡ false

-- All records of the source were printed, or those before a fault.
abbrev pub PrintsAll : {T : Type 0} → Result T DumpFault → Side → Printer → Option (List ℕ) → Option (List ℕ) → Option (List ℕ) → Option (List ℕ) → Type 0
PrintsAll (Ok x) side p left left_new taken taken_new = (stream : List ℕ) × IsRead most_bytes left left_new stream × Stands p stream taken taken_new × (p.gather.waiting ≡ []) × (p.side ≡ side)
PrintsAll (Err Limit) side p left left_new taken taken_new = IsTooLong side left left_new taken taken_new
PrintsAll (Err ReadFault) side p left left_new taken taken_new = IsBegun side left left_new taken taken_new
PrintsAll (Err WriteFault) side p left left_new taken taken_new = ⊥
PrintsAll (Err NoMemory) side p left left_new taken taken_new = IsBegun side left left_new taken taken_new
