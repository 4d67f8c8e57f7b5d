-- What a dump answers, and why (own).
use Rattle.std.specs.Prelude.{ℕ, List, Bool, true, false, Result, Ok, Err}
use Rattle.std.specs.declared.option.Option.{Option}
use Rattle.n41_lines.specs.declared.side.Side.{Side}
use Rattle.n41_dump.specs.declared.fault.DumpFault.{DumpFault}
use Rattle.n41_dump.specs.declared.fault.DumpFault.TheVariants.{Limit, ReadFault, WriteFault, NoMemory}
use Rattle.n41_dump.specs.Dumps.{IsDumped, IsPartlyDumped, IsBegun, IsTooLong}

-- the source's failure was the cause
abbrev pub is_read_fault : {T : Type 0} → Result T DumpFault → Bool
is_read_fault (Ok x) = false
is_read_fault (Err Limit) = false
is_read_fault (Err ReadFault) = true
is_read_fault (Err WriteFault) = false
is_read_fault (Err NoMemory) = false

-- the sink's failure was the cause
abbrev pub is_write_fault : {T : Type 0} → Result T DumpFault → Bool
is_write_fault (Ok x) = false
is_write_fault (Err Limit) = false
is_write_fault (Err ReadFault) = false
is_write_fault (Err WriteFault) = true
is_write_fault (Err NoMemory) = false

-- what was read and printed, by the answer
abbrev pub Answers : {T : Type 0} → Result T DumpFault → Side → Option (List ℕ) → Option (List ℕ) → Option (List ℕ) → Option (List ℕ) → Type 0
Answers (Ok x) side left left_new taken taken_new = IsDumped side left left_new taken taken_new
Answers (Err Limit) side left left_new taken taken_new = IsTooLong side left left_new taken taken_new
Answers (Err ReadFault) side left left_new taken taken_new = IsBegun side left left_new taken taken_new
Answers (Err WriteFault) side left left_new taken taken_new = IsPartlyDumped side left left_new taken taken_new
Answers (Err NoMemory) side left left_new taken taken_new = IsBegun side left left_new taken taken_new
