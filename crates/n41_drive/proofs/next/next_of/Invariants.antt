use Rattle.std.proofs.Common.{◌≡◌, take}
use Rattle.n41_drive.specs.Drives.{commands_of}
use Rattle.n41_drive.proofs.next.next_of.Given as goal

abbrev pub invariant-loop-place : goal.invariant-loop-place
invariant-loop-place l = commands_of l.caller (take l.place l.lines) ≡ commands_of l.caller (take l.from l.lines)
