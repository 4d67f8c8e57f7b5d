use Rattle.std.proofs.Common.{◌≡◌, ◌-◌, ◌+◌, ◌*◌, ◌^◌, [], None, length}
use Rattle.n41_link.specs.Ends.{ear_log, ear_given, ear_fault, ear_still}
use Rattle.n41_probe.proofs.probing.first_record.Given as goal

abbrev pub invariant-loop-ear : goal.invariant-loop-ear
invariant-loop-ear g l = record {
  given : ear_given l.ear ≡ [];
  fault : ear_fault l.ear ≡ None;
}

-- the bytes that a record can still want, and for each the turns without one
abbrev pub decreases-loop-ear : goal.decreases-loop-ear
decreases-loop-ear g l = (2 ^ 22 - length (ear_log l.ear)) * 60 + (60 - ear_still l.ear)
