use Rattle.std.proofs.Common.{arith}
use Rattle.n41_link.specs.Ends.{ear_gather}
use Rattle.n41_probe.proofs.Asked.{wait_shrinks}
use Rattle.n41_probe.proofs.probing.first_record.Goals as goal

pub loop-ear-smaller : goal.loop-ear-smaller
loop-ear-smaller g c =
    let said = c.in-Ok-Quiet.ensures in
    let fault = c.loop-ear.invariant.fault in
    let hears = rw c.in-Ok-Quiet.field-0-is at (said.hears fault) in
    let stills = rw c.in-Ok-Quiet.field-0-is at (said.stills fault) in
    wait_shrinks (ear_gather c.whole.new.self) _ _ said.grows.0 _ _ said.grows.1 c.loop-ear.invariant.given hears.0 hears.1 stills (omega (arith, c.still.ensures.still, c.loop-ear-test.true))
