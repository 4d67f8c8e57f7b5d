use Rattle.std.proofs.Common.{arith, ◌<◌, length}
use Rattle.n41_check.specs.Rows.{dialed_row}
use Rattle.n41_check.proofs.InPlace.{rows_next, rows_whole}
use Rattle.n41_check.proofs.slots.dialed_slots.Goals as goal

pub loop-slot-preserved : goal.loop-slot-preserved
loop-slot-preserved c =
    let l : c.loop-slot.slot-index < length c.loop-slot.slots = omega arith in
    rows_next dialed_row c.args.slots.now c.loop-slot.slots c.loop-slot.slot-index _ c.dialed_slot.new.slot c.loop-slot.invariant c.dialed_slot.ensures l

pub returns : goal.returns
returns c = rows_whole dialed_row c.args.slots.now c.loop-slot.slots c.loop-slot.slot-index c.loop-slot.invariant (omega arith)
