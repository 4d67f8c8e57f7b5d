use Rattle.std.proofs.Common.{arith, ◌<◌, length, refl, ◌∙◌}
use Rattle.n41_view.specs.Step.{broke_slot}
use Rattle.n41_view.proofs.InPlace.{stepped_next, stepped_whole}
use Rattle.n41_tables.proofs.slots.broke_slots.Goals as goal

pub loop-slot-preserved : goal.loop-slot-preserved
loop-slot-preserved c =
    let l : c.loop-slot.slot-index < length c.loop-slot.slots = omega arith in
    stepped_next broke_slot c.args.slots.now c.loop-slot.slots c.loop-slot.slot-index _ c.slot-item.result c.broke_slot.new.slot c.loop-slot.invariant c.broke_slot.ensures l refl

pub returns : goal.returns
returns c = c.loop-slot.invariant ∙ stepped_whole broke_slot c.args.slots.now c.loop-slot.slot-index (omega arith)
