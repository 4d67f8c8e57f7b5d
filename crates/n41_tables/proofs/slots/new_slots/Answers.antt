use Rattle.std.proofs.Common.{arith, ◌≡◌, suc, ◌+◌, ◌-◌, append_assoc, ap}
use Rattle.std.proofs.lemmas.Grind.{common_steps}
use Rattle.n41_view.specs.Step.{new_slots}
use Rattle.n41_tables.proofs.slots.new_slots.Goals as goal

pub loop-number-preserved : goal.loop-number-preserved
loop-number-preserved c =
    let k : c.args.count - c.loop-number.number ≡ suc (c.args.count - (c.loop-number.number + 1)) = omega arith in
    record {
      items = rw c.push_slot.ensures.items (grind (arith, common_steps, c.loop-number.invariant.items, ap (new_slots c.loop-number.number) k, append_assoc));
      len = omega arith;
      room = omega arith;
      capacity = omega arith;
    }
