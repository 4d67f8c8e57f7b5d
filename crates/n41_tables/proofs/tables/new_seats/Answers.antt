use Rattle.std.proofs.Common.{arith, ◌≡◌, suc, ◌+◌, ◌-◌, [], append_assoc, ap}
use Rattle.std.proofs.lemmas.Grind.{common_steps}
use Rattle.n41_view.specs.View.{seats_from}
use Rattle.n41_tables.proofs.tables.new_seats.Goals as goal

pub loop-caller-preserved : goal.loop-caller-preserved
loop-caller-preserved c =
    let k : c.args.callers - c.loop-caller.caller ≡ suc (c.args.callers - (c.loop-caller.caller + 1)) = omega arith in
    rw c.in_ok-push.ensures.items (grind (arith, common_steps, c.loop-caller.invariant, ap (seats_from c.args.callers [] c.loop-caller.caller) k, append_assoc))
