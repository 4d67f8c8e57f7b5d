use Rattle.std.proofs.Common.{◌≡◌, replicate}
use Rattle.n41_slots.specs.Slots.{idle}
use Rattle.n41_slots.proofs.slots.new_slots.Given as goal

abbrev pub invariant-loop-number : goal.invariant-loop-number
invariant-loop-number l = l.slots.items ≡ replicate l._number (idle 0)
