use Rattle.std.proofs.Common.{◌≡◌, map, take}
use Rattle.n41_slots.specs.Slots.{idle}
use Rattle.n41_slots.proofs.slots.used_slots.Given as goal

abbrev pub invariant-loop-turn : goal.invariant-loop-turn
invariant-loop-turn l = l.slots.items ≡ map idle (take l.turn-index l.used)
