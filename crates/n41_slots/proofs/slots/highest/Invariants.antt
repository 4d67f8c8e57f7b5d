use Rattle.std.proofs.Common.{◌≡◌, drop}
use Rattle.n41_slots.specs.Slots.{highest_from}
use Rattle.n41_slots.proofs.slots.highest.Given as goal

abbrev pub invariant-loop-n : goal.invariant-loop-n
invariant-loop-n l = highest_from 0 l.slots l.fn.this ≡ highest_from l.n (drop l.n l.slots) l.highest
