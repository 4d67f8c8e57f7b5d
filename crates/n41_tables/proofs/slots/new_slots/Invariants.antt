use Rattle.std.proofs.Common.{◌≡◌, ◌++◌, ◌-◌, ◌≤◌, vec_len, vec_capacity}
use Rattle.n41_view.specs.Step.{new_slots}
use Rattle.n41_tables.proofs.slots.new_slots.Given as goal

abbrev pub invariant-loop-number : goal.invariant-loop-number
invariant-loop-number l = record {
  items : new_slots 0 l.count ≡ l.slots.items ++ new_slots l.number (l.count - l.number);
  len : vec_len l.slots ≡ l.number;
  room : l.count ≤ vec_capacity l.slots;
  capacity : vec_capacity l.fn.slots ≤ vec_capacity l.slots;
}
