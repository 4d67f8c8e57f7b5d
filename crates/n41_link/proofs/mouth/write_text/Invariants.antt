use Rattle.std.proofs.Common.{◌≤◌, ◌++◌, List, ℕ, take, length, ◌-◌}
use Rattle.n41_link.specs.Flow.{KnownAs}
use Rattle.n41_link.proofs.mouth.write_text.Given as goal

abbrev pub invariant-loop-len : goal.invariant-loop-len
invariant-loop-len g l = record {
  within : l.len ≤ length l.text;
  told : (xs : List ℕ) → KnownAs (g.O.Outflow.put l.initial.outflow) xs → KnownAs (g.O.Outflow.put l.outflow) (xs ++ take l.len l.text);
  faults : g.O.Outflow.faults l.initial.outflow ≤ g.O.Outflow.faults l.outflow;
}

abbrev pub decreases-loop-len : goal.decreases-loop-len
decreases-loop-len g l = length l.text - l.len
