use Rattle.std.proofs.Common.{◌≡◌}
use Rattle.n41_opens.specs.Inside.{all_left}
use Rattle.n41_opens.proofs.records.leave_all.Given as goal

abbrev pub invariant-loop-number : goal.invariant-loop-number
invariant-loop-number l = all_left l.records.entries l._number-iterator ≡ all_left l.fn.records.entries l.handles.entries
