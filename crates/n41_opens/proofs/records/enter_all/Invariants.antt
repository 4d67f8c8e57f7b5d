use Rattle.std.proofs.Common.{◌≡◌, length}
use Rattle.n41_opens.specs.Inside.{HasRoom, all_entered}
use Rattle.n41_opens.proofs.records.enter_all.Given as goal

abbrev pub invariant-loop-number : goal.invariant-loop-number
invariant-loop-number l =
    (goal.iterator-loop-number).can_next l._number-iterator ×
    (goal.iterator-loop-number).is_finite l._number-iterator ×
    (all_entered l.records.entries l._number-iterator ≡ all_entered l.fn.records.entries l.handles.entries) ×
    HasRoom l.records.entries (length l._number-iterator)
