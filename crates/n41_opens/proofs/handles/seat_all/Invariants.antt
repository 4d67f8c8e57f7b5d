use Rattle.std.proofs.Common.{◌≡◌, drop}
use Rattle.n41_opens.specs.Opens.{all_seated}
use Rattle.n41_opens.proofs.handles.seat_all.Given as goal

abbrev pub invariant-loop-pair : goal.invariant-loop-pair
invariant-loop-pair l = all_seated l.handles.entries l.id (drop l.pair-index l.list) ≡ all_seated l.fn.handles.entries l.id l.list
