use Rattle.std.proofs.Common.{take}
use Rattle.std.specs.List.{AllByRecursion}
use Rattle.n41_attr.specs.Parts.{stateid}
use Rattle.n41_requests.proofs.fitting.all_fit.Given as goal

abbrev pub invariant-loop-stateid : goal.invariant-loop-stateid
invariant-loop-stateid l = AllByRecursion stateid.Fits (take l.stateid-index l.stateids)
