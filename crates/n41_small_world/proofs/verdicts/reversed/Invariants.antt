use Rattle.std.proofs.Common.{◌≡◌, take}
use Rattle.n41_small_world.proofs.verdicts.reversed.Given as goal

abbrev pub invariant-loop-step : goal.invariant-loop-step
invariant-loop-step l = l.steps.items ≡ take l.step-index l.run
