use Rattle.std.proofs.Common.{◌≡◌, drop}
use Rattle.n41_compound.specs.Walks.{walked, with_names}
use Rattle.n41_compound.proofs.walks.walked.Given as goal

abbrev pub invariant-loop-place : goal.invariant-loop-place
invariant-loop-place l = with_names l.names.items (walked (drop l.place l.args)) ≡ walked l.args
