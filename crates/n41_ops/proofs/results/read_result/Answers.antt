use Rattle.n41_ops.specs.Results.{told_res}
use Rattle.n41_ops.proofs.results.read_result.Goals as goal

pub returns : goal.returns
unfolding told_res
returns c = rw c.in_ok-number.ensures c.read_behind.ensures
