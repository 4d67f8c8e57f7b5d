use Rattle.n41_args.specs.Args.{told_arg}
use Rattle.n41_args.proofs.reading.read_operation.Goals as goal

pub returns : goal.returns
unfolding told_arg
returns c = rw c.in_ok-number.ensures c.read_arm.ensures
