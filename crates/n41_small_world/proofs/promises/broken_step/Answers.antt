use Rattle.std.proofs.Common.{◌∷◌}
use Rattle.n41_small_world.specs.Promised.{promise_of}
use Rattle.n41_small_world.proofs.Answered.{broken_here, kept_here}
use Rattle.n41_small_world.proofs.promises.broken_step.Goals as goal

pub returns-then-kept : goal.returns-then-kept
returns-then-kept c = λ n w o k.
    kept_here n w c.args.run.now c.args.step.now c.in-Some.name (promise_of c.args.kind) c.args.earlier c.in_ok-kept.kept c.in-Some.ensures (c.in_ok-kept.ensures n o) c.if-kept.true k

pub returns-else-kept : goal.returns-else-kept
returns-else-kept c = λ n w o k.
    broken_here n (c.args.step.now ∷ w) c.args.run.now c.in-Some.name (promise_of c.args.kind) c.of.result c.in_ok-kept.kept c.of.ensures (c.in_ok-kept.ensures n o) c.if-kept.false
