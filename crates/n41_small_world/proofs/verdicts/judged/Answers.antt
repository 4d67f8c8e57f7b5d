use Rattle.std.proofs.Common.{Option, subst}
use Rattle.n41_legal.specs.Legality.{sizes_of}
use Rattle.n41_small_world.specs.declared.judgements.Promise.{Promise}
use Rattle.n41_small_world.specs.Judged.{IsPromised}
use Rattle.n41_small_world.proofs.Judging.{good, legal_nothing}
use Rattle.n41_small_world.proofs.verdicts.judged.Goals as goal

pub returns-in-None : goal.returns-in-None
returns-in-None c = λ n f. (
  legal_nothing (sizes_of c.args.sizes.now) c.args.run.now c.in_ok-illegal.illegal c.in_default.not-Some c.in_ok-illegal.ensures,
  good n c.args.run.now (subst (λ (x : Option Promise). IsPromised n c.args.run.now x) c.in-None.is (c.in_ok-promise.ensures n f)),
)

pub returns-in-Some-promise : goal.returns-in-Some-promise
returns-in-Some-promise c = λ n f. (
  legal_nothing (sizes_of c.args.sizes.now) c.args.run.now c.in_ok-illegal.illegal c.in_default.not-Some c.in_ok-illegal.ensures,
  subst (λ (x : Option Promise). IsPromised n c.args.run.now x) c.in-Some-promise.is (c.in_ok-promise.ensures n f),
)
