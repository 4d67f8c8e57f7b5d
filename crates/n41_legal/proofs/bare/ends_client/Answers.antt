use Rattle.n41_legal.proofs.Illegal.{ends_then}
use Rattle.n41_legal.proofs.bare.ends_client.Goals as goal

pub returns-then-there : goal.returns-then-there
returns-then-there c = ends_then c.args.run.now c.args.client c.is_there-there.result c.is_bare-bare.result c.if-there.true c.is_there-there.ensures c.is_bare-bare.ensures
