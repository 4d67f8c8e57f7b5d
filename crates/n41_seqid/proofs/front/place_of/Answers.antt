use Rattle.n41_seqid.proofs.Places.{here, passed, none_there}
use Rattle.n41_seqid.proofs.front.place_of.Goals as goal

pub returns-then-item-seqid-clause-some : goal.returns-then-item-seqid-clause-some
returns-then-item-seqid-clause-some g c = here c.args.waiting.now c.loop-n.n c.args.seqid c.index-waiting-n.result c.loop-n-test.true c.index-waiting-n.is c.if-item-seqid.true c.loop-n.invariant

pub loop-n-preserved : goal.loop-n-preserved
loop-n-preserved g c = passed c.args.waiting.now c.loop-n.n c.args.seqid c.index-waiting-n.result c.loop-n-test.true c.index-waiting-n.is c.if-item-seqid.false c.loop-n.invariant

pub returns-clause-none : goal.returns-clause-none
returns-clause-none g c = none_there c.args.waiting.now c.loop-n.n c.args.seqid c.loop-n-test.false c.loop-n.invariant
