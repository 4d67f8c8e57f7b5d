use Rattle.n41_seqid.proofs.Stops.{stopped}
use Rattle.n41_seqid.proofs.front.Front.drain.Goals as goal

pub returns-then-is_none-clause-window : goal.returns-then-is_none-clause-window
returns-then-is_none-clause-window g c = stopped c.args.self.now.window c.loop-turn.self.window c.pop.new.self.window c.loop-turn._turn c.waiting-turn-end.result c.pop.result c.is_none.result c.loop-turn.invariant.window c.pop.ensures.window c.pop.ensures.value c.is_none.ensures c.if-is_none.true c.loop-turn-test.true c.waiting-turn-end.ensures
