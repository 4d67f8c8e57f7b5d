use Rattle.n41_desk.proofs.Held.{lines_begun, given_begun}
use Rattle.n41_desk.proofs.desk.Desk.new.Goals as goal

pub returns-clause-holds : goal.returns-clause-holds
returns-clause-holds g c = record {
  owner = c.requires.owner;
  lines = lines_begun c.args.core.events c.new.result.ended.items c.new.result.wire c.requires.events c.new.ensures.ended c.new.ensures.wire;
  all_given = given_begun (g.C.Clock.given c.args.clock) c.args.core.events c.requires.events;
}
