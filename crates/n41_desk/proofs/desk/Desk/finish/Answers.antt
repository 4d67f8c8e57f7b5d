use Rattle.n41_desk.proofs.Held.{quits_owner, quits_lines, quits_given}
use Rattle.n41_desk.proofs.desk.Desk.finish.Goals as goal

pub returns-clause-holds : goal.returns-clause-holds
returns-clause-holds g c =
    let f = c.finish.ensures in
    let h = c.requires.holds in
    record {
      owner = quits_owner c.finish.result c.args.self.now.core c.finish.new.self f.ok f.err h.owner;
      lines = quits_lines c.finish.result c.args.self.now.core c.finish.new.self c.args.self.now.lines.ended.items c.args.self.now.lines.wire f.ok f.err h.lines;
      all_given = quits_given c.finish.result (g.C.Clock.given c.args.self.now.clock) c.args.self.now.core c.finish.new.self f.ok f.err h.all_given;
    }
