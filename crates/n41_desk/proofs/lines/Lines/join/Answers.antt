use Rattle.n41_desk.proofs.Lined.{lines_dialed}
use Rattle.n41_desk.proofs.lines.Lines.join.Goals as goal

pub returns-clause-lines : goal.returns-clause-lines
returns-clause-lines g c =
    let n = c.in_ok-conn.ensures.number in
    let s = c.args.core.now in
    rw (c.in_ok-conn.ensures.ok, n) (lines_dialed s.setup s.events c.args.self.now.ended.items c.args.self.now.wire c.make_wire.result c.kept.ensures c.requires.lines c.requires.none (rw n at c.make_wire.ensures))
