use Rattle.n41_desk.proofs.Told.{all_tellable}
use Rattle.n41_desk.proofs.desk.Desk.into_parts.Goals as goal

pub returns-clause-wires : goal.returns-clause-wires
returns-clause-wires g c = (c.args.self.lines.ended.items, c.args.self.lines.wire, c.requires.holds.lines, c.into_wires.ensures)

pub returns-clause-given : goal.returns-clause-given
returns-clause-given g c = rw c.into_journal.ensures c.requires.holds.all_given

pub returns-clause-tellable : goal.returns-clause-tellable
returns-clause-tellable g c =
    rw c.into_journal.ensures (all_tellable c.args.self.core.setup c.args.self.core.events c.args.self.lines.ended.items c.args.self.lines.wire c.requires.holds.owner c.kept.ensures c.requires.holds.lines)
