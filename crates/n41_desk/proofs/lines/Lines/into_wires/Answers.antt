use Rattle.n41_desk.proofs.lines.Lines.into_wires.Goals as goal

pub push_reserved-requires : goal.push_reserved-requires
push_reserved-requires g c = c.args.self.room c.in-Some.wire c.in-Some.is
