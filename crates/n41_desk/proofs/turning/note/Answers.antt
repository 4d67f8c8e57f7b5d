use Rattle.n41_desk.proofs.Noted.{note_given, note_last}
use Rattle.n41_desk.proofs.turning.note.Goals as goal

pub returns-clause-given : goal.returns-clause-given
returns-clause-given g c =
    let t = c.tick.ensures in
    note_given c.tick.result (g.C.Clock.given c.args.clock.now) (g.C.Clock.given c.now-moment.new.self) c.args.core.now c.tick.new.self c.now-moment.result c.now-moment.ensures.keeps c.now-moment.ensures.given c.requires t.ok t.decided t.err

pub returns-clause-last : goal.returns-clause-last
returns-clause-last g c =
    let t = c.tick.ensures in
    note_last c.tick.result (g.C.Clock.given c.args.clock.now) (g.C.Clock.given c.now-moment.new.self) c.args.core.now c.tick.new.self c.now-moment.result c.now-moment.ensures.keeps c.now-moment.ensures.given c.requires t.ok t.decided

pub returns-clause-keeps : goal.returns-clause-keeps
returns-clause-keeps g c = c.now-moment.ensures.keeps
