use Rattle.std.proofs.Common.{sym}
use Rattle.n41_desk.proofs.Linked.{adds_read}
use Rattle.n41_desk.proofs.Lined.{none_stands, carries_last, stands_on, breaks_on, reads_on, reads_off}
use Rattle.n41_desk.proofs.lines.Lines.read.Goals as goal

pub returns-in_default-clause-lines : goal.returns-in_default-clause-lines
returns-in_default-clause-lines g c =
    absurd (none_stands c.args.core.now.events c.args.self.now.ended.items c.args.conn (rw (← c.in_default.ensures.value) at c.requires.lines) c.requires.stands)

pub returns-in_default-clause-reads : goal.returns-in_default-clause-reads
returns-in_default-clause-reads g c =
    absurd (none_stands c.args.core.now.events c.args.self.now.ended.items c.args.conn (rw (← c.in_default.ensures.value) at c.requires.lines) c.requires.stands)

pub hear-requires : goal.hear-requires
hear-requires g c =
    carries_last c.args.core.now.events c.args.self.now.ended.items c.in-Some.wire c.args.conn (rw (← c.in-Some.ensures.value) at c.requires.lines) c.requires.stands

pub push_reserved-requires : goal.push_reserved-requires
push_reserved-requires g c = c.args.self.now.room c.in-Some.wire (sym c.in-Some.ensures.value)

pub returns-in-Stands-clause-lines : goal.returns-in-Stands-clause-lines
returns-in-Stands-clause-lines g c =
    let l = rw (← c.in-Some.ensures.value) at c.requires.lines in
    let a = adds_read _ c.args.core.now c.hear.new.core c.args.conn c.in-Stands.ensures.reads in
    stands_on c.args.core.now c.hear.new.core c.args.conn a.0 c.args.self.now.ended.items c.in-Some.wire c.hear.new.wire l c.requires.stands a.1 c.in-Stands.ensures.fares

pub returns-in-Stands-clause-reads : goal.returns-in-Stands-clause-reads
returns-in-Stands-clause-reads g c =
    rw (← c.in-Some.ensures.value) (reads_on c.args.core.now c.hear.new.core c.args.conn c.in-Some.wire c.hear.new.wire c.in-Stands.ensures.reads)

pub returns-in-Broke-clause-lines : goal.returns-in-Broke-clause-lines
returns-in-Broke-clause-lines g c =
    let l = rw (← c.in-Some.ensures.value) at c.requires.lines in
    let a = adds_read _ c.args.core.now c.hear.new.core c.args.conn c.in-Broke.ensures.reads in
    rw (c.push_reserved.ensures.items, c.take.ensures.after)
    (breaks_on c.args.core.now c.hear.new.core c.args.conn a.0 c.args.self.now.ended.items c.in-Some.wire c.hear.new.wire l c.requires.stands a.1 c.in-Broke.ensures.fares)

pub returns-in-Broke-clause-reads : goal.returns-in-Broke-clause-reads
returns-in-Broke-clause-reads g c =
    reads_off _ _ c.args.core.now c.hear.new.core c.args.conn c.requires.stands c.in-Broke.ensures.fares.0 c.in-Broke.ensures.reads
