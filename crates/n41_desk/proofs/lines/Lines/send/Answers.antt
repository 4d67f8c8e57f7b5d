use Rattle.std.proofs.Common.{sym}
use Rattle.n41_desk.proofs.Linked.{adds_sent}
use Rattle.n41_desk.proofs.Lined.{none_stands, carries_last, stands_on, breaks_on}
use Rattle.n41_desk.proofs.lines.Lines.send.Goals as goal

pub returns-in_default-clause-lines : goal.returns-in_default-clause-lines
returns-in_default-clause-lines g c =
    absurd (none_stands c.args.core.now.events c.args.self.now.ended.items c.args.conn (rw (← c.in_default.ensures.value) at c.requires.lines) c.requires.stands)

pub returns-in_default-clause-sends : goal.returns-in_default-clause-sends
returns-in_default-clause-sends g c =
    absurd (none_stands c.args.core.now.events c.args.self.now.ended.items c.args.conn (rw (← c.in_default.ensures.value) at c.requires.lines) c.requires.stands)

pub say-requires-clause-carries : goal.say-requires-clause-carries
say-requires-clause-carries g c =
    carries_last c.args.core.now.events c.args.self.now.ended.items c.in-Some.wire c.args.conn (rw (← c.in-Some.ensures.value) at c.requires.lines) c.requires.stands

pub push_reserved-requires : goal.push_reserved-requires
push_reserved-requires g c = c.args.self.now.room c.in-Some.wire (sym c.in-Some.ensures.value)

pub returns-in-Ok-Stands-clause-lines : goal.returns-in-Ok-Stands-clause-lines
returns-in-Ok-Stands-clause-lines g c =
    let l = rw (← c.in-Some.ensures.value) at c.requires.lines in
    let a = adds_sent c.args.core.now c.say.new.core c.args.conn c.in-Ok-Stands.ensures.sends in
    stands_on c.args.core.now c.say.new.core c.args.conn a.0 c.args.self.now.ended.items c.in-Some.wire c.say.new.wire l c.requires.stands a.1 (rw c.in-Ok-Stands.field-0-is at c.in-Ok-Stands.ensures.fares)

pub returns-in-Ok-Broke-clause-lines : goal.returns-in-Ok-Broke-clause-lines
returns-in-Ok-Broke-clause-lines g c =
    let l = rw (← c.in-Some.ensures.value) at c.requires.lines in
    let a = adds_sent c.args.core.now c.say.new.core c.args.conn c.in-Ok-Broke.ensures.sends in
    rw (c.push_reserved.ensures.items, c.take.ensures.after)
    (breaks_on c.args.core.now c.say.new.core c.args.conn a.0 c.args.self.now.ended.items c.in-Some.wire c.say.new.wire l c.requires.stands a.1 (rw c.in-Ok-Broke.field-0-is at c.in-Ok-Broke.ensures.fares))

pub returns-in-Err-clause-lines : goal.returns-in-Err-clause-lines
returns-in-Err-clause-lines g c =
    let l = rw (← c.in-Some.ensures.value) at c.requires.lines in
    rw (c.in-Err.ensures.core_kept, c.in-Err.ensures.wire_kept) l
