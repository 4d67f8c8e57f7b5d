use Rattle.std.proofs.Common.{refl, arith}
use Rattle.n41_desk.proofs.Held.{made, counts_made, unmade, lines_unmade, counts_unmade}
use Rattle.n41_desk.proofs.Lined.{counts_same}
use Rattle.n41_desk.proofs.lines.dial.Goals as goal

pub returns-in_err-reserve-clause-lines : goal.returns-in_err-reserve-clause-lines
returns-in_err-reserve-clause-lines g c = rw c.reserve.ensures.items c.requires.lines

pub returns-in_err-reserve-clause-counts : goal.returns-in_err-reserve-clause-counts
returns-in_err-reserve-clause-counts g c = counts_same c.args.core.now.events c.args.core.now.events _ _ refl (omega arith)

pub join-requires-clause-lines : goal.join-requires-clause-lines
join-requires-clause-lines g c = rw c.reserve.ensures.items c.requires.lines

pub returns-in-Ok-clause-ok : goal.returns-in-Ok-clause-ok
returns-in-Ok-clause-ok g c = made c.join.result c.args.core.now c.join.new.core c.join.ensures.ok

pub returns-in-Ok-clause-counts : goal.returns-in-Ok-clause-counts
returns-in-Ok-clause-counts g c = counts_made c.join.result c.args.core.now c.join.new.core _ _ c.in-Ok.ensures.cause.later c.join.ensures.ok c.join.ensures.err

pub returns-in-Err-clause-lines : goal.returns-in-Err-clause-lines
returns-in-Err-clause-lines g c =
    let d = c.dial_failed.ensures in
    lines_unmade c.dial_failed.result c.args.core.now c.dial_failed.new.self c.reserve.new.self.items c.args.lines.now.wire d.ok d.err (rw c.reserve.ensures.items c.requires.lines)

pub returns-in-Err-clause-ok : goal.returns-in-Err-clause-ok
returns-in-Err-clause-ok g c = unmade c.dial_failed.result c.args.core.now c.dial_failed.new.self c.dial_failed.ensures.ok

pub returns-in-Err-clause-counts : goal.returns-in-Err-clause-counts
returns-in-Err-clause-counts g c =
    let d = c.dial_failed.ensures in
    counts_unmade c.dial_failed.result c.args.core.now c.dial_failed.new.self _ _ c.in-Err.ensures.cause d.ok d.err
