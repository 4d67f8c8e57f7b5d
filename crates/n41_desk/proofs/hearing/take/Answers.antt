use Rattle.std.proofs.Common.{◌<◌, ◌^◌}
use Rattle.n41_desk.proofs.Taken.{taken, not_gone, not_misplaced, misshaped, unkept}
use Rattle.n41_desk.proofs.hearing.take.Goals as goal

pub returns-in-Ok : goal.returns-in-Ok
returns-in-Ok c = taken c.args.core.now c.took.new.self c.args.arrival.conn c.args.arrival.place c.args.arrival.reply c.in-Ok.ensures.ok

pub returns-in-Err-Gone : goal.returns-in-Err-Gone
returns-in-Err-Gone c =
    not_gone c.args.core.now c.took.new.self c.args.arrival.conn c.args.arrival.place _ c.args.arrival.reply c.requires.stands (rw c.in-Err-Gone.field-0-is at c.in-Err-Gone.ensures.cause)

pub returns-in-Err-Misplaced : goal.returns-in-Err-Misplaced
returns-in-Err-Misplaced c =
    let t = rw (c.in-Err-Misplaced.is, c.in-Err-Misplaced.field-0-is) at c.took.type_inv in
    let fits : c.in-Err-Misplaced.field-0-0 < 2 ^ 64 = t.1.1.1.1.0.1.1.1.1.0.1 in
    not_misplaced c.args.core.now c.took.new.self c.args.arrival.conn c.args.arrival.place c.in-Err-Misplaced.field-0-0 _ c.args.arrival.reply c.requires.place fits (rw c.in-Err-Misplaced.field-0-is at c.in-Err-Misplaced.ensures.cause)

pub returns-in-Err-Shape : goal.returns-in-Err-Shape
returns-in-Err-Shape c =
    misshaped c.args.core.now c.took.new.self c.args.arrival.conn c.args.arrival.place c.args.arrival.reply _ (rw c.in-Err-Shape.field-0-is at c.in-Err-Shape.ensures.cause)

pub returns-in-Err-NoMemory : goal.returns-in-Err-NoMemory
returns-in-Err-NoMemory c =
    unkept c.args.core.now c.took.new.self c.args.arrival.conn c.args.arrival.place c.args.arrival.reply (rw c.in-Err-NoMemory.field-0-is at c.in-Err-NoMemory.ensures.cause)
