use Rattle.std.proofs.Common.{sym}
use Rattle.n41_tables.proofs.Others.{answered_there, answered_past, earned_there, earned_past}
use Rattle.n41_tables.proofs.seats.answered_seats.Goals as goal

pub returns-then-index-seats-clause-earned : goal.returns-then-index-seats-clause-earned
returns-then-index-seats-clause-earned c = earned_past c.args.caller c.args.seats.now c.if-index-seats.true

pub returns-then-index-seats-clause-seats : goal.returns-then-index-seats-clause-seats
returns-then-index-seats-clause-seats c = sym (answered_past c.args.caller c.args.seats.now c.requires c.if-index-seats.true)

pub returns-clause-earned : goal.returns-clause-earned
returns-clause-earned c = earned_there c.args.caller c.args.seats.now c.index-seats-index.result c.answered_seat.result c.if-index-seats.false c.answered_seat.ensures.earned

pub returns-clause-seats : goal.returns-clause-seats
returns-clause-seats c = answered_there c.args.caller c.args.seats.now c.index-seats-index.result c.answered_seat.new.seat c.requires c.if-index-seats.false c.answered_seat.ensures.seat
