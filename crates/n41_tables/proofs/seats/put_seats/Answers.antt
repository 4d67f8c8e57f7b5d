use Rattle.std.proofs.Common.{◌≤◌, get_or, sym, arith}
use Rattle.n41_tables.proofs.Others.{put_there, put_past, put_nowhere}
use Rattle.n41_tables.proofs.Soundness.{tried_at}
use Rattle.n41_tables.proofs.seats.put_seats.Goals as goal

pub put_seat-requires : goal.put_seat-requires
put_seat-requires c =
    let e : (get_or c.args.seats.now c.in-Some.caller c.index-seats-index.result).attempts ≤ 18446744073709551614 = tried_at 18446744073709551614 c.args.seats.now c.in-Some.caller c.index-seats-index.result c.requires.tried c.if-index-seats.false in
    omega arith

pub returns-in_default : goal.returns-in_default
returns-in_default c = sym (put_nowhere c.args.owner c.args.seats.now c.in_default.is)

pub returns-then-index-seats : goal.returns-then-index-seats
returns-then-index-seats c = sym (put_past c.args.owner c.in-Some.caller c.args.seats.now c.in-Some.is c.requires.placed c.if-index-seats.true)

pub returns : goal.returns
returns c = put_there c.args.owner c.in-Some.caller c.args.seats.now c.index-seats-index.result c.put_seat.new.seat c.in-Some.is c.requires.placed c.if-index-seats.false c.put_seat.ensures
