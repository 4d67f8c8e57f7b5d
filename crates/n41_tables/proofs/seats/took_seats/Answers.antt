use Rattle.std.proofs.Common.{◌≡◌, Some, None, sym, ap, ◌∙◌}
use Rattle.n41_view.specs.Step.{Said}
use Rattle.n41_tables.proofs.Others.{took_there, took_past, took_nowhere}
use Rattle.n41_tables.proofs.seats.took_seats.Goals as goal

pub returns-in_default : goal.returns-in_default
returns-in_default c =
    let e : c.args.said.now.owner ≡ None = ap (λ (a : Said). a.owner) (sym c.said.view_is) ∙ c.in_default.is in
    sym (took_nowhere c.args.moment c.args.said.now c.args.reply.now c.args.seats.now e)

pub returns-then-index-seats : goal.returns-then-index-seats
returns-then-index-seats c =
    let e : c.args.said.now.owner ≡ Some c.in-Some.caller = ap (λ (a : Said). a.owner) (sym c.said.view_is) ∙ c.in-Some.is in
    sym (took_past c.args.moment c.args.said.now c.args.reply.now c.in-Some.caller c.args.seats.now e c.requires.placed c.if-index-seats.true)

pub returns : goal.returns
returns c =
    let e : c.args.said.now.owner ≡ Some c.in-Some.caller = ap (λ (a : Said). a.owner) (sym c.said.view_is) ∙ c.in-Some.is in
    took_there c.args.moment c.args.said.now c.args.reply.now c.in-Some.caller c.args.seats.now c.index-seats-index.result c.took_seat.new.seat e c.requires.placed c.if-index-seats.false c.took_seat.ensures
