use Rattle.std.proofs.Common.{ap, arith}
use Rattle.n41_model.specs.Sessions.{slots}
use Rattle.n41_view.specs.declared.tables.Facts.{Facts}
use Rattle.n41_core.specs.Books.{Book}
use Rattle.n41_core.proofs.Seats.{slots_length, seats_length}
use Rattle.n41_core.proofs.books.Books.look.Goals as goal

pub look-requires-clause-slots : goal.look-requires-clause-slots
look-requires-clause-slots c =
    let js = c.self.inside.tied.events in
    let q = slots_length c.self.inside.tied.setup.callers js 0 (slots js) in
    let e = ap (λ (f : Facts). f.slots) c.requires in
    let g = ap (λ (b : Book). slots b.events) c.self.view_is in
    rw c.tables.ensures (omega (arith, q, e, g, c.bounded.ensures))

pub look-requires-clause-seats : goal.look-requires-clause-seats
look-requires-clause-seats c =
    let q = seats_length c.self.inside.tied.setup.callers c.self.inside.tied.events 0 c.self.inside.tied.setup.callers in
    rw c.tables.ensures (omega (arith, q, c.setup.ensures.few))
