use Rattle.std.proofs.Common.{◌≡◌, arith}
use Rattle.std.proofs.lemmas.Grind.{common_steps}
use Rattle.std.specs.Prelude.{is_none}
use Rattle.n41_core.proofs.Commands.{idle_absent, idle_there}
use Rattle.n41_core.proofs.client.Core.is_idle.Goals as goal

pub returns-in-None : goal.returns-in-None
returns-in-None c = rw (← c.self.view_is) (idle_absent c.self.inside.books.setup.callers c.self.inside.books.events c.args.caller c.in-None.ensures)

pub returns-in-Some : goal.returns-in-Some
returns-in-Some c =
    let h = c.is_none.ensures in
    let e : c.is_none.result ≡ is_none c.in-Some.seat.now.command = grind (arith, common_steps) in
    rw (e, ← c.self.view_is) (idle_there c.self.inside.books.setup.callers c.self.inside.books.events c.args.caller c.in-Some.seat.now c.in-Some.ensures)
