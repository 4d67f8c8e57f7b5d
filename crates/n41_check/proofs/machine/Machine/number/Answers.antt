use Rattle.std.proofs.Common.{◌∙◌, ap}
use Rattle.n41_view.specs.declared.tables.Seat.{Seat}
use Rattle.n41_check.proofs.machine.Machine.number.Goals as goal

pub returns : goal.returns
returns c = λ n js s. c.number.ensures ∙ ap (λ (z : Seat). z.number) (s.seats c.args.caller)
