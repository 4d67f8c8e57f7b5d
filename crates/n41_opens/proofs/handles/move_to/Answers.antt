use Rattle.std.proofs.Common.{sym, ◌∙◌}
use Rattle.n41_opens.proofs.Moves.{moved_there}
use Rattle.n41_opens.proofs.handles.move_to.Goals as goal

pub returns-then-eq : goal.returns-then-eq
returns-then-eq c = moved_there c.args.id.now c.args.held.now (sym c.eq.ensures ∙ c.if-eq.true)
