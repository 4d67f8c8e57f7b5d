use Rattle.std.proofs.Common.{sym, ◌∙◌}
use Rattle.n41_commands.proofs.Steps.{a_step}
use Rattle.n41_commands.proofs.paths.step.Goals as goal

pub returns-in-Ok : goal.returns-in-Ok
returns-in-Ok c = a_step c.args.bytes.now c.in-Ok.name (sym c.is_dots.ensures ∙ c.if-is_dots.false) c.in-Ok.ensures
