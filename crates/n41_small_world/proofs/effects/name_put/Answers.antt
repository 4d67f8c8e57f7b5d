use Rattle.std.proofs.lemmas.Result.{IfOk-weaker}
use Rattle.std.proofs.Common.{sym, ◌∙◌}
use Rattle.n41_small_world.proofs.Names.{name_on}
use Rattle.n41_small_world.proofs.effects.name_put.Goals as goal

pub returns-then-is_on : goal.returns-then-is_on
returns-then-is_on c =
    IfOk-weaker c.name_behind.result _ _
    (λ x h n o. name_on n c.args.run.now c.args.step.now c.in-Some.request.now c.args.slot x c.in-Some.ensures (sym c.is_on.ensures ∙ c.if-is_on.true) (h n o))
    c.name_behind.ensures
