use Rattle.n41_legal.proofs.Deciding.{same}
use Rattle.std.proofs.Common.{List, ◌∷◌, sym, ◌∙◌, ap, subst}
use Rattle.std.specs.Bool.{Decides}
use Rattle.n41_results.specs.declared.results.Res.{Res}
use Rattle.n41_runs.specs.declared.steps.Step.{Step}
use Rattle.n41_runs.specs.Effects.{acts}
use Rattle.n41_small_world.specs.Promised.{Owned}
use Rattle.n41_small_world.proofs.Counting.{idle_owned, idle_step, owned_is}
use Rattle.n41_small_world.proofs.effects.owned_step.Goals as goal

pub returns-in_ok-acted-in-Runs : goal.returns-in_ok-acted-in-Runs
returns-in_ok-acted-in-Runs c = λ n o d.
    subst (λ (st : Step). Decides c.both.result (Owned n (st ∷ c.args.run.now))) (sym c.in-Runs.is)
    (same c.both.result _ c.both.ensures
    (owned_is n c.args.run.now c.in-Runs.message c.in-Runs.request c.in-Runs.sequenced c.in-Runs.results c.in_ok-acted-in-Runs.acted c.is_some.result c.args.others
    (sym (c.acts.ensures ∙ ap (λ (ys : List Res). acts c.in-Runs.request.plan ys) c.as_slice.ensures) ∙ c.if-not-acts.false) (c.in_ok-acted-in-Runs.ensures n o) c.is_some.ensures d))

pub returns-in_default : goal.returns-in_default
returns-in_default c = λ n o d. idle_owned n c.args.run.now (c.args.step.now ∷ c.args.run.now) c.args.others (idle_step n c.args.run.now c.args.step.now c.in_default.not-Runs) d
