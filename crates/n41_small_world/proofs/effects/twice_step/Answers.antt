use Rattle.std.proofs.Common.{List, ◌∷◌, Option, sym, ◌∙◌, ap, subst}
use Rattle.n41_results.specs.declared.results.Res.{Res}
use Rattle.n41_runs.specs.declared.commands.CommandName.{CommandName}
use Rattle.n41_runs.specs.declared.steps.Step.{Step}
use Rattle.n41_runs.specs.Effects.{acts}
use Rattle.n41_small_world.specs.Promised.{IsTwice, NameTwice}
use Rattle.n41_small_world.proofs.Counting.{first_fine, twice_some}
use Rattle.n41_small_world.proofs.effects.twice_step.Goals as goal

pub returns-in-Some : goal.returns-in-Some
returns-in-Some c = λ n o p k. twice_some n c.args.run.now c.in_ok-acted-in-Runs.acted c.in_ok-twice-in-Runs.twice c.in-Some.name c.in-Some.is (c.in_ok-twice-in-Runs.ensures n p)

pub returns-in-None : goal.returns-in-None
returns-in-None c = λ n o p k.
    subst (λ (st : Step). IsTwice n (st ∷ c.args.steps.now) c.args.run.now c.args.earlier) (sym c.in-Runs.is)
    (first_fine n c.args.steps.now c.args.run.now c.in-Runs.message c.in-Runs.request c.in-Runs.sequenced c.in-Runs.results c.in_ok-acted-in-Runs.acted c.args.earlier
    (sym (c.acts.ensures ∙ ap (λ (ys : List Res). acts c.in-Runs.request.plan ys) c.as_slice.ensures) ∙ c.if-not-acts.false) (c.in_ok-acted-in-Runs.ensures n o)
    (subst (λ (x : Option CommandName). NameTwice n c.args.run.now c.in_ok-acted-in-Runs.acted x) c.in-None.is (c.in_ok-twice-in-Runs.ensures n p)) k)
