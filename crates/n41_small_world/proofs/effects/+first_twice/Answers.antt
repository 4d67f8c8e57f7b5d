use Rattle.std.proofs.lemmas.Result.{IfOk-weaker}
use Rattle.std.proofs.Common.{List, ◌-◌, length, take, drop, sym, subst}
use Rattle.n41_legal.proofs.Parts.{split}
use Rattle.n41_small_world.proofs.Leading.{before_of}
use Rattle.n41_runs.specs.declared.steps.Step.{Step}
use Rattle.n41_small_world.specs.Promised.{IsTwice}
use Rattle.n41_small_world.proofs.effects.+first_twice.Goals as goal

pub returns : goal.returns
returns t c =
    let xs = c.args.steps.now in
    let ys = take (length xs - 1) (drop 1 xs) in
    let st = c.step-item.result in
    let e = split xs st c.in-len1-up.len_at_least c.step-item.is in
    IfOk-weaker c.twice_step.result _ _
    (λ x h n o p. subst (λ (v : List Step). IsTwice n v c.args.run.now x) (sym e) (h n (before_of xs ys st n e o) p (c.in_ok-earlier.ensures n (before_of xs ys st n e o) p)))
    c.twice_step.ensures
