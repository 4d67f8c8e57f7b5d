use Rattle.std.proofs.lemmas.Result.{IfOk-weaker}
use Rattle.std.proofs.Common.{List, ◌-◌, length, take, drop, sym, subst}
use Rattle.n41_legal.proofs.Parts.{split}
use Rattle.n41_runs.specs.declared.steps.Step.{Step}
use Rattle.n41_small_world.specs.Promised.{IsKept, promise_of}
use Rattle.n41_small_world.proofs.promises.+first_broken.Goals as goal

pub returns : goal.returns
returns t c =
    let xs = c.args.steps.now in
    let ys = take (length xs - 1) (drop 1 xs) in
    let st = c.step-item.result in
    let e = split xs st c.in-len1-up.len_at_least c.step-item.is in
    IfOk-weaker c.broken_step.result _ _
    (λ x h n o. subst (λ (v : List Step). IsKept n v c.args.run.now (promise_of c.args.kind) x) (sym e) (h n ys o (c.in_ok-earlier.ensures n o)))
    c.broken_step.ensures
