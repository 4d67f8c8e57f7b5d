use Rattle.std.proofs.Common.{◌∷◌, ◌≤◌, true, sym, ◌∙◌, subst, true≢false}
use Rattle.n41_check.specs.Rules.{callers}
use Rattle.n41_runs.specs.declared.steps.Step.{Step}
use Rattle.n41_runs.specs.Steps.{client}
use Rattle.n41_small_world.specs.Led.{IsLedBy}
use Rattle.n41_small_world.proofs.Leading.{led_does, led_not}
use Rattle.n41_small_world.proofs.orderly.advance.Goals as goal

pub returns-then-not-goes : goal.returns-then-not-goes
returns-then-not-goes c = λ n l f.
    led_not n c.args.run.now c.args.step.now c.in-Does.event c.args.machine.now c.in-Does.is (λ o. true≢false (sym ((c.goes.ensures n l).1 o) ∙ c.if-not-goes.true))

pub returns-in_ok-step-in-Does : goal.returns-in_ok-step-in-Does
returns-in_ok-step-in-Does c = λ n l f.
    let w = c.args.run.now in
    subst (λ (st : Step). IsLedBy n (st ∷ w) true c.step.new.self) (sym c.in-Does.is)
    (led_does n w c.in-Does.event c.args.machine.now c.step.new.self c.in_ok-step-in-Does.ensures ((c.goes.ensures n l).0 c.if-not-goes.false) l (subst (λ (st : Step). callers (client (st ∷ w)) ≤ n) c.in-Does.is f))

pub returns-in_ok-took-in-Takes : goal.returns-in_ok-took-in-Takes
returns-in_ok-took-in-Takes c = λ n l f.
    let w = c.args.run.now in
    subst (λ (st : Step). IsLedBy n (st ∷ w) true c.took.new.self) (sym c.in-Takes.is) (c.in_ok-took-in-Takes.ensures n (client w) c.in-Takes.conn c.in-Takes.place l.0, l.1)
