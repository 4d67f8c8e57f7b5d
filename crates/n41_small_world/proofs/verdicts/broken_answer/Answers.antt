use Rattle.std.proofs.lemmas.Result.{IfOk-weaker}
use Rattle.std.proofs.Common.{Option, subst}
use Rattle.n41_small_world.specs.declared.judgements.Promise.{Promise}
use Rattle.n41_small_world.specs.declared.promises.Kind.TheVariants as kind
use Rattle.n41_small_world.specs.Promised.{IsKept, promise_of}
use Rattle.n41_small_world.proofs.Judging.{answered_done, answered_undone, answered_unknown, kept_nothing}
use Rattle.n41_small_world.proofs.verdicts.broken_answer.Goals as goal

pub returns-in-Some : goal.returns-in-Some
returns-in-Some c = λ n o.
    answered_done n c.args.run.now c.in-Some.promise (subst (λ (x : Option Promise). IsKept n c.args.run.now c.args.run.now (promise_of kind.Done) x) c.in-Some.is (c.in_ok-done.ensures n o))

pub returns-in-Some-undone : goal.returns-in-Some-undone
returns-in-Some-undone c = λ n o.
    answered_undone n c.args.run.now c.in-Some-undone.promise (kept_nothing n c.args.run.now c.args.run.now (promise_of kind.Done) c.in_ok-done.done c.in_default.not-Some (c.in_ok-done.ensures n o))
    (subst (λ (x : Option Promise). IsKept n c.args.run.now c.args.run.now (promise_of kind.Undone) x) c.in-Some-undone.is (c.in_ok-undone.ensures n o))

pub returns : goal.returns
returns c =
    IfOk-weaker c.first_broken-3.result _ _
    (λ x h n o. answered_unknown n c.args.run.now x (kept_nothing n c.args.run.now c.args.run.now (promise_of kind.Done) c.in_ok-done.done c.in_default.not-Some (c.in_ok-done.ensures n o))
    (kept_nothing n c.args.run.now c.args.run.now (promise_of kind.Undone) c.in_ok-undone.undone c.in_default-undone.not-Some (c.in_ok-undone.ensures n o)) (h n o))
    c.first_broken-3.ensures
