use Rattle.std.proofs.Common.{Bool, IfOk, sym, subst}
use Rattle.std.specs.Bool.{Decides}
use Rattle.n41_types.specs.declared.plans.Plan.{Plan}
use Rattle.n41_runs.specs.Rules.{MayMakeAgain}
use Rattle.n41_legal.proofs.bare.may_make_again.Goals as goal

pub returns-in-CreateSession : goal.returns-in-CreateSession
returns-in-CreateSession c =
    subst (λ (p : Plan). IfOk c.makes_again.result (λ (b : Bool). Decides b (MayMakeAgain c.args.run.now c.args.request.now p c.args.reply.now))) (sym c.in-CreateSession.is) c.makes_again.ensures
