use Rattle.std.proofs.Common.{ℕ, Bool, IfOk, sym, subst}
use Rattle.std.specs.Bool.{Decides}
use Rattle.n41_small_world.specs.declared.promises.Kind.{Kind}
use Rattle.n41_small_world.specs.Judged.{Holds}
use Rattle.n41_small_world.specs.Promised.{OrderlyBy, promise_of}
use Rattle.n41_small_world.proofs.promises.keeps.Goals as goal

pub returns-in-Done : goal.returns-in-Done
returns-in-Done c =
    subst (λ (k : Kind). IfOk c.keeps_done.result (λ (b : Bool). (n : ℕ) → OrderlyBy n c.args.run.now → Decides b (Holds n c.args.run.now (promise_of k c.args.name)))) (sym c.in-Done.is) c.keeps_done.ensures

pub returns-in-Undone : goal.returns-in-Undone
returns-in-Undone c =
    subst (λ (k : Kind). IfOk c.keeps_undone.result (λ (b : Bool). (n : ℕ) → OrderlyBy n c.args.run.now → Decides b (Holds n c.args.run.now (promise_of k c.args.name)))) (sym c.in-Undone.is) c.keeps_undone.ensures
