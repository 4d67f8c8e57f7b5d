use Rattle.std.proofs.Common.{◌∙◌, sym, arith}
use Rattle.n41_view.specs.Step.{requests}
use Rattle.n41_due.proofs.Outs.{passed_over}
use Rattle.n41_due.proofs.xids.unused.Goals as goal

pub loop-tried-preserved : goal.loop-tried-preserved
loop-tried-preserved c = c.loop-tried.invariant ∙ passed_over (requests c.args.look.now) c.loop-tried.xid c.after-xid.result c.args.count c.loop-tried._tried (omega arith) (sym c.if-not-is_out.ensures) c.after-xid.ensures
