use Rattle.std.proofs.Common.{Bool, sym, subst, arith}
use Rattle.std.specs.Bool.{Decides}
use Rattle.n41_seqid.specs.Seqids.{IsNewer}
use Rattle.n41_seqid.proofs.Orders.{is_newer_decides}
use Rattle.n41_seqid.proofs.seqids.newer.Goals as goal

pub returns-clause-meaning : goal.returns-clause-meaning
returns-clause-meaning c =
    let a = c.requires.of in
    subst (λ (b : Bool). Decides b (IsNewer c.args.a c.args.b)) (sym c.is_ahead.ensures) (is_newer_decides c.args.a c.args.b (omega (arith, a)) (omega (arith, c.ranges.a.fits)) (omega (arith, c.ranges.b.fits)))
