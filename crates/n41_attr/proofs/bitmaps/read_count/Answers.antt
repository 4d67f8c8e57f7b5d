use Rattle.std.proofs.Common.{arith, ap, length, length-append}
use Rattle.n41_xdr.specs.Format.{many_at, word}
use Rattle.n41_xdr.proofs.Loop.{goes_on, ends}
use Rattle.n41_xdr.specs.Format.{fault_as}
use Rattle.n41_attr.specs.declared.fault.BitmapFault.TheVariants.{Xdr}
use Rattle.std.proofs.lemmas.Result.{err_from_is_err_and}
use Rattle.n41_attr.proofs.bitmaps.read_count.Goals as goal

pub loop-preserved : goal.loop-preserved
loop-preserved c = record {
  read = rw c.in_ok-push.ensures.items (goes_on word c.loop.words.items c.args.count c.loop.counter c.loop.r c.in_ok-next.next c.u32.new.self (many_at word c.args.count c.args.r.now) c.loop-test.true c.in_ok-next.ensures c.loop.invariant.read);
  len = omega (arith, c.in_ok-push.ensures.len, c.loop.invariant.len);
}

pub returns-in_err-next-clause-read : goal.returns-in_err-next-clause-read
returns-in_err-next-clause-read c =
    let p = err_from_is_err_and c.from_residual.result c.from_residual.ensures.1 in
    rw (p.1, p.2) (ap (fault_as Xdr) (ends word c.in_err-next.field-0.0 c.loop.words.items c.args.count c.loop.counter c.loop.r (many_at word c.args.count c.args.r.now) c.loop-test.true c.in_err-next.ensures.0 c.loop.invariant.read))
