use Rattle.std.proofs.Common.{◌≡◌, List, ap, ◌∙◌, suc, length, Ok, arith, ◌<◌}
use Rattle.std.proofs.lemmas.Result.{err_from_is_err_and}
use Rattle.n41_xdr.specs.Format.{chain_at}
use Rattle.n41_xdr.proofs.Loop.{chain_goes_on, chain_done}
use Rattle.n41_attr.specs.declared.fault.OpFault.TheVariants.{Xdr}
use Rattle.n41_results.specs.declared.results.Entry.{Entry}
use Rattle.n41_ops.specs.Files.{entry, entries}
use Rattle.n41_ops.proofs.Loops.{chain_fails}
use Rattle.n41_ops.proofs.directories.read_entries.Goals as goal

pub returns-in_err-read_next_entry : goal.returns-in_err-read_next_entry
unfolding entries
returns-in_err-read_next_entry c =
    let p = err_from_is_err_and c.from_residual.result c.from_residual.ensures.1 in
    let lt : c.loop.counter < suc (length c.args.r.now) = omega arith in
    rw (p.1, p.2) (chain_fails {B = List Entry} (λ x. x) entry c.in_err-read_next_entry.field-0.0 c.loop.list.items (suc (length c.args.r.now)) c.loop.counter c.loop.r c.read_next_entry.new.r (chain_at Xdr entry (suc (length c.args.r.now)) c.args.r.now) lt c.in_err-read_next_entry.ensures c.loop.invariant)

pub returns-in-None : goal.returns-in-None
unfolding entries
returns-in-None c =
    let lt : c.loop.counter < suc (length c.args.r.now) = omega arith in
    let read = c.in_ok-read_next_entry.ensures ∙ ap (λ o. Ok (o, c.read_next_entry.new.r)) c.in-None.is in
    rw c.in_ok-from_vec-in-None.ensures (chain_done Xdr entry c.loop.list.items (suc (length c.args.r.now)) c.loop.counter c.loop.r c.read_next_entry.new.r (chain_at Xdr entry (suc (length c.args.r.now)) c.args.r.now) lt read c.loop.invariant)

pub loop-preserved : goal.loop-preserved
unfolding entries
loop-preserved c =
    let lt : c.loop.counter < suc (length c.args.r.now) = omega arith in
    let read = c.in_ok-read_next_entry.ensures ∙ ap (λ o. Ok (o, c.read_next_entry.new.r)) c.in-Some.is in
    rw c.in_ok-push-in-Some.ensures.items (chain_goes_on Xdr entry c.loop.list.items (suc (length c.args.r.now)) c.loop.counter c.loop.r c.in-Some.next c.read_next_entry.new.r (chain_at Xdr entry (suc (length c.args.r.now)) c.args.r.now) lt read c.loop.invariant)
