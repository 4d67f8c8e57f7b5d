use Rattle.std.proofs.Common.{◌≡◌, ◌-◌, suc, length}
use Rattle.n41_xdr.specs.Format.{chain_at}
use Rattle.n41_xdr.proofs.Loop.{with_front}
use Rattle.n41_attr.specs.declared.fault.OpFault.TheVariants.{Xdr}
use Rattle.n41_ops.specs.Files.{entry}
use Rattle.n41_ops.proofs.directories.read_entries.Given as goal

abbrev pub invariant-loop : goal.invariant-loop
invariant-loop l = with_front l.list.items (chain_at Xdr entry (suc (length l.fn.r) - l.counter) l.r) ≡ chain_at Xdr entry (suc (length l.fn.r)) l.fn.r
