use Rattle.std.proofs.Common.{◌≡◌, ◌-◌, length}
use Rattle.n41_xdr.specs.Format.{many_at, word}
use Rattle.n41_xdr.proofs.Loop.{with_front}
use Rattle.n41_attr.proofs.bitmaps.read_count.Given as goal

abbrev pub invariant-loop : goal.invariant-loop
invariant-loop l = record {
  read : with_front l.words.items (many_at word (l.count - l.counter) l.r) ≡ many_at word l.count l.fn.r;
  len : length l.words.items ≡ l.counter;
}
