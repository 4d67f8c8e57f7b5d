use Rattle.std.proofs.Common.{◌≡◌, ◌-◌, ◌*◌, length}
use Rattle.n41_attr.specs.Bitmaps.{is_unknown, least, least_unknown}
use Rattle.n41_attr.proofs.bitmaps.least_unknown.Given as goal

abbrev pub invariant-loop-number : goal.invariant-loop-number
invariant-loop-number l = least (is_unknown l.mask) l.number (32 * length l.mask - l.number) ≡ least_unknown l.mask
