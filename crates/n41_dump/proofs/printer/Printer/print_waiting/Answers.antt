use Rattle.std.proofs.Common.{◌∙◌}
use Rattle.n41_dump.proofs.Printing.{raises_on}
use Rattle.n41_dump.proofs.printer.Printer.print_waiting.Goals as goal

pub print_next-requires : goal.print_next-requires
print_next-requires g c = (c.requires.0, c.requires.1, c.loop.invariant.stands _ _ c.requires.2, c.requires.3)

pub returns-then-not-branch-clause-steps : goal.returns-then-not-branch-clause-steps
returns-then-not-branch-clause-steps g c = λ stream start s. c.in_ok-print_next.ensures.steps stream start (c.loop.invariant.stands stream start s)

pub loop-preserved : goal.loop-preserved
loop-preserved g c = record {
  stands = λ stream start s. c.in_ok-print_next.ensures.steps stream start (c.loop.invariant.stands stream start s);
  side = c.print_next.ensures.same.0 ∙ c.loop.invariant.side;
  fault = c.print_next.ensures.same.1 ∙ c.loop.invariant.fault;
  fed = c.print_next.ensures.same.2 ∙ c.loop.invariant.fed;
  raises = raises_on _ _ _ _ _ _ c.loop.invariant.raises c.print_next.ensures.raises;
}
