use Rattle.n41_dump.proofs.Printing.{finished}
use Rattle.n41_dump.proofs.printer.Printer.finish.Goals as goal

pub returns-then-self-clause-finishes : goal.returns-then-self-clause-finishes
returns-then-self-clause-finishes g c =
    λ stream start s. finished c.args.self.now stream start _ _ _ _ _ _ s (c.in-Ok.ensures stream s.fed) c.as_bytes.ensures.value c.put.ensures.puts c.if-self.true

pub returns-clause-finishes : goal.returns-clause-finishes
returns-clause-finishes g c =
    λ stream start s. finished c.args.self.now stream start _ _ _ _ _ _ s (c.in-Ok.ensures stream s.fed) c.as_bytes.ensures.value c.put.ensures.puts c.if-self.false
