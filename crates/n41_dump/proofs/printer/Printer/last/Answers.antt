use Rattle.n41_dump.proofs.Printing.{ends_long, ends_many}
use Rattle.n41_dump.proofs.printer.Printer.last.Goals as goal

pub returns-in-Some-TooLong : goal.returns-in-Some-TooLong
returns-in-Some-TooLong c =
    λ stream fed. ends_long c.args.self.now.gather stream c.in-Some-TooLong.field-0-0 c.requires (cc (c.in-Some-TooLong.ensures.value, c.in-Some-TooLong.field-0-is)) c.fault.ensures.stands fed

pub returns-in-Some-TooMany : goal.returns-in-Some-TooMany
returns-in-Some-TooMany c =
    λ stream fed. ends_many c.args.self.now.gather stream c.requires (cc (c.in-Some-TooMany.ensures.value, c.in-Some-TooMany.field-0-is)) c.fault.ensures.stands fed
