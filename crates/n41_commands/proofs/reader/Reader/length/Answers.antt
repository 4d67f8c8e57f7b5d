use Rattle.std.proofs.Common.{rules}
use Rattle.n41_commands.specs.Commands.{extent}
use Rattle.n41_commands.proofs.Nexts.{takes, lacks}
use Rattle.n41_commands.proofs.reader.Reader.length.Goals as goal

pub returns-in_err-word-clause-reads : goal.returns-in_err-word-clause-reads
returns-in_err-word-clause-reads c = lacks extent c.args.self.now c.word.new.self c.in_err-word.field-0.0 c.from_residual.result (search rules) c.in_err-word.ensures

pub returns-clause-reads : goal.returns-clause-reads
returns-clause-reads c = takes extent c.args.self.now c.word.new.self c.in_ok-word.word.now c.length.result c.in_ok-word.ensures c.length.ensures.value
