use Rattle.std.proofs.Common.{rules}
use Rattle.n41_commands.specs.Commands.{payload}
use Rattle.n41_commands.proofs.Nexts.{takes, lacks}
use Rattle.n41_commands.proofs.reader.Reader.payload.Goals as goal

pub returns-in_err-word : goal.returns-in_err-word
returns-in_err-word c = lacks payload c.args.self.now c.word.new.self c.in_err-word.field-0.0 c.from_residual.result (search rules) c.in_err-word.ensures

pub returns : goal.returns
returns c = takes payload c.args.self.now c.word.new.self c.in_ok-word.word.now c.payload.result c.in_ok-word.ensures c.payload.ensures
