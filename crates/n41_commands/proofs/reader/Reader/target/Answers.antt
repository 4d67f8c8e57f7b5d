use Rattle.std.proofs.Common.{rules}
use Rattle.n41_commands.specs.Paths.{target}
use Rattle.n41_commands.proofs.Nexts.{takes, lacks}
use Rattle.n41_commands.proofs.reader.Reader.target.Goals as goal

pub returns-in_err-word : goal.returns-in_err-word
returns-in_err-word c = lacks target c.args.self.now c.word.new.self c.in_err-word.field-0.0 c.from_residual.result (search rules) c.in_err-word.ensures

pub returns : goal.returns
returns c = takes target c.args.self.now c.word.new.self c.in_ok-word.word.now c.target.result c.in_ok-word.ensures c.target.ensures
