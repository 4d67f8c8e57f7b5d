use Rattle.std.proofs.Common.{rules}
use Rattle.n41_types.specs.declared.commands.Command.TheVariants as command
use Rattle.n41_commands.specs.Commands.{command_with}
use Rattle.n41_commands.specs.Paths.{path}
use Rattle.n41_commands.specs.declared.verb.Verb.TheVariants as verb
use Rattle.n41_commands.proofs.Chains.{at_end, from_here, no_end, onto, stops}
use Rattle.n41_commands.proofs.directories.stat.Goals as goal

pub returns-in_err-path : goal.returns-in_err-path
returns-in_err-path c =
    let at0 = from_here c.args.reader.now (command_with verb.Stat c.args.reader.now.long) in
    stops path _ c.path.new.self c.in_err-path.field-0.0 c.from_residual.result (search rules) at0 c.in_err-path.ensures

pub returns-in_err-end : goal.returns-in_err-end
returns-in_err-end c =
    let at0 = from_here c.args.reader.now (command_with verb.Stat c.args.reader.now.long) in
    let at1 = onto path _ c.path.new.self c.in_ok-path.path at0 c.in_ok-path.ensures in
    no_end (command.Stat c.in_ok-path.path) c.in_err-end.field-0.0 c.from_residual-in_err-end.result (search rules) at1 c.in_err-end.ensures

pub returns : goal.returns
returns c =
    let at0 = from_here c.args.reader.now (command_with verb.Stat c.args.reader.now.long) in
    let at1 = onto path _ c.path.new.self c.in_ok-path.path at0 c.in_ok-path.ensures in
    at_end (command.Stat c.in_ok-path.path) tt at1 c.in_ok-end.ensures
