use Rattle.std.proofs.Common.{rules}
use Rattle.n41_types.specs.declared.commands.Command.TheVariants as command
use Rattle.n41_commands.specs.Commands.{command_with}
use Rattle.n41_commands.specs.Paths.{target}
use Rattle.n41_commands.specs.declared.verb.Verb.TheVariants as verb
use Rattle.n41_commands.proofs.Chains.{at_end, from_here, no_end, onto, stops}
use Rattle.n41_commands.proofs.directories.rename.Goals as goal

pub returns-in_err-from : goal.returns-in_err-from
returns-in_err-from c =
    let at0 = from_here c.args.reader.now (command_with verb.Rename c.args.reader.now.long) in
    stops target _ c.target.new.self c.in_err-from.field-0.0 c.from_residual.result (search rules) at0 c.in_err-from.ensures

pub returns-in_err-to : goal.returns-in_err-to
returns-in_err-to c =
    let at0 = from_here c.args.reader.now (command_with verb.Rename c.args.reader.now.long) in
    let at1 = onto target _ c.target.new.self c.in_ok-from.from at0 c.in_ok-from.ensures in
    stops target _ c.target-2.new.self c.in_err-to.field-0.0 c.from_residual-in_err-to.result (search rules) at1 c.in_err-to.ensures

pub returns-in_err-end : goal.returns-in_err-end
returns-in_err-end c =
    let at0 = from_here c.args.reader.now (command_with verb.Rename c.args.reader.now.long) in
    let at1 = onto target _ c.target.new.self c.in_ok-from.from at0 c.in_ok-from.ensures in
    let at2 = onto target _ c.target-2.new.self c.in_ok-to.to at1 c.in_ok-to.ensures in
    no_end (command.Rename c.in_ok-from.from c.in_ok-to.to) c.in_err-end.field-0.0 c.from_residual-in_err-end.result (search rules) at2 c.in_err-end.ensures

pub returns : goal.returns
returns c =
    let at0 = from_here c.args.reader.now (command_with verb.Rename c.args.reader.now.long) in
    let at1 = onto target _ c.target.new.self c.in_ok-from.from at0 c.in_ok-from.ensures in
    let at2 = onto target _ c.target-2.new.self c.in_ok-to.to at1 c.in_ok-to.ensures in
    at_end (command.Rename c.in_ok-from.from c.in_ok-to.to) tt at2 c.in_ok-end.ensures
