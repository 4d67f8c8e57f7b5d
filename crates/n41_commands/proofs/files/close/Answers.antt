use Rattle.std.proofs.Common.{rules}
use Rattle.n41_types.specs.declared.commands.Command.TheVariants as command
use Rattle.n41_commands.specs.Commands.{command_with, label}
use Rattle.n41_commands.specs.declared.verb.Verb.TheVariants as verb
use Rattle.n41_commands.proofs.Chains.{at_end, from_here, no_end, onto, stops}
use Rattle.n41_commands.proofs.files.close.Goals as goal

pub returns-in_err-label : goal.returns-in_err-label
returns-in_err-label c =
    let at0 = from_here c.args.reader.now (command_with verb.Close c.args.reader.now.long) in
    stops label _ c.label.new.self c.in_err-label.field-0.0 c.from_residual.result (search rules) at0 c.in_err-label.ensures

pub returns-in_err-end : goal.returns-in_err-end
returns-in_err-end c =
    let at0 = from_here c.args.reader.now (command_with verb.Close c.args.reader.now.long) in
    let at1 = onto label _ c.label.new.self c.in_ok-label.label at0 c.in_ok-label.ensures in
    no_end (command.Close c.in_ok-label.label) c.in_err-end.field-0.0 c.from_residual-in_err-end.result (search rules) at1 c.in_err-end.ensures

pub returns : goal.returns
returns c =
    let at0 = from_here c.args.reader.now (command_with verb.Close c.args.reader.now.long) in
    let at1 = onto label _ c.label.new.self c.in_ok-label.label at0 c.in_ok-label.ensures in
    at_end (command.Close c.in_ok-label.label) tt at1 c.in_ok-end.ensures
