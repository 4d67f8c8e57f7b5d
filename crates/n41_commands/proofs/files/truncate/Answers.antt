use Rattle.std.proofs.Common.{rules}
use Rattle.n41_types.specs.declared.commands.Command.TheVariants as command
use Rattle.n41_commands.specs.Commands.{command_with, label, offset}
use Rattle.n41_commands.specs.declared.verb.Verb.TheVariants as verb
use Rattle.n41_commands.proofs.Chains.{at_end, from_here, no_end, onto, stops}
use Rattle.n41_commands.proofs.files.truncate.Goals as goal

pub returns-in_err-label : goal.returns-in_err-label
returns-in_err-label c =
    let at0 = from_here c.args.reader.now (command_with verb.Truncate c.args.reader.now.long) in
    stops label _ c.label.new.self c.in_err-label.field-0.0 c.from_residual.result (search rules) at0 c.in_err-label.ensures

pub returns-in_err-size : goal.returns-in_err-size
returns-in_err-size c =
    let at0 = from_here c.args.reader.now (command_with verb.Truncate c.args.reader.now.long) in
    let at1 = onto label _ c.label.new.self c.in_ok-label.label at0 c.in_ok-label.ensures in
    stops offset _ c.offset.new.self c.in_err-size.field-0.0 c.from_residual-in_err-size.result (search rules) at1 c.in_err-size.ensures

pub returns-in_err-end : goal.returns-in_err-end
returns-in_err-end c =
    let at0 = from_here c.args.reader.now (command_with verb.Truncate c.args.reader.now.long) in
    let at1 = onto label _ c.label.new.self c.in_ok-label.label at0 c.in_ok-label.ensures in
    let at2 = onto offset _ c.offset.new.self c.in_ok-size.size at1 c.in_ok-size.ensures in
    no_end (command.Truncate c.in_ok-label.label c.in_ok-size.size) c.in_err-end.field-0.0 c.from_residual-in_err-end.result (search rules) at2 c.in_err-end.ensures

pub returns : goal.returns
returns c =
    let at0 = from_here c.args.reader.now (command_with verb.Truncate c.args.reader.now.long) in
    let at1 = onto label _ c.label.new.self c.in_ok-label.label at0 c.in_ok-label.ensures in
    let at2 = onto offset _ c.offset.new.self c.in_ok-size.size at1 c.in_ok-size.ensures in
    at_end (command.Truncate c.in_ok-label.label c.in_ok-size.size) tt at2 c.in_ok-end.ensures
