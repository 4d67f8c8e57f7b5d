use Rattle.std.proofs.Common.{rules}
use Rattle.n41_types.specs.declared.commands.Command.TheVariants as command
use Rattle.n41_commands.specs.Commands.{command_with, label, mode_of}
use Rattle.n41_commands.specs.Paths.{path}
use Rattle.n41_commands.specs.declared.verb.Verb.TheVariants as verb
use Rattle.n41_commands.proofs.Chains.{at_end, from_here, no_end, onto, stops}
use Rattle.n41_commands.proofs.files.open.Goals as goal

pub returns-in_err-label : goal.returns-in_err-label
returns-in_err-label c =
    let at0 = from_here c.args.reader.now (command_with verb.Open c.args.reader.now.long) in
    stops label _ c.label.new.self c.in_err-label.field-0.0 c.from_residual.result (search rules) at0 c.in_err-label.ensures

pub returns-in_err-path : goal.returns-in_err-path
returns-in_err-path c =
    let at0 = from_here c.args.reader.now (command_with verb.Open c.args.reader.now.long) in
    let at1 = onto label _ c.label.new.self c.in_ok-label.label at0 c.in_ok-label.ensures in
    stops path _ c.path.new.self c.in_err-path.field-0.0 c.from_residual-in_err-path.result (search rules) at1 c.in_err-path.ensures

pub returns-in_err-mode : goal.returns-in_err-mode
returns-in_err-mode c =
    let at0 = from_here c.args.reader.now (command_with verb.Open c.args.reader.now.long) in
    let at1 = onto label _ c.label.new.self c.in_ok-label.label at0 c.in_ok-label.ensures in
    let at2 = onto path _ c.path.new.self c.in_ok-path.path at1 c.in_ok-path.ensures in
    stops mode_of _ c.mode.new.self c.in_err-mode.field-0.0 c.from_residual-in_err-mode.result (search rules) at2 c.in_err-mode.ensures

pub returns-in_err-end : goal.returns-in_err-end
returns-in_err-end c =
    let at0 = from_here c.args.reader.now (command_with verb.Open c.args.reader.now.long) in
    let at1 = onto label _ c.label.new.self c.in_ok-label.label at0 c.in_ok-label.ensures in
    let at2 = onto path _ c.path.new.self c.in_ok-path.path at1 c.in_ok-path.ensures in
    let at3 = onto mode_of _ c.mode.new.self c.in_ok-mode.mode at2 c.in_ok-mode.ensures in
    no_end (command.OpenFile c.in_ok-label.label c.in_ok-path.path c.in_ok-mode.mode) c.in_err-end.field-0.0 c.from_residual-in_err-end.result (search rules) at3 c.in_err-end.ensures

pub returns : goal.returns
returns c =
    let at0 = from_here c.args.reader.now (command_with verb.Open c.args.reader.now.long) in
    let at1 = onto label _ c.label.new.self c.in_ok-label.label at0 c.in_ok-label.ensures in
    let at2 = onto path _ c.path.new.self c.in_ok-path.path at1 c.in_ok-path.ensures in
    let at3 = onto mode_of _ c.mode.new.self c.in_ok-mode.mode at2 c.in_ok-mode.ensures in
    at_end (command.OpenFile c.in_ok-label.label c.in_ok-path.path c.in_ok-mode.mode) tt at3 c.in_ok-end.ensures
