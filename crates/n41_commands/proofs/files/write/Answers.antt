use Rattle.std.proofs.Common.{rules}
use Rattle.n41_types.specs.declared.commands.Command.TheVariants as command
use Rattle.n41_commands.specs.Commands.{command_with, label, offset, payload}
use Rattle.n41_commands.specs.declared.verb.Verb.TheVariants as verb
use Rattle.n41_commands.proofs.Chains.{at_end, from_here, no_end, onto, stops}
use Rattle.n41_commands.proofs.files.write.Goals as goal

pub returns-in_err-label : goal.returns-in_err-label
returns-in_err-label c =
    let at0 = from_here c.args.reader.now (command_with verb.Write c.args.reader.now.long) in
    stops label _ c.label.new.self c.in_err-label.field-0.0 c.from_residual.result (search rules) at0 c.in_err-label.ensures

pub returns-in_err-offset : goal.returns-in_err-offset
returns-in_err-offset c =
    let at0 = from_here c.args.reader.now (command_with verb.Write c.args.reader.now.long) in
    let at1 = onto label _ c.label.new.self c.in_ok-label.label at0 c.in_ok-label.ensures in
    stops offset _ c.offset.new.self c.in_err-offset.field-0.0 c.from_residual-in_err-offset.result (search rules) at1 c.in_err-offset.ensures

pub returns-in_err-bytes : goal.returns-in_err-bytes
returns-in_err-bytes c =
    let at0 = from_here c.args.reader.now (command_with verb.Write c.args.reader.now.long) in
    let at1 = onto label _ c.label.new.self c.in_ok-label.label at0 c.in_ok-label.ensures in
    let at2 = onto offset _ c.offset.new.self c.in_ok-offset.offset at1 c.in_ok-offset.ensures in
    stops payload _ c.payload.new.self c.in_err-bytes.field-0.0 c.from_residual-in_err-bytes.result (search rules) at2 c.in_err-bytes.ensures

pub returns-in_err-end : goal.returns-in_err-end
returns-in_err-end c =
    let at0 = from_here c.args.reader.now (command_with verb.Write c.args.reader.now.long) in
    let at1 = onto label _ c.label.new.self c.in_ok-label.label at0 c.in_ok-label.ensures in
    let at2 = onto offset _ c.offset.new.self c.in_ok-offset.offset at1 c.in_ok-offset.ensures in
    let at3 = onto payload _ c.payload.new.self c.in_ok-bytes.bytes at2 c.in_ok-bytes.ensures in
    no_end (command.Write c.in_ok-label.label c.in_ok-offset.offset c.in_ok-bytes.bytes) c.in_err-end.field-0.0 c.from_residual-in_err-end.result (search rules) at3 c.in_err-end.ensures

pub returns : goal.returns
returns c =
    let at0 = from_here c.args.reader.now (command_with verb.Write c.args.reader.now.long) in
    let at1 = onto label _ c.label.new.self c.in_ok-label.label at0 c.in_ok-label.ensures in
    let at2 = onto offset _ c.offset.new.self c.in_ok-offset.offset at1 c.in_ok-offset.ensures in
    let at3 = onto payload _ c.payload.new.self c.in_ok-bytes.bytes at2 c.in_ok-bytes.ensures in
    at_end (command.Write c.in_ok-label.label c.in_ok-offset.offset c.in_ok-bytes.bytes) tt at3 c.in_ok-end.ensures
