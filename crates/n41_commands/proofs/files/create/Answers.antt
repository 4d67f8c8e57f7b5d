use Rattle.std.proofs.Common.{rules}
use Rattle.n41_types.specs.declared.commands.Command.TheVariants as command
use Rattle.n41_commands.specs.Commands.{create, label}
use Rattle.n41_commands.specs.Paths.{target}
use Rattle.n41_commands.proofs.Chains.{at_end, from_here, no_end, onto, stops}
use Rattle.n41_commands.proofs.files.create.Goals as goal

pub returns-in_err-label : goal.returns-in_err-label
returns-in_err-label c =
    let at0 = from_here c.args.reader.now (create c.args.guarded c.args.reader.now.long) in
    stops label _ c.label.new.self c.in_err-label.field-0.0 c.from_residual.result (search rules) at0 c.in_err-label.ensures

pub returns-in_err-path : goal.returns-in_err-path
returns-in_err-path c =
    let at0 = from_here c.args.reader.now (create c.args.guarded c.args.reader.now.long) in
    let at1 = onto label _ c.label.new.self c.in_ok-label.label at0 c.in_ok-label.ensures in
    stops target _ c.target.new.self c.in_err-path.field-0.0 c.from_residual-in_err-path.result (search rules) at1 c.in_err-path.ensures

pub returns-in_err-end : goal.returns-in_err-end
returns-in_err-end c =
    let at0 = from_here c.args.reader.now (create c.args.guarded c.args.reader.now.long) in
    let at1 = onto label _ c.label.new.self c.in_ok-label.label at0 c.in_ok-label.ensures in
    let at2 = onto target _ c.target.new.self c.in_ok-path.path at1 c.in_ok-path.ensures in
    no_end (command.Create c.in_ok-label.label c.in_ok-path.path c.args.guarded) c.in_err-end.field-0.0 c.from_residual-in_err-end.result (search rules) at2 c.in_err-end.ensures

pub returns : goal.returns
returns c =
    let at0 = from_here c.args.reader.now (create c.args.guarded c.args.reader.now.long) in
    let at1 = onto label _ c.label.new.self c.in_ok-label.label at0 c.in_ok-label.ensures in
    let at2 = onto target _ c.target.new.self c.in_ok-path.path at1 c.in_ok-path.ensures in
    at_end (command.Create c.in_ok-label.label c.in_ok-path.path c.args.guarded) tt at2 c.in_ok-end.ensures
