use Rattle.std.proofs.Common.{rules}
use Rattle.n41_types.specs.declared.commands.Command.TheVariants as command
use Rattle.n41_commands.specs.Commands.{command_with, seconds}
use Rattle.n41_commands.specs.declared.verb.Verb.TheVariants as verb
use Rattle.n41_commands.proofs.Chains.{at_end, from_here, no_end, onto, stops}
use Rattle.n41_commands.proofs.commands.pause.Goals as goal

pub returns-in_err-seconds : goal.returns-in_err-seconds
returns-in_err-seconds c =
    let at0 = from_here c.args.reader.now (command_with verb.Pause c.args.reader.now.long) in
    stops seconds _ c.seconds.new.self c.in_err-seconds.field-0.0 c.from_residual.result (search rules) at0 c.in_err-seconds.ensures

pub returns-in_err-end : goal.returns-in_err-end
returns-in_err-end c =
    let at0 = from_here c.args.reader.now (command_with verb.Pause c.args.reader.now.long) in
    let at1 = onto seconds _ c.seconds.new.self c.in_ok-seconds.seconds at0 c.in_ok-seconds.ensures in
    no_end (command.Pause c.in_ok-seconds.seconds) c.in_err-end.field-0.0 c.from_residual-in_err-end.result (search rules) at1 c.in_err-end.ensures

pub returns : goal.returns
returns c =
    let at0 = from_here c.args.reader.now (command_with verb.Pause c.args.reader.now.long) in
    let at1 = onto seconds _ c.seconds.new.self c.in_ok-seconds.seconds at0 c.in_ok-seconds.ensures in
    at_end (command.Pause c.in_ok-seconds.seconds) tt at1 c.in_ok-end.ensures
