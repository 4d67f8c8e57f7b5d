use Rattle.std.proofs.Common.{refl}
use Rattle.n41_small_world.proofs.Names.{named_none, named_some}
use Rattle.n41_small_world.proofs.effects.owner_name.Goals as goal

pub returns-in-None : goal.returns-in-None
returns-in-None c = λ n js s. named_none n js c.args.request.now c.args.slot c.requires (c.in-None.ensures n js s)

pub returns-in-Some : goal.returns-in-Some
returns-in-Some c = λ n js s.
    named_some n js c.args.request.now c.args.slot c.in-Some.caller (record { caller = c.in-Some.caller; number = c.number.result }) c.requires (c.in-Some.ensures n js s) refl (c.number.ensures n js s)
