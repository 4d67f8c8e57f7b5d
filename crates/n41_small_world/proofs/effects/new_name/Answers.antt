use Rattle.n41_small_world.proofs.Names.{again_is, new_is}
use Rattle.n41_small_world.proofs.effects.new_name.Goals as goal

pub returns-then-is_new : goal.returns-then-is_new
returns-then-is_new c = λ n js s. new_is n js c.args.request.now c.args.slot c.owner_name.result c.is_new.result (c.is_new.ensures n js s) c.if-is_new.true (c.owner_name.ensures n js s)

pub returns-else-is_new : goal.returns-else-is_new
returns-else-is_new c = λ n js s. again_is n js c.args.request.now c.args.slot c.is_new.result (c.is_new.ensures n js s) c.if-is_new.false
