use Rattle.n41_legal.proofs.Equal.{reply_as}
use Rattle.n41_legal.proofs.bare.is_made_reply.Goals as goal

pub returns : goal.returns
returns c = reply_as c.args.reply.now c.in_ok-kept.kept _ c.eq.result c.eq.ensures c.in_ok-kept.ensures
