use Rattle.n41_legal.proofs.Deciding.{may_repeat_is, same}
use Rattle.n41_legal.specs.Legality.{sizes_of}
use Rattle.n41_legal.proofs.slots.may_repeat.Goals as goal

pub returns : goal.returns
returns c =
    same c.is_repeat.result _ c.is_repeat.ensures
    (may_repeat_is (sizes_of c.args.sizes.now) c.args.run.now c.args.request.now c.args.place c.args.reply.now c.is_taken_in-taken_in.result c.is_last_turn-again.result c.in_ok-same.same c.is_uncached_reply-uncached.result
    c.requires c.is_taken_in-taken_in.ensures c.is_last_turn-again.ensures c.in_ok-same.ensures c.is_uncached_reply-uncached.ensures)
