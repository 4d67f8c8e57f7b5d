use Rattle.std.proofs.Common.{length, refl}
use Rattle.std.proofs.lemmas.Option.{slice_get_read}
use Rattle.n41_replies.proofs.Spelled.{each_fits}
use Rattle.n41_replies.proofs.writing.write_list.Goals as goal

pub write_res-requires : goal.write_res-requires
write_res-requires c =
    each_fits c.args.list.now c.loop-answer.answer-index c.answer-item.result c.requires
    (slice_get_read c.args.list.now (length c.args.list.now) c.loop-answer.answer-index c.answer-item.result refl c.loop-answer-test.true c.answer-item.is)
